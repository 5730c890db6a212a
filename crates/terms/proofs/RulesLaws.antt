-- What follows from the definitions of the same name in specs/.
-- Assumes nothing.
use Rattle.std.specs.Prelude.{◌≡◌, refl, Bool, true, false, ◌&&◌, cond, List, ℕ, zero, suc, ◌+◌, ◌*◌, ◌<◌, ◌≤◌, ltb, eqb}
use Rattle.std.proofs.Common.{ap, ◌∙◌, arith, ltb-true, ltb-false, leb-true, eqb-true, lt-ltb, le-ltb, le-leb, eq-eqb}
use Rattle.std.proofs.Math.Bool.{and-eq-true_iff}
use Rattle.words.specs.declared.Term.{Term}
use Rattle.words.specs.declared.Term.TheVariants.{Principal, Time, Nonce, LongTermKey, SessionKey, Pair, Encrypted, Unknown}
use Rattle.terms.proofs.Choice.{and_same, no_true}
use Rattle.words.specs.Word.{kind_of, left_of, right_of, term_by, term_of, word_of}
use Rattle.terms.specs.Rules.{term_at, is_key, spare, fields_ok, refusal_of, Agree}

-- ---- what a word that passes has

-- the three tests, passed
pub record Passed (n : ℕ) (ts : List ℕ) (at w : ℕ) : Type 0 where
  pub kind : kind_of w ≤ 6
  pub unused : spare (term_of w) (right_of w) ≡ 0
  pub fields : fields_ok n ts at (term_of w) ≡ true

picked : (a b d : Bool) → ◌≡◌ {A = ℕ} (cond a 4 (cond b (cond d 0 6) 5)) 0 → (a ≡ false) × (b ≡ true) × (d ≡ true)
picked true b d e = absurd (omega arith)
picked false false d e = absurd (omega arith)
picked false true false e = absurd (omega arith)
picked false true true e = (refl, refl, refl)

pub passed : (n : ℕ) (ts : List ℕ) (at w : ℕ) → refusal_of n ts at w ≡ 0 → Passed n ts at w
unfolding refusal_of
passed n ts at w e =
    let t = picked (ltb 6 (kind_of w)) (eqb (spare (term_of w) (right_of w)) 0) (fields_ok n ts at (term_of w)) e in
    record { kind = ltb-false 6 (kind_of w) t.0; unused = eqb-true _ 0 t.1; fields = t.2 }

pub passes : (n : ℕ) (ts : List ℕ) (at w : ℕ) → Passed n ts at w → refusal_of n ts at w ≡ 0
unfolding refusal_of
passes n ts at w p = rw (le-ltb 6 (kind_of w) p.kind, eq-eqb (spare (term_of w) (right_of w)) 0 p.unused, p.fields)

-- the facts of a term that `fields_ok` lets pass
abbrev pub Fields : (n : ℕ) (ts : List ℕ) (at : ℕ) → Term → Type 0
Fields n ts at (Principal p) = p < n
Fields n ts at (Time t) = Unit {0}
Fields n ts at (Nonce i) = i ≤ 95
Fields n ts at (LongTermKey p) = p < n
Fields n ts at (SessionKey i) = i ≤ 95
Fields n ts at (Pair l r) = (l < at) × (r < at)
Fields n ts at (Encrypted b k) = (b < at) × (k < at) × (is_key (term_at ts k) ≡ true)
Fields n ts at Unknown = ⊥

pub fields : (n : ℕ) (ts : List ℕ) (at : ℕ) (t : Term) → fields_ok n ts at t ≡ true → Fields n ts at t
fields n ts at (Principal p) e = ltb-true p n e
fields n ts at (Time t) e = tt
fields n ts at (Nonce i) e = leb-true i 95 e
fields n ts at (LongTermKey p) e = ltb-true p n e
fields n ts at (SessionKey i) e = leb-true i 95 e
fields n ts at (Pair l r) e =
    let t = (and-eq-true_iff (ltb l at) (ltb r at)).0 e in
    (ltb-true l at t.0, ltb-true r at t.1)
fields n ts at (Encrypted b k) e =
    let t = (and-eq-true_iff (ltb b at) (ltb k at && is_key (term_at ts k))).0 e in
    let u = (and-eq-true_iff (ltb k at) (is_key (term_at ts k))).0 t.1 in
    (ltb-true b at t.0, ltb-true k at u.0, u.1)
fields n ts at Unknown e = no_true e

pub fields_ok_lem : (n : ℕ) (ts : List ℕ) (at : ℕ) (t : Term) → Fields n ts at t → fields_ok n ts at t ≡ true
fields_ok_lem n ts at (Principal p) f = lt-ltb p n f
fields_ok_lem n ts at (Time t) f = refl
fields_ok_lem n ts at (Nonce i) f = le-leb i 95 f
fields_ok_lem n ts at (LongTermKey p) f = lt-ltb p n f
fields_ok_lem n ts at (SessionKey i) f = le-leb i 95 f
fields_ok_lem n ts at (Pair l r) f = (and-eq-true_iff (ltb l at) (ltb r at)).1 (lt-ltb l at f.0, lt-ltb r at f.1)
fields_ok_lem n ts at (Encrypted b k) f =
    (and-eq-true_iff (ltb b at) (ltb k at && is_key (term_at ts k))).1
    (lt-ltb b at f.0, (and-eq-true_iff (ltb k at) (is_key (term_at ts k))).1 (lt-ltb k at f.1, f.2))
fields_ok_lem n ts at Unknown f = absurd f

-- ---- a word that passes is that of its term

word_by : (k l r : ℕ) → k ≤ 6 → spare (term_by k l r) r ≡ 0 → word_of (term_by k l r) ≡ k * 4294967296 + l * 65536 + r
unfolding word_of
word_by zero l r h e = omega arith
word_by (suc zero) l r h e = omega arith
word_by (suc (suc zero)) l r h e = omega arith
word_by (suc (suc (suc zero))) l r h e = omega arith
word_by (suc (suc (suc (suc zero)))) l r h e = omega arith
word_by (suc (suc (suc (suc (suc zero))))) l r h e = omega arith
word_by (suc (suc (suc (suc (suc (suc zero)))))) l r h e = omega arith
word_by (suc (suc (suc (suc (suc (suc (suc k))))))) l r h e = absurd (omega arith)

split_word : (w : ℕ) → kind_of w * 4294967296 + left_of w * 65536 + right_of w ≡ w
split_word w = omega arith

pub word_back : {n : ℕ} {ts : List ℕ} {at w : ℕ} → Passed n ts at w → word_of (term_of w) ≡ w
unfolding term_of
word_back {w = w} p = word_by (kind_of w) (left_of w) (right_of w) p.kind p.unused ∙ split_word w

fields_same : (n : ℕ) (ts ts' : List ℕ) (at : ℕ) → Agree ts ts' at → (t : Term) → fields_ok n ts at t ≡ fields_ok n ts' at t
fields_same n ts ts' at g (Principal p) = refl
fields_same n ts ts' at g (Time t) = refl
fields_same n ts ts' at g (Nonce i) = refl
fields_same n ts ts' at g (LongTermKey p) = refl
fields_same n ts ts' at g (SessionKey i) = refl
fields_same n ts ts' at g (Pair l r) = refl
fields_same n ts ts' at g (Encrypted b k) =
    ap (◌&&◌ (ltb b at))
    (and_same (ltb k at) (is_key (term_at ts k)) (is_key (term_at ts' k)) (λ e. ap (λ (w : ℕ). is_key (term_of w)) (g k (ltb-true k at e))))
fields_same n ts ts' at g Unknown = refl

pub refusal_same : (n : ℕ) (ts ts' : List ℕ) (at w : ℕ) → Agree ts ts' at → refusal_of n ts at w ≡ refusal_of n ts' at w
unfolding refusal_of
refusal_same n ts ts' at w g =
    ap (λ (f : Bool). cond (ltb 6 (kind_of w)) 4 (cond (eqb (spare (term_of w) (right_of w)) 0) (cond f 0 6) 5)) (fields_same n ts ts' at g (term_of w))
