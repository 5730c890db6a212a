-- What follows from the definitions of the same name in specs/.
-- Assumes nothing.
use Rattle.std.proofs.Math.Path.{◌≡◌, refl, ap}
use Rattle.std.proofs.Common.{sym, ◌∙◌, arith, lt-ltb, ltb-true, ltb-false, le-leb}
use Rattle.std.specs.Prelude.{Bool, false, not, ◌&&◌, ◌||◌, List, eqb}
use Rattle.std.proofs.Math.Bool.{true, cond}
use Prim.Native.Nat.{ℕ, zero, suc, ◌<◌, ◌≤◌}
use Rattle.std.proofs.lemmas.Bool.{lt-leb}
use Rattle.std.proofs.Math.Dec.{ltb, leb}
use Rattle.words.specs.Word.{packed, kind_of, left_of, right_of, term_by, term_of}
use Rattle.terms.specs.Rules.{is_key, term_at, spare, fields_ok, refusal_of}
use Rattle.exchange.specs.declared.call.Call.{Call}
use Rattle.exchange.specs.declared.call.Call.TheVariants.{Term, Step}
use Rattle.exchange.specs.Calls.{Sized}
use Rattle.runs.specs.Lent.{principals_fit}
use Rattle.realm.specs.declared.header.Realm.{Realm}
use Rattle.realm.specs.declared.input.Uses.{Uses}
use Rattle.realm.specs.Input.{uses_of, unused_zero, in_range, input_refusal}
use Rattle.raw_records.specs.Refusals.{first, term_refusal, roomy, step_fields, step_refusal, own_refusal}
use Rattle.raw_records.proofs.Refusals.{first_none}
use Rattle.raw_records.specs.Calls.{raw_for}
use Rattle.raw_records.specs.Apart.{fields_refusal, has_terms, has_used, walk_has}

-- ---- a term

-- the refusal of a word by its kind and operands
abbrev refusal_by : (n : ℕ) (ts : List ℕ) (at kind l r : ℕ) → ℕ
refusal_by n ts at kind l r = cond (ltb 6 kind) 4 (cond (eqb (spare (term_by kind l r) r) 0) (cond (fields_ok n ts at (term_by kind l r)) 0 6) 5)

by_parts : (n : ℕ) (ts : List ℕ) (at kind l r : ℕ) → l < 65536 → r < 65536 → refusal_of n ts at (packed kind l r) ≡ refusal_by n ts at kind l r
unfolding refusal_of term_of
by_parts n ts at kind l r p q = parts (kind_of (packed kind l r)) (left_of (packed kind l r)) (right_of (packed kind l r)) (is_kind kind l r p q) (is_left kind l r p q) (is_right kind l r p q)
  where
    is_kind : (kind l r : ℕ) → l < 65536 → r < 65536 → kind_of (packed kind l r) ≡ kind
    is_kind kind l r p q = omega arith

    is_left : (kind l r : ℕ) → l < 65536 → r < 65536 → left_of (packed kind l r) ≡ l
    is_left kind l r p q = omega arith

    is_right : (kind l r : ℕ) → l < 65536 → r < 65536 → right_of (packed kind l r) ≡ r
    is_right kind l r p q = omega arith

    parts : (k x y : ℕ) → k ≡ kind → x ≡ l → y ≡ r → refusal_by n ts at k x y ≡ refusal_by n ts at kind l r
    parts k x y ek ex ey = rw (ek, ex, ey)

-- refusals 5 and 6
abbrev tested : (unused range : Bool) → ℕ
tested unused range = cond unused (cond range 0 6) 5

right_fits : (x : Bool) (r : ℕ) → r < 65536 → (x && ltb r 65536) ≡ x
right_fits true r h = lt-ltb r 65536 h
right_fits false r h = refl

up_to_95 : (l : ℕ) → leb l 95 ≡ ltb l 96
up_to_95 l = on (ltb l 96) refl
  where
    on : (t : Bool) → ltb l 96 ≡ t → leb l 95 ≡ t
    on true e = let h = ltb-true l 96 e in le-leb l 95 (omega arith)
    on false e = let h = ltb-false l 96 e in lt-leb l 95 (omega arith)

module _ (h : Realm) (ts : List ℕ) (l r : ℕ) (hl : l < 65536) (hr : r < 65536) where
  -- L alone, below a limit
  one_field : (t : Bool) (limit : ℕ) → t ≡ ltb l limit → tested (eqb r 0) t ≡ first (tested (eqb r 0) (ltb l limit && ltb r 65536)) 0
  one_field t limit e =
      ap (tested (eqb r 0)) (e ∙ sym (right_fits (ltb l limit) r hr)) ∙ sym (first_none (tested (eqb r 0) (ltb l limit && ltb r 65536)))

  -- L and R, as wide as they may be
  two_fields : (x : Bool) → ◌≡◌ {A = ℕ} (cond x 0 6) (first (cond (ltb l 65536 && ltb r 65536) 0 6) (cond x 0 6))
  two_fields x = rw (lt-ltb l 65536 hl, lt-ltb r 65536 hr)

  term_apart : (kind : ℕ) → refusal_by h.n ts h.terms kind l r ≡ first (term_refusal h.n kind l r) (cond (has_terms h ts kind l r) 0 6)
  unfolding term_refusal
  term_apart zero = one_field (ltb l h.n) h.n refl
  term_apart (suc zero) = two_fields true
  term_apart (suc (suc zero)) = one_field (leb l 95) 96 (up_to_95 l)
  term_apart (suc (suc (suc zero))) = one_field (ltb l h.n) h.n refl
  term_apart (suc (suc (suc (suc zero)))) = one_field (leb l 95) 96 (up_to_95 l)
  term_apart (suc (suc (suc (suc (suc zero))))) = two_fields (ltb l h.terms && ltb r h.terms)
  term_apart (suc (suc (suc (suc (suc (suc zero)))))) = two_fields (ltb l h.terms && (ltb r h.terms && is_key (term_at ts r)))
  term_apart (suc (suc (suc (suc (suc (suc (suc k))))))) = above (suc (suc (suc (suc (suc (suc (suc k))))))) _ _ _ (omega arith)
    where
      above : (kind x y z : ℕ) → 6 < kind → ◌≡◌ {A = ℕ} (cond (ltb 6 kind) 4 x) (first (cond (ltb 6 kind) 4 y) z)
      above kind x y z p = rw (lt-ltb 6 kind p)

-- ---- a step

-- a test that is wider than another says nothing behind it
wider : (used : Bool) (x low high : ℕ) → low ≤ high → (not used || ltb x low) ≡ ((not used || ltb x high) && (not used || ltb x low))
wider true x low high p = on (ltb x low) refl
  where
    on : (t : Bool) → ltb x low ≡ t → t ≡ (ltb x high && t)
    on true e = let q = ltb-true x low e in rw (lt-ltb x high (omega arith))
    on false e = no_and (ltb x high)
      where
        no_and : (a : Bool) → false ≡ (a && false)
        no_and true = refl
        no_and false = refl
wider false x low high p = refl

regrouped : (a a' b c d d' : Bool) → ((a && a') && b && c && (d && d')) ≡ ((a && b && c && d) && (a' && d'))
regrouped true true true true true d' = refl
regrouped true true true true false d' = refl
regrouped true true true false d d' = refl
regrouped true true false c d d' = refl
regrouped true false true true true d' = refl
regrouped true false true true false d' = refl
regrouped true false true false d d' = refl
regrouped true false false c d d' = refl
regrouped false a' b c d d' = refl

narrowed : (x x' b c y y' : Bool) → x' ≡ (x && x') → y' ≡ (y && y') → (x' && b && c && y') ≡ ((x && b && c && y) && (x' && y'))
narrowed x x' b c y y' p q = ap (λ (z : Bool). z && b && c && y') p ∙ ap (λ (z : Bool). (x && x') && b && c && z) q ∙ regrouped x x' b c y y'

behind : (a u r p : Bool) → ◌≡◌ {A = ℕ} (cond a (cond u (cond (r && p) 0 6) 5) 4) (first (cond a (cond u (cond r 0 6) 5) 4) (cond p 0 6))
behind true true true p = refl
behind true true false p = refl
behind true false r p = refl
behind false u r p = refl

module _ (h : Realm) (ts : List ℕ) (runs_few : h.runs ≤ 256) (terms_few : h.terms ≤ 65536) where
  range_apart : (u : Uses) (step run a b m t : ℕ)
      → in_range h u (step_fields step run a b m t) ≡ (in_range (roomy h.n) u (step_fields step run a b m t) && has_used h u run m)
  unfolding in_range
  range_apart u step run a b m t =
      narrowed (not u.run || ltb run 256) (not u.run || ltb run h.runs) (not u.a || principals_fit h.n a b) (not u.b || ltb b h.n)
      (not u.m || ltb m 65536) (not u.m || ltb m h.terms) (wider u.run run h.runs 256 runs_few) (wider u.m m h.terms 65536 terms_few)

  step_apart : (step run a b m t : ℕ)
      → input_refusal h (step_fields step run a b m t) ≡ first (step_refusal h.n step run a b m t) (cond (has_used h (uses_of step) run m) 0 6)
  unfolding input_refusal
  step_apart step run a b m t =
      let u = uses_of step in
      ap (λ (x : Bool). cond (leb 1 step && leb step 10) (cond (unused_zero u (step_fields step run a b m t)) (cond x 0 6) 5) 4) (range_apart u step run a b m t)
      ∙ behind (leb 1 step && leb step 10) (unused_zero u (step_fields step run a b m t)) (in_range (roomy h.n) u (step_fields step run a b m t)) (has_used h u run m)

  -- ---- a call

  pub fields_apart : (c : Call) → Sized c → fields_refusal h ts c ≡ first (own_refusal h.n (raw_for c)) (cond (walk_has h ts c) 0 6)
  unfolding own_refusal walk_has
  fields_apart (Term kind l r) f =
      by_parts h.n ts h.terms kind l r (omega (arith, f.1)) (omega (arith, f.2)) ∙ term_apart h ts l r (omega (arith, f.1)) (omega (arith, f.2)) kind
  fields_apart (Step step run a b m t) f = step_apart step run a b m t
