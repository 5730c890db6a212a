-- What follows from the definitions of the same name in specs/.
-- Assumes nothing.
use Rattle.std.specs.Prelude.{◌≡◌, refl, true, false, Result, Ok, Err, ℕ, zero, suc, ◌+◌, ◌*◌, ◌/◌, ◌%◌, ◌^◌, ◌<◌, ◌≤◌}
use Rattle.std.specs.Result.{is_err}
use Rattle.std.proofs.Common.{sym, ap, ◌∙◌, arith}
use Rattle.std.proofs.lemmas.Bool.{false≢true}
use Rattle.words.specs.declared.Kind.{Kind}
use Rattle.words.specs.declared.Kind.TheVariants as kinds
use Rattle.words.specs.declared.UnknownKind.{UnknownKind}
use Rattle.words.specs.declared.Term.{Term}
use Rattle.words.specs.declared.Term.TheVariants.{Principal, Time, Nonce, LongTermKey, SessionKey, Pair, Encrypted, Unknown}
use Rattle.words.specs.Word.{kind_of, left_of, right_of, term_by, term_of, word_of, number_of, KindRead}

-- the fields of a term fit a word
abbrev pub Packs : Term → Type 0
Packs (Principal p) = p < 65536
Packs (Time t) = t < 2 ^ 32
Packs (Nonce i) = i < 65536
Packs (LongTermKey p) = p < 65536
Packs (SessionKey i) = i < 65536
Packs (Pair l r) = (l < 65536) × (r < 65536)
Packs (Encrypted b k) = (b < 65536) × (k < 65536)
Packs Unknown = ⊥

-- ---- laws

-- a kind that is none of the seven
pub term_unknown : (k l r : ℕ) → 6 < k → term_by k l r ≡ Unknown
term_unknown zero l r h = absurd (omega arith)
term_unknown (suc zero) l r h = absurd (omega arith)
term_unknown (suc (suc zero)) l r h = absurd (omega arith)
term_unknown (suc (suc (suc zero))) l r h = absurd (omega arith)
term_unknown (suc (suc (suc (suc zero)))) l r h = absurd (omega arith)
term_unknown (suc (suc (suc (suc (suc zero))))) l r h = absurd (omega arith)
term_unknown (suc (suc (suc (suc (suc (suc zero)))))) l r h = absurd (omega arith)
term_unknown (suc (suc (suc (suc (suc (suc (suc k))))))) l r h = refl

-- a word of such a kind
pub word_unknown : (w : ℕ) → 6 < kind_of w → term_of w ≡ Unknown
unfolding term_of
word_unknown w h = term_unknown (kind_of w) (left_of w) (right_of w) h

-- whether a number is a kind's
pub read_fails : (n : ℕ) (r : Result Kind UnknownKind) → KindRead n r → is_err r ≡ true → 6 < n
read_fails n (Ok kind) h e = absurd (false≢true e)
read_fails n (Err unknown) h e = h.1

number_most : (kind : Kind) → number_of kind ≤ 6
number_most kinds.Principal = omega arith
number_most kinds.Time = omega arith
number_most kinds.Nonce = omega arith
number_most kinds.LongTermKey = omega arith
number_most kinds.SessionKey = omega arith
number_most kinds.Pair = omega arith
number_most kinds.Encrypted = omega arith

pub read_holds : (n : ℕ) (r : Result Kind UnknownKind) → KindRead n r → is_err r ≡ false → n ≤ 6
read_holds n (Ok kind) h e = omega (arith, number_most kind)
read_holds n (Err unknown) h e = absurd (false≢true (sym e))

term_by_lem : (w k l r : ℕ) → kind_of w ≡ k → left_of w ≡ l → right_of w ≡ r → term_of w ≡ term_by k l r
unfolding term_of
term_by_lem w k l r p q s = rw (p, q, s)

-- the word of a term has that term
pub term_back : (t : Term) → Packs t → term_of (word_of t) ≡ t
unfolding word_of
term_back (Principal p) h = term_by_lem (p * 65536) 0 p 0 (omega arith) (omega arith) (omega arith)
term_back (Time t) h =
    term_by_lem (4294967296 + t) 1 (t / 65536) (t % 65536) (omega arith) (omega arith) (omega arith)
    ∙ ap (λ (x : ℕ). Time x) (omega arith)
term_back (Nonce i) h = term_by_lem (2 * 4294967296 + i * 65536) 2 i 0 (omega arith) (omega arith) (omega arith)
term_back (LongTermKey p) h = term_by_lem (3 * 4294967296 + p * 65536) 3 p 0 (omega arith) (omega arith) (omega arith)
term_back (SessionKey i) h = term_by_lem (4 * 4294967296 + i * 65536) 4 i 0 (omega arith) (omega arith) (omega arith)
term_back (Pair l r) h =
    let hl : l < 65536 = h.0 in
    let hr : r < 65536 = h.1 in
    term_by_lem (5 * 4294967296 + l * 65536 + r) 5 l r (omega arith) (omega arith) (omega arith)
term_back (Encrypted b k) h =
    let hb : b < 65536 = h.0 in
    let hk : k < 65536 = h.1 in
    term_by_lem (6 * 4294967296 + b * 65536 + k) 6 b k (omega arith) (omega arith) (omega arith)
term_back Unknown h = absurd h

-- a time of a word is below 2 ^ 32
abbrev pub TimeFits : Term → Type 0
TimeFits (Principal p) = Unit {0}
TimeFits (Time t) = t < 2 ^ 32
TimeFits (Nonce i) = Unit {0}
TimeFits (LongTermKey p) = Unit {0}
TimeFits (SessionKey i) = Unit {0}
TimeFits (Pair l r) = Unit {0}
TimeFits (Encrypted b k) = Unit {0}
TimeFits Unknown = Unit {0}

time_by : (k l r : ℕ) → l < 65536 → r < 65536 → TimeFits (term_by k l r)
time_by zero l r hl hr = tt
time_by (suc zero) l r hl hr = omega arith
time_by (suc (suc zero)) l r hl hr = tt
time_by (suc (suc (suc zero))) l r hl hr = tt
time_by (suc (suc (suc (suc zero)))) l r hl hr = tt
time_by (suc (suc (suc (suc (suc zero))))) l r hl hr = tt
time_by (suc (suc (suc (suc (suc (suc zero)))))) l r hl hr = tt
time_by (suc (suc (suc (suc (suc (suc (suc k))))))) l r hl hr = tt

pub time_fits : (w : ℕ) → TimeFits (term_of w)
unfolding term_of
time_fits w = time_by (kind_of w) (left_of w) (right_of w) (omega arith) (omega arith)
