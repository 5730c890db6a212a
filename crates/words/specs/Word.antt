-- A term is one word, kind · 2 ^ 32 + L · 2 ^ 16 + R (document 01, "Terms": "A term has a kind and operands L and R, 16 bits
-- each"). Equal terms are equal words, and the order of words is that by kind, then L, then R.
-- Assumes nothing.
use Rattle.std.specs.Prelude.{◌≡◌, Result, MatchResult, ℕ, zero, suc, ◌+◌, ◌*◌, ◌/◌, ◌%◌, ◌<◌}
use Rattle.words.specs.declared.Kind.{Kind}
use Rattle.words.specs.declared.Kind.TheVariants as kinds
use Rattle.words.specs.declared.UnknownKind.{UnknownKind}
use Rattle.words.specs.declared.Term.{Term}
use Rattle.words.specs.declared.Term.TheVariants.{Principal, Time, Nonce, LongTermKey, SessionKey, Pair, Encrypted, Unknown}

-- ---- definitions

-- the number of a kind
abbrev pub number_of : Kind → ℕ
number_of kinds.Principal = 0
number_of kinds.Time = 1
number_of kinds.Nonce = 2
number_of kinds.LongTermKey = 3
number_of kinds.SessionKey = 4
number_of kinds.Pair = 5
number_of kinds.Encrypted = 6

-- the kind of a number; one above 6 is no kind's
abbrev pub KindRead : ℕ → Result Kind UnknownKind → Type 0
KindRead n r = MatchResult r (λ kind. number_of kind ≡ n) (λ unknown. (unknown.0 ≡ n) × (6 < n))

-- the word of a kind and operands L and R
abbrev pub packed : (kind L R : ℕ) → ℕ
packed kind L R = kind * 4294967296 + L * 65536 + R

abbrev pub kind_of : ℕ → ℕ
kind_of w = w / 4294967296

abbrev pub left_of : ℕ → ℕ
left_of w = w / 65536 % 65536

abbrev pub right_of : ℕ → ℕ
right_of w = w % 65536

-- the table of kinds
abbrev pub term_by : (kind L R : ℕ) → Term
term_by zero l r = Principal l
term_by (suc zero) l r = Time (l * 65536 + r)
term_by (suc (suc zero)) l r = Nonce l
term_by (suc (suc (suc zero))) l r = LongTermKey l
term_by (suc (suc (suc (suc zero)))) l r = SessionKey l
term_by (suc (suc (suc (suc (suc zero))))) l r = Pair l r
term_by (suc (suc (suc (suc (suc (suc zero)))))) l r = Encrypted l r
term_by (suc (suc (suc (suc (suc (suc (suc k))))))) l r = Unknown

-- the term of a word
unfoldable pub term_of : ℕ → Term
term_of w = term_by (kind_of w) (left_of w) (right_of w)

-- the word of a term
unfoldable pub word_of : Term → ℕ
word_of (Principal p) = p * 65536
word_of (Time t) = 4294967296 + t
word_of (Nonce i) = 2 * 4294967296 + i * 65536
word_of (LongTermKey p) = 3 * 4294967296 + p * 65536
word_of (SessionKey i) = 4 * 4294967296 + i * 65536
word_of (Pair l r) = 5 * 4294967296 + l * 65536 + r
word_of (Encrypted b k) = 6 * 4294967296 + b * 65536 + k
word_of Unknown = 7 * 4294967296
