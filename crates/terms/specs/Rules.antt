-- The term rules: which word may stand as term number `at` of a table ts, in a realm of n principals
-- (document 01, "Terms" and "What turns a record away, from the input").
-- Assumes nothing.
use Rattle.std.specs.Prelude.{◌≡◌, Bool, true, false, ◌&&◌, cond, List, ℕ, ◌<◌, ltb, leb, eqb, get_or}
use Rattle.words.specs.declared.Term.{Term}
use Rattle.words.specs.declared.Term.TheVariants.{Principal, Time, Nonce, LongTermKey, SessionKey, Pair, Encrypted, Unknown}
use Rattle.words.specs.Word.{kind_of, right_of, term_of}

-- ---- definitions

abbrev pub term_at : List ℕ → ℕ → Term
term_at ts i = term_of (get_or ts i 0)

-- "R of kind 3 or 4"
abbrev pub is_key : Term → Bool
is_key (Principal p) = false
is_key (Time t) = false
is_key (Nonce i) = false
is_key (LongTermKey p) = true
is_key (SessionKey i) = true
is_key (Pair l r) = false
is_key (Encrypted b k) = false
is_key Unknown = false

-- what a term leaves unused of R
abbrev pub spare : Term → ℕ → ℕ
spare (Principal p) r = r
spare (Time t) r = 0
spare (Nonce i) r = r
spare (LongTermKey p) r = r
spare (SessionKey i) r = r
spare (Pair a b) r = 0
spare (Encrypted b k) r = 0
spare Unknown r = r

-- not: "party at n or above, .. term not present, nonce or key above 95, lock key of another kind"
abbrev pub fields_ok : (n : ℕ) (ts : List ℕ) (at : ℕ) → Term → Bool
fields_ok n ts at (Principal p) = ltb p n
fields_ok n ts at (Time t) = true
fields_ok n ts at (Nonce i) = leb i 95
fields_ok n ts at (LongTermKey p) = ltb p n
fields_ok n ts at (SessionKey i) = leb i 95
fields_ok n ts at (Pair l r) = ltb l at && ltb r at
fields_ok n ts at (Encrypted b k) = ltb b at && (ltb k at && is_key (term_at ts k))
fields_ok n ts at Unknown = false

-- 0, or the number of the refusal: 4 "kind above 6", 5 "a field the record does not use is not 0", 6 as above
unfoldable pub refusal_of : (n : ℕ) (ts : List ℕ) (at word : ℕ) → ℕ
refusal_of n ts at w =
    cond (ltb 6 (kind_of w)) 4 (cond (eqb (spare (term_of w) (right_of w)) 0) (cond (fields_ok n ts at (term_of w)) 0 6) 5)

-- ---- only the terms before `at` matter

-- the first m words are the same
abbrev pub Agree : List ℕ → List ℕ → ℕ → Type 0
Agree ts ts' m = (k : ℕ) → k < m → get_or ts k 0 ≡ get_or ts' k 0
