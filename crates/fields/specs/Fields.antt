-- The fields of the listing's lines (document 01, "File and listing"), as ASCII codes.
-- Assumes nothing.
use Rattle.std.specs.Prelude.{cond, List, [], ◌∷◌, ◌++◌, ℕ, zero, suc, ◌+◌, ◌/◌, ◌%◌, ltb, Option, Some, None, Ok, Err}
use Prim.Native.Char.{code}
use Prim.Native.String.{String, [] as []ₛ, ◌∷◌ as ◌∷ₛ◌}
use Rattle.exchange.specs.Calls.{Answer}
use Rattle.exchange.specs.declared.call.Accepted.TheVariants.{Old, New, Taken}
use Rattle.exchange.specs.declared.call.Call.{Call}
use Rattle.exchange.specs.declared.call.Call.TheVariants.{Term, Step}

-- ---- texts and numbers

-- the codes of a text
abbrev pub ascii : String → List ℕ
ascii []ₛ = []
ascii (c ∷ₛ rest) = code c ∷ ascii rest

-- The last digit is `n % 10`, those before it are the digits of `n / 10`; `most` bounds how many there are.
unfoldable pub decimal_by : (most : ℕ) (n : ℕ) → List ℕ
decimal_by zero n = []
decimal_by (suc most) n = cond (ltb n 10) ((48 + n) ∷ []) (decimal_by most (n / 10) ++ ((48 + n % 10) ∷ []))

-- a number in decimal, without leading zeros; n has at most n + 1 digits
unfoldable pub decimal : ℕ → List ℕ
decimal n = decimal_by (suc n) n

-- a text, then a number
abbrev pub field : String → ℕ → List ℕ
field text n = ascii text ++ decimal n

-- ---- marks and answers

-- its mark
unfoldable pub mark_text : Call → List ℕ
mark_text (Term kind l r) = ascii " TM "
mark_text (Step step run a b m t) = ascii " ST "

-- "for ST `ok` and the run opened by steps 1 to 3 or named in steps 4, 5, 6 and 9, else `-`"
unfoldable pub names_text : Option ℕ → List ℕ
names_text (Some r) = field "ok " r
names_text None = ascii "ok -"

-- "for TM the term number", "A refusal prints `refused` and the number"; "A TM line ends in `new` or `old`; an accepted ST line
-- ends in `+` and the number of terms added"
unfoldable pub answer_text : Answer → List ℕ
answer_text (Ok (Old i)) = decimal i ++ ascii " old"
answer_text (Ok (New i)) = decimal i ++ ascii " new"
answer_text (Ok (Taken who k)) = names_text who ++ field " +" k
answer_text (Err k) = field "refused " k
