-- What follows from the definitions of the same name in specs/.
-- Assumes nothing.
use Rattle.std.specs.Prelude.{◌≡◌, refl, ℕ, ◌+◌, ◌≤◌, ◌<◌, length, Option, Some, None, Ok, Err}
use Prim.Native.String.{String}
use Rattle.std.proofs.Common.{arith, length-append}
use Rattle.exchange.specs.Calls.{Answer}
use Rattle.exchange.specs.declared.call.Accepted.TheVariants.{Old, New, Taken}
use Rattle.exchange.specs.declared.call.Call.{Call}
use Rattle.exchange.specs.declared.call.Call.TheVariants.{Term, Step}
use Rattle.fields.proofs.Decimal.{decimal_short}
use Rattle.fields.specs.Fields.{ascii, decimal, field, mark_text, names_text, answer_text}
use Rattle.fields.specs.Lengths.{NarrowNames, Narrow}

pub field_length : (text : String) (n : ℕ) → length (field text n) ≡ length (ascii text) + length (decimal n)
field_length text n = length-append (ascii text) (decimal n)

pub mark_length : (call : Call) → length (mark_text call) ≡ 4
unfolding mark_text
mark_length (Term kind l r) = refl
mark_length (Step step run a b m t) = refl

pub names_short : (who : Option ℕ) → NarrowNames who → length (names_text who) ≤ 6
unfolding names_text
names_short (Some r) h = omega (arith, field_length "ok " r, decimal_short r 2 (omega (arith, h)))
names_short None h = omega arith

pub added_short : (k : ℕ) → k < 65536 → length (field " +" k) ≤ 7
added_short k h = omega (arith, field_length " +" k, decimal_short k 4 (omega (arith, h)))

pub answer_short : (answer : Answer) → Narrow answer → length (answer_text answer) ≤ 13
unfolding answer_text
answer_short (Ok (Old i)) h = omega (arith, length-append (decimal i) (ascii " old"), decimal_short i 4 (omega (arith, h)))
answer_short (Ok (New i)) h = omega (arith, length-append (decimal i) (ascii " new"), decimal_short i 4 (omega (arith, h)))
answer_short (Ok (Taken who k)) h = omega (arith, length-append (names_text who) (field " +" k), names_short who h.0, added_short k h.1)
answer_short (Err k) h = omega (arith, field_length "refused " k, decimal_short k 2 (omega (arith, h)))
