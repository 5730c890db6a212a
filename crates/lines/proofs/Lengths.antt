-- How long the lines are: what stands around their numbers, and the digits of these.
-- Assumes nothing.
use mathlib.Core.List.{List, ◌++◌}
use Rattle.std.specs.Prelude.{◌≡◌, length}
use Rattle.std.proofs.Common.{ap, ◌∙◌}
use Prim.Native.Nat.{ℕ, suc, ◌+◌, ◌*◌, ◌^◌, ◌≤◌, ◌<◌}
use native.Mathlib.Omega.{arith}
use Rattle.std.proofs.Math.ListN.{length-append}
use Rattle.exchange.specs.Calls.{Answer}
use Rattle.exchange.specs.declared.call.Call.{Call}
use Rattle.fields.proofs.Decimal.{decimal_short}
use Rattle.fields.specs.Fields.{ascii, decimal, field, mark_text, answer_text}
use Rattle.fields.specs.Lengths.{Narrow}
use Rattle.fields.proofs.Lengths.{field_length, mark_length, answer_short}
use Rattle.lines.specs.Lines.{call_line, file_line, end_line}

joined_length : (a b c : List ℕ) → length (a ++ b ++ c) ≡ length a + length b + length c
joined_length a b c = length-append (a ++ b) c ∙ ap (λ (k : ℕ). k + length c) (length-append a b)

-- ---- lines, by the digits of their numbers

module _ (d : ℕ) where
  pub call_length : (number : ℕ) (call : Call) (answer : Answer) → number < 10 ^ suc d → Narrow answer → length (call_line number call answer) ≤ suc d + 18
  unfolding call_line
  call_length number call answer h n =
      omega (
        arith,
        joined_length (decimal number ++ mark_text call) (answer_text answer) (ascii "\n"),
        length-append (decimal number) (mark_text call),
        mark_length call,
        decimal_short number d h,
        answer_short answer n,
      )

  pub file_length : (number refusal : ℕ) → number < 10 ^ suc d → refusal < 256 → length (file_line number refusal) ≤ suc d + 18
  unfolding file_line
  file_length number refusal h k =
      omega (
        arith,
        joined_length (decimal number) (field " file refused " refusal) (ascii "\n"),
        field_length " file refused " refusal,
        decimal_short number d h,
        decimal_short refusal 2 (omega (arith, k)),
      )

  pub end_length : (runs wire cache clock : ℕ) → runs < 10 ^ suc d → wire < 10 ^ suc d → cache < 10 ^ suc d → clock < 2 ^ 32
      → length (end_line runs wire cache clock) ≤ 3 * suc d + 40
  unfolding end_line
  end_length runs wire cache clock r w k t =
      let a : List ℕ = field "end runs " runs in
      let b : List ℕ = field " wire " wire in
      let c : List ℕ = field " cache " cache in
      omega (
        arith,
        joined_length (a ++ b ++ c) (field " clock " clock) (ascii "\n"),
        joined_length a b c,
        field_length "end runs " runs,
        field_length " wire " wire,
        field_length " cache " cache,
        field_length " clock " clock,
        decimal_short runs d r,
        decimal_short wire d w,
        decimal_short cache d k,
        decimal_short clock 9 (omega (arith, t)),
      )
