-- What is left of the two texts differs where the whole does.
use Rattle.std.proofs.Common.{length, ◌≡◌, ◌+◌, ◌≤◌}
use Rattle.comparison.specs.Compare.{difference}
use Rattle.comparison.proofs.first_difference.Given as goal

abbrev pub invariant-loop-x : goal.invariant-loop-x
invariant-loop-x l =
    let a = l.x-iterator.a.rest.now in
    let b = l.x-iterator.b.rest.now in
    record {
      as_many : length a + length l.b ≡ length b + length l.a;
      few_lines : l.line + length a ≤ length l.a + 1;
      rest : difference l.line a b ≡ difference 1 l.a l.b;
    }
