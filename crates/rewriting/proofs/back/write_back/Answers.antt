-- `rewriting::back::write_back` meets its contract: what was counted lies within the buffer. Assumes nothing.
use Rattle.std.specs.Prelude.{Option}
use mathlib.Core.Path.{◌≡◌, sym, ap, ◌∙◌}
use Prim.Native.Nat.{ℕ, ◌+◌, ◌-◌, ◌≤◌}
use native.Mathlib.Omega.{arith}
use lib.ListN.{take, drop, replicate, length-replicate}
use Rattle.std.proofs.Common.{rules}
use Rattle.writer.specs.Write.{write_outcome, write_of}
use Rattle.written_walks.proofs.Stands.{walk_stands}
use Rattle.comparison.specs.Compare.{difference}
use Rattle.std.proofs.lemmas.Result.{err_from_is_err_and}
use Rattle.rewriting.specs.declared.back.Unwritten.{Unwritten}
use Rattle.rewriting.specs.declared.back.Unwritten.TheVariants.{Refused}
use Rattle.rewriting.specs.Rewriting.{offset, places, compared, compared_by}
use Rattle.rewriting.proofs.Rewriting.{compared_is}
use Rattle.rewriting.proofs.back.write_back.Goals as goal
use Rattle.rewriting.proofs.back.write_back.Goals.{In_ok-count}

within : (c : In_ok-count) → offset + c.in_ok-count.count ≤ places
within c = let a = c.args in
    let s = walk_stands a.header a.words.now (replicate places 0) offset _ _ (sym c.in_ok-count.ensures) in
    omega (arith, s.passed.room, s.count_is, length-replicate {A = ℕ} places 0)

pub returns-in_err-count : goal.returns-in_err-count
returns-in_err-count c =
    let a = c.args in
    let p = err_from_is_err_and {T = Option ℕ} {Q = λ (e : Unwritten). e ≡ Refused c.in_err-count.field-0.0} c.from_residual.result c.from_residual.ensures.1 in
    rw (rw p.2 at p.1) (compared_is a.header a.words.now a.file.now c.in_err-count.ensures)

pub returns : goal.returns
returns c =
    let a = c.args in
    let out = c.write_walk.new.out in
    let count = c.in_ok-count.count in
    ap compared (c.first_difference.ensures ∙ ap (λ (k : ℕ). difference 1 (take k (drop offset out)) a.file.now) (less count))
    ∙ compared_is a.header a.words.now a.file.now c.in_ok-count.ensures
  where
    less : (count : ℕ) → 5 + count - 5 ≡ count
    less count = omega arith

pub overflow_add-end : goal.overflow_add-end
overflow_add-end c = let h = within c in search rules

pub slice_bounds-first_difference-end : goal.slice_bounds-first_difference-end
slice_bounds-first_difference-end c = let h = within c in search rules
