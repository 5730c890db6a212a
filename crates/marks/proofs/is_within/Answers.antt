-- `marks::is_within` meets its contract: it asks of each number from the bound on. Assumes nothing.
use Rattle.std.proofs.Common.{◌≡◌, ◌∙◌, sym, refl, ◌-◌, ◌*◌, length, rules, not, tests}
use Rattle.std.proofs.lemmas.Iterator.{YieldsList-from_range}
use Rattle.std.proofs.lemmas.Iterator.Search.{all_from_yields_List}
use Rattle.marks.specs.Marks.{marked}
use Rattle.marks.specs.Within.{within}
use Rattle.marks.proofs.Within.{clear_all}
use Rattle.marks.proofs.is_within.Goals as goal

pub returns : goal.returns
unfolding within
returns c =
    let width : length c.args.set ≡ 8 = search rules in
    all_from_yields_List (λ i. not (marked c.args.set i)) _ _ _ c.all.ensures.ran
    (YieldsList-from_range c.args.bound 512 (64 * length c.args.set - c.args.bound) refl (rw width refl))
    (λ x b q k. search (rules, tests))
    ∙ sym (clear_all c.args.set c.args.bound (64 * length c.args.set - c.args.bound))
