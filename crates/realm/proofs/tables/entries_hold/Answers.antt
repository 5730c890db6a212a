-- `realm::tables::entries_hold` meets its contract: by what `all` finds. Assumes nothing.
use mathlib.Core.Path.{◌≡◌}
use mathlib.Core.Bool.{true, false}
use native.Mathlib.Omega.{arith}
use borrow.Author.Tests.{tests}
use lib.ListN.{take}
use Rattle.std.proofs.Common.{rules}
use Rattle.std.proofs.lemmas.Grind.{common_steps}
use Rattle.std.proofs.lemmas.Iterator.{cases_from_all, YieldsList-from_slice}
use Rattle.replay.specs.declared.entry.Entry.{Entry}
use Rattle.realm.specs.Check.{entry_fits}
use Rattle.realm.proofs.Check.{over_limit, all_fit_taken}
use Rattle.realm.proofs.tables.entries_hold.Goals as goal

pub returns-then-count-le-PLACES : goal.returns-then-count-le-PLACES
returns-then-count-le-PLACES c =
    let a = c.args in
    all_fit_taken a.n a.cache a.count c.if-count-le-PLACES.true (search rules)
    (cases_from_all _ _ _ (λ (e : Entry). entry_fits a.n e ≡ true) (λ (e : Entry). entry_fits a.n e ≡ false) c.all.ensures.ran
    (YieldsList-from_slice (take a.count a.cache) (search rules)) (λ x q k. search (rules, tests)) (λ x q k. search (rules, tests)))

pub returns-else-count-le-PLACES : goal.returns-else-count-le-PLACES
returns-else-count-le-PLACES c = let no = over_limit c.args.n c.args.cache c.args.count c.if-count-le-PLACES.false in grind (arith, common_steps)
