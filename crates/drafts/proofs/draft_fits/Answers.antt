-- `drafts::draft_fits` meets its contract. Assumes nothing.
use mathlib.Core.Path.{◌≡◌, refl}
use mathlib.Core.Bool.{true, false}
use native.Mathlib.Omega.{arith}
use borrow.Author.Tests.{tests}
use Rattle.std.proofs.Common.{rules}
use Rattle.std.proofs.lemmas.Iterator.{cases_from_all, YieldsList-from_range}
use Rattle.terms.proofs.AllOf.{all_is_each}
use Rattle.drafts.specs.Draft.{node_at, node_fits, draft_fits}
use Rattle.drafts.proofs.draft_fits.Goals as goal

pub returns : goal.returns
unfolding draft_fits
returns c =
    let a = c.args in
    all_is_each (λ k. node_fits a.n a.count k (node_at a.draft k)) 16 c.all.result
    (cases_from_all _ _ _ (λ k. node_fits a.n a.count k (node_at a.draft k) ≡ true) (λ k. node_fits a.n a.count k (node_at a.draft k) ≡ false) c.all.ensures.ran
    (YieldsList-from_range 0 16 16 refl (omega arith)) (λ x q k. search (rules, tests)) (λ x q k. search (rules, tests)))
