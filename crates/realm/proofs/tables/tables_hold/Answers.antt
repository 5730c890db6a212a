-- `realm::tables::tables_hold` meets its contract: the answers of the five tests, and what they say together. Assumes nothing.
use mathlib.Core.Path.{◌≡◌}
use native.Mathlib.Omega.{arith}
use Rattle.std.proofs.Common.{rules}
use Rattle.std.proofs.lemmas.Grind.{common_steps}
use Rattle.realm.specs.Tables.{tables}
use Rattle.realm.specs.Check.{together}
use Rattle.realm.proofs.Check.{holding}
use Rattle.realm.proofs.tables.tables_hold.Goals as goal

pub returns-then-wire_holds : goal.returns-then-wire_holds
unfolding together
returns-then-wire_holds c =
    let a = c.args in
    let e : c.entries_hold.result ≡ together (tables a.h a.terms.now a.runs.now a.wire.now a.cache) = grind (arith, common_steps) in
    holding _ (record { ls = search rules; la = search rules; clock = search rules }) (λ k. (c.type_inv.wire k).fits) (search rules) e

pub returns-else-wire_holds : goal.returns-else-wire_holds
unfolding together
returns-else-wire_holds c =
    let a = c.args in
    let e : c.if-rows_hold.value ≡ together (tables a.h a.terms.now a.runs.now a.wire.now a.cache) = grind (arith, common_steps) in
    holding _ (record { ls = search rules; la = search rules; clock = search rules }) (λ k. (c.type_inv.wire k).fits) (search rules) e
