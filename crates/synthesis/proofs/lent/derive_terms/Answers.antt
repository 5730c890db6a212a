-- `synthesis::lent::derive_terms` meets its contract, test by test. Assumes nothing.
use mathlib.Core.Bool.{true}
use mathlib.Core.Path.{◌≡◌, sym, ◌∙◌}
use lib.ListN.{length}
use Rattle.synthesis.specs.Lent.{tables_hold}
use Rattle.synthesis.proofs.LentLaws.{hold_are, not_held, other_words, derived}
use Rattle.std.proofs.Common.{rules}
use Rattle.synthesis.proofs.lent.derive_terms.Goals as goal
use Rattle.synthesis.proofs.lent.derive_terms.Goals.{After-derive_all-set, Else-not-tables_hold, then-not-tables_hold-via-then-not-tables_hold, then-not-tables_hold-via-else-not-tables_hold+then-out-ne-WIRE_WORDS}

held : (c : Else-not-tables_hold) → let a = c.args in tables_hold a.who.n a.terms.now a.count a.wire.now ≡ true
held c = sym c.tables_hold.ensures ∙ c.if-not-tables_hold.false

eight : (c : After-derive_all-set) → length c.derive_all-set.result ≡ 8
eight c = search rules

pub returns-then-not-tables_hold : goal.returns-then-not-tables_hold
returns-then-not-tables_hold c =
    let a = c.args in
    elim c.then-not-tables_hold.branch [
      | then-not-tables_hold-via-then-not-tables_hold w ↦
          not_held a.who.n a.who.flags a.terms.now a.count a.wire.now a.out.now (sym c.tables_hold.ensures ∙ w.if-not-tables_hold.true)
      | then-not-tables_hold-via-else-not-tables_hold+then-out-ne-WIRE_WORDS w ↦
          other_words a.who.n a.who.flags a.terms.now a.count a.wire.now a.out.now (sym c.tables_hold.ensures ∙ w.if-not-tables_hold.false) w.if-out-ne-WIRE_WORDS.true
    ]

pub derive_all-set-requires : goal.derive_all-set-requires
derive_all-set-requires c =
    let a = c.args in
    hold_are a.who.n a.terms.now a.count a.wire.now (held (goal.at.derive_all-set-requires c).Else-not-tables_hold)

pub returns : goal.returns
returns c =
    let a = c.args in
    derived a.who.n a.who.flags a.terms.now a.count a.wire.now a.out.now (held (goal.at.returns c).Else-not-tables_hold) c.derive_all-set.result
    c.if-out-ne-WIRE_WORDS.false (eight (goal.at.returns c).After-derive_all-set) c.derive_all-set.ensures c.store.ensures
