-- `deciding::settle::settle` meets its contract: by the law for each way out. Assumes nothing.
use mathlib.Core.Path.{sym, ap, ◌∙◌}
use Rattle.std.specs.Prelude.{Ok}
use Rattle.refusals.specs.Numbers.{numbered}
use Rattle.refusals.proofs.Numbers.{passed_up}
use Rattle.deciding.proofs.Laws.Settle.{was_refused, was_settled, message_present, denied, granted}
use Rattle.deciding.proofs.settle.settle.Goals as goal
use Rattle.deciding.proofs.settle.settle.Goals.{Start}

pub by_row-requires : goal.by_row-requires
by_row-requires c = (c.args.wire.now, c.requires.0)

pub returns-in_err-effect : goal.returns-in_err-effect
returns-in_err-effect c =
    (ap numbered (passed_up c.from_residual.result _ c.from_residual.ensures.1) ∙ was_refused c.by_row.ensures c.args.wire.now c.in_err-effect.was, c.requires.1)

pub can_deliver-requires : goal.can_deliver-requires
can_deliver-requires c =
    let t = c.requires.0 in (
      record {
        terms = t.terms_hold;
        wire = t.wire_words;
        marks = t.wire_within;
        below = message_present c.by_row.ensures c.args.wire.now (c.in_ok-effect.was ∙ ap Ok c.in-Asked.is);
      },
      c.requires.1,
    )

pub returns-then-not-can_deliver : goal.returns-then-not-can_deliver
returns-then-not-can_deliver c =
    let d = c.can_deliver.ensures in
    (denied c.by_row.ensures c.args.wire.now (c.in_ok-effect.was ∙ ap Ok c.in-Asked.is) (sym d.0 ∙ c.if-not-can_deliver.true), d.1)

pub returns-in-Settled : goal.returns-in-Settled
returns-in-Settled c =
    (was_settled c.by_row.ensures c.args.wire.now (c.in_ok-effect.was ∙ ap Ok c.in-Settled.is), c.requires.1)

pub returns-else-not-can_deliver : goal.returns-else-not-can_deliver
returns-else-not-can_deliver c =
    let d = c.can_deliver.ensures in
    (granted c.by_row.ensures c.args.wire.now (c.in_ok-effect.was ∙ ap Ok c.in-Asked.is) (sym d.0 ∙ c.if-not-can_deliver.false), d.1)
