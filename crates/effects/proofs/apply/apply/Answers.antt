-- `effects::apply::apply` meets its contract: what the plan says is what the effect says. Assumes nothing.
use native.Mathlib.Omega.{arith}
use Rattle.std.proofs.Common.{◌∙◌}
use Rattle.realm.specs.Tables.{tables}
use Rattle.decisions.specs.Effects.{messages_of}
use Rattle.effects.proofs.Laws.Apply.{row_fits, entry_fits_lem, all_applied}
use Rattle.effects.proofs.apply.apply.Goals as goal
use Rattle.effects.proofs.apply.apply.Goals.{Start}

pub write_messages-requires : goal.write_messages-requires
write_messages-requires c =
    let all = c.requires.0 in
    let fit = c.requires.1 in
    (all.terms_hold.size, all.wire_words.len, fit.room, omega (arith, fit.plan.few, fit.plan.places), fit.plan.marks fit.room)

pub write_row-opened-requires : goal.write_row-opened-requires
write_row-opened-requires c =
    (c.requires.0.rows_hold.size, row_fits (tables c.args.h c.args.terms.now c.args.runs.now c.args.wire.now c.args.cache) (messages_of (tables c.args.h c.args.terms.now c.args.runs.now c.args.wire.now c.args.cache).terms c.args.effect.sends) c.args.effect.change c.requires.0 c.requires.1.fits.row)

pub cache_after-kept-requires : goal.cache_after-kept-requires
cache_after-kept-requires c =
    (c.requires.0.entries_most, entry_fits_lem (tables c.args.h c.args.terms.now c.args.runs.now c.args.wire.now c.args.cache) c.args.effect.keeping c.requires.1.fits.entry)

pub returns : goal.returns
returns c =
    all_applied (tables c.args.h c.args.terms.now c.args.runs.now c.args.wire.now c.args.cache) c.args.effect c.requires.1 c.write_messages.ensures c.write_row-opened.ensures (c.kept.view_is ∙ c.cache_after-kept.ensures)
