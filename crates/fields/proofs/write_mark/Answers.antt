-- `fields::write_mark` meets its contract, by the two kinds of call. Assumes nothing.
use Rattle.fields.specs.Fields.{mark_text}
use Rattle.fields.proofs.Placed.{wrote_as}
use mathlib.Core.Path.{sym, ap}
use Rattle.fields.proofs.write_mark.Goals as goal

pub returns-in-Term : goal.returns-in-Term
unfolding mark_text
returns-in-Term c = let w = c.write_text.ensures in (wrote_as (sym (ap mark_text c.in-Term.is)) w, w.offset)

pub returns-in-Step : goal.returns-in-Step
unfolding mark_text
returns-in-Step c = let w = c.write_text-in-Step.ensures in (wrote_as (sym (ap mark_text c.in-Step.is)) w, w.offset)
