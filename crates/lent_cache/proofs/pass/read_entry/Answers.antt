-- `read_entry`: either way out is a law of `after_read`.
use Rattle.std.proofs.Common.{sym, ◌∙◌}
use Rattle.replay.proofs.CacheLaws.Turn.{turn_goes, turn_stays}
use Rattle.lent_cache.proofs.pass.read_entry.Goals as goal

pub returns-then-survives : goal.returns-then-survives
returns-then-survives c = λ before l s. turn_stays c.args.p before c.args.i s l (sym c.survives.ensures ∙ c.if-survives.true)

pub returns : goal.returns
returns c = λ before l s. turn_goes c.args.p before c.args.i s l (sym c.survives.ensures ∙ c.if-survives.false)
