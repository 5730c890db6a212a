-- `worklist::found::Found::on_wire` meets its contract. The invariant: the terms on the wire below i have been found. Assumes nothing.
use mathlib.Core.Path.{ap, ◌∙◌}
use Rattle.worklist.specs.Found.{Found, blank, notice_of}
use Rattle.worklist.proofs.FoundLaws.{start_zero, start_next}
use Rattle.worklist.proofs.found.Found.on_wire.Goals as goal

pub loop-i-init : goal.loop-i-init
loop-i-init c = c.new-found.ensures ∙ start_zero c.args.wire.now blank

pub loop-i-preserved : goal.loop-i-preserved
loop-i-preserved c =
    let at = c.loop-i in
    c.notice.ensures
    ∙ ap (λ (g : Found). notice_of c.args.wire.now g at.i) at.invariant
    ∙ start_next c.args.wire.now at.i blank
