-- `synthesis::compose::derivable` meets its contract: the descent, from what is known of this wire, decides the same as the definition.
-- Assumes nothing.
use Rattle.std.proofs.Common.{◌≡◌, ap, ◌∙◌}
use Rattle.synthesis.specs.declared.knowledge.Knowledge.{Knowledge}
use Rattle.synthesis.proofs.Noted.{answered}
use Rattle.synthesis.proofs.compose.derivable.Goals as goal
use Rattle.synthesis.proofs.compose.derivable.Goals.{then-not-is_of, else-not-is_of}

pub returns : goal.returns
returns c =
    let its_own : c.if-not-is_of.known.wire ≡ c.args.wire.now =
    elim c.if-not-is_of.branch [
      | then-not-is_of w ↦ ap (λ (k : Knowledge). k.wire) w.known-is ∙ w.restart.ensures.wire
      | else-not-is_of w ↦ ap (λ (k : Knowledge). k.wire) w.known-is ∙ c.is_of.ensures.yes w.if-not-is_of.false
    ] in
    answered c.args.who.flags c.requires.0 its_own (record { len = c.requires.1; fit = λ k. (c.type_inv.wire k).fits }) c.args.t c.requires.4 c.compose.ensures
