-- `forms::open_delivery` meets its contract: the halves of the pair by the contracts of their own calls, then the test. Assumes
-- nothing.
use Rattle.std.proofs.Common.{sym, ◌∙◌, eq-eqb}
use Rattle.layers.proofs.Laws.Present.{pair_operands, pair_here}
use Rattle.layers.proofs.Laws.Ways.{not_pair}
use Rattle.forms.specs.Delivery.{delivery_in}
use Rattle.forms.proofs.DeliveryLaws.{differ}
use Rattle.forms.proofs.open_delivery.Goals as goal

pub returns-in_default : goal.returns-in_default
unfolding delivery_in
returns-in_default c = rw (not_pair c.requires c.term_at.ensures c.in_default.not-Pair)

pub open_ticket-requires : goal.open_ticket-requires
open_ticket-requires c = (pair_operands c.requires (sym c.in-Pair.is ∙ c.term_at.ensures)).0

pub returns-in_err-k : goal.returns-in_err-k
unfolding delivery_in
returns-in_err-k c = rw (c.from_residual.ensures, pair_here c.requires (sym c.in-Pair.is ∙ c.term_at.ensures), ← c.in_err-k.ensures)

pub open_authenticator-requires : goal.open_authenticator-requires
open_authenticator-requires c = (pair_operands c.requires (sym c.in-Pair.is ∙ c.term_at.ensures)).1

pub returns-in_err-sender : goal.returns-in_err-sender
unfolding delivery_in
returns-in_err-sender c =
    rw (c.from_residual-in_err-sender.ensures, pair_here c.requires (sym c.in-Pair.is ∙ c.term_at.ensures), ← c.in_ok-k.ensures, ← c.in_err-sender.ensures)

pub returns-then-sender-a : goal.returns-then-sender-a
unfolding delivery_in
returns-then-sender-a c =
    rw (pair_here c.requires (sym c.in-Pair.is ∙ c.term_at.ensures), ← c.in_ok-k.ensures, ← c.in_ok-sender.ensures, differ c.in_ok-k.field-0 c.in_ok-sender.field-0 c.then-sender-a.either)

pub returns : goal.returns
unfolding delivery_in
returns c =
    rw (
      pair_here c.requires (sym c.in-Pair.is ∙ c.term_at.ensures),
      ← c.in_ok-k.ensures,
      ← c.in_ok-sender.ensures,
      eq-eqb _ _ c.if-sender-a.false,
      eq-eqb _ _ c.if-key-k.false,
    )
