-- What the crate promises beside the contracts of its functions. `open_request` and the others answer `request_in` and so on
-- of the term's message; the laws say that the answer has some values exactly if the message is the exchange's message of that name
-- with these values, so it is `None` exactly where "m has not the step's form". `open_grant` answers `grant_in`, with the number of a
-- term for X.
-- Assumes nothing.
use Rattle.std.specs.Prelude.{◌↔◌, ◌≡◌, Some}
use Rattle.exchange.specs.declared.form.Form.{Form}
use Rattle.kerberos.specs.Messages.{request, grant, ticket, authenticator, confirmation}
use Rattle.kerberos.specs.Reading.{parts}
use Rattle.terms.specs.Message.{Message, pair}
use Rattle.forms.specs.declared.Authenticator.{Authenticator}
use Rattle.forms.specs.declared.Confirmation.{Confirmation}
use Rattle.forms.specs.declared.Delivery.{Delivery}
use Rattle.forms.specs.declared.Request.{Request}
use Rattle.forms.specs.declared.Ticket.{Ticket}
use Rattle.forms.specs.Delivery.{ticket_in, authenticator_in, delivery_in}
use Rattle.forms.proofs.DeliveryLaws.{ticket_form_lem, authenticator_form_lem, delivery_form}
use Rattle.forms.specs.Forms.{request_in, confirmation_in}
use Rattle.forms.proofs.FormsLaws.{request_form_lem, confirmation_form_lem}
use Rattle.forms.specs.Grant.{Granted, grant_in}
use Rattle.forms.proofs.GrantLaws.{grant_form}

module _ (m : Message) where
  pub is_request : (q : Request) → (request_in m ≡ Some q) ↔ (m ≡ request q.a q.b q.n)
  is_request = request_form_lem m

  -- in each form, with any X: the one that the exchange reads
  pub is_grant : (f : Form) (q : Granted) → (grant_in f m ≡ Some q) ↔ ((m ≡ grant f q.k q.b q.ts q.n q.a q.x) × (q.x ≡ (parts f m).1))
  is_grant f = grant_form f m

  pub is_confirmation : (q : Confirmation) → (confirmation_in m ≡ Some q) ↔ (m ≡ confirmation q.ta q.k)
  is_confirmation = confirmation_form_lem m

  pub is_ticket : (q : Ticket) → (ticket_in m ≡ Some q) ↔ (m ≡ ticket q.k q.a q.ts q.b)
  is_ticket = ticket_form_lem m

  pub is_authenticator : (q : Authenticator) → (authenticator_in m ≡ Some q) ↔ (m ≡ authenticator q.a q.ta q.k)
  is_authenticator = authenticator_form_lem m

  pub is_delivery : (q : Delivery) → (delivery_in m ≡ Some q) ↔ (m ≡ pair (ticket q.k q.a q.ts q.b) (authenticator q.a q.ta q.k))
  is_delivery = delivery_form m
