-- A message is read as a form exactly if it is the exchange's message of that name with the values read.
-- Assumes nothing.
use Rattle.std.specs.Prelude.{◌↔◌, ◌≡◌, refl, Some}
use Rattle.std.proofs.Common.{arith}
use Rattle.kerberos.specs.Messages.{request, confirmation}
use Rattle.terms.specs.Message.{Message}
use Rattle.layers.specs.Layers.{TIME, NONCE}
use Rattle.layers.proofs.Laws.Layers.{reads_atom, reads_▸, principal_first, under_session, exactly}
use Rattle.forms.specs.declared.Confirmation.{Confirmation}
use Rattle.forms.specs.declared.Request.{Request}
use Rattle.forms.specs.Forms.{request_of, request_in, confirmation_of, confirmation_in}

-- step 3: "m is [a, b, any nonce N]"
pub request_form_lem : (m : Message) (q : Request) → (request_in m ≡ Some q) ↔ (m ≡ request q.a q.b q.n)
unfolding request_in
request_form_lem =
    exactly (reads_▸ principal_first (reads_▸ principal_first (reads_atom NONCE (omega arith))))
    request_of (λ q. (q.a, (q.b, q.n))) (λ x. refl) (λ q. refl)

-- step 6: "m is {Ta}K"
pub confirmation_form_lem : (m : Message) (q : Confirmation) → (confirmation_in m ≡ Some q) ↔ (m ≡ confirmation q.ta q.k)
unfolding confirmation_in
confirmation_form_lem =
    exactly (reads_▸ under_session (reads_atom TIME (omega arith))) confirmation_of (λ q. (q.k, q.ta)) (λ x. refl) (λ q. refl)
