-- What is laid out is what is sent: the messages at the roots of an effect's draft are its messages.
-- Assumes nothing.
use Rattle.std.specs.Prelude.{cond, ℕ, List, [], ◌∷◌, Option, Some, None, ◌≡◌, refl, eqb}
use Rattle.std.proofs.Common.{ap, ap₂}
use Rattle.terms.specs.Meaning.{message_at}
use Rattle.terms.specs.Message.{Message}
use Rattle.exchange.specs.declared.form.Form.TheVariants.{Parallel, Kerberos5, Kerberos4}
use Rattle.drafts.specs.declared.Node.{Node}
use Rattle.drafts.specs.Draft.{draft_message}
use Rattle.layouts.proofs.Promises.{request_at, reply_at, ticket_at, beside_at, inside_at, authenticator_at, presented_at, confirmation_at, key_at}
use Rattle.decisions.specs.declared.Sends.{Sends}
use Rattle.decisions.specs.declared.Sends.TheVariants.{Request, Issue, Presented, Confirmation, Key}
use Rattle.decisions.specs.declared.Sends.TheVariants as sending
use Rattle.decisions.specs.Effects.{messages_of}
use Rattle.deciding.specs.declared.plan.Roots.{Roots}
use Rattle.deciding.specs.Layout.{roots_of, draft_of}

module _ (terms : List ℕ) where
  abbrev stored : ℕ → Message
  stored = message_at terms

  -- the messages at the roots of a draft, one where a node is named twice
  abbrev pub root_messages : List Node → Option Roots → List Message
  root_messages draft (Some r) =
      let m = draft_message stored draft in
      cond (eqb r.first r.last) (m r.first ∷ []) (m r.first ∷ m r.last ∷ [])
  root_messages draft None = []

  one : {x y : Message} → x ≡ y → ◌≡◌ {A = List Message} (x ∷ []) (y ∷ [])
  one = ap (λ (m : Message). m ∷ [])

  pub laid_right : (x : Sends) → root_messages (draft_of x) (roots_of x) ≡ messages_of terms x
  laid_right sending.Nothing = refl
  laid_right (Request a b n) = one (request_at stored a b n)
  laid_right (Issue Parallel k a b ts n) = ap₂ (λ (x y : Message). x ∷ y ∷ []) (reply_at stored k a b ts n) (ticket_at stored k a b ts n)
  laid_right (Issue Kerberos5 k a b ts n) = one (beside_at stored k a b ts n)
  laid_right (Issue Kerberos4 k a b ts n) = one (inside_at stored k a b ts n)
  laid_right (Presented Parallel a ta k x) = one (authenticator_at stored a ta k x)
  laid_right (Presented Kerberos5 a ta k x) = one (presented_at stored a ta k x)
  laid_right (Presented Kerberos4 a ta k x) = one (presented_at stored a ta k x)
  laid_right (Confirmation ta k) = one (confirmation_at stored ta k)
  laid_right (Key k) = one (key_at stored k)
