-- What the crate promises beside the contracts of its functions: what stands at the root of a draft that `lay_request` and
-- the others give, and that the draft can be added.
-- Assumes nothing.
use Rattle.std.specs.Prelude.{true, ◌≡◌, ℕ, ◌<◌, ◌≤◌}
use Rattle.std.proofs.Math.Path.{refl}
use borrow.Author.Tests.{lt-ltb, le-leb}
use Rattle.terms.specs.AllOf.{each}
use Rattle.drafts.specs.Draft.{draft_message, draft_fits}
use Rattle.kerberos.specs.Messages.{request, reply, ticket, authenticator, confirmation}
use Rattle.terms.specs.Descend.{descend, layers}
use Rattle.terms.specs.Message.{session, Message, nonce, key, pair}
use Rattle.layouts.specs.Drafts.{REQUEST_ROOT, REPLY_ROOT, TICKET_ROOT, BESIDE_ROOT, INSIDE_ROOT, AUTHENTICATOR_ROOT, PRESENTED_ROOT, CONFIRMATION_ROOT, KEY_ROOT}
use Rattle.layouts.specs.Drafts.{request_draft, issue_draft, inside_issue_draft, presented_draft, confirmation_draft, key_draft}

-- the message at the root
module _ (stored : ℕ → Message) where
  pub request_at : (a b n : ℕ) → draft_message stored (request_draft a b n) REQUEST_ROOT ≡ request a b n
  unfolding request_draft draft_message descend layers
  request_at a b n = refl

  pub reply_at : (k a b ts n : ℕ) → draft_message stored (issue_draft k a b ts n) REPLY_ROOT ≡ reply k b ts (nonce n) a
  unfolding issue_draft draft_message descend layers
  reply_at k a b ts n = refl

  pub ticket_at : (k a b ts n : ℕ) → draft_message stored (issue_draft k a b ts n) TICKET_ROOT ≡ ticket k a ts b
  unfolding issue_draft draft_message descend layers
  ticket_at k a b ts n = refl

  pub beside_at : (k a b ts n : ℕ) → draft_message stored (issue_draft k a b ts n) BESIDE_ROOT ≡ pair (reply k b ts (nonce n) a) (ticket k a ts b)
  unfolding issue_draft draft_message descend layers
  beside_at k a b ts n = refl

  pub inside_at : (k a b ts n : ℕ) → draft_message stored (inside_issue_draft k a b ts n) INSIDE_ROOT ≡ reply k b ts (pair (nonce n) (ticket k a ts b)) a
  unfolding inside_issue_draft draft_message descend layers
  inside_at k a b ts n = refl

  pub authenticator_at : (a ta k x : ℕ) → draft_message stored (presented_draft a ta k x) AUTHENTICATOR_ROOT ≡ authenticator a ta k
  unfolding presented_draft draft_message descend layers
  authenticator_at a ta k x = refl

  pub presented_at : (a ta k x : ℕ) → draft_message stored (presented_draft a ta k x) PRESENTED_ROOT ≡ pair (stored x) (authenticator a ta k)
  unfolding presented_draft draft_message descend layers
  presented_at a ta k x = refl

  pub confirmation_at : (ta k : ℕ) → draft_message stored (confirmation_draft ta k) CONFIRMATION_ROOT ≡ confirmation ta k
  unfolding confirmation_draft draft_message descend layers
  confirmation_at ta k = refl

  pub key_at : (k : ℕ) → draft_message stored (key_draft k) KEY_ROOT ≡ key (session k)
  unfolding key_draft draft_message descend layers
  key_at k = refl

-- where the fields are in range, the draft can be added
module _ (n count : ℕ) where
  pub request_fits : (a b i : ℕ) → a < n → b < n → i ≤ 95 → draft_fits n count (request_draft a b i) ≡ true
  unfolding request_draft draft_fits each
  request_fits a b i p q r = rw (lt-ltb a n p, lt-ltb b n q, le-leb i 95 r)

  pub issue_fits : (k a b ts i : ℕ) → k ≤ 95 → a < n → b < n → ts ≤ 4294967295 → i ≤ 95 → draft_fits n count (issue_draft k a b ts i) ≡ true
  unfolding issue_draft draft_fits each
  issue_fits k a b ts i h p q t r = rw (le-leb k 95 h, lt-ltb b n q, le-leb ts 4294967295 t, le-leb i 95 r, lt-ltb a n p)

  pub inside_fits : (k a b ts i : ℕ) → k ≤ 95 → a < n → b < n → ts ≤ 4294967295 → i ≤ 95 → draft_fits n count (inside_issue_draft k a b ts i) ≡ true
  unfolding inside_issue_draft draft_fits each
  inside_fits k a b ts i h p q t r = rw (le-leb k 95 h, lt-ltb b n q, le-leb ts 4294967295 t, le-leb i 95 r, lt-ltb a n p)

  pub presented_fits : (a ta k x : ℕ) → a < n → ta ≤ 4294967295 → k ≤ 95 → x < count → draft_fits n count (presented_draft a ta k x) ≡ true
  unfolding presented_draft draft_fits each
  presented_fits a ta k x p t h q = rw (lt-ltb a n p, le-leb ta 4294967295 t, le-leb k 95 h, lt-ltb x count q)

  pub confirmation_fits : (ta k : ℕ) → ta ≤ 4294967295 → k ≤ 95 → draft_fits n count (confirmation_draft ta k) ≡ true
  unfolding confirmation_draft draft_fits each
  confirmation_fits ta k t h = rw (le-leb ta 4294967295 t, le-leb k 95 h)

  pub key_fits_lem : (k : ℕ) → k ≤ 95 → draft_fits n count (key_draft k) ≡ true
  unfolding key_draft draft_fits each
  key_fits_lem k h = rw (le-leb k 95 h)
