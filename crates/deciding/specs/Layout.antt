-- How the messages of an effect are laid out, and what planning them asks for.
-- Assumes nothing.
use Rattle.std.specs.Prelude.{ℕ, ◌≤◌, List, [], Option, Some, None}
use Rattle.drafts.specs.declared.Node.{Node}
use Rattle.terms.specs.Valid.{Valid}
use Rattle.sending.specs.Send.{AllWrites}
use Rattle.layouts.specs.Drafts.{REQUEST_ROOT, REPLY_ROOT, TICKET_ROOT, BESIDE_ROOT, INSIDE_ROOT, AUTHENTICATOR_ROOT, PRESENTED_ROOT, CONFIRMATION_ROOT, KEY_ROOT}
use Rattle.layouts.specs.Drafts.{places, request_draft, issue_draft, inside_issue_draft, presented_draft, confirmation_draft, key_draft}
use Rattle.decisions.specs.declared.Sends.{Sends}
use Rattle.decisions.specs.declared.Sends.TheVariants.{Request, Issue, Presented, Confirmation, Key}
use Rattle.decisions.specs.declared.Sends.TheVariants as sending
use Rattle.decisions.specs.Effects.{messages_of}
use Rattle.decisions.specs.Laws.Fits.{Carries}
use Rattle.exchange.specs.declared.form.Form.{Form}
use Rattle.exchange.specs.declared.form.Form.TheVariants.{Parallel, Kerberos5, Kerberos4}
use Rattle.deciding.specs.declared.plan.Roots.{Roots}

-- ---- how messages are laid out

-- one message is sent by naming its node twice
abbrev pub one : ℕ → Option Roots
one root = Some (record { first = root; last = root })

-- the nodes of the first and the last message
abbrev pub roots_of : Sends → Option Roots
roots_of sending.Nothing = None
roots_of (Request a b n) = one REQUEST_ROOT
-- step 3: "sends {K, b, Ts, N} under a's key, then {K, a, Ts} under b's key", or one message
roots_of (Issue Parallel k a b ts n) = Some (record { first = REPLY_ROOT; last = TICKET_ROOT })
roots_of (Issue Kerberos5 k a b ts n) = one BESIDE_ROOT
roots_of (Issue Kerberos4 k a b ts n) = one INSIDE_ROOT
-- step 4: "sends {a, Ta}K", or "the pair of X and {a, Ta}K"
roots_of (Presented Parallel a ta k x) = one AUTHENTICATOR_ROOT
roots_of (Presented Kerberos5 a ta k x) = one PRESENTED_ROOT
roots_of (Presented Kerberos4 a ta k x) = one PRESENTED_ROOT
roots_of (Confirmation ta k) = one CONFIRMATION_ROOT
roots_of (Key k) = one KEY_ROOT

abbrev pub issue_draft_of : Form → (k a b ts n : ℕ) → List Node
issue_draft_of Parallel k a b ts n = issue_draft k a b ts n
issue_draft_of Kerberos5 k a b ts n = issue_draft k a b ts n
issue_draft_of Kerberos4 k a b ts n = inside_issue_draft k a b ts n

-- the nodes themselves, none where nothing is sent
abbrev pub draft_of : Sends → List Node
draft_of sending.Nothing = places 16 []
draft_of (Request a b n) = request_draft a b n
draft_of (Issue f k a b ts n) = issue_draft_of f k a b ts n
draft_of (Presented f a ta k x) = presented_draft a ta k x
draft_of (Confirmation ta k) = confirmation_draft ta k
draft_of (Key k) = key_draft k

-- ---- what planning asks for

-- the tables hold together, the fields of the messages are in range, and a term that is passed on is present
pub record CanSend (ts : List ℕ) (count : ℕ) (x : Sends) : Type 0 where
  pub n : ℕ
  pub small : n ≤ 65536
  pub table : Valid n ts count
  pub writes : AllWrites n (messages_of ts x)
  pub carries : Carries count x
