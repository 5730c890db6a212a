-- What follows at an acceptance of a good A by a run of a good B, over logs: the server issued the key to A and B, an initiator
-- run of A authenticated with it (the partner), and that run and the accepting one are the only ones.
-- Assumes nothing.
use Rattle.std.specs.Prelude.{ℕ, ◌≡◌, refl, ◌⊎◌}
use Rattle.std.proofs.Common.{sym, ◌∙◌, inl, inr}
use Rattle.traces.specs.Realm.{Realm, Good}
use Rattle.traces.specs.Lists.{◌⊑◌, now}
use Rattle.traces.specs.Logs.{Did}
use Rattle.traces.proofs.Logs.{did_later, trace_at}
use Rattle.exchange.specs.declared.form.Form.{Form}
use Rattle.kerberos.specs.Log.{Issue, Authenticate, Accept, Log}
use Rattle.kerberos.specs.Words.{Initiator, RunOf, of_initiator, Has, from4, from5, Holds, from3, has, Leaked}
use Rattle.kerberos.proofs.Laws.Trace.{Trace}
use Rattle.kerberos.proofs.Laws.Runs.{issue_once, authenticate_once, authenticate_of, accept_of, accept_apart}
use Rattle.kerberos.proofs.Laws.Replay.{accept_once}
use Rattle.kerberos.proofs.Laws.Taken.{issue_apart, authenticate_issued, accept_issued, authenticate_kept, accept_kept, accept_authenticated, kept}

-- ---- the partner

-- An initiator run of A, meant for B, that took the same values from the server.
pub record Partner (l : Log) (A B k ts ta : ℕ) : Type 0 where
  pub run : ℕ
  pub authenticated : Did l (Authenticate run A B k ts ta)
  pub issued : Did l (Issue k A B ts run)

partner_of : {l : Log} {A B k ts ta n i b ts' : ℕ} → Did l (Issue k A B ts n) → Did l (Authenticate i A b k ts' ta) → B ≡ b → ts ≡ ts' → n ≡ i → Partner l A B k ts ta
partner_of {i = i} g h eb et en = record { run = i; authenticated = rw (eb, et) h; issued = rw (← en) g }

pub find_partner : {f : Form} {R : Realm} {l : Log} {A B r k ts ta : ℕ}
    → Trace f R l
    → Good R A
    → Good R B
    → Did l (Accept r A B k ts ta)
    → ¬ (Leaked l k)
    → Partner l A B k ts ta
find_partner w goodA goodB h unleaked =
    let g = accept_issued w goodB h in
    let q = accept_authenticated w (kept w goodA goodB g.1 now unleaked) refl h in
    let e = issue_once w g.1 (authenticate_issued w goodA q.3) in
    partner_of g.1 q.3 e.1 e.2 e.3

-- ---- the clauses of the claim, at every point p of a log l with the acceptance and the partner in it

module _ {f : Form} {R : Realm} {l : Log} (w : Trace f R l) {A B r k ts ta : ℕ} (goodA : Good R A) (goodB : Good R B)
    (accepted : Did l (Accept r A B k ts ta)) (q : Partner l A B k ts ta) where
  -- The key was issued once.
  same_issue : {p : Log} {a b ts' n' : ℕ} → p ⊑ l → Did p (Issue k a b ts' n') → (A ≡ a) × (B ≡ b) × (ts ≡ ts') × (q.run ≡ n')
  same_issue z h = issue_once w q.issued (did_later z h)

  pub partner_only : {p : Log} → p ⊑ l → (i : ℕ) → Initiator p i A B → Has p i k ts ta → i ≡ q.run
  partner_only z i o (from4 h) =
      let v = trace_at w z in
      sym (same_issue z (authenticate_issued v (rw (authenticate_of v h (of_initiator o)) at goodA) h)).3
  partner_only z i o (from5 h) = absurd (accept_apart (trace_at w z) h o)

  -- No initiator run of B took the key.
  not_both : {p : Log} {i a b ts' ta' : ℕ} → p ⊑ l → B ≡ a → Did p (Authenticate i a b k ts' ta') → A ≡ B
  not_both z e h = (same_issue z (authenticate_issued (trace_at w z) (rw e at goodB) h)).0 ∙ sym e

  pub acceptor_only : {p : Log} → p ⊑ l → (i : ℕ) → RunOf p i B → Has p i k ts ta → i ≡ r
  acceptor_only z i o (from4 h) = absurd ((issue_apart w q.issued).unequal (not_both z (authenticate_of (trace_at w z) h o) h))
  acceptor_only z i o (from5 h) = accept_once w (did_later z (rw (← accept_of (trace_at w z) h o) at h)) accepted

  -- While the key has not leaked, only the partner takes it at step 4 and only the accepting run at step 5.
  module _ {p : Log} (z : p ⊑ l) (unleaked : ¬ (Leaked p k)) where
    taken_by : {i a b ts' ta' : ℕ} → Did p (Authenticate i a b k ts' ta') → q.run ≡ i
    taken_by h = (same_issue z (authenticate_kept (trace_at w z) (kept w goodA goodB q.issued z unleaked) refl h)).3

    same_time : {i a b ts' ta' : ℕ} → q.run ≡ i → Did p (Authenticate i a b k ts' ta') → ta' ≡ ta
    same_time e h = authenticate_once w (did_later z (rw (← e) at h)) q.authenticated

    same_run : {i a b ts' ta' : ℕ} → B ≡ b → ta' ≡ ta → Did p (Accept i a b k ts' ta') → i ≡ r
    same_run eb et h = accept_once w (did_later z (rw (← eb, et) at h)) accepted

    accepted_by : {i a b ts' ta' : ℕ} → Did p (Accept i a b k ts' ta') → i ≡ r
    accepted_by h =
        let v = trace_at w z in
        let safe = kept w goodA goodB q.issued z unleaked in
        let o = accept_authenticated v safe refl h in
        same_run (same_issue z (accept_kept v safe refl h).1).1 (same_time (taken_by o.3) o.3) h

    pub holders : (i : ℕ) → Holds p i k → (i ≡ q.run) ⊎ ((i ≡ r) ⊎ (i ≡ k))
    holders i (from3 h) = inr (inr refl)
    holders i (has (from4 h)) = inl (sym (taken_by h))
    holders i (has (from5 h)) = inr (inl (accepted_by h))
