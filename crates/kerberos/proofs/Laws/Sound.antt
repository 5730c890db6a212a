-- The rules are sound: a key is issued once, and each call sends only guarded messages wherever all that could be
-- derived before it is guarded. What differs by the form is in Forms.
-- Assumes nothing.
use Rattle.std.specs.Prelude.{ℕ, ◌<◌, ◌≡◌, List}
use Rattle.terms.specs.Message.{Message}
use Rattle.traces.specs.Realm.{Realm}
use Rattle.traces.specs.Conditions.{Derivable}
use Rattle.traces.specs.Lists.{◌∈◌, here, there}
use Rattle.traces.specs.Logs.{Did}
use Rattle.traces.specs.RuleSets.{taken, refused}
use Rattle.traces.proofs.Secrets.{under_long_term, under_session}
use Rattle.traces.specs.Origins as theory
use Rattle.traces.specs.Origins.{Some, by, Safe, Sound}
use Rattle.exchange.specs.declared.form.Form.{Form}
use Rattle.kerberos.specs.Messages.{reply, ticket, authenticator, confirmation}
use Rattle.kerberos.specs.Log.{Event, Issue, Authenticate, Accept, Log}
use Rattle.kerberos.specs.Rules.{takes1, takes3, takes4, takes5, takes9, takes10, takes2, takes6, takes7, takes8, takes_term}
use Rattle.kerberos.proofs.Laws.Trace.{Adds, Trace}
use Rattle.kerberos.proofs.Laws.Runs.{issue_once}
use Rattle.kerberos.proofs.Laws.Made.{tail, Made, makes_reply, makes_ticket, makes_authenticator, makes_confirmation, leaks9, Issues, issues3, origins}
use Rattle.kerberos.proofs.Laws.Forms.{tail_fine, issue_fine, presented_fine}

issues_low : {f : Form} {R : Realm} {l : Log} {e : Event} {ms : List Message} {k a b : ℕ} → Adds f R l (e, ms) → Issues e k a b → k < 64
issues_low {R = R} refused x5 = elim x5 [ ]
issues_low {R = R} (taken (takes_term _ _ _)) x26 = elim x26 [ ]
issues_low {R = R} (taken (takes1 _ _ _ _)) x28 = elim x28 [ ]
issues_low {R = R} (taken (takes2 _ _ _)) x25 = elim x25 [ ]
issues_low {R = R} (taken (takes4 _ _ _ _ _ _)) x37 = elim x37 [ ]
issues_low {R = R} (taken (takes5 _ _ _ _ _ _ _ _)) x47 = elim x47 [ ]
issues_low {R = R} (taken (takes6 _ _ _)) x28 = elim x28 [ ]
issues_low {R = R} (taken (takes7 _)) x21 = elim x21 [ ]
issues_low {R = R} (taken (takes8 _)) x22 = elim x22 [ ]
issues_low {R = R} (taken (takes9 _)) x23 = elim x23 [ ]
issues_low {R = R} (taken (takes10 _)) x28 = elim x28 [ ]
issues_low (taken (takes3 d p s f)) issues3 = s

issues_once : {f : Form} {R : Realm} {l : Log} {k a b a' b' : ℕ} → Trace f R l → Some l (λ e. Issues e k a b) → Some l (λ e. Issues e k a' b') → (a ≡ a') × (b ≡ b')
issues_once w (by i issues3) (by j issues3) = let e = issue_once w i j in (e.0, e.1)

-- ---- the parts are guarded

module _ (f : Form) (R : Realm) (X : ℕ → Type 0) (l : Log) (safe : Safe (origins f) R l X) where
  abbrev Fine : Message → Type 0
  Fine m = theory.Fine (origins f) R l X m

  ticket_fine : {k a b ts n : ℕ} → Did l (Issue k a b ts n) → Fine (ticket k a ts b)
  ticket_fine {k} {a} {b} i =
      under_long_term R X (Made f l) b _ (by i makes_ticket) (λ bad. ((λ x. (safe.issued_to_good k a b (by i issues3) x).1 bad), (tt, tt)))

  reply_fine : (k a b ts n : ℕ) → Did l (Issue k a b ts n) → Fine (reply k b ts (tail f n (ticket k a ts b)) a)
  reply_fine k a b ts n i =
      under_long_term R X (Made f l) a _ (by i makes_reply)
      (λ bad. ((λ x. (safe.issued_to_good k a b (by i issues3) x).0 bad), (tt, (tt, tail_fine R X l f n (ticket k a ts b) (ticket_fine i)))))

  authenticator_fine : {r a b k ts ta : ℕ} → Did l (Authenticate r a b k ts ta) → Fine (authenticator a ta k)
  authenticator_fine {k = k} i = under_session R X (Made f l) k _ (safe.decide k) (by i makes_authenticator) (tt, tt)

  confirmation_fine : {r a b k ts ta : ℕ} → Did l (Accept r a b k ts ta) → Fine (confirmation ta k)
  confirmation_fine {k = k} i = under_session R X (Made f l) k _ (safe.decide k) (by i makes_confirmation) tt

-- ---- what a call sends is guarded, if all that could be derived before it is

guards : (f : Form) (R : Realm) (X : ℕ → Type 0) {l p : Log} {e : Event} {ms : List Message} {m : Message}
    → Safe (origins f) R l X
    → Did l e
    → ((x : Message) → Derivable R p x → theory.Fine (origins f) R l X x)
    → Adds f R p (e, ms)
    → m ∈ ms
    → theory.Fine (origins f) R l X m
guards f R X safe i before refused h = elim h [ ]
guards f R X safe i before (taken (takes_term _ _ _)) h = elim h [ ]
guards f R X safe i before (taken (takes1 v p s z)) (there x23) = elim x23 [ ]
guards f R X safe i before (taken (takes2 _ _ _)) h = elim h [ ]
guards f R X safe i before (taken (takes5 q d t u v n s z)) (there x25) = elim x25 [ ]
guards f R X safe i before (taken (takes6 _ _ _)) h = elim h [ ]
guards f R X safe i before (taken (takes7 _)) h = elim h [ ]
guards f R X safe i before (taken (takes8 _)) h = elim h [ ]
guards f R X safe i before (taken (takes9 q)) (there x29) = elim x29 [ ]
guards f R X safe i before (taken (takes10 _)) h = elim h [ ]
guards f R X safe i before (taken (takes1 v p s z)) here = (tt, (tt, tt))
guards f R X {l = l} safe i before (taken (takes3 {a = a} {b = b} {n = n} d p s z)) h =
    issue_fine R X l f _ a b _ n (reply_fine f R X l safe _ a b _ n i) (ticket_fine f R X l safe i) h
guards f R X {l = l} safe i before (taken (takes4 {a = a} {b = b} {k = k} {ts = ts} {n = n} x q d o t z)) h =
    presented_fine R X l f a b k ts n _ x (λ k a b ts n j. ticket_fine f R X l safe j) (before _ d.derivable) (authenticator_fine f R X l safe i) h
guards f R X {l = l} safe i before (taken (takes5 q d t u v n s z)) here = confirmation_fine f R X l safe i
guards f R X safe i before (taken (takes9 {r} q)) here = safe.not_leaked r (by i leaks9)

pub sound : (f : Form) (R : Realm) → Sound (origins f) R (Adds f R)
sound f R = record { issues_low = issues_low; issues_once = issues_once; guards = λ safe i before t h. guards f R _ safe i before t h }
