-- What the runs of a trace took, and from whom it came: a good principal's run took what the server issued; and a secret session
-- key was taken by whomever from the server's messages, with authenticators of initiators that took it too.
-- Assumes nothing.
use Rattle.std.specs.Prelude.{ℕ, ◌≡◌, refl, List}
use Rattle.terms.specs.Message.{session, Message, key, pair}
use Rattle.deduction.specs.Derives.{left, right}
use Rattle.traces.specs.Realm.{Realm, Good}
use Rattle.traces.specs.Conditions.{Derivable, Apart}
use Rattle.traces.proofs.Conditions.{derivable_later}
use Rattle.traces.specs.Lists.{◌⊑◌}
use Rattle.traces.specs.Logs.{Did}
use Rattle.traces.proofs.Logs.{past, trace_at}
use Rattle.traces.specs.RuleSets.{taken}
use Rattle.traces.specs.Origins.{Some, by, Safe}
use Rattle.traces.proofs.Laws.Secrecy as secrecy
use Rattle.traces.specs.Laws.Secrecy.{itself, in_left}
use Rattle.traces.proofs.Laws.Secrecy.{issued_safe, made_long_term, made_session, made_showing}
use Rattle.exchange.specs.declared.form.Form.{Form}
use Rattle.kerberos.specs.Messages.{reply, ticket, authenticator}
use Rattle.kerberos.specs.Log.{Issue, Authenticate, Accept, Log}
use Rattle.kerberos.specs.Rules.{takes3, takes4, takes5}
use Rattle.kerberos.specs.Words.{Leaked}
use Rattle.kerberos.proofs.Laws.Trace.{Adds, Trace}
use Rattle.kerberos.proofs.Laws.Made.{tail, Leaks, leaks9, issues3, origins, made_authenticator}
use Rattle.kerberos.proofs.Laws.Forms.{made_ticket, made_reply, grant_reply}
use Rattle.kerberos.proofs.Laws.Sound.{sound}

-- ---- what the rules asked for

asked3 : {f : Form} {R : Realm} {l : Log} {ms : List Message} {k a b ts n : ℕ} → Adds f R l (Issue k a b ts n, ms) → Apart a b
asked3 (taken (takes3 d p s z)) = p

asked4 : {f : Form} {R : Realm} {l : Log} {ms : List Message} {r a b k ts ta : ℕ}
    → Adds f R l (Authenticate r a b k ts ta, ms)
    → (x : Message) × Derivable R l (reply k b ts (tail f r x) a)
asked4 {f} {R} (taken (takes4 {a = a} {b = b} {k = k} {ts = ts} {n = n} x e d o t z)) = (x, rw o at (grant_reply f R k b ts n a x d.derivable))

asked5 : {f : Form} {R : Realm} {l : Log} {ms : List Message} {r a b k ts ta : ℕ}
    → Adds f R l (Accept r a b k ts ta, ms)
    → Derivable R l (pair (ticket k a ts b) (authenticator a ta k))
asked5 (taken (takes5 e d t u v n s z)) = d.derivable

module _ {f : Form} {R : Realm} {l : Log} (w : Trace f R l) where
  pub issue_apart : {k a b ts n : ℕ} → Did l (Issue k a b ts n) → Apart a b
  issue_apart i = asked3 (past w i).adds

  took_reply : {r a b k ts ta : ℕ} → Did l (Authenticate r a b k ts ta) → (x : Message) × Derivable R l (reply k b ts (tail f r x) a)
  took_reply i = let p = past w i in let d = asked4 p.adds in (d.0, derivable_later R p.point d.1)

  took_ticket : {r a b k ts ta : ℕ} → Did l (Accept r a b k ts ta) → Derivable R l (pair (ticket k a ts b) (authenticator a ta k))
  took_ticket i = let p = past w i in derivable_later R p.point (asked5 p.adds)

  -- ---- a good principal's run took what the server issued: an initiator's for its own nonce

  pub authenticate_issued : {r a b k ts ta : ℕ} → Good R a → Did l (Authenticate r a b k ts ta) → Did l (Issue k a b ts r)
  authenticate_issued {r} g i = let d = took_reply i in made_reply f r d.0 (made_long_term (sound f R) w g d.1)

  pub accept_issued : {r a b k ts ta : ℕ} → Good R b → Did l (Accept r a b k ts ta) → (n : ℕ) × Did l (Issue k a b ts n)
  accept_issued g i = made_ticket f (made_long_term (sound f R) w g (left (took_ticket i)))

  -- ---- a secret session key

  module _ {X : ℕ → Type 0} (safe : Safe (origins f) R l X) {k : ℕ} (x : X k) where
    -- An initiator run took it from a reply of the server's to its own nonce,
    pub authenticate_kept : {r a b ts ta : ℕ} → Did l (Authenticate r a b k ts ta) → Did l (Issue k a b ts r)
    authenticate_kept {r} i = let d = took_reply i in made_reply f r d.0 (made_showing (sound f R) w safe x (in_left itself) d.1)

    -- a responder run from a ticket of the server's,
    pub accept_kept : {r a b ts ta : ℕ} → Did l (Accept r a b k ts ta) → (n : ℕ) × Did l (Issue k a b ts n)
    accept_kept i = made_ticket f (made_showing (sound f R) w safe x (in_left itself) (left (took_ticket i)))

    -- with an authenticator of an initiator run that took it.
    pub accept_authenticated : {r a b ts ta : ℕ} → Did l (Accept r a b k ts ta) → (i : ℕ) × (b' : ℕ) × (ts' : ℕ) × Did l (Authenticate i a b' k ts' ta)
    accept_authenticated i = made_authenticator (made_session (sound f R) w safe x (right (took_ticket i)))

-- ---- a key issued to two good principals, at a point p at which it has not leaked

leaked_in : {l : Log} {k : ℕ} → Some l (λ e. Leaks e k) → Leaked l k
leaked_in (by i leaks9) = i

module _ {f : Form} {R : Realm} {l p : Log} (w : Trace f R l) {A B k ts n : ℕ} (goodA : Good R A) (goodB : Good R B) (issued : Did l (Issue k A B ts n))
    (s : p ⊑ l) (unleaked : ¬ (Leaked p k)) where
  pub kept : Safe (origins f) R p (λ i. i ≡ k)
  kept = issued_safe (sound f R) w goodA goodB (by issued issues3) s (λ h. unleaked (leaked_in h))

  pub key_secret : ¬ (Derivable R p (key (session k)))
  key_secret d = secrecy.key_secret (sound f R) (trace_at w s) kept refl d
