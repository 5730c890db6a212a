-- What the rows of the table of runs tell. A run is opened once and takes its values once, and the run that took a key was opened
-- for its principals: read off the one row that tells both events.
-- Assumes nothing.
use Rattle.std.specs.Prelude.{ℕ, ◌≡◌, refl, List, [], ◌∷◌}
use Rattle.std.proofs.Math.Option.{Option, none, some}
use Rattle.terms.specs.Message.{Message}
use Rattle.traces.specs.Realm.{Realm}
use Rattle.traces.specs.Lists.{◌∈◌, here, there}
use Rattle.traces.specs.Logs.{Did}
use Rattle.traces.specs.Rows.{RowEffect, moved, rested, Telling}
use Rattle.traces.proofs.Rows.{change_append, change_set, recorded, traced}
use Rattle.traces.specs.RuleSets.{refused, taken}
use Rattle.exchange.specs.declared.form.Form.{Form}
use Rattle.kerberos.specs.Log.{Event, Initiate, Respond, Issue, Authenticate, Accept, Finish, Tick, Purge, Leak, Nothing, Log, runs, run}
use Rattle.kerberos.specs.Log.{Run, initiator_opened, initiator_authenticated, initiator_done, responder_opened, responder_done, server_done}
use Rattle.kerberos.specs.Rules.{takes_term, takes1, takes2, takes3, takes4, takes5, takes6, takes7, takes8, takes9, takes10}
use Rattle.kerberos.specs.Words.{RunOf, of_initiator, of_responder, of_server}
use Rattle.kerberos.proofs.Laws.Trace.{Adds, Trace}

-- ---- what a row tells

-- the run that an event is of
abbrev of : Event → Option ℕ
of (Initiate r a b) = some r
of (Respond r a b) = some r
of (Issue r a b ts n) = some r
of (Authenticate r a b k ts ta) = some r
of (Accept r a b k ts ta) = some r
of (Finish r a b k ts ta) = some r
of (Tick t) = none
of (Purge b) = none
of (Leak r) = none
of Nothing = none

-- what run r did, the newest first
abbrev story : ℕ → Option Run → List Event
story r none = []
story r (some (initiator_opened a b)) = Initiate r a b ∷ []
story r (some (initiator_authenticated a b k ts ta)) = Authenticate r a b k ts ta ∷ Initiate r a b ∷ []
story r (some (initiator_done a b k ts ta)) = Finish r a b k ts ta ∷ Authenticate r a b k ts ta ∷ Initiate r a b ∷ []
story r (some (responder_opened a b)) = Respond r a b ∷ []
story r (some (responder_done a b k ts ta)) = Accept r a b k ts ta ∷ Respond r a b ∷ []
story r (some (server_done a b k ts n)) = Issue r a b ts n ∷ []

effect : {f : Form} {R : Realm} {l : Log} {e : Event} {ms : List Message} → Adds f R l (e, ms) → RowEffect of story e (runs l) (runs ((e, ms) ∷ l))
effect refused = rested refl refl
effect (taken (takes_term i h f)) = rested refl refl
effect {l = l} (taken (takes1 i p s f)) = moved refl (change_append (runs l) _) refl
effect {l = l} (taken (takes2 i p s)) = moved refl (change_append (runs l) _) refl
effect {l = l} (taken (takes3 d p s f)) = moved refl (change_append (runs l) _) refl
effect {l = l} (taken (takes4 x e d o t f)) = moved refl (change_set (runs l) _ _ e) refl
effect {l = l} (taken (takes5 e d t u v n s f)) = moved refl (change_set (runs l) _ _ e) refl
effect {l = l} (taken (takes6 e d t)) = moved refl (change_set (runs l) _ _ e) refl
effect (taken (takes7 h)) = rested refl refl
effect (taken (takes8 h)) = rested refl refl
effect (taken (takes9 e)) = rested refl refl
effect (taken (takes10 d)) = rested refl refl

telling : (f : Form) (R : Realm) → Telling (Adds f R) runs of story
telling f R = record { no_runs = refl; no_story = λ r. refl; effect = effect }

-- the same for matching
data Tells (r : ℕ) : Option Run → Event → Type 0 where
  opened_initiate : {a b : ℕ} → Tells r (some (initiator_opened a b)) (Initiate r a b)
  authenticated_initiate : {a b k ts ta : ℕ} → Tells r (some (initiator_authenticated a b k ts ta)) (Initiate r a b)
  authenticated : {a b k ts ta : ℕ} → Tells r (some (initiator_authenticated a b k ts ta)) (Authenticate r a b k ts ta)
  done_initiate : {a b k ts ta : ℕ} → Tells r (some (initiator_done a b k ts ta)) (Initiate r a b)
  done_authenticate : {a b k ts ta : ℕ} → Tells r (some (initiator_done a b k ts ta)) (Authenticate r a b k ts ta)
  done : {a b k ts ta : ℕ} → Tells r (some (initiator_done a b k ts ta)) (Finish r a b k ts ta)
  opened_respond : {a b : ℕ} → Tells r (some (responder_opened a b)) (Respond r a b)
  accepted_respond : {a b k ts ta : ℕ} → Tells r (some (responder_done a b k ts ta)) (Respond r a b)
  accepted : {a b k ts ta : ℕ} → Tells r (some (responder_done a b k ts ta)) (Accept r a b k ts ta)
  issued : {a b k ts n : ℕ} → Tells r (some (server_done a b k ts n)) (Issue r a b ts n)

tells : {r : ℕ} {e : Event} (x : Option Run) → e ∈ story r x → Tells r x e
tells none x'' = elim x'' [ ]
tells (some (initiator_opened a b)) (there x10) = elim x10 [ ]
tells (some (initiator_authenticated a b k ts ta)) (there (there x16)) = elim x16 [ ]
tells (some (initiator_done a b k ts ta)) (there (there (there x22))) = elim x22 [ ]
tells (some (responder_opened a b)) (there x13) = elim x13 [ ]
tells (some (responder_done a b k ts ta)) (there (there x19)) = elim x19 [ ]
tells (some (server_done a b k ts n)) (there x15) = elim x15 [ ]
tells (some (initiator_opened a b)) here = opened_initiate
tells (some (initiator_authenticated a b k ts ta)) here = authenticated
tells (some (initiator_authenticated a b k ts ta)) (there here) = authenticated_initiate
tells (some (initiator_done a b k ts ta)) here = done
tells (some (initiator_done a b k ts ta)) (there here) = done_authenticate
tells (some (initiator_done a b k ts ta)) (there (there here)) = done_initiate
tells (some (responder_opened a b)) here = opened_respond
tells (some (responder_done a b k ts ta)) here = accepted
tells (some (responder_done a b k ts ta)) (there here) = accepted_respond
tells (some (server_done a b k ts n)) here = issued

-- The event opens run r, a run of the principal p.
data Opens (r : ℕ) : Event → ℕ → Type 0 where
  by1 : {a b : ℕ} → Opens r (Initiate r a b) a
  by2 : {a b : ℕ} → Opens r (Respond r a b) b
  by3 : {a b ts n : ℕ} → Opens r (Issue r a b ts n) 0

-- ---- what one row tells

issue_same : {r s s' a b ts n a' b' ts' n' : ℕ} {x : Option Run}
    → Tells r x (Issue s a b ts n)
    → Tells r x (Issue s' a' b' ts' n')
    → (a ≡ a') × (b ≡ b') × (ts ≡ ts') × (n ≡ n')
issue_same issued issued = (refl, refl, refl, refl)

authenticate_same : {r s s' a b k ts ta a' b' k' ts' ta' : ℕ} {x : Option Run}
    → Tells r x (Authenticate s a b k ts ta)
    → Tells r x (Authenticate s' a' b' k' ts' ta')
    → ta ≡ ta'
authenticate_same authenticated authenticated = refl
authenticate_same done_authenticate done_authenticate = refl

authenticate_initiate : {r s a b k ts ta : ℕ} {x : Option Run} → Tells r x (Authenticate s a b k ts ta) → Initiate s a b ∈ story r x
authenticate_initiate authenticated = there here
authenticate_initiate done_authenticate = there (there here)

accept_respond : {r s a b k ts ta : ℕ} {x : Option Run} → Tells r x (Accept s a b k ts ta) → Respond s a b ∈ story r x
accept_respond accepted = there here

authenticate_opens : {r s s' a b k ts ta p : ℕ} {x : Option Run} {e : Event} → Tells r x (Authenticate s a b k ts ta) → Tells r x e → Opens s' e p → p ≡ a
authenticate_opens authenticated authenticated x30 = elim x30 [ ]
authenticate_opens done_authenticate done_authenticate x31 = elim x31 [ ]
authenticate_opens done_authenticate done x32 = elim x32 [ ]
authenticate_opens authenticated authenticated_initiate by1 = refl
authenticate_opens done_authenticate done_initiate by1 = refl

accept_opens : {r s s' a b k ts ta p : ℕ} {x : Option Run} {e : Event} → Tells r x (Accept s a b k ts ta) → Tells r x e → Opens s' e p → p ≡ b
accept_opens accepted accepted x30 = elim x30 [ ]
accept_opens accepted accepted_respond by2 = refl

apart : {r s s' a b k ts ta a' b' : ℕ} {x : Option Run} → Tells r x (Accept s a b k ts ta) → Tells r x (Initiate s' a' b') → ⊥
apart accepted h = elim h [ ]

-- ---- what a log holds

module _ {f : Form} {R : Realm} {l : Log} (w : Trace f R l) where
  told : {e : Event} (r : ℕ) → Did l e → of e ≡ some r → Tells r (run l r) e
  told r i h = tells (run l r) (recorded (telling f R) w i h)

  pub issue_once : {k a b ts n a' b' ts' n' : ℕ} → Did l (Issue k a b ts n) → Did l (Issue k a' b' ts' n') → (a ≡ a') × (b ≡ b') × (ts ≡ ts') × (n ≡ n')
  issue_once i j = issue_same (told _ i refl) (told _ j refl)

  pub authenticate_once : {r a b k ts ta a' b' k' ts' ta' : ℕ} → Did l (Authenticate r a b k ts ta) → Did l (Authenticate r a' b' k' ts' ta') → ta ≡ ta'
  authenticate_once i j = authenticate_same (told _ i refl) (told _ j refl)

  pub authenticate_opened : {r a b k ts ta : ℕ} → Did l (Authenticate r a b k ts ta) → Did l (Initiate r a b)
  authenticate_opened i = traced (telling f R) w (authenticate_initiate (told _ i refl))

  pub accept_opened : {r a b k ts ta : ℕ} → Did l (Accept r a b k ts ta) → Did l (Respond r a b)
  accept_opened i = traced (telling f R) w (accept_respond (told _ i refl))

  pub accept_apart : {r a b k ts ta a' b' : ℕ} → Did l (Accept r a b k ts ta) → Did l (Initiate r a' b') → ⊥
  accept_apart i j = apart (told _ i refl) (told _ j refl)

  -- the principal whose run it is
  pub authenticate_of : {r a b k ts ta p : ℕ} → Did l (Authenticate r a b k ts ta) → RunOf l r p → p ≡ a
  authenticate_of i (of_initiator j) = authenticate_opens (told _ i refl) (told _ j refl) by1
  authenticate_of i (of_responder j) = authenticate_opens (told _ i refl) (told _ j refl) by2
  authenticate_of i (of_server j) = authenticate_opens (told _ i refl) (told _ j refl) by3

  pub accept_of : {r a b k ts ta p : ℕ} → Did l (Accept r a b k ts ta) → RunOf l r p → p ≡ b
  accept_of i (of_initiator j) = accept_opens (told _ i refl) (told _ j refl) by1
  accept_of i (of_responder j) = accept_opens (told _ i refl) (told _ j refl) by2
  accept_of i (of_server j) = accept_opens (told _ i refl) (told _ j refl) by3
