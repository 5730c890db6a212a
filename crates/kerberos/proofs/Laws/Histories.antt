-- What follows at an acceptance over logs is what is promised over histories. Rules and reading agree.
-- Assumes nothing.
use Rattle.std.specs.Prelude.{ℕ, ◌+◌, ◌<◌, ◌≤◌, ◌≡◌, refl}
use Rattle.std.proofs.Common.{◌∙◌}
use Rattle.std.proofs.Math.Option.{Option, some}
use Rattle.exchange.specs.declared.call.Call.{Call}
use Rattle.traces.specs.Realm.{Realm}
use Rattle.traces.specs.Lists.{here, ◌⊑◌}
use Rattle.traces.specs.Logs.{Did, did, add, start}
use Rattle.traces.proofs.Logs.{did_later, trace_at}
use Rattle.traces.specs.Terms.{given}
use Rattle.traces.specs.RuleSets.{History, Reading, taken, refused}
use Rattle.traces.proofs.Laws.Histories.{log_point, trace_of}
use Rattle.exchange.specs.declared.form.Form.{Form}
use Rattle.kerberos.specs.Log.{Event, Accept, Act, Log, clock}
use Rattle.kerberos.specs.Rules.{Takes, takes_term, takes1, takes2, takes3, takes4, takes5, takes6, takes7, takes8, takes9, takes10}
use Rattle.kerberos.specs.Reading.{act_of, rules, Lawful}
use Rattle.kerberos.specs.Words.{Accepts, accepts5, opened3, from4}
use Rattle.kerberos.specs.Agreement.{Demand3, Secrecy}
use Rattle.kerberos.proofs.Laws.Trace.{Trace}
use Rattle.kerberos.proofs.Laws.Runs.{authenticate_opened, accept_opened}
use Rattle.kerberos.proofs.Laws.Forms.{read_grant}
use Rattle.kerberos.proofs.Laws.Taken.{key_secret}
use Rattle.kerberos.proofs.Laws.Acceptance.{Partner, find_partner, partner_only, acceptor_only, holders}

-- ---- an acceptance

pub accepted_in : {l : Log} {r a b k ts ta : ℕ} → Accepts l r a b k ts ta → Did l (Accept r a b k ts ta)
accepted_in accepts5 = did here

pub accepted_live : {f : Form} {R : Realm} {l : Log} {r a b k ts ta : ℕ}
    → Trace f R l
    → Accepts l r a b k ts ta
    → (clock l < ts + R.ticket_life) × (clock l < ta + R.auth_life) × (ta ≤ clock l + R.auth_life)
accepted_live {R = R} start x3 = elim x3 [ ]
accepted_live {R = R} (add w refused) x8 = elim x8 [ ]
accepted_live {R = R} (add w (taken (takes_term _ _ _))) x25 = elim x25 [ ]
accepted_live {R = R} (add w (taken (takes1 _ _ _ _))) x27 = elim x27 [ ]
accepted_live {R = R} (add w (taken (takes2 _ _ _))) x25 = elim x25 [ ]
accepted_live {R = R} (add w (taken (takes3 _ _ _ _))) x29 = elim x29 [ ]
accepted_live {R = R} (add w (taken (takes4 _ _ _ _ _ _))) x35 = elim x35 [ ]
accepted_live {R = R} (add w (taken (takes6 _ _ _))) x28 = elim x28 [ ]
accepted_live {R = R} (add w (taken (takes7 _))) x23 = elim x23 [ ]
accepted_live {R = R} (add w (taken (takes8 _))) x24 = elim x24 [ ]
accepted_live {R = R} (add w (taken (takes9 _))) x25 = elim x25 [ ]
accepted_live {R = R} (add w (taken (takes10 _))) x29 = elim x29 [ ]
accepted_live (add w (taken (takes5 e d t u v n s z))) accepts5 = (t, u, v)

abbrev partner_later : {p l : Log} {A B k ts ta : ℕ} → p ⊑ l → Partner p A B k ts ta → Partner l A B k ts ta
partner_later s q = record { run = q.run; authenticated = did_later s q.authenticated; issued = did_later s q.issued }

pub agreement : {f : Form} {R : Realm} {h : History} → Lawful f R h → Demand3 f R h
agreement {f} {R} {h} lawful A B goodA goodB r k ts ta acc s x unleaked =
    let w = trace_of (rules f) lawful in
    let z = log_point (rules f) s in
    let v = trace_at w z in
    let i = accepted_in x in
    let q = find_partner v goodA goodB i unleaked in
    let later = partner_later z q in
    record {
      acceptor = accept_opened v i;
      server's = opened3 q.issued;
      live = accepted_live v x;
      partner = q.run;
      one = λ p from to. let a = did_later (log_point (rules f) from) q.authenticated in (authenticate_opened (trace_at w (log_point (rules f) to)) a, from4 a);
      one_only = λ p from to. partner_only w goodA goodB (did_later z i) later (log_point (rules f) to);
      no_other = λ p to. acceptor_only w goodA goodB (did_later z i) later (log_point (rules f) to);
      secret = λ p to. key_secret w goodA goodB later.issued (log_point (rules f) to);
      holders = λ p to. holders w goodA goodB (did_later z i) later (log_point (rules f) to);
    }

-- ---- an unleaked key

pub secrecy : {f : Form} {R : Realm} {h : History} → Lawful f R h → Secrecy f R h
secrecy {f} lawful A B goodA goodB k ts n i p s = key_secret (trace_of (rules f) lawful) goodA goodB i (log_point (rules f) s)

-- ---- a call is read as what the rules take it for

given_some : {A B : Type 0} {o : Option A} {x : A} (d : B) (f : A → B) → o ≡ some x → given o d f ≡ f x
given_some d f e = rw e refl

pub taken_read : {f : Form} {R : Realm} (ρ : Reading Event) {c : Call} {a : Act} → Takes f R ρ.terms ρ.log c a → act_of f c ρ ≡ a
taken_read ρ (takes_term i m z) = refl
taken_read ρ (takes1 i p s z) = refl
taken_read ρ (takes2 i p s) = refl
taken_read ρ (takes3 d p s z) = given_some _ _ d.form
taken_read {f} ρ (takes4 {r} {m} {a} {b} {k} {ts} {n} x e d o t z) = given_some _ _ e ∙ given_some _ _ d.form ∙ read_grant f r _ a b k ts n x
taken_read ρ (takes5 e d t u v n s z) = given_some _ _ e ∙ given_some _ _ d.form
taken_read ρ (takes6 e d t) = given_some _ _ e
taken_read ρ (takes7 h) = refl
taken_read ρ (takes8 h) = refl
taken_read ρ (takes9 e) = refl
taken_read ρ (takes10 d) = refl
