-- Each entry of the replay cache comes from an acceptance, since step 5 alone puts one there.
-- Assumes nothing.
use Rattle.std.specs.Prelude.{ℕ, ◌+◌, ◌≡◌, refl, Bool, true, false, ◌&&◌, cond, List, [], ◌∷◌, ◌++◌, ◌⊎◌, leb, eqb}
use Rattle.std.proofs.Common.{sym, subst, inl, inr, ⊎_elim}
use Rattle.terms.specs.Message.{Message}
use Rattle.traces.specs.Realm.{Realm}
use Rattle.traces.specs.Lists.{◌∈◌, here, there, ◌⊑◌, now, before}
use Rattle.traces.proofs.Logs.{trace_at}
use Rattle.traces.specs.RuleSets.{History, Entry, entry}
use Rattle.traces.proofs.Laws.Histories.{log_point, point_of, trace_of}
use Rattle.exchange.specs.declared.form.Form.{Form}
use Rattle.kerberos.specs.Log.{Event, Initiate, Respond, Issue, Authenticate, Accept, Finish, Tick, Purge, Leak, Nothing, Log, clock, forget, cache_after, cache}
use Rattle.kerberos.specs.Reading.{rules, log, Lawful}
use Rattle.kerberos.specs.Words.{Accepts, accepts5}
use Rattle.kerberos.specs.Entries.{Entries}
use Rattle.kerberos.proofs.Laws.Acceptance.{find_partner}
use Rattle.kerberos.proofs.Laws.Histories.{accepted_in, accepted_live}
use Rattle.kerberos.proofs.Laws.Taken.{accept_issued}

-- ---- what a purge leaves was there

passed : {x : Entry} (goes : Bool) (y : Entry) (c : List Entry) → x ∈ cond goes c (y ∷ c) → x ∈ (y ∷ c)
passed true y c i = there i
passed false y c i = i

in_tail : {x y : Entry} {c d : List Entry} → (x ∈ c → x ∈ d) → x ∈ (y ∷ c) → x ∈ (y ∷ d)
in_tail f here = here
in_tail f (there i) = there (f i)

of_kept : {x : Entry} (b t life : ℕ) (c : List Entry) → x ∈ forget b t life c → x ∈ c
of_kept b t life [] i = elim i [ ]
of_kept b t life (entry b' k ta ∷ c) i =
    in_tail (of_kept b t life c) (passed (eqb b' b && leb (ta + life) t) (entry b' k ta) (forget b t life c) i)

-- ---- an entry is an older one, or its acceptance is the newest call

record Newest (e : Event) (b k ta : ℕ) : Type 0 where
  r : ℕ
  a : ℕ
  ts : ℕ
  is : e ≡ Accept r a b k ts ta

in_split : {x y : Entry} (c : List Entry) → x ∈ (c ++ (y ∷ [])) → (x ∈ c) ⊎ (x ≡ y)
in_split {y = y} [] (there i) = elim i [ ]
in_split [] here = inr refl
in_split (z ∷ c) here = inl here
in_split (z ∷ c) (there i) = ⊎_elim (λ j. inl (there j)) inr (in_split c i)

came : {b k ta : ℕ} (R : Realm) (t : ℕ) (e : Event) (c : List Entry) → entry b k ta ∈ cache_after R t e c → (entry b k ta ∈ c) ⊎ Newest e b k ta
came R t (Initiate r a b) c i = inl i
came R t (Respond r a b) c i = inl i
came R t (Issue r a b ts n) c i = inl i
came R t (Authenticate r a b k ts ta) c i = inl i
came R t (Accept r a b k ts ta) c i = ⊎_elim inl (λ q. inr (record { r = r; a = a; ts = ts; is = cc })) (in_split c i)
came R t (Finish r a b k ts ta) c i = inl i
came R t (Tick t') c i = inl i
came R t (Purge b) c i = inl (of_kept b t R.auth_life c i)
came R t (Leak r) c i = inl i
came R t Nothing c i = inl i

-- ---- so there is a point of the log right after its acceptance

record Accepted (l : Log) (b k ta : ℕ) : Type 0 where
  at : Log
  point : at ⊑ l
  r : ℕ
  a : ℕ
  ts : ℕ
  accepts : Accepts at r a b k ts ta

accepted_now : {l : Log} {e : Event} {ms : List Message} {b k ta : ℕ} → Newest e b k ta → Accepted ((e, ms) ∷ l) b k ta
accepted_now {l} {e} {ms} {b} {k} {ta} n =
    rw n.is (record { at = (Accept n.r n.a b k n.ts ta, ms) ∷ l; point = now; r = n.r; a = n.a; ts = n.ts; accepts = accepts5 })

accepted_later : {l : Log} {e : Event} {ms : List Message} {b k ta : ℕ} → Accepted l b k ta → Accepted ((e, ms) ∷ l) b k ta
accepted_later p = record { at = p.at; point = before p.point; r = p.r; a = p.a; ts = p.ts; accepts = p.accepts }

logged : {b k ta : ℕ} (R : Realm) (l : Log) → entry b k ta ∈ cache R l → Accepted l b k ta
logged {b = b} {k = k} {ta = ta} R [] i = elim i [ ]
logged R ((e, ms) ∷ l) i = ⊎_elim (λ j. accepted_later (logged R l j)) accepted_now (came R (clock l) e (cache R l) i)

-- ---- and of the list of calls

pub entered : {f : Form} {R : Realm} {h : History} → Lawful f R h → Entries f R h
entered {f} {R} {h} lawful b k ta i =
    let p = logged R (log f h) i in
    let q = point_of (rules f) h p.point in
    let x = subst (λ (l : Log). Accepts l p.r p.a b k p.ts ta) (sym q.is) p.accepts in
    let v = trace_at (trace_of (rules f) lawful) (log_point (rules f) q.point) in
    let live = accepted_live v x in
    record {
      acc = q.at;
      point = q.point;
      r = p.r;
      a = p.a;
      ts = p.ts;
      accepted = x;
      timely = (live.1, live.2);
      issued = λ good. accept_issued v good (accepted_in x);
      own = λ goodA goodB unleaked. let o = find_partner v goodA goodB (accepted_in x) unleaked in (o.run, o.authenticated);
    }
