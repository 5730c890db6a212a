-- What follows from the definitions of the same name in specs/.
-- Assumes nothing.
use Rattle.std.specs.Prelude.{ℕ, ◌-◌, ◌^◌, ◌<◌, ◌≡◌, true, false, List, [], ◌∷◌, map, Ok, Err}
use Rattle.std.proofs.Math.Path.{refl, subst}
use Rattle.std.proofs.Common.{sym, ap, ◌∙◌, arith}
use Rattle.words.specs.Word.{packed}
use Rattle.terms.specs.Add.{add_of, AddsTerm}
use Rattle.terms.proofs.Add.{adds}
use Rattle.terms.proofs.Choice.{no_true}
use Rattle.terms.specs.Outcome as terms
use Rattle.terms.specs.Message.{Message}
use Rattle.messages.specs.Listed.{add_all}
use Rattle.messages.specs.Meanings.{meanings}
use Rattle.rows.specs.Rows.{rows_of}
use Rattle.replay.specs.Cache.{entries}
use Rattle.exchange.specs.declared.call.Call.{Call}
use Rattle.exchange.specs.declared.call.Call.TheVariants as calls
use Rattle.exchange.specs.Calls.{accepts, Sized}
use Rattle.traces.specs.Engines.{Agrees, Engine}
use Rattle.traces.specs.Logs.{OnWire, sent as on_wire}
use Rattle.traces.specs.Realm.{Realm}
use Rattle.traces.specs.RuleSets.{Reading, empty, read, Taken}
use Rattle.kerberos.specs.Log.{Event, Act, Log}
use Rattle.exchange.specs.Forms.{form_of}
use Rattle.kerberos.specs.Reading.{set_of}
use Rattle.kerberos.specs.Rules.{Takes}
use Rattle.kerberos.proofs.Theorems.{rules_read}
use Rattle.realm.specs.declared.input.Step.{Step}
use Rattle.realm.specs.Fields.{call_of}
use Rattle.realm.specs.declared.header.Realm as realms
use Rattle.realm.specs.New.{Lends}
use Rattle.realm.proofs.New.{opened_is, new_together}
use Rattle.exchange.specs.declared.header.Header.{Header}
use Rattle.realm.specs.Opening.{header, new_realm, opening_of}
use Rattle.realm.specs.Tables.{Tables}
use Rattle.decisions.specs.Decision.{decision, Verdict}
use Rattle.decisions.proofs.Laws.Verdict.{decision_takes}
use Rattle.effects.specs.Apply.{applied}
use Rattle.simulation.proofs.Follows.{refused_agrees}
use Rattle.simulation.proofs.Taken.{step_taken, step_agrees}
use Rattle.simulation.proofs.Terms.{term_takes, term_agrees}
use Rattle.simulation.specs.Values.{logged, values_of}
use Rattle.effects.proofs.Kept.{number_accepts}
use Rattle.effects.specs.Call.{adding, with_adding, by_verdict, stepped, called}
use Rattle.simulation.proofs.Kept.{step_sends, call_kept}
use Rattle.simulation.specs.Engine.{Follows, New}

-- the part of it that is about the reading
pub record Matches (R : Realm) (t : Tables) (ρ : Reading Event) : Type 0 where
  pub header_is : header t.realm ≡ R
  pub agrees : Agrees (set_of R) R (values_of R t) ρ

-- ---- a call that is refused

kept : {R : Realm} {t : Tables} {ρ : Reading Event} (c : Call) → Follows R t ρ → Matches R t (read (set_of R) false c ρ)
kept {ρ = ρ} c f = record { header_is = f.header_is; agrees = refused_agrees ρ f.agrees }

-- ---- a step

-- what a reading becomes by this act
abbrev acted : Reading Event → Act → Reading Event
acted ρ a = record { log = a ∷ ρ.log; terms = add_all a.1 ρ.terms }

module _ {R : Realm} {t : Tables} {ρ : Reading Event} (f : Follows R t ρ) (s : Step) where
  by_verdict_lem : (v : Verdict) → decision t s ≡ v → Matches R (by_verdict t v).tables (read (set_of R) (accepts (by_verdict t v).answer) (call_of s) ρ)
  unfolding applied
  by_verdict_lem (Ok x) d =
      let p = (decision_takes t s d).0 in
      let o = step_sends t s d in
      subst (λ (a : Act). Matches R (applied t x).tables (acted ρ a)) (sym (rules_read ρ (step_taken f.together s p o f.header_is ρ f.agrees)))
      (record { header_is = f.header_is; agrees = step_agrees f.together s p o f.header_is ρ f.agrees })
  by_verdict_lem (Err k) d = kept (call_of s) f

  pub step_matches : Matches R (stepped t s).tables (read (set_of R) (accepts (stepped t s).answer) (call_of s) ρ)
  unfolding stepped
  step_matches = by_verdict_lem (decision t s) refl

  verdict_takes : (v : Verdict) → decision t s ≡ v → accepts (by_verdict t v).answer ≡ true → Taken (set_of R) R ρ (call_of s)
  verdict_takes (Ok x) d a =
      let k = step_taken f.together s (decision_takes t s d).0 (step_sends t s d) f.header_is ρ f.agrees in
      subst (Takes (form_of R.rules) R ρ.terms ρ.log (call_of s)) (sym (rules_read ρ k)) k
  verdict_takes (Err k) d a = no_true a

-- ---- a term

module _ {R : Realm} {t : Tables} {ρ : Reading Event} (f : Follows R t ρ) (kind l r : ℕ) (size : Sized (calls.Term kind l r)) where
  by_adding : (a : terms.TermAnswer) (count : ℕ) (ts : List ℕ)
      → add_of t.realm.n t.terms t.realm.terms (packed kind l r) ≡ record { answer = a; count = count; table = ts }
      → let o = with_adding t (adding t.realm (record { answer = a; count = count; table = ts })) in Matches R o.tables (read (set_of R) (accepts o.answer) (calls.Term kind l r) ρ)
  by_adding (terms.number i) count ts e =
      rw (number_accepts i (count - t.realm.terms)) (record { header_is = f.header_is; agrees = term_agrees f.together kind l r size e ρ f.agrees f.header_is })
  by_adding (terms.refused k) count ts e =
      let same = (subst (AddsTerm t.realm.n t.terms t.realm.terms (packed kind l r)) e (adds f.together.terms_hold (packed kind l r))).is in
      rw (same.0, same.1) (kept (calls.Term kind l r) f)

  adding_takes : (a : terms.TermAnswer) (count : ℕ) (ts : List ℕ)
      → add_of t.realm.n t.terms t.realm.terms (packed kind l r) ≡ record { answer = a; count = count; table = ts }
      → accepts (with_adding t (adding t.realm (record { answer = a; count = count; table = ts }))).answer ≡ true → Taken (set_of R) R ρ (calls.Term kind l r)
  adding_takes (terms.number i) count ts e a = term_takes f.together kind l r size e ρ f.agrees f.header_is
  adding_takes (terms.refused k) count ts e a = no_true a

-- ---- any call

pub call_matches : {R : Realm} (t : Tables) (ρ : Reading Event) (c : Call) → Sized c → Follows R t ρ → Matches R (called t c).tables (read (set_of R) (accepts (called t c).answer) c ρ)
unfolding called
call_matches t ρ (calls.Term kind l r) size f = by_adding f kind l r size _ _ _ refl
call_matches t ρ (calls.Step step run a b m time) size f = step_matches f (record { step = step; run = run; a = a; b = b; m = m; t = time })

pub call_follows : {R : Realm} (t : Tables) (ρ : Reading Event) (c : Call) → Sized c → Follows R t ρ → Follows R (called t c).tables (read (set_of R) (accepts (called t c).answer) c ρ)
call_follows t ρ c size f =
    let m = call_matches t ρ c size f in
    record { header_is = m.header_is; together = call_kept t c size f.together; agrees = m.agrees }

pub call_takes : {R : Realm} (t : Tables) (ρ : Reading Event) (c : Call) → Sized c → Follows R t ρ → accepts (called t c).answer ≡ true → Taken (set_of R) R ρ c
unfolding called stepped
call_takes t ρ (calls.Term kind l r) size f a = adding_takes f kind l r size _ _ _ refl a
call_takes t ρ (calls.Step step run x y m time) size f a =
    let s : Step = record { step = step; run = run; a = x; b = y; m = m; t = time } in
    verdict_takes f s (decision t s) refl a

-- ---- a new realm

-- what a caller lends for a realm that `open_realm` gave is a new realm
pub opened_new : (g : Header) (h : realms.Realm) (t : Tables) → g.ls < 2 ^ 32 → g.la < 2 ^ 32 → opening_of g ≡ Ok h → Lends h t → New (header h) t
opened_new g h t hs ha o l =
    let is : new_realm g ≡ t.realm = (opened_is g h o).1 ∙ sym l.realm_is in
    record {
      header_is = ap header l.realm_is;
      together = new_together g h t hs ha o l;
      clock = ap (λ (x : realms.Realm). x.clock) (sym is);
      terms = ap (λ (x : realms.Realm). x.terms) (sym is);
      runs = ap (λ (x : realms.Realm). x.runs) (sym is);
      entries = ap (λ (x : realms.Realm). x.entries) (sym is);
    }

-- nothing is on the wire of the empty log
abbrev none : Log
none = []

none_sent : {m : Message} → OnWire none m → ⊥
none_sent (on_wire i j) = elim i [ ]

pub new_follows : {R : Realm} {t : Tables} → New R t → Follows R t (empty (set_of R))
unfolding meanings rows_of
new_follows {t = t} n =
    record {
      header_is = n.header_is;
      together = n.together;
      agrees = record {
        clock_is = n.clock;
        runs_are = ap (rows_of t.runs) n.runs;
        terms_are = ap (meanings t.terms) n.terms;
        wire_is = λ m. (λ k. absurd (omega (arith, k.below, n.terms)), λ k. absurd (none_sent k));
        cache_is = ap (λ (count : ℕ). map logged (entries t.cache count)) n.entries;
      };
    }

-- ---- the engine

abbrev pub engine_of : (R : Realm) (t : Tables) → New R t → Engine (set_of R) R
engine_of R t n =
    record {
      State = Tables;
      start = t;
      answer = λ s c. (called s c).answer;
      next = λ s c. (called s c).tables;
      tables = values_of R;
      Fits = Follows R;
      agrees = λ s ρ f. f.agrees;
      fits_start = new_follows n;
      fits_next = λ s ρ c size f. call_follows s ρ c size f;
      takes = λ s ρ c size f a. call_takes s ρ c size f a;
    }
