-- Writing an effect keeps the tables together and, with any event that it mirrors in front of the log, in agreement with the log.
-- `Runs`, `Entries` and `Wire` say it of each table; what sending does to terms and wire is the promise of the crate sending.
-- Assumes nothing.
use Rattle.std.specs.Prelude.{ℕ, ◌^◌, ◌<◌, ◌≤◌, ◌≡◌, true, ◌↔◌, ◌⊎◌}
use Rattle.std.proofs.Common.{ap, ◌∙◌, subst, inl, ⊎_elim, arith}
use mathlib.Core.List.Memᴰ
use mathlib.Core.List.{List, [], ◌∷◌, Memᴰ}
use Rattle.marks.specs.Marks.{Words, marked}
use Rattle.terms.specs.Message.{Message}
use Rattle.terms.specs.Rules.{Agree}
use Rattle.terms.specs.Valid.{Valid}
use Rattle.messages.specs.Listed.{add_all}
use Rattle.messages.specs.Meanings.{meanings}
use Rattle.deduction.specs.Known.{Known}
use Rattle.sending.specs.Send.{sent, send_of, SentIs}
use Rattle.sending.proofs.Promises.{send_accepted}
use Rattle.kerberos.specs.Log.{Event, Nothing}
use Rattle.kerberos.specs.Reading.{set_of}
use Rattle.traces.specs.Engines.{Values, Agrees}
use Rattle.kerberos.specs.Log.{clock, runs, runs_after, cache_after}
use Rattle.traces.specs.RuleSets.{Reading}
use Rattle.traces.specs.Realm.{Realm}
use Rattle.traces.specs.Terms.{TermsFit}
use Rattle.runs.proofs.Promises.{hold_more}
use Rattle.runs.specs.Lent.{RowsHold}
use Rattle.realm.specs.Opening.{header}
use Rattle.realm.specs.Tables.{Tables, Together}
use Rattle.decisions.specs.declared.Effect.{Effect}
use Rattle.decisions.specs.Effects.{messages_of}
use Rattle.effects.specs.Apply.{applied_with}
use Rattle.simulation.specs.Values.{values_of}
use Rattle.simulation.proofs.Mirrors.{Mirrors}
use Rattle.decisions.specs.Laws.Fits.{EntryReady, EffectFits}
use Rattle.simulation.proofs.Runs.{ChangeHolds, change_holds, rows_kept, rows_follow}
use Rattle.simulation.proofs.Entries.{entries_kept, entries_follow}
use Rattle.simulation.proofs.Wire.{wire_follows}

-- ---- definitions

-- the tables after an effect, where sending came to these terms and this wire
abbrev pub next_tables : Tables → Effect → (count : ℕ) (ts ws : List ℕ) → Tables
next_tables t x count ts ws = (applied_with t x count ts ws).tables

-- there may be more terms than before, and the wire fits them
pub record Grows (t : Tables) (count : ℕ) (ts ws : List ℕ) : Type 0 where
  pub valid : Valid t.realm.n ts count
  pub more : t.realm.terms ≤ count
  pub older : Agree t.terms ts t.realm.terms
  pub words : Words 8 ws
  pub within : (i : ℕ) → marked ws i ≡ true → i < count

-- ---- tables that grow

module _ {t : Tables} (w : Together t) {count : ℕ} {ts ws : List ℕ} (g : Grows t count ts ws) where
  rows_more : RowsHold t.realm.n t.runs t.realm.runs ts count
  rows_more = hold_more w.rows_hold g.older g.more (omega (arith, g.valid.size, g.valid.room))

  small : t.realm.n ≤ 256
  small = omega (arith, w.header_fits.most)

  module _ (x : Effect) (f : EntryReady t x.keeping) (h : ChangeHolds t.realm.n ts count t.realm.runs x.change) where
    pub next_together : x.clock < 2 ^ 32 → Together (next_tables t x count ts ws)
    next_together clock =
        let c = entries_kept w x.keeping f in
        record {
          header_fits = w.header_fits;
          rules_known = w.rules_known;
          clock_fits = clock;
          terms_hold = g.valid;
          rows_hold = rows_kept small rows_more x.change h;
          wire_words = g.words;
          wire_within = g.within;
          places = c.places;
          entries_most = c.most;
          entries_fit = c.each;
        }

    pub next_agrees : {R : Realm} → header t.realm ≡ R → (ρ : Reading Event) → Agrees (set_of R) R (values_of R t) ρ → (e : Event) → Mirrors t.realm.clock e x
        → {terms : List Message} → meanings ts count ≡ terms
        → ((m : Message) → Known ts count ws m ↔ (Known t.terms t.realm.terms t.wire m ⊎ Memᴰ m (messages_of t.terms x.sends)))
        → Agrees (set_of R) R (values_of R (next_tables t x count ts ws)) (record { log = (e, messages_of t.terms x.sends) ∷ ρ.log; terms = terms })
    next_agrees {R} is ρ a e mirrors same grown =
        let now : Mirrors (clock ρ.log) e x = subst (λ (k : ℕ). Mirrors k e x) a.clock_is mirrors in
        record {
          clock_is = now.clock;
          runs_are = rows_follow small rows_more x.change h (runs_after e) mirrors.rows (runs ρ.log) a.runs_are;
          terms_are = same;
          wire_is = wire_follows (Known t.terms t.realm.terms t.wire) (Known ts count ws) ρ.log e (messages_of t.terms x.sends) a.wire_is grown;
          cache_is = entries_follow t.realm t.cache is a.clock_is a.cache_is x.keeping (cache_after R (clock ρ.log) e) (now.cache R);
        }

-- ---- an effect

module _ {t : Tables} (w : Together t) (x : Effect) (f : EffectFits t x) {count : ℕ} {ts ws : List ℕ}
    (s : send_of t.terms t.wire t.realm.terms (messages_of t.terms x.sends) ≡ sent count ts ws) where
  sent_is : SentIs t.realm.n t.terms t.wire t.realm.terms (messages_of t.terms x.sends) ts ws count
  sent_is =
      send_accepted t.realm.n (omega (arith, w.header_fits.most)) w.terms_hold t.wire (messages_of t.terms x.sends) f.writes w.wire_words w.wire_within s

  sent_grows : Grows t count ts ws
  sent_grows =
      record { valid = sent_is.valid; more = sent_is.more; older = sent_is.older; words = sent_is.words; within = sent_is.within }

  row_holds_lem : ChangeHolds t.realm.n ts count t.realm.runs x.change
  row_holds_lem = change_holds t sent_is x.change f.row

  pub effect_together : x.clock < 2 ^ 32 → Together (next_tables t x count ts ws)
  effect_together clock = next_together w sent_grows x f.entry row_holds_lem clock

  pub effect_agrees : {R : Realm} → header t.realm ≡ R → (ρ : Reading Event) → Agrees (set_of R) R (values_of R t) ρ → (e : Event) → Mirrors t.realm.clock e x
      → Agrees (set_of R) R (values_of R (next_tables t x count ts ws)) (record { log = (e, messages_of t.terms x.sends) ∷ ρ.log; terms = add_all (messages_of t.terms x.sends) ρ.terms })
  effect_agrees is ρ a e mirrors =
      next_agrees w sent_grows x f.entry row_holds_lem is ρ a e mirrors (sent_is.added ∙ ap (add_all (messages_of t.terms x.sends)) a.terms_are) sent_is.wire

  -- its terms all fit, as the rules ask
  pub effect_fits : (ρ : Reading Event) → meanings t.terms t.realm.terms ≡ ρ.terms → TermsFit (messages_of t.terms x.sends) ρ.terms
  effect_fits ρ same = subst (TermsFit (messages_of t.terms x.sends)) same sent_is.fits

-- ---- a call that is refused

-- "State, wire, cache and terms stay unchanged."
pub refused_agrees : {R : Realm} {t : Values (set_of R)} (ρ : Reading Event) → Agrees (set_of R) R t ρ → Agrees (set_of R) R t (record { log = (Nothing, []) ∷ ρ.log; terms = ρ.terms })
refused_agrees {t = t} ρ a =
    record {
      clock_is = a.clock_is;
      runs_are = a.runs_are;
      terms_are = a.terms_are;
      wire_is = wire_follows t.wire t.wire ρ.log Nothing [] a.wire_is (λ m. (λ k. inl k, λ k. ⊎_elim (λ o. o) (λ i. absurd (Memᴰ.not-nil i)) k));
      cache_is = a.cache_is;
    }
