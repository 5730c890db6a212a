-- The whole effect, by what the calls gave.
-- Assumes nothing.
use Rattle.std.specs.Prelude.{◌≡◌, List, ℕ, ◌+◌, Ok}
use Rattle.std.proofs.Math.Path.{sym, ap}
use Rattle.std.proofs.Common.{◌∙◌, arith}
use Rattle.std.proofs.Math.Bool.{true}
use borrow.Author.Tests.{le-leb}
use Rattle.terms.specs.Message.{Message}
use Rattle.messages.specs.Plan as plans
use Rattle.sending.specs.declared.Prepared.{Prepared}
use Rattle.sending.proofs.Promises.{room_known, plan_sent, send_room}
use Rattle.sending.specs.Send.{Sending, sent, refused, marked_by, fits_in}
use Rattle.exchange.specs.declared.call.Accepted.TheVariants.{Taken}
use Rattle.replay.specs.Cache.{Swept}
use Rattle.realm.specs.Tables.{Tables, tables, Together}
use Rattle.decisions.specs.declared.Change.{Change}
use Rattle.decisions.specs.declared.Change.TheVariants as changes
use Rattle.decisions.specs.declared.Keeping.{Keeping}
use Rattle.decisions.specs.declared.Keeping.TheVariants.{Same, Remember, Forget}
use Rattle.decisions.specs.Laws.Fits.{RowReady, EntryReady}
use Rattle.decisions.specs.declared.Effect.{Effect}
use Rattle.decisions.specs.Effects.{messages_of}
use Rattle.deciding.specs.Decided.{Writable}
use Rattle.effects.specs.Apply.{Outcome, refuse, realm_after, applied_with, applied}
use Rattle.effects.specs.Cache.{cache_of, EntryRoom}
use Rattle.effects.specs.Row.{ChangeFits, changed, run_count}

-- ---- what an effect that the tables can hold asks for

pub row_fits : (t : Tables) (ms : List Message) (x : Change) → Together t → RowReady t ms x → ChangeFits t.realm.runs x
row_fits t ms (changes.Open x) w f = f.0
row_fits t ms (changes.Set r x) w f = omega (arith, f.0, w.rows_hold.room)
row_fits t ms changes.Nothing w f = tt

pub entry_fits_lem : (t : Tables) (x : Keeping) → EntryReady t x → EntryRoom t.realm.entries x
entry_fits_lem t Same f = tt
entry_fits_lem t (Remember e) f = f.0
entry_fits_lem t (Forget b) f = tt

-- ---- the tables afterwards

module _ (t : Tables) (x : Effect) where
  -- what is written where sending comes to this
  abbrev pub by_sending : Sending → Outcome
  by_sending (sent count ts ws) = applied_with t x count ts ws
  by_sending (refused number ts ws) = refuse t number

  module _ {words : List ℕ} {r : Prepared} (f : Writable t x words r) where
    -- what the plan says is what the effect says
    pub plan_applied : applied_with t x (t.realm.terms + r.count) (plans.with_plan t.terms t.realm.terms words r.count) (marked_by r.marks t.wire) ≡ applied t x
    unfolding applied
    plan_applied =
        let yes : fits_in t.terms t.realm.terms (messages_of t.terms x.sends) ≡ true = sym (room_known f.plan) ∙ le-leb (t.realm.terms + r.count) 512 f.room in
        ap by_sending (plan_sent f.plan f.room t.wire ∙ send_room t.terms t.wire t.realm.terms (messages_of t.terms x.sends) yes)

    module _ {ts ws : List ℕ} (sent : (ts ≡ plans.with_plan t.terms t.realm.terms words r.count) × (ws ≡ marked_by r.marks t.wire)) {rs : List ℕ} {opened : ℕ}
        (rows : (rs ≡ changed t.realm.runs x.change t.runs) × (opened ≡ run_count t.realm.runs x.change)) {swept : Swept}
        (kept : swept ≡ cache_of t.realm t.cache x.keeping) where
      pub all_applied : record {
        answer = Ok (Taken x.names r.count);
        tables = tables (realm_after t.realm x.clock (t.realm.terms + r.count) opened swept.count) ts rs ws swept.places;
      } ≡ applied t x
      all_applied =
          let grown : (applied_with t x (t.realm.terms + r.count) ts ws).answer ≡ Ok (Taken x.names r.count) = ap (λ (k : ℕ). Ok (Taken x.names k)) (omega arith) in
          rw (← plan_applied, ← kept, sent.0, sent.1, rows.0, rows.1, grown)
