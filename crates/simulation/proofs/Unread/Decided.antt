-- A step is decided alike on tables that are alike below the counts: by its row of the step table, with what is read of each table.
-- Assumes nothing.
use Prim.Native.Nat.{ℕ, zero, suc, ◌<◌}
use Rattle.std.specs.Prelude.{◌≡◌, Bool, true, false, not, ◌&&◌, List, leb, eqb, length, Ok, Err, Option, None, Some}
use Rattle.std.proofs.Math.Path.{refl, ap}
use Rattle.std.proofs.Common.{ap₂, ◌∙◌, eqb-true}
use Rattle.terms.specs.Meaning.{message_at}
use Rattle.terms.specs.Message.{Message}
use Rattle.terms.specs.Number.{number_in, terms_of}
use Rattle.sending.specs.Send.{entered_all}
use Rattle.exchange.specs.declared.run.Row.{Row}
use Rattle.exchange.specs.Forms.{form_of}
use Rattle.kerberos.specs.Messages.{presented}
use Rattle.forms.specs.Forms.{request_in, confirmation_in}
use Rattle.forms.specs.Grant.{Granted, grant_in}
use Rattle.forms.specs.declared.Confirmation.{Confirmation}
use Rattle.forms.specs.declared.Request.{Request}
use Rattle.forms.specs.Delivery.{delivery_in}
use Rattle.forms.specs.declared.Delivery.{Delivery}
use Rattle.replay.specs.Cache.{entries}
use Rattle.replay.specs.declared.entry.Entry.{Entry}
use Rattle.rows.specs.Rows.{rows_of}
use Rattle.rows.specs.Runs.{run_at}
use Rattle.realm.specs.declared.header.Realm.{Realm}
use Rattle.realm.specs.declared.input.Step.{Step}
use Rattle.realm.proofs.Fields.{Range, in_range_lem}
use Rattle.realm.specs.Input.{uses_table, uses_of, input_refusal}
use Rattle.realm.proofs.InputLaws.{passed}
use Rattle.realm.specs.Tables.{Tables, tables, Together}
use Rattle.conditions.specs.Conditions.{derivable_at, ticket_lives, admission}
use Rattle.decisions.specs.Decision.{need, on_request, issues, on_grant, authenticates, on_delivery, takes, on_confirmation, finishes, Verdict}
use Rattle.decisions.specs.Decision.{room_for_run, named, opens_run, ticks, queries, step_of, decided, roomed, decision}
use Rattle.decisions.specs.declared.Sends.{Sends}
use Rattle.decisions.specs.declared.Sends.TheVariants as sending
use Rattle.decisions.specs.Laws.Fits.{Carries}
use Rattle.decisions.proofs.Promises.{taken_fits}
use Rattle.decisions.specs.Effects.{issuing, authenticating, accepting, finishing, nothing, leaking, messages_of}
use Rattle.simulation.proofs.Unread.Reads.{message_same, derivable_same, run_same, admission_same}

-- ---- the steps that take a message

module _ (h : Realm) (ts ts' ws : List ℕ) (m : ℕ) (same_terms : terms_of ts h.terms ≡ terms_of ts' h.terms) (d : derivable_at h ts ws m ≡ derivable_at h ts' ws m) where
  on_request_lem : (q : Option Request) → on_request h ts ws m q ≡ on_request h ts' ws m q
  on_request_lem None = refl
  on_request_lem (Some q) =
      ap (λ (can : Bool). need (not (eqb q.a 0) && not (eqb q.b 0) && not (eqb q.a q.b)) 14 (need can 15 (Ok (issuing h.clock (form_of h.rules) h.runs q.a q.b q.n)))) d

  module _ (r : ℕ) (own : Row) where
    on_grant_lem : (q : Option Granted) → on_grant h ts ws r own m q ≡ on_grant h ts' ws r own m q
    on_grant_lem None = refl
    on_grant_lem (Some q) =
        ap₂ (λ (can : Bool) (xs : List ℕ). need (eqb q.b own.b && eqb q.n r && eqb q.a own.a) 14
        (need can 15 (need (ticket_lives h q.ts) 16 (Ok (authenticating h.clock (form_of h.rules) r own.a own.b q.k q.ts (number_in xs q.x)))))) d same_terms

    on_confirmation_lem : (q : Option Confirmation) → on_confirmation h ts ws r own m q ≡ on_confirmation h ts' ws r own m q
    on_confirmation_lem None = refl
    on_confirmation_lem (Some q) =
        ap (λ (can : Bool). need (eqb q.ta own.ta && eqb q.k own.k) 14
        (need can 15 (need (ticket_lives h own.ts) 16 (Ok (finishing h.clock r own.a own.b own.k own.ts own.ta))))) d

    on_delivery_lem : (c c' : List Entry) → entries c h.entries ≡ entries c' h.entries → (q : Option Delivery) → on_delivery h ts ws c r own m q ≡ on_delivery h ts' ws c' r own m q
    on_delivery_lem c c' same None = refl
    on_delivery_lem c c' same (Some q) =
        ap (λ (can : Bool). by can (admission h c q.ts (record { b = q.b; k = q.k; ta = q.ta }))) d
        ∙ ap (by (derivable_at h ts' ws m)) (admission_same h c c' same q.ts (record { b = q.b; k = q.k; ta = q.ta }))
      where
        by : Bool → ℕ → Verdict
        by can number =
            need (eqb q.a own.a && eqb q.b own.b) 14 (need can 15 (need (eqb number 0) number (Ok (accepting h.clock r own.a own.b q.k q.ts q.ta))))

-- ---- a step, of two tables with one realm and one wire

need_same : (ok : Bool) (number : ℕ) (v v' : Verdict) → (ok ≡ true → v ≡ v') → need ok number v ≡ need ok number v'
need_same true number v v' f = f refl
need_same false number v v' f = refl

module _ (h : Realm) {ts ts' rs rs' : List ℕ} (ws : List ℕ) {c c' : List Entry} (w : Together (tables h ts rs ws c)) (w' : Together (tables h ts' rs' ws c'))
    (same_terms : terms_of ts h.terms ≡ terms_of ts' h.terms) (same_rows : rows_of rs h.runs ≡ rows_of rs' h.runs)
    (same_entries : entries c h.entries ≡ entries c' h.entries) where
  abbrev one : Tables
  one = tables h ts rs ws c

  abbrev other : Tables
  other = tables h ts' rs' ws c'

  can_same : (m : ℕ) → m < h.terms → derivable_at h ts ws m ≡ derivable_at h ts' ws m
  can_same m l = derivable_same h.flags w.terms_hold w'.terms_hold same_terms w.wire_words m l

  means_same : (m : ℕ) → m < h.terms → message_at ts m ≡ message_at ts' m
  means_same m l = message_same w.terms_hold w'.terms_hold same_terms m l

  own_same : (r : ℕ) → r < h.runs → run_at rs r ≡ run_at rs' r
  own_same r l = run_same rs rs' h.runs same_rows r l

  abbrev fields : (step r a b m now : ℕ) → Step
  fields step r a b m now = record { step = step; run = r; a = a; b = b; m = m; t = now }

  by_step : (step r a b m now : ℕ) → Range h (uses_of step) (fields step r a b m now) → step_of one (fields step r a b m now) ≡ step_of other (fields step r a b m now)
  unfolding step_of uses_table opens_run issues authenticates takes finishes ticks queries
  by_step zero r a b m now f = refl
  by_step (suc zero) r a b m now f = refl
  by_step (suc (suc zero)) r a b m now f = refl
  by_step (suc (suc (suc zero))) r a b m now f =
      ap (λ (x : Message). need (room_for_run h) 13 (on_request h ts ws m (request_in x))) (means_same m (f.m refl))
      ∙ ap (need (room_for_run h) 13) (on_request_lem h ts ts' ws m same_terms (can_same m (f.m refl)) (request_in (message_at ts' m)))
  by_step (suc (suc (suc (suc zero)))) r a b m now f =
      let own = run_at rs' r in
      ap (λ (x : Row). named 4 x (on_grant h ts ws r x m (grant_in (form_of h.rules) (message_at ts m)))) (own_same r (f.run refl))
      ∙ ap (λ (x : Message). named 4 own (on_grant h ts ws r own m (grant_in (form_of h.rules) x))) (means_same m (f.m refl))
      ∙ ap (named 4 own) (on_grant_lem h ts ts' ws m same_terms (can_same m (f.m refl)) r own (grant_in (form_of h.rules) (message_at ts' m)))
  by_step (suc (suc (suc (suc (suc zero))))) r a b m now f =
      let own = run_at rs' r in
      ap (λ (x : Row). named 5 x (on_delivery h ts ws c r x m (delivery_in (message_at ts m)))) (own_same r (f.run refl))
      ∙ ap (λ (x : Message). named 5 own (on_delivery h ts ws c r own m (delivery_in x))) (means_same m (f.m refl))
      ∙ ap (named 5 own) (on_delivery_lem h ts ts' ws m same_terms (can_same m (f.m refl)) r own c c' same_entries (delivery_in (message_at ts' m)))
  by_step (suc (suc (suc (suc (suc (suc zero)))))) r a b m now f =
      let own = run_at rs' r in
      ap (λ (x : Row). named 6 x (on_confirmation h ts ws r x m (confirmation_in (message_at ts m)))) (own_same r (f.run refl))
      ∙ ap (λ (x : Message). named 6 own (on_confirmation h ts ws r own m (confirmation_in x))) (means_same m (f.m refl))
      ∙ ap (named 6 own) (on_confirmation_lem h ts ts' ws m same_terms (can_same m (f.m refl)) r own (confirmation_in (message_at ts' m)))
  by_step (suc (suc (suc (suc (suc (suc (suc zero))))))) r a b m now f = refl
  by_step (suc (suc (suc (suc (suc (suc (suc (suc zero)))))))) r a b m now f = refl
  by_step (suc (suc (suc (suc (suc (suc (suc (suc (suc zero))))))))) r a b m now f =
      ap (λ (x : Row). named 9 x (Ok (leaking h.clock r))) (own_same r (f.run refl))
  by_step (suc (suc (suc (suc (suc (suc (suc (suc (suc (suc zero)))))))))) r a b m now f =
      ap (λ (can : Bool). need can 15 (Ok (nothing h.clock))) (can_same m (f.m refl))
  by_step (suc (suc (suc (suc (suc (suc (suc (suc (suc (suc (suc step))))))))))) r a b m now f = refl

  decided_same : (s : Step) → decided one s ≡ decided other s
  unfolding decided
  decided_same s =
      need_same (eqb (input_refusal h s) 0) (input_refusal h s) (step_of one s) (step_of other s)
      (λ e. by_step s.step s.run s.a s.b s.m s.t (in_range_lem h (uses_of s.step) s (passed h s (eqb-true (input_refusal h s) 0 e)).range))

  -- what is sent, a term that is passed on being below the count
  pub sends_same : (x : Sends) → Carries h.terms x → messages_of ts x ≡ messages_of ts' x
  sends_same sending.Nothing l = refl
  sends_same (sending.Request a b n) l = refl
  sends_same (sending.Issue f k a b now n) l = refl
  sends_same (sending.Presented f a ta k x) l = ap (presented f a ta k) (means_same x l)
  sends_same (sending.Confirmation ta k) l = refl
  sends_same (sending.Key k) l = refl

  roomed_same : (s : Step) (v : Verdict) → decided other s ≡ v → roomed one v ≡ roomed other v
  roomed_same s (Err k) e = refl
  roomed_same s (Ok x) e =
      ap₂ (λ (xs : List ℕ) (ms : List Message). need (leb (length (entered_all xs ms)) 512) 20 (Ok x)) same_terms
      (sends_same x.sends (taken_fits other s w' e).carries)

  pub decision_same : (s : Step) → decision one s ≡ decision other s
  unfolding decision
  decision_same s = ap (roomed one) (decided_same s) ∙ roomed_same s (decided other s) refl
