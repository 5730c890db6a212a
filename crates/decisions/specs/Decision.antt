-- What a step comes to (document 01, "Steps" and the two tables of refusals), decided whole before anything is written: its effect,
-- or the number of its refusal. "Refusal 10 is looked at first, the others in rising order; the first that applies is given": 10 is
-- the checked calls'; 4 to 6 are of the fields; then the row of the step table has its own, in rising order but for step 5's 22, whose
-- place is in `conditions/Conditions.admission`; 20 comes last.
-- Assumes nothing.
use Rattle.std.specs.Prelude.{ℕ, Bool, not, ◌&&◌, cond, List, [], ◌∷◌, ltb, leb, eqb, get_or, Result, Ok, Err, Option, None, Some}
use Rattle.terms.specs.Meaning.{message_at}
use Rattle.terms.specs.Number.{number_in, terms_of}
use Rattle.sending.specs.Send.{fits_in}
use Rattle.exchange.specs.declared.run.Role.{Role}
use Rattle.exchange.specs.declared.run.Role.TheVariants.{Initiator, Responder}
use Rattle.exchange.specs.declared.run.Row.{Row}
use Rattle.exchange.specs.declared.run.Stage.TheVariants.{Opened}
use Rattle.exchange.specs.Forms.{form_of}
use Rattle.exchange.specs.Needs.{need_of, meets}
use Rattle.forms.specs.Forms.{request_in, confirmation_in}
use Rattle.forms.specs.Grant.{Granted, grant_in}
use Rattle.forms.specs.declared.Confirmation.{Confirmation}
use Rattle.forms.specs.declared.Request.{Request}
use Rattle.forms.specs.Delivery.{delivery_in}
use Rattle.forms.specs.declared.Delivery.{Delivery}
use Rattle.replay.specs.declared.entry.Entry.{Entry}
use Rattle.rows.specs.Runs.{run_at}
use Rattle.realm.specs.declared.header.Realm.{Realm}
use Rattle.realm.specs.declared.input.Step.{Step}
use Rattle.realm.specs.Input.{input_refusal}
use Rattle.realm.specs.Tables.{Tables}
use Rattle.conditions.specs.Conditions.{derivable_at, ticket_lives, admission}
use Rattle.decisions.specs.declared.Effect.{Effect}
use Rattle.decisions.specs.declared.Sends.{Sends}
use Rattle.decisions.specs.declared.Sends.TheVariants as sends
use Rattle.decisions.specs.Effects.{opening, issuing, authenticating, accepting, finishing, nothing, forgetting, leaking, messages_of}

-- its effect, or the number of its refusal
abbrev pub Verdict : Type 0
Verdict = Result Effect ℕ

-- the refusal of this number unless the condition holds
abbrev pub need : Bool → ℕ → Verdict → Verdict
need ok number v = cond ok v (Err number)

-- not "64 runs exist"
abbrev pub room_for_run : Realm → Bool
room_for_run h = ltb h.runs 64

-- ---- the steps that take a message

module _ (h : Realm) (ts ws : List ℕ) where
  -- "3 | m is [a, b, any nonce N], a and b unequal and not 0; opens server run r; .. Ts the clock"
  abbrev pub on_request : ℕ → Option Request → Verdict
  on_request m None = Err 14
  on_request m (Some q) =
      need (not (eqb q.a 0) && not (eqb q.b 0) && not (eqb q.a q.b)) 14 (need (derivable_at h ts ws m) 15 (Ok (issuing h.clock (form_of h.rules) h.runs q.a q.b q.n)))

  unfoldable pub issues : ℕ → Verdict
  issues m = need (room_for_run h) 13 (on_request m (request_in (message_at ts m)))

  -- "4 | m is {K, b, Ts, own nonce} under a's key; Ta becomes the clock", or what the form has in its place; a and b are the run's,
  -- and "any term X" is handed on by its number
  abbrev pub on_grant : (r : ℕ) → Row → ℕ → Option Granted → Verdict
  on_grant r own m None = Err 14
  on_grant r own m (Some q) =
      need (eqb q.b own.b && eqb q.n r && eqb q.a own.a) 14
      (need (derivable_at h ts ws m) 15 (need (ticket_lives h q.ts) 16
      (Ok (authenticating h.clock (form_of h.rules) r own.a own.b q.k q.ts (number_in (terms_of ts h.terms) q.x)))))

  unfoldable pub authenticates : (r : ℕ) → Row → ℕ → Verdict
  authenticates r own m = on_grant r own m (grant_in (form_of h.rules) (message_at ts m))

  -- "5 | m is the pair of {K, a, Ts} under b's key and {a, Ta}K"; a and b are the run's
  abbrev pub on_delivery : List Entry → (r : ℕ) → Row → ℕ → Option Delivery → Verdict
  on_delivery cache r own m None = Err 14
  on_delivery cache r own m (Some q) =
      let number = admission h cache q.ts (record { b = q.b; k = q.k; ta = q.ta }) in
      need (eqb q.a own.a && eqb q.b own.b) 14
      (need (derivable_at h ts ws m) 15 (need (eqb number 0) number (Ok (accepting h.clock r own.a own.b q.k q.ts q.ta))))

  unfoldable pub takes : List Entry → (r : ℕ) → Row → ℕ → Verdict
  takes cache r own m = on_delivery cache r own m (delivery_in (message_at ts m))

  -- "6 | m is {Ta}K with the run's own values; the run is done"
  abbrev pub on_confirmation : (r : ℕ) → Row → ℕ → Option Confirmation → Verdict
  on_confirmation r own m None = Err 14
  on_confirmation r own m (Some q) =
      need (eqb q.ta own.ta && eqb q.k own.k) 14
      (need (derivable_at h ts ws m) 15 (need (ticket_lives h own.ts) 16 (Ok (finishing h.clock r own.a own.b own.k own.ts own.ta))))

  unfoldable pub finishes : (r : ℕ) → Row → ℕ → Verdict
  finishes r own m = on_confirmation r own m (confirmation_in (message_at ts m))

-- ---- the others

-- "1 | opens an initiator run r", "2 | opens a responder run of b for a"
unfoldable pub opens_run : Realm → Role → (a b : ℕ) → Sends → Verdict
opens_run h role a b x = need (room_for_run h) 13 (Ok (opening h.clock role Opened h.runs a b 0 0 x))

-- "7 | clock becomes t"; 12: "t is below the clock"
unfoldable pub ticks : Realm → ℕ → Verdict
ticks h t = need (leb h.clock t) 12 (Ok (nothing t))

-- "10 | accepted if the intruder can build m; changes nothing"
unfoldable pub queries : Realm → (ts ws : List ℕ) → ℕ → Verdict
queries h ts ws m = need (derivable_at h ts ws m) 15 (Ok (nothing h.clock))

-- ---- all

-- 11: "role or stage does not fit", by the constant table
abbrev pub named : (step : ℕ) → Row → Verdict → Verdict
named step own v = need (meets (need_of step) own) 11 v

-- by the step's number, from 0 on; where it names a run, a and b are the run's
unfoldable pub step_of : Tables → Step → Verdict
step_of t s =
    let h = t.realm in
    let own = run_at t.runs s.run in
    get_or (
    Err 4
    ∷ opens_run h Initiator s.a s.b (sends.Request s.a s.b h.runs)
    ∷ opens_run h Responder s.a s.b sends.Nothing
    ∷ issues h t.terms t.wire s.m
    ∷ named 4 own (authenticates h t.terms t.wire s.run own s.m)
    ∷ named 5 own (takes h t.terms t.wire t.cache s.run own s.m)
    ∷ named 6 own (finishes h t.terms t.wire s.run own s.m)
    ∷ ticks h s.t
    ∷ Ok (forgetting h.clock s.b)
    ∷ named 9 own (Ok (leaking h.clock s.run))
    ∷ queries h t.terms t.wire s.m
    ∷ []) s.step (Err 4)

-- 4, 5 and 6, then the row of the step table
unfoldable pub decided : Tables → Step → Verdict
decided t s = need (eqb (input_refusal t.realm s) 0) (input_refusal t.realm s) (step_of t s)

-- "20 | the new terms do not all fit", after all else
abbrev pub roomed : Tables → Verdict → Verdict
roomed t (Err number) = Err number
roomed t (Ok x) = need (fits_in t.terms t.realm.terms (messages_of t.terms x.sends)) 20 (Ok x)

-- all refusals of a step, in their order
unfoldable pub decision : Tables → Step → Verdict
decision t s = roomed t (decided t s)
