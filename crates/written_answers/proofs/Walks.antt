-- What follows from the definitions of the same name in specs/.
-- Assumes nothing.
use Rattle.std.specs.Prelude.{◌≡◌, refl, List, [], ◌∷◌, ℕ, Option, Some, None, Ok, Err}
use Rattle.std.proofs.Common.{ap, ◌∙◌, arith}
use Rattle.exchange.specs.declared.call.Call.{Call}
use Rattle.exchange.specs.declared.call.Call.TheVariants as calls
use Rattle.exchange.specs.Calls.{Sized}
use Rattle.realm.specs.Tables.{Tables, Together}
use Rattle.decisions.specs.Decision.{decision, Verdict}
use Rattle.effects.specs.Apply.{applied}
use Rattle.effects.specs.Call.{by_verdict, stepped, called}
use Rattle.simulation.proofs.Kept.{call_kept}
use Rattle.raw_records.specs.declared.raw.RawRecord.{RawRecord}
use Rattle.raw_records.specs.declared.raw.RawRecord.TheVariants.{Term, Step}
use Rattle.raw_records.specs.Calls.{calls_from, raw_for, AllRawSized}
use Rattle.raw_records.specs.Refusals.{own_refusal, records_refusal}
use Rattle.raw_records.proofs.Refusals.{first_zero}
use Rattle.written_answers.proofs.AnswersLaws.{called_past}
use Rattle.written_answers.specs.Walks.{TakenPast}

-- ---- laws

-- the realm keeps its number of principals
by_verdict_lem : (t : Tables) (v : Verdict) → (by_verdict t v).tables.realm.n ≡ t.realm.n
unfolding applied
by_verdict_lem t (Ok x) = refl
by_verdict_lem t (Err k) = refl

n_kept : (t : Tables) (c : Call) → (called t c).tables.realm.n ≡ t.realm.n
unfolding called stepped
n_kept t (calls.Term kind l r) = refl
n_kept t (calls.Step step run a b m time) = by_verdict_lem t (decision t _)

module _ (n : ℕ) where
  one_more : (t : Tables) → Together t → t.realm.n ≡ n → (c : Call) → Sized c → own_refusal n (raw_for c) ≡ 0 → (cs : List Call)
      → TakenPast (called t c).tables cs → TakenPast t (c ∷ cs)
  one_more t w e c sized z cs rest =
      (λ k q. called_past t (omega (arith, w.rows_hold.room)) (omega (arith, w.terms_hold.room)) c sized (ap (λ (m : ℕ). own_refusal m (raw_for c)) e ∙ z) q, rest)

  pub taken_past : (raws : List (Option RawRecord)) → AllRawSized raws → records_refusal n raws ≡ 0 → (t : Tables) → Together t → t.realm.n ≡ n → TakenPast t (calls_from raws)
  taken_past [] f z t w e = tt
  taken_past (Some (Term kind l r) ∷ raws) f z t w e =
      let c = calls.Term kind l r in
      let p = first_zero (own_refusal n (Some (Term kind l r))) (records_refusal n raws) z in
      one_more t w e c f.0 p.0 (calls_from raws)
      (taken_past raws f.1 p.1 (called t c).tables (call_kept t c f.0 w) (n_kept t c ∙ e))
  taken_past (Some (Step step run a b m time) ∷ raws) f z t w e =
      let c = calls.Step step run a b m time in
      let p = first_zero (own_refusal n (Some (Step step run a b m time))) (records_refusal n raws) z in
      one_more t w e c f.0 p.0 (calls_from raws)
      (taken_past raws f.1 p.1 (called t c).tables (call_kept t c f.0 w) (n_kept t c ∙ e))
  taken_past (None ∷ raws) f z t w e = absurd f.0
