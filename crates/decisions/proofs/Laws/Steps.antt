-- A step that is decided to be taken, by its number: what its row of the step table asks for is met.
-- Assumes nothing.
use Prim.Native.Nat.{ℕ, zero, suc, ◌<◌}
use Rattle.std.specs.Prelude.{◌≡◌, ltb, leb, eqb, Ok}
use Rattle.std.proofs.Math.Path.{refl, subst}
use Rattle.std.proofs.Common.{sym, ltb-true, leb-true, eqb-true}
use Rattle.terms.specs.Meaning.{message_at}
use Rattle.forms.specs.Forms.{request_in, confirmation_in}
use Rattle.forms.specs.Grant.{grant_in}
use Rattle.forms.specs.Delivery.{delivery_in}
use Rattle.exchange.specs.declared.call.Call.{Call}
use Rattle.exchange.specs.declared.call.Call.TheVariants as calls
use Rattle.exchange.specs.declared.run.Role.{Role}
use Rattle.exchange.specs.declared.run.Role.TheVariants.{Initiator, Responder, Server}
use Rattle.exchange.specs.declared.run.Stage.{Stage}
use Rattle.exchange.specs.declared.run.Stage.TheVariants.{Opened, Authenticated, Done}
use Rattle.exchange.specs.Needs.{need_table, is_at}
use Rattle.realm.specs.declared.input.Step.{Step}
use Rattle.realm.specs.Input.{uses_table, uses_of, input_refusal}
use Rattle.realm.proofs.InputLaws.{passed}
use Rattle.decisions.specs.declared.Effect.{Effect}
use Rattle.decisions.specs.Decision.{need, issues, authenticates, takes, finishes, Verdict}
use Rattle.decisions.specs.Decision.{opens_run, ticks, queries, step_of, decided}
use Rattle.realm.specs.Tables.{Tables, Together}
use Rattle.realm.specs.Fields.{call_of}
use Rattle.realm.proofs.Fields.{cleared, call_cleared, Range, in_range_lem}
use Rattle.decisions.specs.Laws.Took.{row_at, form_at, Meets, TookAs, took1, took2, took7, took8, took9, took10}
use Rattle.decisions.proofs.Laws.Took.{took_as}
use Rattle.decisions.proofs.Laws.Verdict.{not_refused, same_effect, need_takes, can, brings, took_issue, took_grant, took_delivery, took_confirmation}

module _ (t : Tables) (fits : Together t) where
  abbrev fields : (step r a b m now : ℕ) → Step
  fields step r a b m now = record { step = step; run = r; a = a; b = b; m = m; t = now }

  met : (r : ℕ) (role : Role) (stage : Stage) (k : ℕ) (v : Verdict) {e : Effect} → r < t.realm.runs → need (is_at (row_at t r) role stage) k v ≡ Ok e
      → Meets t r role stage × (v ≡ Ok e)
  met r role stage k v l q =
      let p = need_takes (is_at (row_at t r) role stage) k v q in
      (record { below = l; at = p.0 }, p.1)

  took_by : (step r a b m now : ℕ) {e : Effect} → Range t.realm (uses_of step) (fields step r a b m now) → step_of t (fields step r a b m now) ≡ Ok e
      → TookAs t (cleared (uses_of step) (fields step r a b m now)) e
  unfolding step_of uses_table need_table opens_run issues authenticates takes finishes ticks queries
  took_by zero r a b m now f v = not_refused v
  took_by (suc zero) r a b m now f v =
      let p = need_takes (ltb t.realm.runs 64) _ _ v in
      subst (TookAs t (calls.Step 1 0 a b 0 0)) (same_effect p.1) (took_as (took1 (f.principals refl) (ltb-true t.realm.runs 64 p.0)))
  took_by (suc (suc zero)) r a b m now f v =
      let p = need_takes (ltb t.realm.runs 64) _ _ v in
      subst (TookAs t (calls.Step 2 0 a b 0 0)) (same_effect p.1) (took_as (took2 (f.principals refl) (ltb-true t.realm.runs 64 p.0)))
  took_by (suc (suc (suc zero))) r a b m now f v =
      let p = need_takes (ltb t.realm.runs 64) _ _ v in
      took_issue t fits m (f.m refl) (ltb-true t.realm.runs 64 p.0) (request_in (message_at t.terms m)) refl p.1
  took_by (suc (suc (suc (suc zero)))) r a b m now f v =
      let p = met r Initiator Opened _ _ (f.run refl) v in
      took_grant t fits r m p.0 (f.m refl) (grant_in (form_at t) (message_at t.terms m)) refl p.1
  took_by (suc (suc (suc (suc (suc zero))))) r a b m now f v =
      let p = met r Responder Opened _ _ (f.run refl) v in
      took_delivery t fits r m p.0 (f.m refl) (delivery_in (message_at t.terms m)) refl p.1
  took_by (suc (suc (suc (suc (suc (suc zero)))))) r a b m now f v =
      let p = met r Initiator Authenticated _ _ (f.run refl) v in
      took_confirmation t fits r m p.0 (f.m refl) (confirmation_in (message_at t.terms m)) refl p.1
  took_by (suc (suc (suc (suc (suc (suc (suc zero))))))) r a b m now f v =
      let p = need_takes (leb t.realm.clock now) _ _ v in
      subst (TookAs t (calls.Step 7 0 0 0 0 now)) (same_effect p.1) (took_as (took7 (leb-true t.realm.clock now p.0)))
  took_by (suc (suc (suc (suc (suc (suc (suc (suc zero)))))))) r a b m now f v =
      subst (TookAs t (calls.Step 8 0 0 b 0 0)) (same_effect v) (took_as (took8 (f.b refl)))
  took_by (suc (suc (suc (suc (suc (suc (suc (suc (suc zero))))))))) r a b m now f v =
      let p = met r Server Done _ _ (f.run refl) v in
      subst (TookAs t (calls.Step 9 r 0 0 0 0)) (same_effect p.1) (took_as (took9 p.0))
  took_by (suc (suc (suc (suc (suc (suc (suc (suc (suc (suc zero)))))))))) r a b m now f v =
      let p = need_takes (can t fits m) _ _ v in
      subst (TookAs t (calls.Step 10 0 0 0 m 0)) (same_effect p.1) (took_as (took10 (brings t fits m _ (f.m refl) refl p.0)))
  took_by (suc (suc (suc (suc (suc (suc (suc (suc (suc (suc (suc step))))))))))) r a b m now f v = not_refused v

  pub took : (s : Step) {e : Effect} → decided t s ≡ Ok e → TookAs t (call_of s) e
  unfolding decided
  took s {e} v =
      let p = need_takes (eqb (input_refusal t.realm s) 0) (input_refusal t.realm s) (step_of t s) v in
      let q = passed t.realm s (eqb-true (input_refusal t.realm s) 0 p.0) in
      subst (λ (c : Call). TookAs t c e) (sym (call_cleared (uses_of s.step) s q.unused))
      (took_by s.step s.run s.a s.b s.m s.t (in_range_lem t.realm (uses_of s.step) s q.range) p.1)
