-- Each way out of a pending verdict.
-- Assumes nothing.
use Rattle.std.specs.Prelude.{Bool, true, false, List, ◌≡◌, ℕ, ◌<◌, Result, Ok, Err}
use Rattle.std.proofs.Common.{sym, ap, ap₂, ◌∙◌}
use Rattle.refusals.specs.declared.Refusal.{Refusal}
use Rattle.refusals.specs.Numbers.{number, numbered}
use Rattle.realm.specs.declared.header.Realm.{Realm}
use Rattle.conditions.specs.Conditions.{derivable_at}
use Rattle.decisions.specs.declared.Effect.{Effect}
use Rattle.decisions.specs.Decision.{need, Verdict}
use Rattle.receiving.specs.declared.Pending.{Pending}
use Rattle.receiving.specs.declared.Pending.TheVariants.{Settled, Asked}
use Rattle.receiving.specs.Pending.{settled, asks}
use Rattle.steps.specs.Named.{Pends}

module _ {h : Realm} {ts : List ℕ} {m : ℕ} {p : Result Pending Refusal} {verdict : List ℕ → Verdict} (w : Pends h ts m p verdict) (ws : List ℕ) where
  by_pending : {q : Result Pending Refusal} → p ≡ q → settled q (derivable_at h ts ws m) ≡ verdict ws
  by_pending e = ap (λ (q : Result Pending Refusal). settled q (derivable_at h ts ws m)) (sym e) ∙ w.is ws

  pub was_refused : {r : Refusal} → p ≡ Err r → Err (number r) ≡ verdict ws
  was_refused e = by_pending e

  pub was_settled : {x : Effect} → p ≡ Ok (Settled x) → Ok x ≡ verdict ws
  was_settled e = by_pending e

  module _ {v : Result Effect Refusal} (asked : p ≡ Ok (Asked v)) where
    pub message_present : m < h.terms
    message_present = w.present (ap asks asked)

    by_answer : (derivable : Bool) → derivable_at h ts ws m ≡ derivable → need derivable 15 (numbered v) ≡ verdict ws
    by_answer derivable e = ap₂ settled (sym asked) (sym e) ∙ w.is ws

    pub denied : derivable_at h ts ws m ≡ false → Err 15 ≡ verdict ws
    denied = by_answer false

    pub granted : derivable_at h ts ws m ≡ true → numbered v ≡ verdict ws
    granted = by_answer true
