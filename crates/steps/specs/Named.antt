-- What the contracts of the steps say: which steps name a run, and a verdict that is pending.
-- Assumes nothing.
use Rattle.std.specs.Prelude.{ℕ, ◌<◌, ◌≡◌, ◌⊎◌, true, List, Result}
use Rattle.replay.specs.declared.entry.Entry.{Entry}
use Rattle.realm.specs.declared.header.Realm.{Realm}
use Rattle.realm.specs.declared.input.Step.{Step}
use Rattle.realm.specs.Input.{input_refusal}
use Rattle.realm.specs.Tables.{tables, Together}
use Rattle.conditions.specs.Conditions.{derivable_at}
use Rattle.decisions.specs.Decision.{Verdict}
use Rattle.refusals.specs.declared.Refusal.{Refusal}
use Rattle.receiving.specs.declared.Pending.{Pending}
use Rattle.receiving.specs.Pending.{settled, asks}

-- the steps that use "run"
abbrev pub NamesRun : ℕ → Type 0
NamesRun step = (step ≡ 4) ⊎ ((step ≡ 5) ⊎ ((step ≡ 6) ⊎ (step ≡ 9)))

-- the step names a run, and its fields pass
pub record Named (h : Realm) (s : Step) : Type 0 where
  pub passes : input_refusal h s ≡ 0
  pub names : NamesRun s.step

-- these tables hold together, with some wire
abbrev pub Holding : Realm → (ts rs : List ℕ) → List Entry → Type 0
Holding h ts rs cache = (ws : List ℕ) × Together (tables h ts rs ws cache)

-- what is pending becomes the verdict of each wire; a term that is asked for is present
pub record Pends (h : Realm) (ts : List ℕ) (m : ℕ) (p : Result Pending Refusal) (verdict : List ℕ → Verdict) : Type 0 where
  pub present : asks p ≡ true → m < h.terms
  pub is : (ws : List ℕ) → settled p (derivable_at h ts ws m) ≡ verdict ws
