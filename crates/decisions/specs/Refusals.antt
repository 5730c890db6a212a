-- Which refusals a step can have (document 01, "What turns a record away, from the input" and "from the state").
-- Assumes nothing.
use Rattle.std.specs.Prelude.{ℕ, List, [], ◌∷◌, get_or}
use Rattle.conditions.specs.Conditions.{admission_refusals}

-- "steps", the last column, turned round: by the step's number, from 0 on; 20 apart
abbrev pub refusals_of : ℕ → List ℕ
refusals_of step = get_or (
    []
    ∷ (13 ∷ [])
    ∷ (13 ∷ [])
    ∷ (13 ∷ 14 ∷ 15 ∷ [])
    ∷ (11 ∷ 14 ∷ 15 ∷ 16 ∷ [])
    ∷ (11 ∷ 14 ∷ 15 ∷ admission_refusals)
    ∷ (11 ∷ 14 ∷ 15 ∷ 16 ∷ [])
    ∷ (12 ∷ [])
    ∷ []
    ∷ (11 ∷ [])
    ∷ (15 ∷ [])
    ∷ []) step []

-- all that a step can have
abbrev pub all_of : ℕ → List ℕ
all_of step = 20 ∷ 4 ∷ 5 ∷ 6 ∷ refusals_of step
