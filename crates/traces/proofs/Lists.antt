-- What follows from the definitions of the same name in specs/.
-- Assumes nothing.
use Rattle.std.specs.Prelude.{List}
use Rattle.traces.specs.Lists.{◌∈◌, there, ◌⊑◌, now, before}

-- What was in the list at a point of it is in it.
pub in_later : {A : Type 0} {x : A} {p l : List A} → p ⊑ l → x ∈ p → x ∈ l
in_later now i = i
in_later (before s) i = there (in_later s i)
