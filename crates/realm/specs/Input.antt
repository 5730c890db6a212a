-- What turns a step away by its fields (document 01, "What turns a record away, from the input"): the table of the fields
-- that each step uses, and refusals 4, 5 and 6 in rising order.
-- Assumes nothing.
use Rattle.std.specs.Prelude.{ℕ, ◌≤◌, ◌≡◌, Bool, true, false, not, ◌&&◌, ◌||◌, cond, List, [], ◌∷◌, ltb, leb, eqb, get_or}
use Rattle.runs.specs.Lent.{principals_fit}
use Rattle.realm.specs.declared.header.Realm.{Realm}
use Rattle.realm.specs.declared.input.Step.{Step}
use Rattle.realm.specs.declared.input.Uses.{Uses}

-- the column "uses"
abbrev uses : (run a b m t : Bool) → Uses
uses run a b m t = record { run = run; a = a; b = b; m = m; t = t }

-- no field
abbrev pub none : Uses
none = uses false false false false false

-- "a, b"
abbrev opens : Uses
opens = uses false true true false false

-- "m"
abbrev message : Uses
message = uses false false false true false

-- "run, m"
abbrev takes : Uses
takes = uses true false false true false

-- by the step's number, 0 to 10; 7 uses "t", 8 "b", 9 "run"
unfoldable pub uses_table : List Uses
uses_table =
    none
    ∷ opens
    ∷ opens
    ∷ message
    ∷ takes
    ∷ takes
    ∷ takes
    ∷ uses false false false false true
    ∷ uses false false true false false
    ∷ uses true false false false false
    ∷ message
    ∷ []

abbrev pub uses_of : ℕ → Uses
uses_of step = get_or uses_table step none

-- not: "a field the record does not use is not 0"
abbrev pub unused_zero : Uses → Step → Bool
unused_zero u s =
    (u.run || eqb s.run 0) && (u.a || eqb s.a 0) && (u.b || eqb s.b 0) && (u.m || eqb s.m 0) && (u.t || eqb s.t 0)

-- not: "party at n or above, run or term not present ..; in steps 1 and 2, a or b is 0, or a equals b". Only they use a.
unfoldable pub in_range : Realm → Uses → Step → Bool
in_range h u s =
    (not u.run || ltb s.run h.runs)
    && (not u.a || principals_fit h.n s.a s.b)
    && (not u.b || ltb s.b h.n)
    && (not u.m || ltb s.m h.terms)

-- 0, or the number of the refusal: 4 "step outside 1 to 10", then 5 and 6
unfoldable pub input_refusal : Realm → Step → ℕ
input_refusal h s =
    cond (leb 1 s.step && leb s.step 10) (cond (unused_zero (uses_of s.step) s) (cond (in_range h (uses_of s.step) s) 0 6) 5) 4

-- ---- what a step that passes has

pub record InputPassed (h : Realm) (s : Step) : Type 0 where
  pub low : 1 ≤ s.step
  pub high : s.step ≤ 10
  pub unused : unused_zero (uses_of s.step) s ≡ true
  pub range : in_range h (uses_of s.step) s ≡ true
