-- What a Bool that was computed says, of the tests (`&&`, `cond`) that definitions which follow the code are made of; and which way a
-- decided proposition (`ite`) goes.
-- Assumes nothing.
use Rattle.std.specs.Prelude.{◌≡◌, Bool, true, false}

-- ---- definitions

-- the answer of a test is true exactly where P holds
pub record Decides (answer : Bool) (P : Type 0) : Type 0 where
  pub yes : answer ≡ true → P
  pub no : answer ≡ false → P → ⊥
