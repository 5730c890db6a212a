-- What the crate promises beside the contracts of its functions: the laws of packed sets that clients use. Marks has the
-- definitions. All are over any number of words.
-- Assumes nothing.
use Rattle.std.specs.Prelude.{◌≡◌, ◌↔◌, Bool, true, false, List, ℕ, suc, ◌*◌, ◌<◌, ◌≤◌, length}
use Rattle.marks.specs.Marks.{Words, marked, with_mark, size}
use Rattle.marks.proofs.Marks as marks
use Rattle.marks.specs.Sets as sets
use Rattle.marks.proofs.Sets as sets_laws
use Rattle.marks.proofs.Size as sizes
use Rattle.marks.specs.Within as withins
use Rattle.marks.proofs.Within as withins_laws

-- a number that was added is a member,
pub added : (ws : List ℕ) (i : ℕ) → i < 64 * length ws → marked (with_mark ws i) i ≡ true
added ws i h = marks.marked_same ws i h

-- and nothing else changes;
pub others : (ws : List ℕ) (i : ℕ) → i < 64 * length ws → (k : ℕ) → (k ≡ i → ⊥) → marked (with_mark ws i) k ≡ marked ws k
others ws i h k ne = marks.marked_other ws i h k ne

-- adding a member again changes nothing.
pub again : (ws : List ℕ) (i : ℕ) → marked ws i ≡ true → with_mark ws i ≡ ws
again ws i e = marks.with_idle ws i e

-- The size grows by one with a new member,
pub grows : {k : ℕ} {ws : List ℕ} → Words k ws → (i : ℕ) → i < 64 * k → marked ws i ≡ false → size (with_mark ws i) ≡ suc (size ws)
grows w i h e = sizes.size_with w i h e

-- and is at most the width.
pub at_most : {k : ℕ} {ws : List ℕ} → Words k ws → size ws ≤ 64 * k
at_most w = sizes.size_le w

-- `within` says that every member is below the bound.
pub bounded : (ws : List ℕ) (bound : ℕ) → withins.within ws bound ≡ true → (i : ℕ) → marked ws i ≡ true → i < bound
bounded ws bound e i m = withins_laws.within_is ws bound e i m

-- The members of `set_of` are the numbers below the bound that pass the test,
pub members : (k : ℕ) (test : ℕ → Bool) (n : ℕ) → n ≤ 64 * k → (i : ℕ) → (marked (sets.set_of k test n) i ≡ true) ↔ ((i < n) × (test i ≡ true))
members k test n h i = sets_laws.set_exact k test n h i

-- and packed sets with the same members are the same words.
pub same : {k : ℕ} {vs ws : List ℕ} → Words k vs → Words k ws → ((i : ℕ) → marked vs i ≡ marked ws i) → vs ≡ ws
same v w e = sets_laws.same_words v w e
