-- The terms that have been found: a set of them, and a list in the order in which they were found. Each stands in the list once.
-- Assumes nothing.
use Rattle.std.specs.Prelude.{◌≡◌, cond, replicate, List, ℕ, zero, suc, ◌+◌, ◌<◌, get_or, set}
use Rattle.std.proofs.Math.Bool.{true}
use Rattle.std.proofs.Math.ListN.{length}
use Rattle.marks.specs.Marks.{Words, marked, with_mark, size}

-- ---- definitions

pub record Found : Type 0 where
  pub known : List ℕ
  pub list : List ℕ
  pub count : ℕ

abbrev pub as_found : (known list : List ℕ) (count : ℕ) → Found
as_found known list count = record { known = known; list = list; count = count }

-- nothing has been found
abbrev pub blank : Found
blank = as_found (replicate 8 0) (replicate 512 0) 0

-- term t goes behind the others, if it is new
unfoldable pub learn_of : Found → ℕ → Found
learn_of f t = cond (marked f.known t) f (as_found (with_mark f.known t) (set f.list f.count t) (f.count + 1))

-- there is a place for every term that is new
pub record Room (f : Found) : Type 0 where
  pub words : Words 8 f.known
  pub places : length f.list ≡ 512
  pub counted : f.count ≡ size f.known

-- the set and the list have the same terms, all below `count`
pub record Listed (count : ℕ) (f : Found) : Type 0 where
  pub room : Room f
  pub place : (i : ℕ) → marked f.known i ≡ true → (j : ℕ) × (j < f.count) × (get_or f.list j 0 ≡ i)
  pub member : (j : ℕ) → j < f.count → marked f.known (get_or f.list j 0) ≡ true
  pub below : (i : ℕ) → marked f.known i ≡ true → i < count

-- ---- the terms on the wire

-- term i is found, if it is on the wire
abbrev pub notice_of : List ℕ → Found → ℕ → Found
notice_of ws f i = cond (marked ws i) (learn_of f i) f

-- of the terms below m, the first first
unfoldable pub start_of : List ℕ → ℕ → Found → Found
start_of ws zero f = f
start_of ws (suc m) f = notice_of ws (start_of ws m f) m
