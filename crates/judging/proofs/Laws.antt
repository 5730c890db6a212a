-- A law for the proof of the code: a buffer that is long enough has room for the listing.
-- Assumes nothing.
use Rattle.std.specs.Prelude.{Bool, true, false, cond, List, ◌≡◌, ℕ, ◌≤◌, ltb, length}
use Rattle.std.proofs.Common.{arith, le-ltb}
use Rattle.walkfile.specs.Listing.{listing_bytes, listed, no_room, written}

by_room : (b : Bool) (buffer after : List ℕ) (count : ℕ) (wrote : List ℕ) → b ≡ false → no_room after ≡ cond b (no_room buffer) (written count wrote) → ⊥
by_room true buffer after count wrote f e = let z : ◌≡◌ {A = ℕ} 0 1 = cc in omega arith
by_room false buffer after count wrote f e = let z : ◌≡◌ {A = ℕ} 0 1 = cc in omega arith

pub has_room : (file buffer after : List ℕ) → listing_bytes ≤ length buffer → no_room after ≡ listed file buffer → ⊥
unfolding listed
has_room file buffer after h e = by_room (ltb (length buffer) listing_bytes) buffer after _ _ (le-ltb (length buffer) listing_bytes h) e
