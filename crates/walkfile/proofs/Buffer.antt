-- The buffer after `list`: the laws that callers use, from the equation of its contract.
-- Assumes nothing.
use Rattle.std.specs.Prelude.{Bool, true, false, cond, List, ◌≡◌, ℕ, ◌<◌, ltb, length, take, drop}
use Rattle.std.proofs.Common.{sym, ap, arith, length-take}
use Rattle.std.proofs.Math.Nat.{min-le_right}
use Rattle.io.specs.Counts.{IsPrefixLen}
use Rattle.fields.specs.Placed.{placed, Wrote}
use Rattle.fields.proofs.Promises as fields
use Rattle.walkfile.specs.Listing.{listing_of, listing_bytes, written, no_room, listed}
use Rattle.walkfile.proofs.Ways as ways

module _ (file buffer : List ℕ) where
  -- A buffer that is too short stays as it is.
  pub short_kept : length buffer < listing_bytes → listed file buffer ≡ no_room buffer
  short_kept h = sym (ways.not_listed file buffer h)

  module _ (count : ℕ) (after : List ℕ) (e : written count after ≡ listed file buffer) where
    by_room : (b : Bool) → written count after ≡ cond b (no_room buffer) (written (length (listing_of file)) (placed buffer 0 (listing_of file)))
        → Wrote buffer 0 (listing_of file) after count
    by_room true q = let z : ◌≡◌ {A = ℕ} 0 1 = cc in absurd (omega arith)
    by_room false q =
        let n : count ≡ length (listing_of file) = cc in
        let a : after ≡ placed buffer 0 (listing_of file) = cc in
        record { contents = a; offset = omega (arith, n) }

    wrote : Wrote buffer 0 (listing_of file) after count
    unfolding listed
    wrote = by_room (ltb (length buffer) listing_bytes) e

    -- Otherwise the listing stands at its start,
    pub start_is : take count after ≡ listing_of file
    start_is = fields.written (omega arith) wrote

    -- and the bytes behind it are as they were.
    pub rest_kept : drop count after ≡ drop count buffer
    rest_kept = fields.kept (omega arith) wrote

    -- The count is within the buffer.
    pub counts : IsPrefixLen count after
    counts =
        let whole : count ≡ length (take count after) = omega (arith, wrote.offset, ap length start_is) in
        (omega (arith, whole, length-take count after, min-le_right count (length after)), whole)
