-- How a walk over the records stands: what is written already, and what the records still to be read come to, is the listing.
-- Laws for the code's loop, over plain variables.
-- Assumes nothing.
use Rattle.std.specs.Prelude.{length}
use mathlib.Core.List.{List}
use Prim.Native.Nat.{ℕ, ◌≤◌}
use Rattle.records.specs.Headers.{header_width, max_file}
use Rattle.realm.specs.declared.header.Realm.{Realm}
use Rattle.realm.specs.Tables.{Together}
use Rattle.walkfile.specs.Listing.{new_tables}

-- A realm that was just opened, and the file that its header stands in.
pub record Walkable (h : Realm) (mark : ℕ) (bytes : List ℕ) : Type 0 where
  pub together : Together (new_tables h)
  pub least : 13 ≤ header_width mark
  pub whole : header_width mark ≤ length bytes
  pub most : length bytes ≤ max_file
