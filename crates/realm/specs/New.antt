-- The tables of a realm that was just opened: "A new hall has clock 0 and empty tables." None of their places is in use, so whatever
-- stands in them, they hold together.
-- Assumes nothing.
use Rattle.std.specs.Prelude.{◌≡◌, length, replicate}
use Rattle.realm.specs.declared.header.Realm.{Realm}
use Rattle.realm.specs.Tables.{Tables}

-- what a caller lends for the realm h: tables of the full number of places, and nothing marked on the wire
pub record Lends (h : Realm) (t : Tables) : Type 0 where
  pub realm_is : t.realm ≡ h
  pub terms : length t.terms ≡ 512
  pub runs : length t.runs ≡ 448
  pub wire : t.wire ≡ replicate 8 0
  pub cache : length t.cache ≡ 16
