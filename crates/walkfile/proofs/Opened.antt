-- The tables of a realm that was just opened hold together: none of their places is in use.
-- Assumes nothing.
use Rattle.std.specs.Prelude.{Ok, ℕ, ◌≡◌, refl, List}
use Rattle.std.proofs.lemmas.List.{length-replicate}
use Rattle.exchange.specs.declared.header.Header.{Header}
use Rattle.records.specs.Fields.{Bytes}
use Rattle.records.specs.Headers.{header_of}
use Rattle.records.proofs.Headers.{header_fields}
use Rattle.replay.specs.Cache.{empty}
use Rattle.realm.specs.declared.header.Realm.{Realm}
use Rattle.realm.specs.New.{Lends}
use Rattle.realm.proofs.New.{new_together}
use Rattle.realm.specs.Opening.{header as headerOfRealm, opening_of}
use Rattle.simulation.proofs.Engine as engine
use Rattle.simulation.specs.Engine.{New}
use Rattle.walkfile.specs.Listing.{new_tables}
use Rattle.walkfile.specs.Walking.{Walkable}

-- the tables that `walkfile` makes for a realm that was opened
pub lends : (h : Realm) → Lends h (new_tables h)
unfolding new_tables
lends h =
    record {
      realm_is = refl;
      terms = length-replicate {A = ℕ} 512 0;
      runs = length-replicate {A = ℕ} 448 0;
      wire = refl;
      cache = length-replicate 16 empty;
    }

pub walkable : (bytes : List ℕ) (g : Header) (h : Realm) → Bytes bytes → header_of bytes ≡ Ok g
    → opening_of g ≡ Ok h → Walkable h g.mark bytes
walkable bytes g h small e o =
    let f = header_fields bytes g e in
    let s = f.sized small in
    record {
      together = new_together g h (new_tables h) s.2 s.3 o (lends h);
      least = f.least;
      whole = f.whole;
      most = f.most;
    }

-- its tables are those of a new realm, as the engine asks for one
pub opened_new : (bytes : List ℕ) (g : Header) (h : Realm) → Bytes bytes → header_of bytes ≡ Ok g
    → opening_of g ≡ Ok h → New (headerOfRealm h) (new_tables h)
opened_new bytes g h small e o =
    let s = (header_fields bytes g e).sized small in
    engine.opened_new g h (new_tables h) s.2 s.3 o (lends h)
