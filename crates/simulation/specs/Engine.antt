-- The engine as the theory asks for one: its tables stay those of the reading of the calls and their answers, and each call that
-- it accepts is one that the rules take. So demand 3 holds of it. A call is taken as `called` has it; the tables hold together
-- from the start on, so the check of refusal 10 never shows.
-- Assumes nothing.
use Rattle.std.specs.Prelude.{◌≡◌}
use Rattle.traces.specs.Engines.{Agrees}
use Rattle.traces.specs.Realm.{Realm}
use Rattle.traces.specs.RuleSets.{Reading}
use Rattle.kerberos.specs.Log.{Event}
use Rattle.kerberos.specs.Reading.{set_of}
use Rattle.realm.specs.Opening.{header}
use Rattle.realm.specs.Tables.{Tables, Together}
use Rattle.simulation.specs.Values.{values_of}

-- ---- what the engine keeps

-- the realm has this header, and its tables hold together and agree with the reading
pub record Follows (R : Realm) (t : Tables) (ρ : Reading Event) : Type 0 where
  pub header_is : header t.realm ≡ R
  pub together : Together t
  pub agrees : Agrees (set_of R) R (values_of R t) ρ

-- "A new hall has clock 0 and empty tables", whatever stands in the places
pub record New (R : Realm) (t : Tables) : Type 0 where
  pub header_is : header t.realm ≡ R
  pub together : Together t
  pub clock : t.realm.clock ≡ 0
  pub terms : t.realm.terms ≡ 0
  pub runs : t.realm.runs ≡ 0
  pub entries : t.realm.entries ≡ 0
