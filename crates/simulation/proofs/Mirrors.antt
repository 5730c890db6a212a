-- An effect and an event mirror each other where what the one writes is what the other says of the log: the clock, the run, the
-- entry. That writing an effect follows the log, with its messages beside the event, is shown once, for any two that do (`Follows`).
-- Assumes nothing.
use Rattle.std.specs.Prelude.{ℕ, ◌≡◌, refl, List, [], ◌∷◌, ◌++◌, set}
use Rattle.exchange.specs.declared.call.Call.{Call}
use Rattle.kerberos.specs.Log.{Event, Nothing}
use Rattle.traces.specs.RuleSets.{Entry}
use Rattle.kerberos.specs.Log.{forget, clock_after, runs_after, cache_after}
use Rattle.kerberos.specs.Log.{Run, initiator_opened, initiator_authenticated, initiator_done, responder_opened, responder_done, server_done, stored}
use Rattle.traces.specs.Realm.{Realm}
use Rattle.realm.specs.Tables.{Tables}
use Rattle.decisions.specs.declared.Change.{Change}
use Rattle.decisions.specs.declared.Change.TheVariants as changes
use Rattle.decisions.specs.declared.Effect.{Effect}
use Rattle.decisions.specs.declared.Keeping.{Keeping}
use Rattle.decisions.specs.declared.Keeping.TheVariants.{Same, Remember, Forget}
use Rattle.decisions.specs.Effects.{nothing}
use Rattle.simulation.specs.Values.{logged}
use Rattle.decisions.specs.Laws.Took.{Took, took1, took2, took3, took4, took5, took6, took7, took8, took9, took10}

-- a row, and what becomes of the log's runs
abbrev pub RowMirrors : Change → (List Run → List Run) → Type 0
RowMirrors (changes.Open x) f = (y : Run) × (x ≡ stored y) × ((old : List Run) → f old ≡ old ++ (y ∷ []))
RowMirrors (changes.Set r x) f = (y : Run) × (x ≡ stored y) × ((old : List Run) → f old ≡ set old r y)
RowMirrors changes.Nothing f = (old : List Run) → f old ≡ old

-- what the cache does, and what becomes of the log's entries
module _ (R : Realm) (now : ℕ) where
  abbrev pub CacheMirrors : Keeping → (List Entry → List Entry) → Type 0
  CacheMirrors Same f = (old : List Entry) → f old ≡ old
  CacheMirrors (Remember e) f = (old : List Entry) → f old ≡ old ++ (logged e ∷ [])
  CacheMirrors (Forget b) f = (old : List Entry) → f old ≡ forget b now R.auth_life old

pub record Mirrors (now : ℕ) (e : Event) (x : Effect) : Type 0 where
  pub clock : x.clock ≡ clock_after e now
  pub rows : RowMirrors x.change (runs_after e)
  pub cache : (R : Realm) → CacheMirrors R now x.keeping (cache_after R now e)

-- a call that changes nothing
pub nothing_mirrors : {now : ℕ} → Mirrors now Nothing (nothing now)
nothing_mirrors = record { clock = refl; rows = λ old. refl; cache = λ R old. refl }

-- ---- each rule

pub took_mirrors : {t : Tables} {c : Call} {e : Event} {x : Effect} → Took t c e x → Mirrors t.realm.clock e x
took_mirrors (took1 {a} {b} p l) = record { clock = refl; rows = (initiator_opened a b, refl, λ old. refl); cache = λ R old. refl }
took_mirrors (took2 {a} {b} p l) = record { clock = refl; rows = (responder_opened a b, refl, λ old. refl); cache = λ R old. refl }
took_mirrors (took3 {n = n} d p l) = record { clock = refl; rows = (server_done _ _ _ _ n, refl, λ old. refl); cache = λ R old. refl }
took_mirrors (took4 v d c i) = record { clock = refl; rows = (initiator_authenticated _ _ _ _ _, refl, λ old. refl); cache = λ R old. refl }
took_mirrors (took5 v d i) = record { clock = refl; rows = (responder_done _ _ _ _ _, refl, λ old. refl); cache = λ R old. refl }
took_mirrors (took6 v d i) = record { clock = refl; rows = (initiator_done _ _ _ _ _, refl, λ old. refl); cache = λ R old. refl }
took_mirrors (took7 h) = record { clock = refl; rows = λ old. refl; cache = λ R old. refl }
took_mirrors (took8 h) = record { clock = refl; rows = λ old. refl; cache = λ R old. refl }
took_mirrors (took9 v) = record { clock = refl; rows = λ old. refl; cache = λ R old. refl }
took_mirrors (took10 d) = nothing_mirrors
