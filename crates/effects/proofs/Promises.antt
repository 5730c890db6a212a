-- What a call comes to. The contract of `apply` gives the answer and every table after an effect was written, by the definitions in
-- Apply, over Row and Cache; what can be refused is decided before. `Call` has a whole call: the engine's contracts are equations
-- with it.
-- Assumes nothing.
use Rattle.std.specs.Prelude.{ℕ, ◌+◌, ◌↔◌, ◌≡◌, refl, Err}
use Rattle.exchange.specs.declared.call.Call.{Call}
use Rattle.exchange.specs.Calls.{added_by}
use Rattle.decisions.specs.declared.Effect.{Effect}
use Rattle.decisions.specs.Decision.{decision}
use Rattle.realm.specs.declared.input.Step.{Step}
use Rattle.realm.specs.Opening.{header}
use Rattle.realm.specs.Tables.{Tables, Together}
use Rattle.effects.proofs.Added as added
use Rattle.effects.specs.Apply.{applied}
use Rattle.effects.specs.Call.{stepped, called}
use Rattle.effects.proofs.Kept as kept
use Rattle.effects.proofs.Numbers as numbers
-- ---- laws passed on
-- remember and forget are what the steps do: where step 5 or 8 is accepted, the cache is as the thin call leaves it, and where
-- nothing but the cache bars step 5, its refusal is the thin call's
pub use Rattle.effects.proofs.ThinCalls.{cache_left, step_5_remembers, step_8_forgets, step_5_refuses}

-- no effect changes the header
pub header_stays : (t : Tables) (x : Effect) → header (applied t x).tables.realm ≡ header t.realm
unfolding applied
header_stays t x = refl

-- a call that is refused leaves the realm and every place of every table as they were
pub refused_kept : (t : Tables) (c : Call) {k : ℕ} → (called t c).answer ≡ Err k → (called t c).tables ≡ t
refused_kept t c e = kept.refused_kept t c e

-- a step's refusal is the number that was decided, and the other way round
pub step_refused : (t : Tables) (s : Step) {k : ℕ} → ((stepped t s).answer ≡ Err k) ↔ (decision t s ≡ Err k)
step_refused t s = kept.step_refused t s

-- "10 is met only by a library caller": no call answers it, but for the check
pub never_10 : (t : Tables) (c : Call) → ¬ ((called t c).answer ≡ Err 10)
never_10 t c e = numbers.never_10 t c e

-- an answer tells how many terms the table has more: none where a term was present, one where it is new, and what a step added
pub added_counted : (t : Tables) → Together t → (c : Call) → (called t c).tables.realm.terms ≡ t.realm.terms + added_by (called t c).answer
added_counted t w c = added.added_counted t w c
