-- What is known of the effect of a step that is taken: its row, its entry and its messages are such as the tables can hold.
-- Assumes nothing.
use Rattle.std.specs.Prelude.{ℕ, ◌<◌, ◌≤◌, ◌≡◌, true, List}
use Rattle.terms.specs.Message.{Message}
use Rattle.sending.specs.Send.{AllWrites}
use Rattle.runs.specs.Lent.{has_stage, PrincipalsFit}
use Rattle.exchange.specs.declared.run.Role.TheVariants.{Server}
use Rattle.exchange.specs.declared.run.Row.{Row}
use Rattle.realm.specs.Tables.{Tables, EntryFits}
use Rattle.decisions.specs.declared.Change.{Change}
use Rattle.decisions.specs.declared.Change.TheVariants as changes
use Rattle.decisions.specs.declared.Effect.{Effect}
use Rattle.decisions.specs.declared.Keeping.{Keeping}
use Rattle.decisions.specs.declared.Keeping.TheVariants.{Same, Remember, Forget}
use Rattle.decisions.specs.declared.Sends.{Sends}
use Rattle.decisions.specs.declared.Sends.TheVariants.{Request, Issue, Presented, Confirmation, Key}
use Rattle.decisions.specs.declared.Sends.TheVariants as sending
use Rattle.decisions.specs.Effects.{messages_of}
use Rattle.decisions.specs.Laws.Forms.{SendsKey}

-- ---- definitions

-- row x of run r, written with these messages
pub record RowFits (n : ℕ) (ms : List Message) (r : ℕ) (x : Row) : Type 0 where
  pub stage : has_stage x.role x.stage ≡ true
  pub principals : PrincipalsFit n x.a x.b
  pub key : x.k ≤ 95
  pub server : x.role ≡ Server → (x.k ≡ r) × SendsKey x.k ms

module _ (t : Tables) where
  abbrev pub RowReady : List Message → Change → Type 0
  RowReady ms (changes.Open x) = (t.realm.runs < 64) × RowFits t.realm.n ms t.realm.runs x
  RowReady ms (changes.Set r x) = (r < t.realm.runs) × RowFits t.realm.n ms r x
  RowReady ms changes.Nothing = Unit {0}

  abbrev pub EntryReady : Keeping → Type 0
  EntryReady Same = Unit {0}
  EntryReady (Remember e) = (t.realm.entries < 16) × EntryFits t.realm.n e
  EntryReady (Forget b) = Unit {0}

-- a term that is passed on is present
abbrev pub Carries : (count : ℕ) → Sends → Type 0
Carries count sending.Nothing = Unit {0}
Carries count (Request a b n) = Unit {0}
Carries count (Issue f k a b ts n) = Unit {0}
Carries count (Presented f a ta k x) = x < count
Carries count (Confirmation ta k) = Unit {0}
Carries count (Key k) = Unit {0}

pub record EffectFits (t : Tables) (x : Effect) : Type 0 where
  pub row : RowReady t (messages_of t.terms x.sends) x.change
  pub entry : EntryReady t x.keeping
  pub writes : AllWrites t.realm.n (messages_of t.terms x.sends)
  pub carries : Carries t.realm.terms x.sends
