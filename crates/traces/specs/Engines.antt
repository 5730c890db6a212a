-- What an engine over tables must show so that what is proved of lawful histories holds of it, under any rule set. An engine
-- answers a call and moves to its next state; the history of a list of calls is made of the calls and those answers. It must show
-- that its tables stay those of the reading of that history, and that each call it accepts is one that the rules take.
-- Assumes nothing.
use Rattle.std.specs.Prelude.{ℕ, ◌≡◌, ◌↔◌, true, List, [], ◌∷◌}
use Rattle.terms.specs.Message.{Message}
use Rattle.exchange.specs.declared.call.Call.{Call}
use Rattle.exchange.specs.Calls.{Answer, accepts, Sized}
use Rattle.traces.specs.Logs.{OnWire}
use Rattle.traces.specs.Realm.{Realm}
use Rattle.traces.specs.RuleSets.{History, Reading, Entry, RuleSet, empty, read, Taken}

-- An engine's tables, read as values.
pub record Values (S : RuleSet) : Type 1 where
  pub now : ℕ
  pub rows : List S.Row
  pub terms : List Message
  pub wire : Message → Type 0
  pub entries : List Entry

module _ (S : RuleSet) (R : Realm) where
  -- "After each call the runs, the clock and the wire in the tables agree with these readings", and so do terms and cache.
  pub record Agrees (t : Values S) (ρ : Reading S.Event) : Type 0 where
    pub clock_is : t.now ≡ S.clock ρ.log
    pub runs_are : t.rows ≡ S.rows ρ.log
    pub terms_are : t.terms ≡ ρ.terms
    pub wire_is : (m : Message) → t.wire m ↔ OnWire ρ.log m
    pub cache_is : t.entries ≡ S.entries R ρ.log

  pub record Engine : Type 1 where
    pub State : Type 0
    pub start : State
    pub answer : State → Call → Answer
    pub next : State → Call → State
    pub tables : State → Values S
    -- What the engine keeps true of its state and the reading so far: at least that they agree.
    pub Fits : State → Reading S.Event → Type 0
    pub agrees : (s : State) (ρ : Reading S.Event) → Fits s ρ → Agrees (tables s) ρ
    pub fits_start : Fits start (empty S)
    pub fits_next : (s : State) (ρ : Reading S.Event) (c : Call) → Sized c → Fits s ρ → Fits (next s c) (read S (accepts (answer s c)) c ρ)
    -- Each call that it accepts is one that the rules take.
    pub takes : (s : State) (ρ : Reading S.Event) (c : Call) → Sized c → Fits s ρ → accepts (answer s c) ≡ true → Taken S R ρ c

  -- "Each call gets the tables that the one before it left": the state after a list of calls, the newest first, and its history.
  module _ (E : Engine) where
    abbrev pub after : List Call → E.State
    after [] = E.start
    after (c ∷ cs) = E.next (after cs) c

    abbrev pub history : List Call → History
    history [] = []
    history (c ∷ cs) = (c, E.answer (after cs) c) ∷ history cs
