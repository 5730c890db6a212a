-- What a call comes to, and an effect written: the answer, and every table afterwards, place by place. Nothing is refused here.
-- Assumes nothing.
use Rattle.std.specs.Prelude.{ℕ, ◌-◌, List, length, Ok, Err}
use Rattle.terms.specs.Number.{terms_of}
use Rattle.messages.specs.Lent.{over}
use Rattle.sending.specs.Send.{entered_all, marked_all}
use Rattle.exchange.specs.Calls.{Answer}
use Rattle.exchange.specs.declared.call.Accepted.TheVariants.{Taken}
use Rattle.refusals.specs.Numbers.{numbered}
use Rattle.realm.specs.declared.header.Realm.{Realm}
use Rattle.realm.specs.Tables.{Tables, tables}
use Rattle.decisions.specs.declared.Effect.{Effect}
use Rattle.decisions.specs.Effects.{messages_of}
use Rattle.effects.specs.declared.apply.After.{After}
use Rattle.effects.specs.Row.{changed, run_count}
use Rattle.effects.specs.Cache.{cache_of}

-- ---- what a call comes to

pub record Outcome : Type 0 where
  pub answer : Answer
  pub tables : Tables

-- what the code gave back, beside the lent tables
abbrev pub outcome : After → (terms runs wire : List ℕ) → Outcome
outcome r ts rs ws = record { answer = numbered r.answer; tables = tables r.realm ts rs ws r.cache }

-- "A refusal is its number alone. State, wire, cache and terms stay unchanged."
abbrev pub refuse : Tables → ℕ → Outcome
refuse t number = record { answer = Err number; tables = t }

-- ---- an effect

abbrev pub realm_after : Realm → (clock terms runs entries : ℕ) → Realm
realm_after h clock terms runs entries =
    record { n = h.n; rules = h.rules; flags = h.flags; ls = h.ls; la = h.la; clock = clock; terms = terms; runs = runs; entries = entries }

-- with these terms and this wire: "an accepted ST line ends in `+` and the number of terms added"
abbrev pub applied_with : Tables → Effect → (count : ℕ) (ts ws : List ℕ) → Outcome
applied_with t x count ts ws =
    let h = t.realm in
    let c = cache_of h t.cache x.keeping in
    record {
      answer = Ok (Taken x.names (count - h.terms));
      tables = tables (realm_after h x.clock count (run_count h.runs x.change) c.count) ts (changed h.runs x.change t.runs) ws c.places;
    }

-- "When a step needs a message, its terms are added", and "'Sends' puts the term on the wire"
unfoldable pub applied : Tables → Effect → Outcome
applied t x =
    let ms = messages_of t.terms x.sends in
    let xs = entered_all (terms_of t.terms t.realm.terms) ms in
    applied_with t x (length xs) (over xs t.terms) (marked_all t.wire xs ms)
