-- Who can fill the replay cache, and with what times: what is promised of each entry after a history. One is the intruder's own work
-- only where its responder or its initiator is bad, or its key had leaked; and a good responder's always has a key that the server
-- issued for it.
-- Assumes nothing.
use Rattle.std.specs.Prelude.{ℕ, ◌+◌, ◌<◌, ◌≤◌}
use Rattle.traces.specs.Realm.{Realm, Good}
use Rattle.traces.specs.Lists.{◌∈◌, ◌⊑◌}
use Rattle.traces.specs.Logs.{Did}
use Rattle.traces.specs.RuleSets.{History, entry}
use Rattle.exchange.specs.declared.form.Form.{Form}
use Rattle.kerberos.specs.Log.{Issue, Authenticate, Log, clock, cache}
use Rattle.kerberos.specs.Reading as reading
use Rattle.kerberos.specs.Words.{Accepts, Leaked}

module _ (f : Form) where
  abbrev log : History → Log
  log h = reading.log f h

  -- What is promised of an entry b, k, ta of the replay cache after the history h.
  pub record Entered (R : Realm) (h : History) (b k ta : ℕ) : Type 0 where
    -- At a point of the list a run of b accepted some a with k and ta.
    pub acc : History
    pub point : acc ⊑ h
    pub r : ℕ
    pub a : ℕ
    pub ts : ℕ
    pub accepted : Accepts (log acc) r a b k ts ta
    -- "a delivery taken has a Ta above clock - La and at most clock + La" (02, change 5), whoever a and b are.
    pub timely : (clock (log acc) < ta + R.auth_life) × (ta ≤ clock (log acc) + R.auth_life)
    -- If b is good, the server issued the key for that a and b;
    pub issued : Good R b → (n : ℕ) × Did (log acc) (Issue k a b ts n)
    -- and if a is good too and the key had not leaked by then, an initiator run of a, meant for b, sent the authenticator at its step 4.
    pub own : Good R a → Good R b → ¬ (Leaked (log acc) k) → (i : ℕ) × Did (log acc) (Authenticate i a b k ts ta)

  abbrev pub Entries : Realm → History → Type 0
  Entries R h = (b k ta : ℕ) → entry b k ta ∈ cache R (log h) → Entered R h b k ta
