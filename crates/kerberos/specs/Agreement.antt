-- Demand 3 as a statement about a history, in each form: what is promised at each acceptance, a field for each clause; and the secrecy
-- of an unleaked key, accepted with or not. Points are points of the list of calls; what is so at a point is read from the calls and
-- answers up to it. "Ever" is at any point, before the acceptance or after it.
-- Assumes nothing.
use Rattle.std.specs.Prelude.{ℕ, ◌+◌, ◌<◌, ◌≤◌, ◌≡◌, ◌⊎◌}
use Rattle.terms.specs.Message.{session, key}
use Rattle.traces.specs.Realm.{Realm, Good}
use Rattle.traces.specs.Lists.{◌⊑◌}
use Rattle.traces.specs.Logs.{Did}
use Rattle.traces.specs.Conditions.{Derivable}
use Rattle.traces.specs.RuleSets.{History}
use Rattle.exchange.specs.declared.form.Form.{Form}
use Rattle.kerberos.specs.Log.{Issue, Log, clock}
use Rattle.kerberos.specs.Reading as reading
use Rattle.kerberos.specs.Words.{Initiator, Responder, RunOf, Has, Holds, Accepts, ServersKey, Leaked}

module _ (f : Form) where
  abbrev log : History → Log
  log h = reading.log f h

  -- What is promised of the history h at its point acc, at which run r of B has just accepted A with k, ts and ta.
  pub record Agreement (R : Realm) (h acc : History) (A B r k ts ta : ℕ) : Type 0 where
    -- "if it was opened for A": r is a responder run of B, opened for A.
    pub acceptor : Responder (log acc) r A B
    -- The key is a server's key: a condition of the demand that need not be asked for.
    pub server's : ServersKey (log acc) k
    -- The ticket was live, and "a delivery taken has a Ta above clock - La and at most clock + La" (02, change 5).
    pub live : (clock (log acc) < ts + R.ticket_life) × (clock (log acc) < ta + R.auth_life) × (ta ≤ clock (log acc) + R.auth_life)
    -- From that step to the end exactly one initiator run of A meant for B has the three values:
    pub partner : ℕ
    pub one : (p : History) → acc ⊑ p → p ⊑ h → Initiator (log p) partner A B × Has (log p) partner k ts ta
    pub one_only : (p : History) → acc ⊑ p → p ⊑ h → (i : ℕ) → Initiator (log p) i A B → Has (log p) i k ts ta → i ≡ partner
    -- No other run of B, as initiator or responder and opened for whomever, ever has all three.
    pub no_other : (p : History) → p ⊑ h → (i : ℕ) → RunOf (log p) i B → Has (log p) i k ts ta → i ≡ r
    -- At every point at which the key has not leaked, before or after, the intruder cannot derive it,
    pub secret : (p : History) → p ⊑ h → ¬ (Leaked (log p) k) → ¬ (Derivable R (log p) (key (session k)))
    -- and no run but those two and the server's holds it.
    pub holders : (p : History) → p ⊑ h → ¬ (Leaked (log p) k) → (i : ℕ) → Holds (log p) i k → (i ≡ partner) ⊎ ((i ≡ r) ⊎ (i ≡ k))

  -- Every A and B not bad, and every acceptance of A by a run of B with a key not leaked by then.
  abbrev pub Demand3 : Realm → History → Type 0
  Demand3 R h =
      (A B : ℕ)
      → Good R A
      → Good R B
      → (r k ts ta : ℕ) (acc : History)
      → acc ⊑ h
      → Accepts (log acc) r A B k ts ta
      → ¬ (Leaked (log acc) k)
      → Agreement R h acc A B r k ts ta

  -- "the secrecy of an unleaked key" (02, change 6): the intruder cannot derive a key that the server issued to good A and B, at any
  -- point at which it has not leaked, accepted with or not
  abbrev pub Secrecy : Realm → History → Type 0
  Secrecy R h =
      (A B : ℕ)
      → Good R A
      → Good R B
      → (k ts n : ℕ)
      → Did (log h) (Issue k A B ts n)
      → (p : History)
      → p ⊑ h
      → ¬ (Leaked (log p) k)
      → ¬ (Derivable R (log p) (key (session k)))
