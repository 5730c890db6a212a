-- "Forgetting one tick early: a message is still live and no longer remembered." After case F's acceptance the clock goes to
-- 9, the last tick of the authenticator's life, b's entries are purged, and the message is delivered to another run. The cache
-- of the rules still has the entry; one that forgets a tick early has not, and all else that step 5 asks for holds.
-- Assumes nothing.
use Rattle.std.specs.Prelude.{suc, ◌<◌, ◌≡◌, refl, List, [], ◌∷◌, length, Some, None, Ok}
use Rattle.std.proofs.Math.Option.{some}
use Rattle.std.proofs.Math.Decide.{ℕ_discrete}
use Rattle.terms.specs.Message.{pair}
use Rattle.deduction.specs.Derives.{on_wire, join}
use Rattle.exchange.specs.declared.call.Call.TheVariants.{Step}
use Rattle.exchange.specs.declared.call.Accepted.TheVariants.{Taken}
use Rattle.traces.specs.Realm.{Realm}
use Rattle.traces.specs.Lists.{◌∈◌, here, there}
use Rattle.exchange.specs.declared.form.Form.TheVariants.{Parallel}
use Rattle.kerberos.specs.Messages.{ticket, authenticator}
use Rattle.traces.specs.Logs.{sent}
use Rattle.kerberos.specs.Log.{Log, clock, run, responder_opened, cache_after, cache}
use Rattle.traces.specs.Conditions.{Delivers}
use Rattle.kerberos.specs.Rules.{TicketLives, AuthenticatorLives, NotAhead, takes2, takes7, takes8}
use Rattle.traces.specs.RuleSets.{History, Entry, entry, call, reading}
use Rattle.kerberos.specs.Reading.{log, Lawful, rules}
use Rattle.traces.proofs.Sample.{realm, apart, le, nowhere}
use Rattle.kerberos.proofs.Examples.Acceptance.{accepting, lawful_accepting}

-- the replay cache of an engine whose purge is one tick ahead of the clock
abbrev pub early : Realm → Log → List Entry
early R [] = []
early R ((e, ms) ∷ l) = cache_after R (suc (clock l)) e (early R l)

-- "B: Ta 0, La 10: clock 9 passes"
abbrev pub purged : History
purged = (Step 2 0 1 2 0 0, Ok (Taken (Some 3) 0)) ∷ (Step 8 0 0 2 0 0, Ok (Taken None 0)) ∷ (Step 7 0 0 0 0 9, Ok (Taken None 0)) ∷ accepting Parallel

pub lawful_purged : Lawful Parallel realm purged
unfolding ℕ_discrete
lawful_purged =
    call (call (call (lawful_accepting Parallel)
    (λ _. takes7 (le refl)))
    (λ _. takes8 (le refl)))
    (λ _. takes2 (le refl, le refl) apart (le refl))

-- "C: that entry survives step 8 at clock 9"
pub remembered : cache realm (log Parallel purged) ≡ entry 2 1 0 ∷ []
unfolding ℕ_discrete
remembered = refl

pub forgotten : early realm (log Parallel purged) ≡ []
unfolding ℕ_discrete
forgotten = refl

-- what step 5 asks for in run 3, with the early cache
pub second : (run (log Parallel purged) 3 ≡ some (responder_opened 1 2))
    × Delivers realm (reading (rules Parallel) purged).terms (log Parallel purged) 17 (pair (ticket 1 1 0 2) (authenticator 1 0 1))
    × TicketLives realm (log Parallel purged) 0
    × AuthenticatorLives realm (log Parallel purged) 0
    × NotAhead realm (log Parallel purged) 0
    × (¬ (entry 2 1 0 ∈ early realm (log Parallel purged)))
    × (length (early realm (log Parallel purged)) < 16)
unfolding ℕ_discrete
second = (
  refl,
  record {
    form = refl;
    derivable = join (on_wire (sent (there (there (there (there (there (there (there here))))))) (there here)))
        (on_wire (sent (there (there (there (there (there (there here)))))) here));
  },
  le refl,
  le refl,
  le refl,
  nowhere,
  le refl,
)
