-- The calls of case F up to its acceptance, with their answers, in each form: the rules take each of them, and so the theorem has
-- something to say. Under HD and HW a TM joins the ticket and the authenticator for step 5; under H5 and H4 the initiator sends
-- the two as one term, and no term is joined by hand.
-- Assumes nothing.
use Rattle.std.specs.Prelude.{refl, [], ◌∷◌, Some, Ok}
use Rattle.std.proofs.Common.{arith}
use Rattle.std.proofs.Math.Decide.{ℕ_discrete}
use Rattle.terms.specs.Message.{nonce}
use Rattle.deduction.specs.Derives.{on_wire, join}
use Rattle.exchange.specs.declared.call.Call.TheVariants.{Term, Step}
use Rattle.exchange.specs.declared.call.Accepted.TheVariants.{New, Taken}
use Rattle.traces.specs.Lists.{here, there, now}
use Rattle.exchange.specs.declared.form.Form.{Form}
use Rattle.exchange.specs.declared.form.Form.TheVariants.{Parallel, Kerberos5, Kerberos4}
use Rattle.traces.specs.Logs.{did, sent}
use Rattle.kerberos.specs.Messages.{ticket}
use Rattle.kerberos.specs.Rules.{takes_term, takes1, takes2, takes3, takes4, takes5}
use Rattle.traces.specs.RuleSets.{History, new, call}
use Rattle.kerberos.specs.Words.{Leaked, Accepts, accepts5}
use Rattle.kerberos.specs.Agreement.{Agreement}
use Rattle.kerberos.specs.Reading.{log, Lawful}
use Rattle.kerberos.proofs.Theorems.{demand3}
use Rattle.traces.proofs.Sample.{realm, header_of, good, apart, le, nowhere}

-- HD and HW, the newest first: step 4 takes term 11, the reply, and step 5 the ticket and the authenticator, 15 and 16
abbrev joined : History
joined =
    (Step 5 2 0 0 17 0, Ok (Taken (Some 2) 1))
    ∷ (Term 5 15 16, Ok (New 17))
    ∷ (Step 2 0 1 2 0 0, Ok (Taken (Some 2) 0))
    ∷ (Step 4 0 0 0 11 0, Ok (Taken (Some 0) 1))
    ∷ (Step 3 0 0 0 4 0, Ok (Taken (Some 1) 11))
    ∷ (Step 1 0 1 2 0 0, Ok (Taken (Some 0) 5))
    ∷ []

-- H5 and H4: step 4 takes term 16, what step 3 sent, and step 5 term 18, what step 4 sent
abbrev carried : History
carried =
    (Step 5 2 0 0 18 0, Ok (Taken (Some 2) 1))
    ∷ (Step 2 0 1 2 0 0, Ok (Taken (Some 2) 0))
    ∷ (Step 4 0 0 0 16 0, Ok (Taken (Some 0) 2))
    ∷ (Step 3 0 0 0 4 0, Ok (Taken (Some 1) 12))
    ∷ (Step 1 0 1 2 0 0, Ok (Taken (Some 0) 5))
    ∷ []

abbrev pub accepting : Form → History
accepting Parallel = joined
accepting Kerberos5 = carried
accepting Kerberos4 = carried

pub lawful_accepting : (f : Form) → Lawful f realm (accepting f)
unfolding ℕ_discrete
lawful_accepting Parallel =
    call (call (call (call (call (call (new (header_of 0 (omega arith) refl))
    (λ _. takes1 (le refl, le refl) apart (le refl) (le refl)))
    (λ _. takes3 (record { form = refl; derivable = on_wire (sent here here) }) apart (le refl) (le refl)))
    (λ _. takes4 (nonce 0) refl (record { form = refl; derivable = on_wire (sent here here) }) refl (le refl) (le refl)))
    (λ _. takes2 (le refl, le refl) apart (le refl)))
    (λ _. takes_term tt refl (le refl)))
    (λ _. takes5 refl (record {
      form = refl;
      derivable = join (on_wire (sent (there (there (there here))) (there here))) (on_wire (sent (there (there here)) here));
    }) (le refl) (le refl) (le refl) nowhere (le refl) (le refl))
lawful_accepting Kerberos5 =
    call (call (call (call (call (new (header_of 0 (omega arith) refl))
    (λ _. takes1 (le refl, le refl) apart (le refl) (le refl)))
    (λ _. takes3 (record { form = refl; derivable = on_wire (sent here here) }) apart (le refl) (le refl)))
    (λ _. takes4 (ticket 1 1 0 2) refl (record { form = refl; derivable = on_wire (sent here here) }) refl (le refl) (le refl)))
    (λ _. takes2 (le refl, le refl) apart (le refl)))
    (λ _. takes5 refl (record { form = refl; derivable = on_wire (sent (there here) here) }) (le refl) (le refl) (le refl) nowhere (le refl) (le refl))
lawful_accepting Kerberos4 =
    call (call (call (call (call (new (header_of 0 (omega arith) refl))
    (λ _. takes1 (le refl, le refl) apart (le refl) (le refl)))
    (λ _. takes3 (record { form = refl; derivable = on_wire (sent here here) }) apart (le refl) (le refl)))
    (λ _. takes4 (ticket 1 1 0 2) refl (record { form = refl; derivable = on_wire (sent here here) }) refl (le refl) (le refl)))
    (λ _. takes2 (le refl, le refl) apart (le refl)))
    (λ _. takes5 refl (record { form = refl; derivable = on_wire (sent (there here) here) }) (le refl) (le refl) (le refl) nowhere (le refl) (le refl))

accepted : (f : Form) → Accepts (log f (accepting f)) 2 1 2 1 0 0
unfolding ℕ_discrete
accepted Parallel = accepts5
accepted Kerberos5 = accepts5
accepted Kerberos4 = accepts5

unleaked : (f : Form) → ¬ (Leaked (log f (accepting f)) 1)
unfolding ℕ_discrete
unleaked Parallel (did (there (there (there (there (there (there i))))))) = nowhere i
unleaked Kerberos5 (did (there (there (there (there (there i)))))) = nowhere i
unleaked Kerberos4 (did (there (there (there (there (there i)))))) = nowhere i

pub agreed : (f : Form) → Agreement f realm (accepting f) (accepting f) 1 2 2 1 0 0
agreed f = demand3 f realm (accepting f) (lawful_accepting f) 1 2 (good 1) (good 2) 2 1 0 0 (accepting f) now (accepted f) (unleaked f)
