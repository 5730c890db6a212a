-- Each condition of the theorem is needed: lists of calls that the rules allow, at whose end a run of 2 accepts 1 though there
-- is no initiator run at all, because the key has leaked, because 1 is bad, or because 2 is.
-- Assumes nothing.
use Rattle.std.specs.Prelude.{ℕ, ◌%◌, ◌≤◌, ◌≡◌, refl, [], ◌∷◌, Some, Ok}
use Rattle.std.proofs.Common.{arith}
use Rattle.std.proofs.Math.Decide.{ℕ_discrete}
use Rattle.marks.specs.Bits.{bit}
use Rattle.deduction.specs.Derives.{Own, Bad, on_wire, a_principal, a_time, bad_key, own_nonce, own_key, left, decrypt, join, encrypt}
use Rattle.exchange.specs.declared.call.Call.TheVariants.{Term, Step}
use Rattle.exchange.specs.declared.call.Accepted.TheVariants.{New, Taken}
use Rattle.traces.specs.Realm.{Realm}
use Rattle.traces.specs.Lists.{here, there}
use Rattle.exchange.specs.declared.form.Form.TheVariants.{Parallel}
use Rattle.traces.specs.Logs.{did, sent}
use Rattle.kerberos.specs.Rules.{takes_term, takes2, takes3, takes5, takes9}
use Rattle.traces.specs.RuleSets.{History, new, call}
use Rattle.kerberos.specs.Words.{Initiator, Accepts, accepts5}
use Rattle.kerberos.specs.Reading.{log, Lawful}
use Rattle.traces.proofs.Sample.{realm_of, header_of, apart, le, nowhere}

-- At the end of h run r of 2 accepts 1, with k and times 0, and there is no initiator run.
pub record Alone (R : Realm) (h : History) (r k : ℕ) : Type 0 where
  pub lawful : Lawful Parallel R h
  pub accepts : Accepts (log Parallel h) r 1 2 k 0 0
  pub no_initiator : (i a b : ℕ) → ¬ (Initiator (log Parallel h) i a b)

pub own64 : Own 64
own64 = record { low = omega arith; high = omega arith }

-- ---- the intruder asks for a ticket with a nonce of its own, and the server issues it: term 5 is the key, 15 the ticket

abbrev pub asked : History
asked =
    (Step 3 0 0 0 4 0, Ok (Taken (Some 0) 11))
    ∷ (Term 5 0 3, Ok (New 4))
    ∷ (Term 5 1 2, Ok (New 3))
    ∷ (Term 2 64 0, Ok (New 2))
    ∷ (Term 0 2 0, Ok (New 1))
    ∷ (Term 0 1 0, Ok (New 0))
    ∷ []

lawful_asked : (flags : ℕ) → flags ≤ 4 → flags % 2 ≡ 0 → Lawful Parallel (realm_of flags) asked
unfolding ℕ_discrete
lawful_asked flags h e =
    call (call (call (call (call (call (new (header_of flags h e))
    (λ _. takes_term {kind = 0} (le refl, refl) refl (le refl)))
    (λ _. takes_term {kind = 0} (le refl, refl) refl (le refl)))
    (λ _. takes_term {kind = 2} (le refl, refl) refl (le refl)))
    (λ _. takes_term tt refl (le refl)))
    (λ _. takes_term tt refl (le refl)))
    (λ _. takes3 (record { form = refl; derivable = join (a_principal (le refl)) (join (a_principal (le refl)) (own_nonce own64)) }) apart (le refl) (le refl))

-- the intruder's authenticator with that key is term 16
abbrev delivered : History → History
delivered h =
    (Step 5 1 0 0 17 0, Ok (Taken (Some 1) 1))
    ∷ (Term 5 15 16, Ok (New 17))
    ∷ (Term 6 12 5, Ok (New 16))
    ∷ (Step 2 0 1 2 0 0, Ok (Taken (Some 1) 0))
    ∷ h

-- ---- the key has leaked

abbrev pub leaked : History
leaked = delivered ((Step 9 0 0 0 0 0, Ok (Taken (Some 0) 0)) ∷ asked)

leaked_none : {i a b : ℕ} → ¬ (Initiator (log Parallel leaked) i a b)
unfolding ℕ_discrete
leaked_none (did (there (there (there (there (there (there (there (there (there (there (there i)))))))))))) = nowhere i

pub unleaked_needed : Alone (realm_of 0) leaked 1 0
unfolding ℕ_discrete
unleaked_needed = record {
  lawful = call (call (call (call (call (lawful_asked 0 (le refl) refl)
      (λ _. takes9 refl))
      (λ _. takes2 (le refl, le refl) apart (le refl)))
      (λ _. takes_term tt refl (le refl)))
      (λ _. takes_term tt refl (le refl)))
      (λ _. takes5 refl (record {
        form = refl;
        derivable = join (on_wire (sent (there (there (there (there here)))) (there here)))
            (encrypt (join (a_principal (le refl)) (a_time (le refl))) (on_wire (sent (there (there (there here))) here)));
      }) (le refl) (le refl) (le refl) nowhere (le refl) (le refl));
  accepts = accepts5;
  no_initiator = λ i a b. leaked_none;
}

-- ---- 1 is bad: the intruder opens the reply

abbrev pub bad_a : History
bad_a = delivered asked

bad_a_none : {i a b : ℕ} → ¬ (Initiator (log Parallel bad_a) i a b)
unfolding ℕ_discrete
bad_a_none (did (there (there (there (there (there (there (there (there (there (there i))))))))))) = nowhere i

pub bad1 : Bad 3 2 1
unfolding bit
bad1 = record { present = le refl; flagged = refl }

pub good_a_needed : Alone (realm_of 2) bad_a 1 0
unfolding ℕ_discrete
good_a_needed = record {
  lawful = call (call (call (call (lawful_asked 2 (le refl) refl)
      (λ _. takes2 (le refl, le refl) apart (le refl)))
      (λ _. takes_term tt refl (le refl)))
      (λ _. takes_term tt refl (le refl)))
      (λ _. takes5 refl (record {
        form = refl;
        derivable = join (on_wire (sent (there (there (there here))) (there here)))
            (encrypt (join (a_principal (le refl)) (a_time (le refl))) (left (decrypt (on_wire (sent (there (there (there here))) here)) (bad_key bad1))));
      }) (le refl) (le refl) (le refl) nowhere (le refl) (le refl));
  accepts = accepts5;
  no_initiator = λ i a b. bad_a_none;
}

-- ---- 2 is bad: the intruder makes the ticket too, with a key of its own

abbrev pub bad_b : History
bad_b =
    (Step 5 0 0 0 8 0, Ok (Taken (Some 0) 1))
    ∷ (Step 2 0 1 2 0 0, Ok (Taken (Some 0) 0))
    ∷ (Term 5 6 7, Ok (New 8))
    ∷ (Term 6 2 3, Ok (New 7))
    ∷ (Term 6 4 5, Ok (New 6))
    ∷ (Term 3 2 0, Ok (New 5))
    ∷ (Term 5 3 2, Ok (New 4))
    ∷ (Term 4 64 0, Ok (New 3))
    ∷ (Term 5 0 1, Ok (New 2))
    ∷ (Term 1 0 0, Ok (New 1))
    ∷ (Term 0 1 0, Ok (New 0))
    ∷ []

bad_b_none : {i a b : ℕ} → ¬ (Initiator (log Parallel bad_b) i a b)
unfolding ℕ_discrete
bad_b_none (did (there (there (there (there (there (there (there (there (there (there (there i)))))))))))) = nowhere i

bad2 : Bad 3 4 2
unfolding bit
bad2 = record { present = le refl; flagged = refl }

pub good_b_needed : Alone (realm_of 4) bad_b 0 64
unfolding ℕ_discrete
good_b_needed = record {
  lawful = call (call (call (call (call (call (call (call (call (call (call (new (header_of 4 (le refl) refl))
      (λ _. takes_term {kind = 0} (le refl, refl) refl (le refl)))
      (λ _. takes_term tt refl (le refl)))
      (λ _. takes_term tt refl (le refl)))
      (λ _. takes_term {kind = 4} (le refl, refl) refl (le refl)))
      (λ _. takes_term tt refl (le refl)))
      (λ _. takes_term {kind = 3} (le refl, refl) refl (le refl)))
      (λ _. takes_term tt refl (le refl)))
      (λ _. takes_term tt refl (le refl)))
      (λ _. takes_term tt refl (le refl)))
      (λ _. takes2 (le refl, le refl) apart (le refl)))
      (λ _. takes5 refl (record {
        form = refl;
        derivable = join (encrypt (join (own_key own64) (join (a_principal (le refl)) (a_time (le refl)))) (bad_key bad2))
            (encrypt (join (a_principal (le refl)) (a_time (le refl))) (own_key own64));
      }) (le refl) (le refl) (le refl) nowhere (le refl) (le refl));
  accepts = accepts5;
  no_initiator = λ i a b. bad_b_none;
}
