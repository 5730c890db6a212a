-- The ticket goes through the initiator, unopened (02, change 6): what the calls of case F did and sent under H5 and under H4, and
-- that the initiator passes on "any term X" that stands in the ticket's place.
-- Assumes nothing.
use Rattle.std.specs.Prelude.{ℕ, ◌≡◌, refl, List, [], ◌∷◌, Some, Ok}
use Rattle.std.proofs.Common.{arith}
use Rattle.std.proofs.Math.Decide.{ℕ_discrete}
use Rattle.terms.specs.Message.{Message, principal, nonce, pair}
use Rattle.deduction.specs.Derives.{on_wire, a_principal, a_time, bad_key, own_key, left, right, join, encrypt}
use Rattle.exchange.specs.declared.call.Call.TheVariants.{Term, Step}
use Rattle.exchange.specs.declared.call.Accepted.TheVariants.{New, Taken}
use Rattle.exchange.specs.declared.form.Form.{Form}
use Rattle.exchange.specs.declared.form.Form.TheVariants.{Kerberos5, Kerberos4}
use Rattle.traces.specs.Realm.{Realm}
use Rattle.traces.specs.Lists.{here, there}
use Rattle.traces.specs.Logs.{OnWire, sent}
use Rattle.traces.specs.RuleSets.{History, new, call}
use Rattle.kerberos.specs.Messages.{request, reply, ticket, authenticator, confirmation}
use Rattle.kerberos.specs.Log.{Initiate, Respond, Issue, Authenticate, Accept, Log}
use Rattle.kerberos.specs.Rules.{takes_term, takes1, takes3, takes4}
use Rattle.kerberos.specs.Reading.{log, Lawful}
use Rattle.traces.proofs.Sample.{realm, realm_of, header_of, apart, le}
use Rattle.kerberos.proofs.Examples.Acceptance.{accepting}
use Rattle.kerberos.proofs.Examples.Conditions.{own64, bad1}

-- ---- what was sent: the two forms differ at step 3 alone

abbrev acts : (issued : List Message) → Log
acts issued =
    (Accept 2 1 2 1 0 0, confirmation 0 1 ∷ [])
    ∷ (Respond 2 1 2, [])
    ∷ (Authenticate 0 1 2 1 0 0, pair (ticket 1 1 0 2) (authenticator 1 0 1) ∷ [])
    ∷ (Issue 1 1 2 0 0, issued)
    ∷ (Initiate 0 1 2, request 1 2 0 ∷ [])
    ∷ []

-- "one pair of the panel's part and the ticket"
pub beside : log Kerberos5 (accepting Kerberos5) ≡ acts (pair (reply 1 2 0 (nonce 0) 1) (ticket 1 1 0 2) ∷ [])
unfolding ℕ_discrete
beside = refl

-- "the ticket is not sent apart"
pub inside : log Kerberos4 (accepting Kerberos4) ≡ acts (reply 1 2 0 (pair (nonce 0) (ticket 1 1 0 2)) 1 ∷ [])
unfolding ℕ_discrete
inside = refl

-- ---- "any term X": run 0 of 1 takes the principal 1 in the ticket's place, and sends it on

pub record PassedOn (f : Form) (R : Realm) (h : History) (k : ℕ) : Type 0 where
  pub lawful : Lawful f R h
  pub sent_on : OnWire (log f h) (pair (principal 1) (authenticator 1 0 k))

-- H5: the intruder takes the server's pair apart, and joins the reply with another term.
abbrev pub swapped : History
swapped =
    (Step 4 0 0 0 17 0, Ok (Taken (Some 0) 2))
    ∷ (Term 5 11 0, Ok (New 17))
    ∷ (Step 3 0 0 0 4 0, Ok (Taken (Some 1) 12))
    ∷ (Step 1 0 1 2 0 0, Ok (Taken (Some 0) 5))
    ∷ []

pub passed_on5 : PassedOn Kerberos5 realm swapped 1
unfolding ℕ_discrete
passed_on5 = record {
  lawful = call (call (call (call (new (header_of 0 (le refl) refl))
      (λ _. takes1 (le refl, le refl) apart (le refl) (le refl)))
      (λ _. takes3 (record { form = refl; derivable = on_wire (sent here here) }) apart (le refl) (le refl)))
      (λ _. takes_term tt refl (le refl)))
      (λ _. takes4 (principal 1) refl (record {
        form = refl;
        derivable = join (left (on_wire (sent (there here) here))) (a_principal (le refl));
      }) refl (le refl) (le refl));
  sent_on = sent here here;
}

-- H4: X stands inside the reply; here the initiator is bad, and the intruder makes the reply himself.
abbrev pub forged : History
forged =
    (Step 4 0 0 0 12 0, Ok (Taken (Some 0) 3))
    ∷ (Term 6 11 7, Ok (New 12))
    ∷ (Term 5 6 10, Ok (New 11))
    ∷ (Term 5 1 9, Ok (New 10))
    ∷ (Term 5 5 8, Ok (New 9))
    ∷ (Term 5 2 0, Ok (New 8))
    ∷ (Term 3 1 0, Ok (New 7))
    ∷ (Term 4 64 0, Ok (New 6))
    ∷ (Term 1 0 0, Ok (New 5))
    ∷ (Step 1 0 1 2 0 0, Ok (Taken (Some 0) 5))
    ∷ []

pub passed_on4 : PassedOn Kerberos4 (realm_of 2) forged 64
unfolding ℕ_discrete
passed_on4 = record {
  lawful = call (call (call (call (call (call (call (call (call (call (new (header_of 2 (omega arith) refl))
      (λ _. takes1 (le refl, le refl) apart (le refl) (le refl)))
      (λ _. takes_term tt refl (le refl)))
      (λ _. takes_term {kind = 4} (le refl, refl) refl (le refl)))
      (λ _. takes_term {kind = 3} (le refl, refl) refl (le refl)))
      (λ _. takes_term tt refl (le refl)))
      (λ _. takes_term tt refl (le refl)))
      (λ _. takes_term tt refl (le refl)))
      (λ _. takes_term tt refl (le refl)))
      (λ _. takes_term tt refl (le refl)))
      (λ _. takes4 (principal 1) refl (record {
        form = refl;
        derivable = encrypt (join (own_key own64) (join (a_principal (le refl)) (join (a_time (le refl))
            (join (right (right (on_wire (sent (there (there (there (there (there (there (there (there here)))))))) here)))) (a_principal (le refl)))))) (bad_key bad1);
      }) refl (le refl) (le refl));
  sent_on = sent here here;
}
