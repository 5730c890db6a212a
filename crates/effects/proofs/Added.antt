-- "every step that adds terms must know how many it added", and so does TM: an answer tells how many terms the table has more.
-- Assumes nothing.
use Prim.Native.Nat.{ℕ, ◌+◌, ◌-◌}
use Rattle.std.specs.Prelude.{◌≡◌, Ok, Err}
use mathlib.Core.List.{List}
use native.Mathlib.Omega.{arith}
use Rattle.words.specs.Word.{packed}
use Rattle.terms.specs.Add.{add_of}
use Rattle.terms.proofs.Add.{add_elim}
use Rattle.terms.specs.Number.{terms_of}
use Rattle.terms.proofs.Number.{terms_length}
use Rattle.terms.specs.Outcome.{TermOutcome}
use Rattle.sending.proofs.Entering.{longer_all}
use Rattle.exchange.specs.declared.call.Call.{Call}
use Rattle.exchange.specs.declared.call.Call.TheVariants as calls
use Rattle.exchange.specs.Calls.{added_by}
use Rattle.realm.specs.Tables.{Tables, Together}
use Rattle.decisions.specs.Decision.{decision, Verdict}
use Rattle.decisions.specs.Effects.{messages_of}
use Rattle.effects.specs.Apply.{applied}
use Rattle.effects.specs.Call.{numbered, by_verdict, stepped, called}
use Rattle.effects.proofs.Kept.{same_old, more_new}

-- ---- TM

-- a term that is present adds none, a new one adds one
term_counted : (n : ℕ) (ts : List ℕ) (count w : ℕ) → let o = add_of n ts count w in o.count ≡ count + added_by (numbered o.answer (o.count - count))
term_counted n ts count w =
    add_elim (λ (o : TermOutcome). o.count ≡ count + added_by (numbered o.answer (o.count - count))) n ts count w (omega arith) (omega arith)
    (λ _ i _. rw (same_old i count) (omega arith)) (λ _ _ _. rw (more_new count count) (omega arith))

-- ---- any call

module _ (t : Tables) (w : Together t) where
  by_verdict_lem : (v : Verdict) → (by_verdict t v).tables.realm.terms ≡ t.realm.terms + added_by (by_verdict t v).answer
  unfolding applied
  by_verdict_lem (Ok x) =
      let xs : List ℕ = terms_of t.terms t.realm.terms in
      omega (arith, (longer_all xs (messages_of t.terms x.sends)).more, terms_length w.terms_hold)
  by_verdict_lem (Err k) = omega arith

  pub added_counted : (c : Call) → (called t c).tables.realm.terms ≡ t.realm.terms + added_by (called t c).answer
  unfolding called stepped
  added_counted (calls.Term kind l r) = term_counted t.realm.n t.terms t.realm.terms (packed kind l r)
  added_counted (calls.Step step run a b m time) = by_verdict_lem (decision t (record { step = step; run = run; a = a; b = b; m = m; t = time }))
