-- What follows from the definitions of the same name in specs/.
-- Assumes nothing.
use Rattle.std.specs.Prelude.{◌≡◌, None, Ok, true, false, cond, List, ℕ, ◌-◌, ◌<◌, ◌≤◌, eqb, length, take, drop}
use Rattle.std.proofs.Math.Path.{ap}
use Rattle.std.proofs.Common.{◌∙◌, arith, take_all}
use borrow.Author.Tests.{eq-eqb, ne_eqb, eqb-true, eqb-false}
use Rattle.std.proofs.Math.ListN.{length-drop}
use Rattle.terms.proofs.Choice.{cond_elim}
use Rattle.exchange.specs.declared.call.Call.{Call}
use Rattle.records.specs.Fields.{begins}
use Rattle.records.specs.Records.{term_mark, step_mark, term_bytes, step_bytes, term_call, step_call, Front, whole, none, unreadable, front_of, told, record_at, Finds, at_end, at_term, at_step, at_fault}

-- ---- one law for each way out

pub front_none : (rest : List ℕ) → length rest ≡ 0 → none ≡ front_of rest
unfolding front_of
front_none rest e = rw (eq-eqb (length rest) 0 e)

module _ (rest : List ℕ) (some : 0 < length rest) where
  pub front_term : begins term_mark term_bytes rest ≡ true → {c : Call} → c ≡ term_call rest → whole c term_bytes ≡ front_of rest
  unfolding front_of
  front_term e is = rw (is, ne_eqb (length rest) 0 (λ z. omega arith), e)

  pub front_step : begins term_mark term_bytes rest ≡ false → begins step_mark step_bytes rest ≡ true → {c : Call} → c ≡ step_call rest
      → whole c step_bytes ≡ front_of rest
  unfolding front_of
  front_step n e is = rw (is, ne_eqb (length rest) 0 (λ z. omega arith), n, e)

  pub front_unreadable : begins term_mark term_bytes rest ≡ false → begins step_mark step_bytes rest ≡ false → unreadable ≡ front_of rest
  unfolding front_of
  front_unreadable n e = rw (ne_eqb (length rest) 0 (λ z. omega arith), n, e)

pub front_finds : (bytes : List ℕ) → Finds bytes (front_of bytes)
unfolding front_of
front_finds bytes =
    let is_step = begins step_mark step_bytes bytes in
    let step = whole (step_call bytes) step_bytes in
    let is_term = begins term_mark term_bytes bytes in
    let term = whole (term_call bytes) term_bytes in
    cond_elim (Finds bytes) (eqb (length bytes) 0) none (cond is_term term (cond is_step step unreadable)) (λ e. at_end (eqb-true (length bytes) 0 e))
    (λ some. cond_elim (Finds bytes) is_term term (cond is_step step unreadable) at_term
    (λ n. cond_elim (Finds bytes) is_step step unreadable at_step
    (λ m. at_fault (positive (eqb-false (length bytes) 0 some)) n m)))
  where
    positive : (length bytes ≡ 0 → ⊥) → 0 < length bytes
    positive f = omega arith

-- ---- a record at a place of the file

-- the rest of a file, as the code lends it
abbrev pub rest_of : List ℕ → ℕ → List ℕ
rest_of bytes at = take (length bytes - at) (drop at bytes)

module _ (bytes : List ℕ) (at : ℕ) where
  rest_is : rest_of bytes at ≡ drop at bytes
  rest_is = take_all (length bytes - at) (drop at bytes) (simp length-drop (omega arith))

  pub rest_some : at < length bytes → 0 < length (rest_of bytes at)
  rest_some h = rw rest_is (simp length-drop (omega arith))

  pub record_end : length bytes ≤ at → Ok None ≡ record_at bytes at
  unfolding record_at
  record_end h = ap (told at) (front_none (drop at bytes) (simp length-drop (omega arith)))

  pub record_is : {f : Front} → f ≡ front_of (rest_of bytes at) → told at f ≡ record_at bytes at
  unfolding record_at
  record_is e = ap (told at) (e ∙ ap front_of rest_is)
