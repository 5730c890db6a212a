-- `term_rules::fields_ok` meets its contract, term by term. Assumes nothing.
use mathlib.Core.Path.{◌≡◌, ap, ◌∙◌}
use Rattle.std.specs.Prelude.{◌⊎◌, false, List, ℕ, ◌<◌, ◌≤◌}
use borrow.Author.Tests.{lt-ltb, le-ltb}
use Rattle.std.proofs.Common.{inl, inr}
use Rattle.words.specs.declared.Term.{Term}
use Rattle.words.specs.declared.Term.TheVariants.{Encrypted}
use Rattle.terms.specs.Rules.{is_key, fields_ok}
use Rattle.term_rules.proofs.fields_ok.Goals as goal

-- an operand that does not stand earlier
not_before : (n : ℕ) (ts : List ℕ) (at : ℕ) (t : Term) (b k : ℕ) → t ≡ Encrypted b k → (b < at × at ≤ k) ⊎ (at ≤ b) → false ≡ fields_ok n ts at t
not_before n ts at t b k e (inl p) = simp (e, lt-ltb _ _ p.0, le-ltb _ _ p.1)
not_before n ts at t b k e (inr h) = simp (e, le-ltb _ _ h)

pub returns-in-Principal : goal.returns-in-Principal
returns-in-Principal c = elim c.in-Principal.is [ inl e ↦ rw e | inr e ↦ rw e ]

pub returns-in-Nonce : goal.returns-in-Nonce
returns-in-Nonce c = elim c.in-Nonce.is [ inl e ↦ rw e | inr e ↦ rw e ]

pub returns-then-l-at : goal.returns-then-l-at
returns-then-l-at c = simp (c.in-Pair.is, lt-ltb _ _ c.if-l-at.true)

pub returns-else-l-at : goal.returns-else-l-at
returns-else-l-at c = simp (c.in-Pair.is, le-ltb _ _ c.if-l-at.false)

pub returns-then-key-at : goal.returns-then-key-at
returns-then-key-at c =
    simp (c.in-Encrypted.is, lt-ltb _ _ c.if-key-at.true.0, lt-ltb _ _ c.if-key-at.true.1)
    (c.is_key.ensures ∙ ap is_key c.from.ensures)

pub returns-else-key-at : goal.returns-else-key-at
returns-else-key-at c =
    let a = c.args in
    let no : false ≡ fields_ok a.n a.terms.now a.at a.t = not_before a.n a.terms.now a.at a.t c.in-Encrypted.b c.in-Encrypted.k c.in-Encrypted.is c.if-key-at.either in
    cc
