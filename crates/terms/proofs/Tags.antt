-- A term by the tag of its variant, as an arm `_` of a match leaves it: one of these tags, and so a term without operands, or no
-- encryption.
-- Assumes nothing.
use Rattle.std.specs.Prelude.{List, [], ◌∷◌, ◌≡◌, refl, ℕ}
use Rattle.std.proofs.Common.{ap, subst}
use denote.Enum.Declared.{tag_of}
use types.Run.{OneOf, miss}
use Rattle.words.specs.contracts.Term.{the_type}
use Rattle.words.specs.declared.Term.{Term}
use Rattle.terms.specs.Operands.{by_operands}
use Rattle.terms.proofs.Operands.{operands_elim}

-- the tags of the terms that have no operands, and those of all that are no encryptions
abbrev pub atoms : List ℕ
atoms = 0 ∷ 1 ∷ 2 ∷ 3 ∷ 4 ∷ 7 ∷ []

abbrev pub plain : List ℕ
plain = 0 ∷ 1 ∷ 2 ∷ 3 ∷ 4 ∷ 5 ∷ 7 ∷ []

module _ {A : Type 0} (other : A) (t : Term) where
  pub no_operands : (pair encrypted : ℕ → ℕ → A) → OneOf atoms (tag_of the_type t) → other ≡ by_operands other pair encrypted t
  no_operands pair encrypted among =
      operands_elim (◌≡◌ other) other pair encrypted t refl (λ l r e. absurd (miss atoms 5 tt (subst (OneOf atoms) (ap (tag_of the_type) e) among)))
      (λ b k e. absurd (miss atoms 6 tt (subst (OneOf atoms) (ap (tag_of the_type) e) among)))

  pub not_encrypted : (encrypted : ℕ → ℕ → A) → OneOf plain (tag_of the_type t) → other ≡ by_operands other (λ l r. other) encrypted t
  not_encrypted encrypted among =
      operands_elim (◌≡◌ other) other (λ l r. other) encrypted t refl (λ l r e. refl)
      (λ b k e. absurd (miss plain 6 tt (subst (OneOf plain) (ap (tag_of the_type) e) among)))
