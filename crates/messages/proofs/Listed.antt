-- What follows from the definitions of the same name in specs/.
-- Assumes nothing.
use Rattle.std.specs.Prelude.{ℕ, zero, suc, List, [], ◌∷◌, ◌++◌, ◌≡◌, refl}
use Rattle.std.proofs.Math.Logic.{ite}
use Rattle.std.proofs.Math.Option.{some, some-injective}
use Rattle.std.proofs.Common.{sym, ap, ◌∙◌}
use Rattle.terms.proofs.Choice.{ite_holds, ite_fails}
use Rattle.terms.specs.Message.{Message}
use Rattle.messages.specs.Listed.{term_at, same, insert}

-- ---- a term that is present is not added again, and a new one goes to the end

present_rest : {m x : Message} (d : Dec (m ≡ x)) (terms : List Message) → insert m terms ≡ terms → ite d terms (insert m terms) ≡ terms
present_rest (yes e) terms h = refl
present_rest (no ne) terms h = h

pub insert_present : (m : Message) (terms : List Message) (i : ℕ) → term_at terms i ≡ some m → insert m terms ≡ terms
insert_present m [] i e = cc
insert_present m (x ∷ terms) zero e = ap {B = List Message} (λ t. x ∷ t) (ite_holds (same m x) terms (insert m terms) (sym (some-injective _ _ e)))
insert_present m (x ∷ terms) (suc i) e = ap {B = List Message} (λ t. x ∷ t) (present_rest (same m x) terms (insert_present m terms i e))

pub insert_new : (m : Message) (terms : List Message) → ((i : ℕ) → ¬ (term_at terms i ≡ some m)) → insert m terms ≡ terms ++ (m ∷ [])
insert_new m [] h = refl
insert_new m (x ∷ terms) h =
    ap {B = List Message} (λ t. x ∷ t) (ite_fails (same m x) terms (insert m terms) (λ e. h 0 (cc)) ∙ insert_new m terms (λ i. h (suc i)))
