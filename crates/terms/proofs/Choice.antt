-- What follows from the definitions of the same name in specs/.
-- Assumes nothing.
use Rattle.std.specs.Prelude.{◌≡◌, refl, Bool, true, false, ◌&&◌, cond}
use Rattle.std.proofs.Common.{sym}
use Rattle.std.proofs.lemmas.Bool.{false≢true}
use Rattle.std.proofs.Math.Logic.{ite}
use Rattle.terms.specs.Choice.{Decides}

-- ---- laws

pub no_true : {A : Type 0} → false ≡ true → A
no_true e = absurd (false≢true e)

-- a test that cannot be true is false
pub is_false : (b : Bool) → (b ≡ true → ⊥) → false ≡ b
is_false true f = absurd (f refl)
is_false false f = refl

pub cond_elim : {A : Type 0} (P : A → Type 0) (c : Bool) (a b : A) → (c ≡ true → P a) → (c ≡ false → P b) → P (cond c a b)
cond_elim P true a b f g = f refl
cond_elim P false a b f g = g refl

-- which was chosen, where only one can be
pub cond_first : {A : Type 0} (c : Bool) {a b x : A} → (b ≡ x → ⊥) → cond c a b ≡ x → (c ≡ true) × (a ≡ x)
cond_first true f e = (refl, e)
cond_first false f e = absurd (f e)

-- behind a test, only what the test lets pass matters
pub and_same : (a b c : Bool) → (a ≡ true → b ≡ c) → a && b ≡ a && c
and_same true b c f = f refl
and_same false b c f = refl

pub ite_holds : {P A : Type 0} (d : Dec P) (a b : A) → P → ite d a b ≡ a
ite_holds (yes _) a b p = refl
ite_holds (no f) a b p = absurd (f p)

pub ite_fails : {P A : Type 0} (d : Dec P) (a b : A) → ¬ P → ite d a b ≡ b
ite_fails (yes p) a b f = absurd (f p)
ite_fails (no _) a b f = refl

pub proved : {P : Type 0} → P → Decides true P
proved p = record { yes = λ _. p; no = λ e. no_true (sym e) }

pub refuted : {P : Type 0} → (P → ⊥) → Decides false P
refuted f = record { yes = λ e. no_true e; no = λ _. f }

-- two tests of the same give the same answer
pub same_answer : {P : Type 0} (a b : Bool) → Decides a P → Decides b P → a ≡ b
same_answer true true f g = refl
same_answer true false f g = absurd (g.no refl (f.yes refl))
same_answer false true f g = absurd (f.no refl (g.yes refl))
same_answer false false f g = refl
