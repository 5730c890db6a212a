-- What follows from the definitions of the same name in specs/.
-- Assumes nothing.
use Rattle.std.specs.Prelude.{◌≡◌, refl, Bool, true, false, cond, Option, Some, None, List, ◌++◌, ℕ, zero, suc, ◌+◌, ◌-◌, ◌<◌, eqb, get_or, length}
use Rattle.std.proofs.Common.{ap, ◌∙◌, subst, add-zero, add-suc, arith, eq-eqb, ne_eqb, eqb-true, get_or-append-add}
use Rattle.std.proofs.Math.Logic.{dite}
use Rattle.std.proofs.Math.Decide.{ℕ_discrete}
use Rattle.std.proofs.lemmas.Bool.{eqb-false}
use Rattle.terms.proofs.Choice.{cond_elim}
use Rattle.terms.specs.Rules.{Agree}
use Rattle.terms.specs.Table.{find_of}

-- none of the first m words is w
abbrev pub Absent : List ℕ → (m w : ℕ) → Type 0
Absent ts m w = (k : ℕ) → k < m → get_or ts k 0 ≡ w → ⊥

-- ---- what a place says

abbrev pub FoundIs : List ℕ → (m w : ℕ) → Option ℕ → Type 0
FoundIs ts m w (Some i) = (i < m) × (get_or ts i 0 ≡ w)
FoundIs ts m w None = Absent ts m w

found_more : (ts : List ℕ) (m w : ℕ) → (get_or ts m 0 ≡ w → ⊥) → (f : Option ℕ) → FoundIs ts m w f → FoundIs ts (suc m) w f
found_more ts m w ne (Some i) h = (omega (arith, h.0), h.1)
found_more ts m w ne None h = λ k lt e.
    dite (ℕ_discrete k m) (λ q. ne (subst (λ (x : ℕ). get_or ts x 0 ≡ w) q e)) (λ q. h k (omega arith) e)

pub found_is : (ts : List ℕ) (m w : ℕ) → FoundIs ts m w (find_of ts m w)
unfolding find_of
found_is ts zero w = λ k lt e. omega arith
found_is ts (suc m) w =
    cond_elim (FoundIs ts (suc m) w) (eqb (get_or ts m 0) w) (Some m) (find_of ts m w)
    (λ e. (omega arith, eqb-true (get_or ts m 0) w e))
    (λ e. found_more ts m w (eqb-false (get_or ts m 0) w e) (find_of ts m w) (found_is ts m w))

pub found_at : (ts : List ℕ) (m w : ℕ) {f : Option ℕ} → find_of ts m w ≡ f → FoundIs ts m w f
found_at ts m w e = subst (FoundIs ts m w) e (found_is ts m w)

-- a word that is not there is not found
pub find_absent : (ts : List ℕ) (m w : ℕ) → Absent ts m w → find_of ts m w ≡ None
unfolding find_of
find_absent ts zero w a = refl
find_absent ts (suc m) w a = rw (ne_eqb (get_or ts m 0) w (a m (omega arith))) (find_absent ts m w (λ k lt. a k (omega arith)))

-- ---- the search as a loop runs it

pub find_end : (ts : List ℕ) (w : ℕ) → find_of ts 0 w ≡ None
unfolding find_of
find_end ts w = refl

pub find_here : (ts : List ℕ) (w i : ℕ) → 0 < i → get_or ts (i - 1) 0 ≡ w → find_of ts i w ≡ Some (i - 1)
unfolding find_of
find_here ts w zero h e = absurd (omega arith)
find_here ts w (suc m) h e =
    let p : suc m - 1 ≡ m = omega arith in
    rw (p, eq-eqb (get_or ts m 0) w (rw p at e))

pub find_down : (ts : List ℕ) (w i : ℕ) → 0 < i → (get_or ts (i - 1) 0 ≡ w → ⊥) → find_of ts i w ≡ find_of ts (i - 1) w
unfolding find_of
find_down ts w zero h ne = absurd (omega arith)
find_down ts w (suc m) h ne =
    let p : suc m - 1 ≡ m = omega arith in
    rw (p, ne_eqb (get_or ts m 0) w (rw p at ne))

-- ---- the search in a table that has the same words, and in a longer one

pub find_same : (ts ts' : List ℕ) (m w : ℕ) → Agree ts ts' m → find_of ts m w ≡ find_of ts' m w
unfolding find_of
find_same ts ts' zero w g = refl
find_same ts ts' (suc m) w g =
    rw (g m (omega arith)) (ap (λ (f : Option ℕ). cond (eqb (get_or ts' m 0) w) (Some m) f) (find_same ts ts' m w (λ k lt. g k (omega arith))))

-- first among the words behind, then in front
abbrev pub behind : ℕ → Option ℕ → Option ℕ → Option ℕ
behind len (Some j) f = Some (len + j)
behind len None f = f

behind_cond : (t : Bool) (len m : ℕ) (g f : Option ℕ) → cond t (Some (len + m)) (behind len g f) ≡ behind len (cond t (Some m) g) f
behind_cond true len m g f = refl
behind_cond false len m g f = refl

pub find_append : (xs ys : List ℕ) (m w : ℕ) → find_of (xs ++ ys) (length xs + m) w ≡ behind (length xs) (find_of ys m w) (find_of (xs ++ ys) (length xs) w)
unfolding find_of
find_append xs ys zero w = ap (λ (k : ℕ). find_of (xs ++ ys) k w) (add-zero (length xs))
find_append xs ys (suc m) w =
    rw (add-suc, get_or-append-add)
    (ap (λ (f : Option ℕ). cond (eqb (get_or ys m 0) w) (Some (length xs + m)) f) (find_append xs ys m w)
    ∙ behind_cond (eqb (get_or ys m 0) w) (length xs) m (find_of ys m w) (find_of (xs ++ ys) (length xs) w))
