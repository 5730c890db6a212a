-- What follows from the definitions of the same name in specs/.
-- Assumes nothing.
use Rattle.std.specs.Prelude.{◌≡◌, ◌↔◌, Bool, true, false, cond, List, length, get_or}
use Rattle.std.proofs.Math.Path.{refl}
use Rattle.std.proofs.Common.{sym, ◌∙◌, subst, pow-suc, arith, eqb-true, ext_get_or}
use Rattle.std.proofs.lemmas.Bool.{false≢true}
use Prim.Native.Nat.{ℕ, zero, suc, ◌+◌, ◌*◌, ◌/◌, ◌%◌, ◌^◌, ◌<◌, ◌≤◌}
use Rattle.std.proofs.Math.Decide.{ℕ_discrete, dec_lt}
use Rattle.marks.specs.Bits.{bit}
use Rattle.marks.proofs.Bits.{bit_zero, bit_suc}
use Rattle.marks.proofs.Empty.{empty_words, empty_marked}
use Rattle.marks.specs.Marks.{Words, mark, marked, with_mark}
use Rattle.marks.proofs.Marks.{marked_same, marked_other, mark_unmarked, with_words}
use Rattle.marks.specs.Sets.{set_of}

-- the same of k words as a statement
pub record Members (k : ℕ) (test : ℕ → Bool) (n : ℕ) (ws : List ℕ) : Type 0 where
  pub words : Words k ws
  pub inside : (i : ℕ) → i < n → marked ws i ≡ test i
  pub outside : (i : ℕ) → n ≤ i → marked ws i ≡ false

-- ---- the set has these members

module _ (k : ℕ) (test : ℕ → Bool) where
  with_member : (n : ℕ) → n < 64 * k → {ws : List ℕ} → Members k test n ws → (b : Bool) → test n ≡ b → Members k test (suc n) (cond b (with_mark ws n) ws)
  with_member n h {ws} m true e =
      record {
        words = with_words ws n m.words h;
        inside = λ i lt. by_eq i (omega arith) (ℕ_discrete i n);
        outside = λ i le. marked_other ws n place i (λ q. omega arith) ∙ m.outside i (omega arith);
      }
    where
      place : n < 64 * length ws
      place = omega (arith, h, m.words.len)

      by_eq : (i : ℕ) → i ≤ n → Dec (i ≡ n) → marked (with_mark ws n) i ≡ test i
      by_eq i le (yes q) = rw q (marked_same ws n place ∙ sym e)
      by_eq i le (no ne) = marked_other ws n place i ne ∙ m.inside i (omega arith)
  with_member n h {ws} m false e =
      record { words = m.words; inside = λ i lt. by_eq i (omega arith) (ℕ_discrete i n); outside = λ i le. m.outside i (omega arith) }
    where
      by_eq : (i : ℕ) → i ≤ n → Dec (i ≡ n) → marked ws i ≡ test i
      by_eq i le (yes q) = rw q (m.outside n (omega arith) ∙ sym e)
      by_eq i le (no ne) = m.inside i (omega arith)

  pub set_members : (n : ℕ) → n ≤ 64 * k → Members k test n (set_of k test n)
  unfolding set_of
  set_members zero h = record { words = empty_words k; inside = λ i lt. absurd (omega arith); outside = λ i le. empty_marked k i }
  set_members (suc n) h = with_member n h (set_members n (omega arith)) (test n) refl

  -- a number is in it exactly where it is below the bound and passes
  pub set_exact : (n : ℕ) → n ≤ 64 * k → (i : ℕ) → (marked (set_of k test n) i ≡ true) ↔ ((i < n) × (test i ≡ true))
  set_exact n h i =
      let m = set_members n h in (
        λ e. let lt = below m (dec_lt i n) e in (lt, sym (m.inside i lt) ∙ e),
        λ p. m.inside i p.0 ∙ p.1,
      )
    where
      below : Members k test n (set_of k test n) → Dec (i < n) → marked (set_of k test n) i ≡ true → i < n
      below m (yes lt) e = lt
      below m (no ge) e = let z : false ≡ true = sym (m.outside i (omega arith)) ∙ e in absurd (false≢true z)

-- ---- no other words have them

-- a number of k bits is told by its bits
same_bits : (k v w : ℕ) → v < 2 ^ k → w < 2 ^ k → ((j : ℕ) → j < k → bit v j ≡ bit w j) → v ≡ w
same_bits zero v w hv hw e = omega arith
same_bits (suc k) v w hv hw e =
    let half : v / 2 ≡ w / 2 =
    same_bits k (v / 2) (w / 2) (omega (arith, pow-suc 2 k)) (omega (arith, pow-suc 2 k)) (λ j h. sym (bit_suc v j) ∙ e (suc j) (omega arith) ∙ bit_suc w j) in
    omega (arith, half, bit_zero v, bit_zero w, e 0 (omega arith))

-- a bit is told by its mark
same_bit : (vs ws : List ℕ) (i : ℕ) (b : Bool) → marked vs i ≡ b → marked ws i ≡ b → bit (get_or vs (i / 64) 0) (i % 64) ≡ bit (get_or ws (i / 64) 0) (i % 64)
unfolding marked mark
same_bit vs ws i true e f = eqb-true _ 1 e ∙ sym (eqb-true _ 1 f)
same_bit vs ws i false e f = mark_unmarked vs i e ∙ sym (mark_unmarked ws i f)

pub same_words : {k : ℕ} {vs ws : List ℕ} → Words k vs → Words k ws → ((i : ℕ) → marked vs i ≡ marked ws i) → vs ≡ ws
same_words {k} {vs} {ws} v w e =
    ext_get_or 0 vs ws (v.len ∙ sym w.len) (λ j _. same_bits 64 (get_or vs j 0) (get_or ws j 0) (v.fit j) (w.fit j) (λ p h. at j p h))
  where
    at : (j p : ℕ) → p < 64 → bit (get_or vs j 0) p ≡ bit (get_or ws j 0) p
    at j p h =
        let word : (64 * j + p) / 64 ≡ j = omega arith in
        let place : (64 * j + p) % 64 ≡ p = omega arith in
        subst (λ (x : ℕ). bit (get_or vs x 0) p ≡ bit (get_or ws x 0) p) word
        (subst (λ (y : ℕ). bit (get_or vs ((64 * j + p) / 64) 0) y ≡ bit (get_or ws ((64 * j + p) / 64) 0) y) place
        (same_bit vs ws (64 * j + p) (marked ws (64 * j + p)) (e (64 * j + p)) refl))

-- so words with the members of a set are that set
pub members_set : {k : ℕ} {test : ℕ → Bool} {n : ℕ} {ws : List ℕ} → n ≤ 64 * k → Members k test n ws → ws ≡ set_of k test n
members_set {k} {test} {n} {ws} h m =
    let s = set_members k test n h in
    same_words m.words s.words (λ i. by_lt i (dec_lt i n))
  where
    by_lt : (i : ℕ) → Dec (i < n) → marked ws i ≡ marked (set_of k test n) i
    by_lt i (yes lt) = m.inside i lt ∙ sym ((set_members k test n h).inside i lt)
    by_lt i (no ge) = m.outside i (omega arith) ∙ sym ((set_members k test n h).outside i (omega arith))
