-- What follows from the definitions of the same name in specs/.
-- Assumes nothing.
use Rattle.std.specs.Prelude.{◌≡◌, refl, true, false, List, ℕ, ◌+◌, ◌^◌, ◌<◌, ◌≤◌, eqb, leb, length, drop}
use Rattle.std.proofs.Common.{sym, ◌∙◌, arith, get_or-drop}
use Rattle.std.proofs.Math.Bool.{and-eq-true_iff}
use borrow.Author.Tests.{leb-true, le-leb, lt-leb, eq-eqb, ne_eqb, eqb-true}
use Rattle.records.specs.Fields.{Bytes, number16, number32, begins}

-- ---- laws

pub drop_bytes : {bytes : List ℕ} → Bytes bytes → (at : ℕ) → Bytes (drop at bytes)
drop_bytes {bytes} b at = record { small = λ k. rw (get_or-drop at bytes k 0) (b.small (at + k)) }

pub small16 : {bytes : List ℕ} → Bytes bytes → (at : ℕ) → number16 bytes at < 2 ^ 16
small16 {bytes} b at = omega (arith, b.small at, b.small (at + 1))

pub small32 : {bytes : List ℕ} → Bytes bytes → (at : ℕ) → number32 bytes at < 2 ^ 32
small32 {bytes} b at = omega (arith, small16 b at, small16 b (at + 2))

module _ (mark width : ℕ) (bytes : List ℕ) where
  pub begins_whole : begins mark width bytes ≡ true → width ≤ length bytes
  unfolding begins
  begins_whole h = leb-true width (length bytes) ((and-eq-true_iff (leb width (length bytes)) (eqb (number16 bytes 0) mark)).0 h).0

  pub begins_not : length bytes < width → false ≡ begins mark width bytes
  unfolding begins
  begins_not h = rw (lt-leb width (length bytes) h)

  pub begins_by : width ≤ length bytes → {n : ℕ} → n ≡ number16 bytes 0 → eqb n mark ≡ begins mark width bytes
  unfolding begins
  begins_by h e = rw (le-leb width (length bytes) h, e)

  pub begins_here : width ≤ length bytes → number16 bytes 0 ≡ mark → begins mark width bytes ≡ true
  begins_here h e = sym (begins_by h refl) ∙ eq-eqb (number16 bytes 0) mark e

  pub begins_other : width ≤ length bytes → (number16 bytes 0 ≡ mark → ⊥) → begins mark width bytes ≡ false
  begins_other h e = sym (begins_by h refl) ∙ ne_eqb (number16 bytes 0) mark e

  pub begins_mark : begins mark width bytes ≡ true → number16 bytes 0 ≡ mark
  begins_mark h = eqb-true (number16 bytes 0) mark (begins_by (begins_whole h) refl ∙ h)
