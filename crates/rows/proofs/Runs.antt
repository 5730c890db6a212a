-- What follows from the definitions of the same name in specs/.
-- Assumes nothing.
use Rattle.std.specs.Prelude.{◌≡◌, ℕ, ◌+◌, ◌*◌, ◌-◌, ◌<◌, ◌≤◌}
use Rattle.std.proofs.Math.Path.{refl, sym, ap}
use Rattle.std.proofs.Common.{◌∙◌, length-drop, take-append-drop, length-take-le}
use mathlib.Core.List.{List, ◌++◌, append_assoc}
use Rattle.std.proofs.Math.Decide.{dec_lt}
use native.Mathlib.Omega.{arith}
use borrow.Rule.Slice.PartMut.{put_mid}
use Rattle.std.proofs.Math.ListN.{length, take, drop, length-append}
use Rattle.std.proofs.Math.Seq.{take_at, drop_at, drop-drop}
use Rattle.std.proofs.lemmas.List.{take-append-le, drop-append-le}
use Rattle.exchange.specs.declared.run.Row.{Row}
use Rattle.rows.specs.Row.{width, row_of, words_of, Fits}
use Rattle.rows.proofs.Row.{row_fits, row_back}
use Rattle.rows.specs.Runs.{Full, words_at, past_rows, run_at, set_run}

-- the tables have the same first `count` rows
abbrev pub SameRows : (runs runs' : List ℕ) (count : ℕ) → Type 0
SameRows runs runs' count = (r : ℕ) → r < count → words_at runs r ≡ words_at runs' r

-- ---- as the code lends a row's part

module _ (runs : List ℕ) (r : ℕ) where
  part_width : r * width + width - r * width ≡ width
  part_width = omega arith

  pub written_part : (x : Row) (ws : List ℕ) → ws ≡ words_of x → put_mid (r * width) (r * width + width - r * width) runs ws ≡ set_run runs r x
  unfolding set_run
  written_part x ws e = rw (part_width, e, drop-drop)

-- ---- a row is read

pub words_length : (runs : List ℕ) → Full runs → (r : ℕ) → r < 64 → length (words_at runs r) ≡ width
words_length runs size r l = length-take-le width (drop (r * width) runs) (simp length-drop (omega arith))

pub run_fits : (runs : List ℕ) (r : ℕ) → Fits (run_at runs r)
unfolding run_at
run_fits runs r = row_fits (words_at runs r)

pub run_as : (runs runs' : List ℕ) (r : ℕ) → words_at runs r ≡ words_at runs' r → run_at runs r ≡ run_at runs' r
unfolding run_at
run_as runs runs' r e = ap row_of e

-- ---- a row is written

-- words within the first part of a list
early : (p t : List ℕ) (i : ℕ) → i + width ≤ length p → take width (drop i (p ++ t)) ≡ take width (drop i p)
early p t i h = rw (drop-append-le i p t (omega arith)) (take-append-le width (drop i p) t (simp length-drop (omega arith)))

module _ (runs : List ℕ) (size : Full runs) (r : ℕ) (l : r < 64) (x : Row) where
  before_length : length (take (r * width) runs) ≡ r * width
  before_length = length-take-le (r * width) runs (omega arith)

  pub set_full : Full (set_run runs r x)
  unfolding set_run
  set_full = simp (length-append, length-drop) (omega (arith, before_length))

  pub words_same : words_at (set_run runs r x) r ≡ words_of x
  unfolding set_run
  words_same =
      ap (λ (t : List ℕ). take width t) (drop_at (take (r * width) runs) (words_of x ++ drop (r * width + width) runs) (r * width) before_length)
      ∙ take_at (words_of x) (drop (r * width + width) runs) width refl

  pub set_past : (count : ℕ) → r < count → past_rows (set_run runs r x) count ≡ past_rows runs count
  unfolding set_run
  set_past count h =
      let before = take (r * width) runs ++ words_of x in
      let long : length before ≡ r * width + width = length-append (take (r * width) runs) (words_of x) ∙ omega (arith, before_length) in
      let after = drop_at before (drop (r * width + width) runs) (r * width + width) long in
      let d = count * width - (r * width + width) in
      let e : count * width ≡ r * width + width + d = omega arith in
      rw (e, ← append_assoc (take (r * width) runs) (words_of x) (drop (r * width + width) runs))
      (sym (drop-drop d (r * width + width) (before ++ drop (r * width + width) runs)) ∙ ap (λ (t : List ℕ). drop d t) after ∙ drop-drop d (r * width + width) runs)

  words_before : (q : ℕ) → q < r → words_at (set_run runs r x) q ≡ words_at runs q
  unfolding set_run
  words_before q h =
      let fits : q * width + width ≤ length (take (r * width) runs) = omega (arith, before_length) in
      early (take (r * width) runs) (words_of x ++ drop (r * width + width) runs) (q * width) fits
      ∙ sym (early (take (r * width) runs) (drop (r * width) runs) (q * width) fits)
      ∙ ap (λ (t : List ℕ). words_at t q) (take-append-drop (r * width) runs)

  pub words_other : (q : ℕ) → (q ≡ r → ⊥) → words_at (set_run runs r x) q ≡ words_at runs q
  words_other q n = by_side (dec_lt q r)
    where
      by_side : Dec (q < r) → words_at (set_run runs r x) q ≡ words_at runs q
      by_side (yes h) = words_before q h
      by_side (no h) = ap (λ (t : List ℕ). take width t) (set_past q (omega arith))

  pub run_same : Fits x → run_at (set_run runs r x) r ≡ x
  unfolding run_at
  run_same f = ap row_of words_same ∙ row_back f

  pub run_other : (q : ℕ) → (q ≡ r → ⊥) → run_at (set_run runs r x) q ≡ run_at runs q
  run_other q n = run_as (set_run runs r x) runs q (words_other q n)

  pub same_past : (count : ℕ) → count ≤ r → SameRows (set_run runs r x) runs count
  same_past count h q lt = words_other q (λ e. omega arith)
