-- What follows from the definitions of the same name in specs/.
-- Assumes nothing.
use Rattle.std.specs.Prelude.{◌≡◌, get_or, replicate, set, Option, Some, None}
use Rattle.std.proofs.Math.Path.{refl, sym, ap}
use Rattle.std.proofs.Common.{◌∙◌, arith, length-take-le, get_or-take, take-suc-set}
use mathlib.Core.List.{List, [], ◌∷◌, ◌++◌, append_assoc}
use Prim.Native.Nat.{ℕ, suc, ◌+◌, ◌<◌, ◌≤◌}
use Rattle.std.proofs.Math.Numerals.{add-one}
use borrow.Author.Tests.{eq-eqb}
use Rattle.std.proofs.Math.ListN.{length, take, length-append, length-set, get_or-append}
use Rattle.std.proofs.Math.Seq.{get_or-append_seam}
use Rattle.terms.specs.Number.{place, place_by}
use Rattle.terms.specs.Table.{find_of}
use Rattle.terms.proofs.TableLaws.{behind, find_append, find_same}
use Rattle.messages.specs.Entered.{with_by, with_word}
use Rattle.messages.specs.Plan.{joined, WordPlanned}

-- ---- planning a word, by what the two searches find

module _ (ts : List ℕ) (count : ℕ) (words : List ℕ) (planned w : ℕ) (in_table : count ≤ length ts) (in_plan : planned ≤ length words) where
  table_length : length (take count ts) ≡ count
  table_length = length-take-le count ts in_table

  pub joined_length : length (joined ts count words planned) ≡ count + planned
  joined_length =
      length-append (take count ts) (take planned words)
      ∙ omega (arith, table_length, length-take-le planned words in_plan)

  in_front : find_of (joined ts count words planned) (length (take count ts)) w ≡ find_of ts count w
  in_front =
      find_same (joined ts count words planned) (take count ts) (length (take count ts)) w
      (λ k h. get_or-append (take count ts) (take planned words) 0 k h)
      ∙ ap (λ (m : ℕ). find_of (take count ts) m w) table_length
      ∙ find_same (take count ts) ts count w (λ k h. get_or-take count ts k 0 h)

  find_joined : find_of (joined ts count words planned) (length (joined ts count words planned)) w ≡ behind count (find_of words planned w) (find_of ts count w)
  find_joined =
      ap (λ (m : ℕ). find_of (joined ts count words planned) m w) (joined_length ∙ ap (λ (m : ℕ). m + planned) (sym table_length))
      ∙ find_append (take count ts) (take planned words) planned w
      ∙ (rw (in_front, table_length, find_same (take planned words) words planned w (λ k h. get_or-take planned words k 0 h)))

  there : (i : ℕ) → find_of (joined ts count words planned) (length (joined ts count words planned)) w ≡ Some i → WordPlanned ts count words planned w i words planned
  unfolding with_word place
  there i e =
      record { terms = sym (ap (with_by (joined ts count words planned) w) e); number_is = sym (ap place_by e); most = omega arith; places = refl }

  pub planned_before : {j : ℕ} → find_of words planned w ≡ Some j → WordPlanned ts count words planned w (count + j) words planned
  planned_before {j} e = there (count + j) (find_joined ∙ ap (λ (f : Option ℕ). behind count f (find_of ts count w)) e)

  module _ (none : find_of words planned w ≡ None) where
    only_table : find_of (joined ts count words planned) (length (joined ts count words planned)) w ≡ find_of ts count w
    only_table = find_joined ∙ ap (λ (f : Option ℕ). behind count f (find_of ts count w)) none

    pub in_the_table : {i : ℕ} → find_of ts count w ≡ Some i → WordPlanned ts count words planned w i words planned
    in_the_table {i} e = there i (only_table ∙ e)

    pub planned_now : find_of ts count w ≡ None → planned < length words
        → WordPlanned ts count words planned w (count + planned) (set words planned w) (planned + 1)
    unfolding with_word place find_of
    planned_now e room =
        let zs = joined ts count words planned in
        let longer : joined ts count (set words planned w) (planned + 1) ≡ zs ++ (w ∷ []) =
        ap (λ (l : List ℕ). take count ts ++ l) (rw add-one (take-suc-set words planned w room))
        ∙ sym (append_assoc (take count ts) (take planned words) (w ∷ [])) in
        let size : length (zs ++ (w ∷ [])) ≡ suc (length zs) = length-append zs (w ∷ []) ∙ add-one (length zs) in
        let last : find_of (zs ++ (w ∷ [])) (length (zs ++ (w ∷ []))) w ≡ Some (length zs) =
        rw (size, eq-eqb (get_or (zs ++ (w ∷ [])) (length zs) 0) w (get_or-append_seam zs w [] 0)) in
        record {
          terms = longer ∙ sym (ap (with_by zs w) (only_table ∙ e));
          number_is = sym joined_length ∙ sym (ap place_by last) ∙ ap (λ (l : List ℕ). place_by (find_of l (length l) w)) (sym longer);
          most = omega arith;
          places = length-set words planned w;
        }
