-- Bytes written at the front of a part of the buffer that was lent: the form by which a function gets "the buffer's part from the
-- offset on".
-- Assumes nothing.
use Rattle.std.specs.Prelude.{List, [], ◌++◌, ◌≡◌, refl, ℕ, ◌+◌, ◌-◌, ◌≤◌, length, take, drop}
use Rattle.std.proofs.Common.{append_assoc, append-nil, sym, ap, ◌∙◌, arith, length-drop, take-append-drop, drop_of_length-le, take_all, drop-drop}
use borrow.Rule.Slice.PartMut.{mid_of, put_mid, mid_len}
use Rattle.fields.specs.Placed.{placed, Wrote}

from_zero : (k : ℕ) → 0 + k ≡ k
from_zero k = omega arith

-- what a copy to the front of a lent part leaves there
pub copied : (xs bytes : List ℕ) {b : List ℕ} {n : ℕ} {after : List ℕ} → b ≡ bytes → n ≡ length b → after ≡ take (length b) b ++ drop (length b) xs
    → Wrote xs 0 bytes after n
unfolding placed
copied xs bytes {b} {n} {after} e l p = record {
  contents = p ∙ ap (λ (u : List ℕ). u ++ drop (length b) xs) (take_all (length b) b (omega arith)) ∙ ap (λ (u : List ℕ). u ++ drop (length u) xs) e
      ∙ ap (λ (k : ℕ). bytes ++ drop k xs) (sym (from_zero (length bytes)));
  offset = l ∙ ap (λ (u : List ℕ). length u) e ∙ sym (from_zero (length bytes));
}

-- the part's front is the whole's place
pub part_wrote : (xs : List ℕ) (at : ℕ) (bytes : List ℕ) {part : List ℕ} {n : ℕ} → Wrote (mid_of at (length xs - at) xs) 0 bytes part n
    → Wrote xs at bytes (put_mid at (length xs - at) xs part) (at + n)
unfolding placed
part_wrote xs at bytes {part} {n} w =
    let rest : List ℕ = drop at xs in
    let whole : length rest ≤ length xs - at = omega (arith, length-drop at xs) in
    record {
      contents =
          rw (
            w.contents,
            from_zero (length bytes),
            take_all (length xs - at) rest whole,
            drop_of_length-le rest whole,
            append-nil (bytes ++ drop (length bytes) rest),
            drop-drop (length bytes) at xs,
          )
          (sym (append_assoc (take at xs) bytes (drop (at + length bytes) xs)));
      offset = ap (λ (k : ℕ). at + k) (w.offset ∙ from_zero (length bytes));
    }

pub part_room : (xs : List ℕ) (at k : ℕ) → at + k ≤ length xs → k ≤ length (mid_of at (length xs - at) xs)
part_room xs at k h = omega (arith, mid_len at (length xs) xs (omega arith))

-- no byte at all
pub nothing_wrote : (xs : List ℕ) (at : ℕ) → Wrote xs at [] xs (at + 0)
unfolding placed
nothing_wrote xs at = record {
  contents = sym (take-append-drop at xs) ∙ ap (λ (k : ℕ). take at xs ++ drop k xs) (plain at)
      ∙ ap (λ (u : List ℕ). u ++ drop (at + 0) xs) (sym (append-nil (take at xs)));
  offset = refl;
}
  where
    plain : (at : ℕ) → at ≡ at + 0
    plain at = omega arith
