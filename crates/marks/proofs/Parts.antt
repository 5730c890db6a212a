-- What follows from the definitions of the same name in specs/.
-- Assumes nothing.
use Rattle.std.specs.Prelude.{◌≡◌, get_or, take}
use Rattle.std.proofs.Math.Path.{sym}
use Rattle.std.proofs.Common.{ap, ◌∙◌, drop_of_length-le, take_all, take_at, get_or-take, get_or-drop, drop-set-lt}
use mathlib.Core.List.{List, ◌++◌, append_assoc, append-nil}
use Prim.Native.Nat.{ℕ, ◌+◌, ◌*◌, ◌-◌, ◌/◌, ◌%◌, ◌<◌, ◌≤◌}
use native.Mathlib.Omega.{arith}
use Rattle.std.proofs.Math.ListN.{length, drop, length-drop, get_or-append}
use Rattle.std.proofs.Math.Seq.{length-take-le, drop_at, take-set-lt, take-set-le, ext_get_or, paste, length_paste_head}
use Rattle.std.proofs.lemmas.List.{drop-set-add}
use Rattle.std.proofs.lemmas.List.Edits.{length-paste}
use Rattle.marks.specs.Marks.{mark, marked, with_mark}
use Rattle.marks.specs.Parts.{part}

pub part_length : (at : ℕ) (ws : List ℕ) → at + 8 ≤ length ws → length (part at ws) ≡ 8
unfolding part
part_length at ws h = length-take-le 8 (drop at ws) (omega (arith, length-drop at ws))

module _ (at : ℕ) (ws : List ℕ) (i : ℕ) (h : i < 512) where
  word : (64 * at + i) / 64 ≡ at + i / 64
  word = omega arith

  place : (64 * at + i) % 64 ≡ i % 64
  place = omega arith

  read : get_or ws (at + i / 64) 0 ≡ get_or (take 8 (drop at ws)) (i / 64) 0
  read = sym (get_or-take 8 (drop at ws) (i / 64) 0 (omega arith) ∙ get_or-drop at ws (i / 64) 0)

  -- number i of the part is number 64 · at + i of the whole
  pub part_marked : marked (part at ws) i ≡ marked ws (64 * at + i)
  unfolding part marked mark
  part_marked = rw (word, place, read)

  -- it goes into the part
  pub part_with : part at (with_mark ws (64 * at + i)) ≡ with_mark (part at ws) i
  unfolding part with_mark
  part_with =
      rw (word, place, read)
      (ap (take 8) (drop-set-add at ws (i / 64) _)
      ∙ take-set-lt 8 (drop at ws) (i / 64) _ (omega arith))

  -- and no later part changes,
  pub part_later : (b : ℕ) → at + 8 ≤ b → part b (with_mark ws (64 * at + i)) ≡ part b ws
  unfolding part with_mark
  part_later b le = rw word (ap (take 8) (drop-set-lt b ws (at + i / 64) _ (omega arith)))

  -- nor an earlier one
  pub part_earlier : (b : ℕ) → b + 8 ≤ at → part b (with_mark ws (64 * at + i)) ≡ part b ws
  unfolding part with_mark
  part_earlier b le =
      let k : ℕ = at + i / 64 - b in
      let e : at + i / 64 ≡ b + k = omega arith in
      rw (word, e) (ap (take 8) (drop-set-add b ws k _) ∙ take-set-le 8 (drop b ws) k _ (omega arith))

-- ---- a part that is written

module _ (at : ℕ) (ws s : List ℕ) (h : at + 8 ≤ length ws) (eight : length s ≡ 8) where
  pub part_stored : part at (paste ws at s 8) ≡ s
  unfolding part
  part_stored =
      rw (take_all 8 s (omega arith), append_assoc (take at ws) s (drop (at + 8) ws), drop_at (take at ws) (s ++ drop (at + 8) ws) at (length-take-le at ws (omega arith)))
      (take_at s (drop (at + 8) ws) 8 eight)

  pub stored_length : length (paste ws at s 8) ≡ length ws
  stored_length = length-paste ws at s 8 h (omega arith)

  -- a list of eight words is written over
  pub stored_whole : at ≡ 0 → length ws ≡ 8 → paste ws at s 8 ≡ s
  stored_whole z e = rw (z, take_all 8 s (omega arith), drop_of_length-le ws {i = 8} (omega arith)) (append-nil s)

  -- an earlier part stays as it was
  pub part_before : (b : ℕ) → b + 8 ≤ at → part b (paste ws at s 8) ≡ part b ws
  unfolding part
  part_before b le =
      ext_get_or 0 (take 8 (drop b (paste ws at s 8))) (take 8 (drop b ws)) (part_size (paste ws at s 8) (omega (arith, stored_length)) ∙ sym (part_size ws (omega arith)))
      (λ i lt. same i (omega (arith, part_size (paste ws at s 8) (omega (arith, stored_length)))))
    where
      part_size : (xs : List ℕ) → b + 8 ≤ length xs → length (take 8 (drop b xs)) ≡ 8
      part_size xs k = length-take-le 8 (drop b xs) (omega (arith, length-drop b xs))

      look : (xs : List ℕ) (i : ℕ) → i < 8 → get_or (take 8 (drop b xs)) i 0 ≡ get_or xs (b + i) 0
      look xs i k = get_or-take 8 (drop b xs) i 0 k ∙ get_or-drop b xs i 0

      front : (i : ℕ) → b + i < at → get_or (paste ws at s 8) (b + i) 0 ≡ get_or ws (b + i) 0
      front i k =
          get_or-append (take at ws ++ take 8 s) (drop (at + 8) ws) 0 (b + i) (omega (arith, length_paste_head ws at s 8 (omega arith) (omega arith)))
          ∙ get_or-append (take at ws) (take 8 s) 0 (b + i) (omega (arith, length-take-le at ws (omega arith)))
          ∙ get_or-take at ws (b + i) 0 k

      same : (i : ℕ) → i < 8 → get_or (take 8 (drop b (paste ws at s 8))) i 0 ≡ get_or (take 8 (drop b ws)) i 0
      same i k = look (paste ws at s 8) i k ∙ front i (omega arith) ∙ sym (look ws i k)
