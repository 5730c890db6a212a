-- The number of a set's members is the number of ones of its words, summed. So adding a member makes one more, and a
-- set of k words has at most 64 · k.
-- Assumes nothing.
use Rattle.std.specs.Prelude.{◌≡◌, refl, false, List, [], ◌∷◌, ℕ, zero, suc, ◌+◌, ◌*◌, ◌/◌, ◌%◌, ◌^◌, ◌<◌, ◌≤◌, length, get_or}
use Rattle.std.proofs.Common.{sym, ap, ◌∙◌, add-zero, add-suc, pow-suc, arith}
use Rattle.std.specs.Int.Count.{ones, ones_step}
use Rattle.std.specs.List.{sum_by}
use Rattle.std.proofs.lemmas.Nat.{ones-le}
use Rattle.std.proofs.lemmas.List.Sums.{sum_by-cons, sum_by-set}
use Rattle.marks.specs.Bits.{bit, set_bit}
use Rattle.marks.proofs.Bits.{bit_zero, bit_suc, set_bit_ones}
use Rattle.marks.specs.Marks.{mark, marked, with_mark, sum, size, Words}
use Rattle.marks.proofs.Marks.{mark_unmarked, with_words}

-- ---- properties of `sum`

sum_none : (f : ℕ → ℕ) → 0 ≡ sum f 0
unfolding sum
sum_none f = refl

sum_same : (f g : ℕ → ℕ) (n : ℕ) → ((i : ℕ) → i < n → f i ≡ g i) → sum f n ≡ sum g n
unfolding sum
sum_same f g zero e = refl
sum_same f g (suc n) e = omega (arith, sum_same f g n (λ i h. e i (omega arith)), e n (omega arith))

sum_first : (f : ℕ → ℕ) (n : ℕ) → sum f (suc n) ≡ f 0 + sum (λ i. f (suc i)) n
unfolding sum
sum_first f zero = omega arith
sum_first f (suc n) = omega (arith, sum_first f n)

sum_add : (f : ℕ → ℕ) (m n : ℕ) → sum f (m + n) ≡ sum f m + sum (λ i. f (m + i)) n
unfolding sum
sum_add f m zero = ap (sum f) (add-zero m) ∙ sym (add-zero (sum f m))
sum_add f m (suc n) = ap (sum f) (add-suc m n) ∙ omega (arith, sum_add f m n)

-- ---- the members are the ones

-- of a word of k bits
word_ones : (k w : ℕ) → w < 2 ^ k → ones w ≡ sum (bit w) k
unfolding sum
word_ones zero w h = omega (arith, ones-le 0 w h)
word_ones (suc k) w h =
    omega (
      arith,
      ones_step w,
      word_ones k (w / 2) (omega (arith, pow-suc 2 k)),
      bit_zero w,
      sum_first (bit w) k,
      sum_same (bit (w / 2)) (λ i. bit w (suc i)) k (λ i _. sym (bit_suc w i)),
    )

-- the first word's marks, and those of the words after it
mark_first : (w : ℕ) (ws : List ℕ) (i : ℕ) → i < 64 → bit w i ≡ mark (w ∷ ws) i
unfolding mark
mark_first w ws i h =
    let q : i / 64 ≡ 0 = omega arith in
    let r : i % 64 ≡ i = omega arith in
    rw (q, r)

mark_later : (w : ℕ) (ws : List ℕ) (i : ℕ) → mark ws i ≡ mark (w ∷ ws) (64 + i)
unfolding mark
mark_later w ws i =
    let q : (64 + i) / 64 ≡ suc (i / 64) = omega arith in
    let r : (64 + i) % 64 ≡ i % 64 = omega arith in
    rw (q, r)

ones_sum : (ws : List ℕ) → ((k : ℕ) → get_or ws k 0 < 2 ^ 64) → sum_by ones ws ≡ sum (mark ws) (64 * length ws)
ones_sum [] f = sum_none (mark [])
ones_sum (w ∷ ws) f =
    let n = 64 * length ws in
    let e : 64 * suc (length ws) ≡ 64 + n = omega arith in
    rw e
    (omega (
      arith,
      sum_by-cons ones w ws,
      word_ones 64 w (f 0),
      ones_sum ws (λ k. f (suc k)),
      sum_add (mark (w ∷ ws)) 64 n,
      sum_same (bit w) (mark (w ∷ ws)) 64 (mark_first w ws),
      sum_same (mark ws) (λ i. mark (w ∷ ws) (64 + i)) n (λ i _. mark_later w ws i),
    ))

pub ones_size : {k : ℕ} {ws : List ℕ} → Words k ws → sum_by ones ws ≡ size ws
unfolding size
ones_size {ws = ws} w = ones_sum ws w.fit

-- ---- the size after adding

with_ones : (ws : List ℕ) (i : ℕ) → i < 64 * length ws → marked ws i ≡ false → sum_by ones (with_mark ws i) ≡ suc (sum_by ones ws)
unfolding with_mark
with_ones ws i h e =
    omega
    (arith, sum_by-set ones ws (i / 64) (set_bit (get_or ws (i / 64) 0) (i % 64)) 0 (omega arith), set_bit_ones (get_or ws (i / 64) 0) (i % 64) (mark_unmarked ws i e))

-- one more, where i is not in the set yet
pub size_with : {k : ℕ} {ws : List ℕ} → Words k ws → (i : ℕ) → i < 64 * k → marked ws i ≡ false → size (with_mark ws i) ≡ suc (size ws)
size_with {ws = ws} w i h e =
    sym (ones_size (with_words ws i w h)) ∙ with_ones ws i (omega (arith, w.len)) e ∙ ap suc (ones_size w)

-- ---- at most the width

ones_le : (ws : List ℕ) → ((k : ℕ) → get_or ws k 0 < 2 ^ 64) → sum_by ones ws ≤ 64 * length ws
ones_le [] f = omega arith
ones_le (w ∷ ws) f = omega (arith, sum_by-cons ones w ws, ones-le 64 w (f 0), ones_le ws (λ k. f (suc k)))

pub size_le : {k : ℕ} {ws : List ℕ} → Words k ws → size ws ≤ 64 * k
size_le {ws = ws} w = omega (arith, ones_le ws w.fit, w.len, ones_size w)
