-- What follows from the definitions of the same name in specs/.
-- Assumes nothing.
use Rattle.std.specs.Prelude.{List, ◌++◌, ◌≡◌, refl, ℕ, ℤ, ◌+◌, ◌-◌, ◌≤◌, length, take, drop, slice_range}
use Rattle.std.proofs.Common.{sym, ap, subst, ◌∙◌, arith, append_assoc, length-take, length-drop, length-take-le, take-take, take-add, drop_at}
use Rattle.std.proofs.lemmas.List.{drop-take}
use Rattle.std.proofs.KnownBytes.{Consumes-trans}
use Rattle.std.specs.declared.option.Option.{Option}
use Rattle.std.specs.Io.KnownBytes.{Consumes}
use Rattle.io.specs.Counts.{clamp_len}
use Rattle.input.specs.Reads.{Reads}

-- the part of a buffer from `count` on
abbrev rest : ℕ → List ℕ → List ℕ
rest count after = take (length after - count) (drop count after)

reads : {before : List ℕ} {count : ℕ} {after : List ℕ} {next : ℕ} → take count after ≡ take count before → length after ≡ length before
    → count ≤ next → next ≤ length after → Reads before count after next
reads {after = after} {next} k s g w = record { kept = k; same = s; grown = g; within = (w, sym (length-take-le next after w)) }

pub no_read : (buffer : List ℕ) (count : ℕ) → count ≤ length buffer → Reads buffer count buffer count
no_read buffer count h = reads refl refl (omega arith) h

-- one read, which was lent the part from `count` on and answered z
pub one_read : (before : List ℕ) (count : ℕ) (after : List ℕ) (z : ℤ) {more : ℕ} → take count after ≡ take count before → length after ≡ length before
    → count ≤ length before → (more ≤ length (rest count after)) × (more ≡ clamp_len z (length (rest count after)))
    → Reads before count after (count + more) × (count + more ≡ count + clamp_len z (length before - count))
one_read before count after z k s h (m, e) =
    let l : length (rest count after) ≡ length before - count = length-take (length after - count) (drop count after) ∙ omega (arith, length-drop count after, s) in
    (reads k s (omega arith) (omega (arith, l, m, s, h)), ap (λ (n : ℕ). count + n) (e ∙ ap (clamp_len z) l))

-- a reading that goes on from where one ended is one with it
pub behind : {a b c : List ℕ} {i j k : ℕ} → Reads a i b j → Reads b j c k → Reads a i c k
behind {a} {b} {c} {i} {j} r s =
    record {
      kept = sym (take-take i j c r.grown) ∙ ap (take i) s.kept ∙ take-take i j b r.grown ∙ r.kept;
      same = s.same ∙ r.same;
      grown = omega (arith, r.grown, s.grown);
      within = s.within;
    }

-- what stood there, and then what was read
pub in_order : {a b : List ℕ} {i j : ℕ} → Reads a i b j → take j b ≡ take i a ++ take (j - i) (drop i b)
in_order {a} {b} {i} {j} r =
    let e : j ≡ i + (j - i) = omega (arith, r.grown) in
    ap (λ (n : ℕ). take n b) e ∙ take-add i (j - i) b ∙ ap (λ (xs : List ℕ). xs ++ take (j - i) (drop i b)) r.kept

-- what the first of two gave, as it stood then, is before what the second gave
pub both_in_order : {a b c : List ℕ} {i j k : ℕ} → Reads a i b j → Reads b j c k
    → take k c ≡ (take i a ++ take (j - i) (drop i b)) ++ take (k - j) (drop j c)
both_in_order {c = c} {j = j} {k} r s = in_order s ∙ ap (λ (xs : List ℕ). xs ++ take (k - j) (drop j c)) (in_order r)

-- and they are the bytes that the reader gave, where those are known
pub bytes_in_order : {a b c : List ℕ} {i j k : ℕ} → Reads a i b j → Reads b j c k → (x y z : Option (List ℕ))
    → Consumes x y (slice_range b i j) → Consumes y z (slice_range c j k) → Consumes x z (slice_range c i k)
bytes_in_order {a} {b} {c} {i} {j} {k} r s x y z first second =
    let more : k ≡ i + (k - i) = omega (arith, r.grown, s.grown) in
    let front : length (take i a) ≡ i = length-take-le i a (omega (arith, r.grown, r.within.0, r.same)) in
    let joined : slice_range b i j ++ slice_range c j k ≡ slice_range c i k =
    sym (drop_at (take i a) (slice_range b i j ++ slice_range c j k) i front)
    ∙ ap (drop i) (sym (append_assoc (take i a) (slice_range b i j) (slice_range c j k)) ∙ sym (both_in_order r s) ∙ ap (λ (n : ℕ). take n c) more)
    ∙ drop-take i (k - i) c in
    subst (Consumes x z) joined (Consumes-trans x y z _ _ first second)
