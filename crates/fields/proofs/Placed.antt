-- What follows from the definitions of the same name in specs/.
-- Assumes nothing.
use mathlib.Core.List.{List, [], ◌∷◌, ◌++◌, append_assoc}
use Rattle.std.specs.Prelude.{◌≡◌, refl, ℕ, suc, ◌+◌, ◌≤◌, ◌<◌, take, drop, set}
use Rattle.std.proofs.Common.{sym, ap, ◌∙◌, subst, arith, add_assoc, add-one, length-append, length-take-le, take_at, drop_at, drop-drop}
use Rattle.std.proofs.Math.ListN.{length}
use Rattle.std.proofs.lemmas.List.{set_split, take-set-le}
use Rattle.fields.specs.Placed.{placed, Wrote}

-- ---- byte by byte, the last first

-- a byte stored is a byte written,
pub placed_one : (xs : List ℕ) (at x : ℕ) → at < length xs → set xs at x ≡ placed xs at (x ∷ [])
unfolding placed
placed_one xs at x h = rw (set_split xs at x h, ← add-one at) (sym (append_assoc (take at xs) (x ∷ []) (drop (at + 1) xs)))

-- and one stored before those that go in front of it is written behind them
pub placed_last : (xs : List ℕ) (at : ℕ) (u : List ℕ) (x : ℕ) {k : ℕ} → k ≡ at + length u → k < length xs
    → placed (set xs k x) at u ≡ placed xs at (u ++ (x ∷ []))
unfolding placed
placed_last xs at u x {k} e h =
    rw (
      ← e,
      take-set-le at xs k x (omega arith),
      drop_set,
      length-append u (x ∷ []),
      ← append_assoc (take at xs) u (x ∷ []),
      append_assoc (take at xs ++ u) (x ∷ []) (drop (at + (length u + 1)) xs),
      ← add_assoc at (length u) 1,
      ← e,
    )
  where
    drop_set : drop k (set xs k x) ≡ x ∷ drop (k + 1) xs
    drop_set = rw (set_split xs k x h, add-one k) (drop_at (take k xs) (x ∷ drop (suc k) xs) k (length-take-le k xs (omega (arith, h))))

-- ---- one after the other

front_length : (xs : List ℕ) (at : ℕ) (u : List ℕ) → at ≤ length xs → length (take at xs ++ u) ≡ at + length u
front_length xs at u h = length-append (take at xs) u ∙ ap (λ (k : ℕ). k + length u) (length-take-le at xs h)

placed_joined : (xs : List ℕ) (at : ℕ) (u v : List ℕ) → at ≤ length xs
    → placed (placed xs at u) (at + length u) v ≡ placed xs at (u ++ v)
unfolding placed
placed_joined xs at u v h =
    let front : List ℕ = take at xs ++ u in
    let rest : List ℕ = drop (at + length u) xs in
    rw (
      take_at front rest (at + length u) (front_length xs at u h),
      ← drop-drop (length v) (at + length u) (front ++ rest),
      drop_at front rest (at + length u) (front_length xs at u h),
      drop-drop (length v) (at + length u) xs,
      length-append u v,
      ← append_assoc (take at xs) u v,
      add_assoc at (length u) (length v),
    )

pub joined : {before : List ℕ} {at : ℕ} {mid after : List ℕ} {next last : ℕ} {u v : List ℕ} → at ≤ length before
    → Wrote before at u mid next → Wrote mid next v after last → Wrote before at (u ++ v) after last
joined {before} {at} {next = next} {u = u} {v = v} h a b = record {
  contents = b.contents ∙ ap (λ (xs : List ℕ). placed xs next v) a.contents ∙ ap (λ (k : ℕ). placed (placed before at u) k v) a.offset ∙ placed_joined before at u v h;
  offset = omega (arith, a.offset, b.offset, length-append u v);
}

-- the bytes, by another name
pub wrote_as : {before : List ℕ} {at : ℕ} {after : List ℕ} {next : ℕ} {u v : List ℕ} → u ≡ v → Wrote before at u after next → Wrote before at v after next
wrote_as {before} {at} {after} {next} e w = subst (λ (bytes : List ℕ). Wrote before at bytes after next) e w

-- ---- what the buffer holds

module _ {before : List ℕ} {at : ℕ} {bytes after : List ℕ} {next : ℕ} (h : at ≤ length before) (w : Wrote before at bytes after next) where
  pub written : take next after ≡ take at before ++ bytes
  unfolding placed
  written = rw (w.contents, w.offset) (take_at (take at before ++ bytes) (drop (at + length bytes) before) (at + length bytes) (front_length before at bytes h))

  pub kept : drop next after ≡ drop next before
  unfolding placed
  kept = rw (w.contents, w.offset) (drop_at (take at before ++ bytes) (drop (at + length bytes) before) (at + length bytes) (front_length before at bytes h))

-- the same, of the buffer itself
module _ (buffer : List ℕ) (at : ℕ) (bytes : List ℕ) (h : at ≤ length buffer) where
  grouped : placed buffer at bytes ≡ take at buffer ++ (bytes ++ drop (at + length bytes) buffer)
  unfolding placed
  grouped = append_assoc (take at buffer) bytes (drop (at + length bytes) buffer)

  pub placed_before : take at (placed buffer at bytes) ≡ take at buffer
  placed_before = ap (take at) grouped ∙ take_at (take at buffer) (bytes ++ drop (at + length bytes) buffer) at (length-take-le at buffer h)

  pub placed_there : take (length bytes) (drop at (placed buffer at bytes)) ≡ bytes
  placed_there =
      ap (λ (xs : List ℕ). take (length bytes) (drop at xs)) grouped
      ∙ ap (take (length bytes)) (drop_at (take at buffer) (bytes ++ drop (at + length bytes) buffer) at (length-take-le at buffer h))
      ∙ take_at bytes (drop (at + length bytes) buffer) (length bytes) refl

  pub placed_behind : drop (at + length bytes) (placed buffer at bytes) ≡ drop (at + length bytes) buffer
  placed_behind = kept {before = buffer} {bytes = bytes} h (record { contents = refl; offset = refl })
