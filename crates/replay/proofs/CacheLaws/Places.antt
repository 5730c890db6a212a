-- Laws on places: what `written` leaves in each of them. Whoever uses the cache cites these and opens none of the definitions.
-- Assumes nothing.
use Rattle.std.specs.Prelude.{◌≡◌, ℕ, suc, ◌+◌, ◌-◌, ◌<◌, ◌≤◌, List, [], ◌∷◌, ◌++◌, take, set, replicate}
use Rattle.std.proofs.Common.{sym, ◌∙◌, add-one, arith, append_assoc, append-nil, length-append, length-take-le}
use Rattle.std.proofs.Math.Path.{ap}
use Rattle.std.proofs.Math.ListN.{length, get_or, drop, length-drop, get_or-replicate, get_or-append}
use Rattle.std.proofs.lemmas.List.{length-replicate, set_split}
use Rattle.std.proofs.Math.Seq.{take-append_seam, drop-append-add, drop-drop, get_or-append-add}
use Rattle.replay.specs.declared.entry.Entry.{Entry}
use Rattle.replay.specs.Cache.{empty, entries, padded, written, becomes, accepted, done, appending}

-- ---- written

padded_length : (count : ℕ) (xs : List Entry) → length (padded count xs) ≡ length xs + (count - length xs)
padded_length count xs = simp (length-append, length-replicate) (omega arith)

module _ (list : List Entry) (count : ℕ) (xs : List Entry) where
  -- the first places hold the entries
  pub written_entries : entries (written list count xs) (length xs) ≡ xs
  unfolding written
  written_entries = rw (append_assoc xs (replicate (count - length xs) empty) (drop (length (padded count xs)) list)) (take-append_seam xs _)

  pub written_length : count ≤ length list → length xs ≤ length list → length (written list count xs) ≡ length list
  unfolding written
  written_length c l = simp (length-append, length-drop, length-replicate) (omega arith)

  -- a place that came free is empty
  pub written_freed : (i : ℕ) → length xs ≤ i → i < count → get_or (written list count xs) i empty ≡ empty
  unfolding written
  written_freed i l c =
      get_or-append (padded count xs) (drop (length (padded count xs)) list) empty i (omega (arith, padded_length count xs))
      ∙ ap (λ (j : ℕ). get_or (padded count xs) j empty) (omega arith)
      ∙ get_or-append-add xs (replicate (count - length xs) empty) (i - length xs) empty
      ∙ get_or-replicate (count - length xs) (i - length xs) empty empty (omega arith)

  -- a place past both counts is as it was
  pub written_past : (n : ℕ) → count ≤ n → length xs ≤ n → drop n (written list count xs) ≡ drop n list
  unfolding written
  written_past n c l =
      let m : n ≡ length (padded count xs) + (n - length (padded count xs)) = omega (arith, padded_length count xs) in
      ap (λ (j : ℕ). drop j (written list count xs)) m
      ∙ drop-append-add (padded count xs) (drop (length (padded count xs)) list) (n - length (padded count xs))
      ∙ drop-drop (n - length (padded count xs)) (length (padded count xs)) list
      ∙ ap (λ (j : ℕ). drop j list) (sym m)

  -- where no more entries are held than before
  pub written_fewer : length xs ≤ count → written list count xs ≡ xs ++ (replicate (count - length xs) empty ++ drop count list)
  unfolding written
  written_fewer l = let n : length (padded count xs) ≡ count = omega (arith, padded_length count xs) in rw n (append_assoc xs (replicate (count - length xs) empty) (drop count list))

pub append_length : (list : List Entry) (count : ℕ) (e : Entry) → count ≤ length list → length (entries list count ++ (e ∷ [])) ≡ count + 1
append_length list count e l = simp length-append (omega (arith, length-take-le count list l))

-- an entry is put behind the others by a store at the count
pub written_append : (list : List Entry) (count : ℕ) (e : Entry) → count < length list → set list count e ≡ written list count (entries list count ++ (e ∷ []))
unfolding written
written_append list count e l = set_split list count e l ∙ sym (append_assoc (take count list) (e ∷ []) (drop (suc count) list)) ∙ sym (last (take count list ++ (e ∷ [])) (append_length list count e (omega arith) ∙ add-one count))
  where
    last : (xs : List Entry) → length xs ≡ suc count → written list count xs ≡ xs ++ drop (suc count) list
    last xs h = let z : count - length xs ≡ 0 = omega arith in rw (z, append-nil xs, h)

pub appended : (list : List Entry) (count : ℕ) (e : Entry) → count < length list
    → record { places = set list count e; count = count + 1 } ≡ appending list count e
appended list count e l = λ j. record { places = written_append list count e l j; count = sym (append_length list count e (omega arith)) j }

-- ---- done: the same of a call that ends with the entries `xs`

module _ (list : List Entry) (count : ℕ) (xs : List Entry) (n : ℕ) (after : List Entry) (h : done (becomes list count xs) ≡ accepted n after) where
  pub held_count : n ≡ length xs
  held_count = cc

  held_list : after ≡ written list count xs
  held_list = cc

  pub held_entries : entries after n ≡ xs
  held_entries = rw (held_count, held_list) (written_entries list count xs)

  pub held_length : count ≤ length list → n ≤ length list → length after ≡ length list
  held_length c l = rw held_list (written_length list count xs c (omega (arith, held_count)))

  pub held_freed : (i : ℕ) → n ≤ i → i < count → get_or after i empty ≡ empty
  held_freed i l c = rw held_list (written_freed list count xs i (omega (arith, held_count)) c)

  pub held_past : (m : ℕ) → count ≤ m → n ≤ m → drop m after ≡ drop m list
  held_past m c l = rw held_list (written_past list count xs m c (omega (arith, held_count)))
