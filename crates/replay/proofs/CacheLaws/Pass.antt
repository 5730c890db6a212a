-- Laws on the one pass of step 8: where it begins, what reading one entry more makes of the list, and where it ends. Assumes nothing.
use Rattle.std.specs.Prelude.{◌≡◌, Bool, true, false, get_or, take, drop, set, replicate}
use Rattle.std.proofs.Math.Path.{refl, sym, ap}
use Rattle.std.proofs.Common.{◌∙◌, drop-cons}
use Prim.Native.Nat.{ℕ, zero, suc, ◌+◌, ◌-◌, ◌<◌, ◌≤◌}
use Rattle.std.proofs.Math.Numerals.{add-one}
use native.Mathlib.Omega.{arith}
use Rattle.std.proofs.Math.Bool.{cond}
use mathlib.Core.List.{List, [], ◌∷◌, ◌++◌, append_assoc, append-nil}
use Rattle.std.proofs.Math.ListN.{length, length-append, length-drop}
use Rattle.std.proofs.lemmas.List.{length-replicate, get_or_at, set_at}
use Rattle.std.proofs.Math.Seq.{length-take-le, take-suc}
use Rattle.replay.specs.declared.entry.Entry.{Entry}
use Rattle.replay.specs.declared.entry.Purge.{Purge}
use Rattle.replay.specs.Cache.{empty, stays, kept, entries, padded, written, swept, sweeping, after_read}
use Rattle.replay.proofs.CacheLaws.Entries.{filter_append, filter_length}

module _ (p : Purge) (list : List Entry) where
  -- nothing is read
  pub at_none : swept list 0 ≡ after_read p list 0
  unfolding after_read kept
  at_none = refl

  module _ (i : ℕ) (l : i ≤ length list) where
    kept_below : length (kept p (entries list i)) ≤ i
    unfolding kept
    kept_below = omega (arith, filter_length (stays p) (take i list), length-take-le i list l)

    padded_full : length (padded i (kept p (entries list i))) ≡ i
    padded_full = simp (length-append, length-replicate) (omega (arith, kept_below))

    pub at_length : length (after_read p list i).places ≡ length list
    unfolding after_read
    at_length = simp (length-append, length-drop, length-replicate) (omega (arith, kept_below))

    pub at_below : (after_read p list i).count ≤ i
    unfolding after_read
    at_below = kept_below

    -- as many entries as are read are swept
    pub at_end : after_read p list i ≡ sweeping list i p
    unfolding after_read written
    at_end = rw padded_full

empty_first : (n : ℕ) (ys : List Entry) → replicate n empty ++ (empty ∷ ys) ≡ empty ∷ (replicate n empty ++ ys)
empty_first zero ys = refl
empty_first (suc n) ys = ap (λ (l : List Entry). empty ∷ l) (empty_first n ys)

-- ---- one entry more
module _ (p : Purge) (list : List Entry) (i : ℕ) (l : i < length list) where
  abbrev x : Entry
  x = get_or list i empty

  -- those kept so far, the places that came free, and the entries behind the next
  abbrev ks : List Entry
  ks = kept p (entries list i)

  abbrev zeros : List Entry
  zeros = replicate (i - length ks) empty

  abbrev rest : List Entry
  rest = drop (suc i) list

  below : length ks ≤ i
  below = kept_below p list i (omega arith)

  kept_next : kept p (entries list (i + 1)) ≡ ks ++ cond (stays p x) (x ∷ []) []
  unfolding kept
  kept_next = rw (add-one i, take-suc list i empty l) (filter_append (stays p) (take i list) (x ∷ []))

  split : padded i ks ++ drop i list ≡ padded i ks ++ (x ∷ rest)
  split = rw (drop-cons list i empty l)

  -- the entry that is read next is as it was
  pub at_next : get_or (after_read p list i).places i empty ≡ x
  unfolding after_read
  at_next = rw split (get_or_at (padded i ks) x rest empty i (padded_full p list i (omega arith)))

  -- its place becomes empty
  freed : set (padded i ks ++ drop i list) i empty ≡ ks ++ (empty ∷ (zeros ++ rest))
  freed = rw split (set_at (padded i ks) x rest empty i (padded_full p list i (omega arith)) ∙ append_assoc ks zeros (empty ∷ rest) ∙ ap (λ (r : List Entry). ks ++ r) (empty_first (i - length ks) rest))

  -- the pass one entry later, where ys are kept then and n places are free
  later : (ys : List Entry) (n : ℕ) → kept p (entries list (i + 1)) ≡ ys → length ys + n ≡ suc i → after_read p list (i + 1) ≡ swept (ys ++ (replicate n empty ++ rest)) (length ys)
  unfolding after_read
  later ys n e m = let k : suc i - length ys ≡ n = omega arith in rw (e, add-one i, k, append_assoc ys (replicate n empty) rest)

  pub at_goes : stays p x ≡ false → swept (set (after_read p list i).places i empty) (after_read p list i).count ≡ after_read p list (i + 1)
  unfolding after_read
  at_goes h =
      rw freed refl ∙ sym (later ks (suc (i - length ks)) (kept_next ∙ ap (λ (t : Bool). ks ++ cond t (x ∷ []) []) h ∙ append-nil ks) (omega (arith, below)))

  pub at_stays : stays p x ≡ true → swept (set (set (after_read p list i).places i empty) (after_read p list i).count x) ((after_read p list i).count + 1) ≡ after_read p list (i + 1)
  unfolding after_read
  at_stays h =
      rw freed (ap (λ (r : List Entry). swept r (length ks + 1)) (set_at ks empty (zeros ++ rest) x (length ks) refl ∙ sym (append_assoc ks (x ∷ []) (zeros ++ rest))))
      ∙ ap (λ (n : ℕ). swept ((ks ++ (x ∷ [])) ++ (zeros ++ rest)) n) (sym (length-append ks (x ∷ [])))
      ∙ sym (later (ks ++ (x ∷ [])) (i - length ks) (kept_next ∙ ap (λ (t : Bool). ks ++ cond t (x ∷ []) []) h) (simp length-append (omega (arith, below))))
