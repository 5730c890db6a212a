-- Laws of the two calls: which refusal an entry has, how each call ends by what holds before it, and back, what held before it by
-- how it ended. Assumes nothing.
use Rattle.std.specs.Prelude.{◌≡◌, refl, Bool, true, false, not, cond, ◌⊎◌, List, eqb, leb, length}
use Prim.Native.Nat.{ℕ, ◌<◌, ◌≤◌}
use Rattle.std.proofs.Common.{arith, inl, inr}
use Rattle.std.proofs.Math.Bool.{and-eq-true_iff, and-false}
use borrow.Author.Tests.{not-false, eqb-true, eqb-false, leb-true, le-leb, lt-leb, eq-eqb, ne_eqb}
use Rattle.replay.specs.declared.entry.Entry.{Entry}
use Rattle.replay.specs.declared.entry.Purge.{Purge}
use Rattle.replay.specs.Cache.{Swept, present, entries, CacheOutcome, refused, accepted, done, cache_refusal, appending, sweeping, fits, remembered, forgotten}

-- ---- 18 and 19

-- the number by its tests: the entry is present, the cache is full
abbrev chosen : (c d : Bool) → ℕ
chosen c d = cond c 18 (cond d 19 0)

module _ (list : List Entry) (count : ℕ) (e : Entry) where
  pub refusal_18 : present (entries list count) e ≡ true → ◌≡◌ {A = ℕ} 18 (cache_refusal list count e)
  refusal_18 p = rw p

  pub refusal_19 : present (entries list count) e ≡ false → count ≡ 16 → ◌≡◌ {A = ℕ} 19 (cache_refusal list count e)
  refusal_19 p n = rw (p, eq-eqb count 16 n)

  pub refusal_none : present (entries list count) e ≡ false → (count ≡ 16 → ⊥) → ◌≡◌ {A = ℕ} 0 (cache_refusal list count e)
  refusal_none p n = rw (p, ne_eqb count 16 n)

  pub refusal_passed : cache_refusal list count e ≡ 0 → (present (entries list count) e ≡ false) × (count ≡ 16 → ⊥)
  refusal_passed z = let p = by (present (entries list count) e) (eqb count 16) z in (p.0, eqb-false count 16 p.1)
    where
      by : (c d : Bool) → chosen c d ≡ 0 → (c ≡ false) × (d ≡ false)
      by false false z = (refl, refl)
      by false true z = absurd (omega arith)
      by true d z = absurd (omega arith)

  pub refusal_room : cache_refusal list count e ≡ 0 → count ≤ 16 → count < 16
  refusal_room z l = let other : ¬ (count ≡ 16) = (refusal_passed z).1 in omega arith

  pub refusal_number : (cache_refusal list count e ≡ 0) ⊎ ((18 ≤ cache_refusal list count e) × (cache_refusal list count e ≤ 19))
  refusal_number = by (present (entries list count) e) (eqb count 16)
    where
      by : (c d : Bool) → (chosen c d ≡ 0) ⊎ ((18 ≤ chosen c d) × (chosen c d ≤ 19))
      by false false = inl refl
      by false true = inr (omega arith, omega arith)
      by true d = inr (omega arith, omega arith)

-- ---- the ways out of a call

module _ (list : List Entry) (count : ℕ) where
  pub fits_is : length list ≡ 16 → count ≤ 16 → fits list count ≡ true
  unfolding fits
  fits_is l c = rw (eq-eqb (length list) 16 l, le-leb count 16 c)

  pub fits_list : fits list count ≡ true → length list ≡ 16
  unfolding fits
  fits_list f = eqb-true (length list) 16 ((and-eq-true_iff (eqb (length list) 16) (leb count 16)).0 f).0

  pub fits_count : fits list count ≡ true → count ≤ 16
  unfolding fits
  fits_count f = leb-true count 16 ((and-eq-true_iff (eqb (length list) 16) (leb count 16)).0 f).1

  pub misfit_count : 16 < count → fits list count ≡ false
  unfolding fits
  misfit_count c = rw (lt-leb count 16 c) (and-false (eqb (length list) 16))

  pub misfit_list : (length list ≡ 16 → ⊥) → fits list count ≡ false
  unfolding fits
  misfit_list l = rw (ne_eqb (length list) 16 l)

  module _ (e : Entry) where
    pub remembered_10 : fits list count ≡ false → remembered list count e ≡ refused 10 list
    unfolding remembered
    remembered_10 f = rw f

    module _ (f : fits list count ≡ true) where
      pub remembered_refused : (cache_refusal list count e ≡ 0 → ⊥) → remembered list count e ≡ refused (cache_refusal list count e) list
      unfolding remembered
      remembered_refused n = rw (f, ne_eqb (cache_refusal list count e) 0 n)

      pub remembered_ok : cache_refusal list count e ≡ 0 → remembered list count e ≡ done (appending list count e)
      unfolding remembered
      remembered_ok z = rw (f, eq-eqb (cache_refusal list count e) 0 z)

  module _ (p : Purge) where
    pub forgotten_10 : fits list count ≡ false → forgotten list count p ≡ refused 10 list
    unfolding forgotten
    forgotten_10 f = rw f

    pub forgotten_ok : fits list count ≡ true → forgotten list count p ≡ done (sweeping list count p)
    unfolding forgotten
    forgotten_ok f = rw f

-- ---- and back: what is known of a call by how it ends

module _ (list : List Entry) (number n : ℕ) (after : List Entry) where
  -- a call that is accepted has passed each test
  passed : (t : Bool) (o : CacheOutcome) → cond t (refused number list) o ≡ accepted n after → (t ≡ false) × (o ≡ accepted n after)
  passed true o h = absurd (let z : ◌≡◌ {A = ℕ} 0 1 = cc in omega arith)
  passed false o h = (refl, h)

  -- a call that is refused was stopped by a test, or goes on
  stopped : (t : Bool) (o : CacheOutcome) → (o ≡ refused n after → after ≡ list) → cond t (refused number list) o ≡ refused n after → after ≡ list
  stopped true o k h = cc
  stopped false o k h = k h

module _ (list : List Entry) (count n : ℕ) (after : List Entry) where
  never : (s : Swept) → done s ≡ refused n after → after ≡ list
  never s h = absurd (let z : ◌≡◌ {A = ℕ} 0 1 = cc in omega arith)

  module _ (e : Entry) where
    -- what an accepted `remember` has passed
    pub record RememberPassed : Type 0 where
      pub fit : fits list count ≡ true
      pub absent : present (entries list count) e ≡ false
      pub room : count < 16
      pub held : done (appending list count e) ≡ accepted n after

    pub remembered_back : remembered list count e ≡ accepted n after → RememberPassed
    unfolding remembered
    remembered_back h =
        let f = passed list 10 n after (not (fits list count)) _ h in
        let m = passed list number n after (not (eqb number 0)) _ f.1 in
        let fit = not-false (fits list count) f.0 in
        let none = eqb-true number 0 (not-false (eqb number 0) m.0) in
        record { fit = fit; absent = (refusal_passed list count e none).0; room = refusal_room list count e none (fits_count list count fit); held = m.1 }
      where
        number : ℕ
        number = cache_refusal list count e

    pub remembered_kept : remembered list count e ≡ refused n after → after ≡ list
    unfolding remembered
    remembered_kept =
        let number = cache_refusal list count e in
        stopped list 10 n after (not (fits list count)) _ (stopped list number n after (not (eqb number 0)) _ (never (appending list count e)))

  module _ (p : Purge) where
    pub forgotten_back : forgotten list count p ≡ accepted n after → (fits list count ≡ true) × (done (sweeping list count p) ≡ accepted n after)
    unfolding forgotten
    forgotten_back h = let f = passed list 10 n after (not (fits list count)) _ h in (not-false (fits list count) f.0, f.1)

    pub forgotten_kept : forgotten list count p ≡ refused n after → after ≡ list
    unfolding forgotten
    forgotten_kept = stopped list 10 n after (not (fits list count)) _ (never (sweeping list count p))
