-- Laws on entries and lists of them: the tests `same` and `stays`, then `present` and `filter`. Whoever uses the cache
-- cites these and opens none of the definitions. Assumes nothing.
use Rattle.std.proofs.Math.Path.{◌≡◌, refl}
use Rattle.std.proofs.Common.{sym, ◌∙◌, ap, not-suc-le-zero, le_of_suc-le-suc, add-one, arith}
use Prim.Native.Nat.{ℕ, zero, suc, ◌+◌, ◌<◌, ◌≤◌}
use Rattle.std.specs.Prelude.{Bool, ◌&&◌, ◌||◌, cond, eqb, ltb, leb, length, get_or, take}
use Rattle.std.proofs.Math.Bool.{true, false, not, and-eq-true_iff}
use mathlib.Core.List.{List, [], ◌∷◌, ◌++◌, Memᴰ}
use Rattle.std.specs.List.{list_any}
use Rattle.std.proofs.Math.Seq.{take-suc}
use borrow.Author.Tests.{not-false, eqb-true, leb-true, leb-false, lt-ltb, le-ltb, le-leb, eq-eqb, ne_eqb}
use Rattle.replay.specs.declared.entry.Entry.{Entry}
use Rattle.replay.specs.declared.entry.Purge.{Purge}
use Rattle.replay.specs.Cache.{empty, same, filter, present, stays, entries}

-- ---- same

pub same_refl : (x : Entry) → same x x ≡ true
same_refl x = rw (eq-eqb x.b x.b refl, eq-eqb x.k x.k refl, eq-eqb x.ta x.ta refl)

module _ (x y : Entry) where
  pub same_eq : same x y ≡ true → x ≡ y
  same_eq h =
      let p = (and-eq-true_iff (eqb x.b y.b) (eqb x.k y.k && eqb x.ta y.ta)).0 h in
      let q = (and-eq-true_iff (eqb x.k y.k) (eqb x.ta y.ta)).0 p.1 in
      λ j. record { b = eqb-true x.b y.b p.0 j; k = eqb-true x.k y.k q.0 j; ta = eqb-true x.ta y.ta q.1 j }

  pub other_b : (x.b ≡ y.b → ⊥) → same x y ≡ false
  other_b n = rw (ne_eqb x.b y.b n)

  pub other_k : x.b ≡ y.b → (x.k ≡ y.k → ⊥) → same x y ≡ false
  other_k e n = rw (eq-eqb x.b y.b e, ne_eqb x.k y.k n)

  pub same_ta : x.b ≡ y.b → x.k ≡ y.k → same x y ≡ eqb x.ta y.ta
  same_ta e f = rw (eq-eqb x.b y.b e, eq-eqb x.k y.k f)

-- ---- stays

-- a life that is not over at a clock ends after it
still : (end now clock : ℕ) → now ≡ clock → not (leb end now) ≡ ltb clock end
still end now clock e = on (leb end now) refl
  where
    on : (t : Bool) → leb end now ≡ t → not t ≡ ltb clock end
    on true h = let l = leb-true end now h in sym (le-ltb clock end (omega (arith, l, e)))
    on false h = let l = leb-false end now h in sym (lt-ltb clock end (omega (arith, l, e)))

module _ (p : Purge) (x : Entry) where
  pub stays_other : (x.b ≡ p.b → ⊥) → stays p x ≡ true
  unfolding stays
  stays_other n = rw (ne_eqb x.b p.b n)

  pub stays_own : x.b ≡ p.b → stays p x ≡ ltb p.clock (x.ta + p.la)
  unfolding stays
  stays_own e = rw (eq-eqb x.b p.b e) (still (x.ta + p.la) _ p.clock (omega arith))

  -- what goes is the principal's own, and its life is over
  pub goes : stays p x ≡ false → (x.b ≡ p.b) × (x.ta + p.la ≤ p.clock)
  unfolding stays
  goes h =
      let t = (and-eq-true_iff (eqb x.b p.b) (leb (x.ta + p.la) _)).0 (not-false _ h) in
      let l = leb-true (x.ta + p.la) _ t.1 in
      (eqb-true x.b p.b t.0, omega (arith, l))

  pub goes_if : x.b ≡ p.b → x.ta + p.la ≤ p.clock → stays p x ≡ false
  unfolding stays
  goes_if e l = rw (eq-eqb x.b p.b e) (ap not (le-leb (x.ta + p.la) _ (omega (arith, l))))

-- ---- present

module _ (e : Entry) where
  -- an entry at a time, as the library looks for it
  pub present_any : (xs : List Entry) → list_any (λ (x : Entry). same x e) xs ≡ present xs e
  unfolding present
  present_any [] = refl
  present_any (x ∷ xs) = ap (λ (t : Bool). same x e || t) (present_any xs)

  pub present_append : (xs ys : List Entry) → present (xs ++ ys) e ≡ present xs e || present ys e
  unfolding present
  present_append [] ys = refl
  present_append (x ∷ xs) ys = on (same x e) (present_append xs ys)
    where
      on : (t : Bool) → present (xs ++ ys) e ≡ present xs e || present ys e → t || present (xs ++ ys) e ≡ (t || present xs e) || present ys e
      on true h = refl
      on false h = h

  -- of none of the places read, nor of the next
  pub absent_zero : (list : List Entry) → present (entries list 0) e ≡ false
  unfolding present
  absent_zero list = refl

  pub absent_more : (list : List Entry) (i : ℕ) → i < length list → present (entries list i) e ≡ false → same (get_or list i empty) e ≡ false → present (entries list (i + 1)) e ≡ false
  unfolding present
  absent_more list i l a h = rw (add-one i, take-suc list i empty l, present_append (take i list) (get_or list i empty ∷ []), a, h)

  -- of one of the first n places
  pub present_at : (list : List Entry) (i n : ℕ) → i < n → i < length list → same (get_or list i empty) e ≡ true → present (entries list n) e ≡ true
  unfolding present
  present_at [] i n l m h = absurd (not-suc-le-zero m)
  present_at (x ∷ xs) i zero l m h = absurd (not-suc-le-zero l)
  present_at (x ∷ xs) zero (suc n) l m h = rw h
  present_at (x ∷ xs) (suc i) (suc n) l m h = on (same x e) (present_at xs i n (le_of_suc-le-suc l) (le_of_suc-le-suc m) h)
    where
      on : (t : Bool) → present (take n xs) e ≡ true → t || present (take n xs) e ≡ true
      on true k = refl
      on false k = k

  -- present are the members
  pub present_of : (xs : List Entry) → Memᴰ e xs → present xs e ≡ true
  unfolding present
  present_of [] x' = elim x' [ ]
  present_of (x ∷ xs) (Memᴰ.head h) = rw (← h, same_refl e)
  present_of (x ∷ xs) (Memᴰ.tail m) = on (same x e) (present_of xs m)
    where
      on : (t : Bool) → present xs e ≡ true → t || present xs e ≡ true
      on true h = refl
      on false h = h

  pub of_present : (xs : List Entry) → present xs e ≡ true → Memᴰ e xs
  unfolding present
  of_present [] h = absurd (let z : ◌≡◌ {A = ℕ} 0 1 = cc in omega arith)
  of_present (x ∷ xs) h = on (same x e) refl (of_present xs) h
    where
      on : (t : Bool) → same x e ≡ t → (present xs e ≡ true → Memᴰ e xs) → t || present xs e ≡ true → Memᴰ e (x ∷ xs)
      on true i m j = Memᴰ.head (sym (same_eq x e i))
      on false i m j = Memᴰ.tail (m j)

-- ---- filter

module _ (q : Entry → Bool) where
  pub filter_append : (xs ys : List Entry) → filter q (xs ++ ys) ≡ filter q xs ++ filter q ys
  filter_append [] ys = refl
  filter_append (x ∷ xs) ys = on (q x) (filter_append xs ys)
    where
      on : (t : Bool) → filter q (xs ++ ys) ≡ filter q xs ++ filter q ys → cond t (x ∷ filter q (xs ++ ys)) (filter q (xs ++ ys)) ≡ cond t (x ∷ filter q xs) (filter q xs) ++ filter q ys
      on true e = ap (λ (l : List Entry). x ∷ l) e
      on false e = e

  pub filter_length : (xs : List Entry) → length (filter q xs) ≤ length xs
  filter_length [] = omega arith
  filter_length (x ∷ xs) = on (q x) (filter_length xs)
    where
      on : (t : Bool) → length (filter q xs) ≤ length xs → length (cond t (x ∷ filter q xs) (filter q xs)) ≤ suc (length xs)
      on true e = omega arith
      on false e = omega arith

  -- what is kept: the members that pass the test
  pub filter_of : (xs : List Entry) {x : Entry} → Memᴰ x xs → q x ≡ true → Memᴰ x (filter q xs)
  filter_of [] {x = x} x4 t = elim x4 [ ]
  filter_of (y ∷ ys) {x} (Memᴰ.head h) t = rw (← h, t) (Memᴰ.head refl)
  filter_of (y ∷ ys) {x} (Memᴰ.tail m) t = on (q y) (filter_of ys m t)
    where
      on : (u : Bool) → Memᴰ x (filter q ys) → Memᴰ x (cond u (y ∷ filter q ys) (filter q ys))
      on true k = Memᴰ.tail k
      on false k = k

  pub of_filter : (xs : List Entry) {x : Entry} → Memᴰ x (filter q xs) → Memᴰ x xs × (q x ≡ true)
  of_filter [] {x = x} m = elim m [ ]
  of_filter (y ∷ ys) {x} m = on (q y) refl (of_filter ys) m
    where
      past : Memᴰ x ys × (q x ≡ true) → Memᴰ x (y ∷ ys) × (q x ≡ true)
      past r = (Memᴰ.tail r.0, r.1)

      first : q y ≡ true → (Memᴰ x (filter q ys) → Memᴰ x ys × (q x ≡ true)) → Memᴰ x (y ∷ filter q ys) → Memᴰ x (y ∷ ys) × (q x ≡ true)
      first t k (Memᴰ.head h) = (Memᴰ.head h, ap q h ∙ t)
      first t k (Memᴰ.tail i) = past (k i)

      on : (u : Bool) → q y ≡ u → (Memᴰ x (filter q ys) → Memᴰ x ys × (q x ≡ true)) → Memᴰ x (cond u (y ∷ filter q ys) (filter q ys)) → Memᴰ x (y ∷ ys) × (q x ≡ true)
      on true t k i = first t k i
      on false t k i = past (k i)
