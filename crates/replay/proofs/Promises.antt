-- What follows from the definitions of the same name in specs/.
use Rattle.std.specs.Prelude.{◌≡◌, refl, ◌↔◌, ℕ, ◌+◌, ◌≤◌, Bool, true, false, not, cond, eqb}
use Rattle.std.proofs.Common.{sym, ◌∙◌, ap, arith, eqb-true}
use mathlib.Core.List.Memᴰ
use mathlib.Core.List.{List, [], ◌∷◌, ◌++◌, Memᴰ}
use Rattle.std.proofs.Math.ListN.{length}
use Rattle.std.proofs.Math.Seq.{length-take-le}
use Rattle.replay.specs.declared.entry.Entry.{Entry}
use Rattle.replay.specs.declared.entry.Purge.{Purge}
use Rattle.replay.specs.Cache.{present, stays, kept, entries, CacheOutcome, refused, accepted, number_of, done, cache_refusal, appending, after_read, fits, remembered, forgotten}
use Rattle.replay.proofs.CacheLaws.Entries.{present_of, of_present, filter_length, filter_of, of_filter, goes, goes_if}
use Rattle.replay.proofs.CacheLaws.Places.{append_length, held_count, held_entries, held_length, held_freed, held_past}
use Rattle.replay.proofs.CacheLaws.Calls.{fits_is, fits_list, fits_count, remembered_back, remembered_kept, forgotten_ok, forgotten_back, forgotten_kept}
use Rattle.replay.proofs.CacheLaws.Pass.{at_end}
use Rattle.replay.specs.Promises.{Remembers, Forgets, OnePass, answered}

-- "remember then 18 or 19 as in step 5": the same number
pub remember_number : (list : List Entry) (count : ℕ) (e : Entry) → fits list count ≡ true → number_of (remembered list count e) ≡ cache_refusal list count e
unfolding remembered
remember_number list count e f = rw f (on (eqb number 0) refl)
  where
    number : ℕ
    number = cache_refusal list count e

    on : (none : Bool) → eqb number 0 ≡ none → number_of (cond (not none) (refused number list) (done (appending list count e))) ≡ number
    on true z = sym (eqb-true number 0 z)
    on false z = refl

module _ (list : List Entry) (count : ℕ) (e : Entry) (n : ℕ) (after : List Entry) where
  -- refused: every place keeps its value
  pub remember_refused : remembered list count e ≡ refused n after → after ≡ list
  remember_refused = remembered_kept list count n after e

  module _ (h : remembered list count e ≡ accepted n after) where
    pub remember_accepted : Remembers list count e n after
    remember_accepted =
        let r = remembered_back list count n after e h in
        let xs : List Entry = entries list count ++ (e ∷ []) in
        let size : length list ≡ 16 = fits_list list count r.fit in
        let more : n ≡ count + 1 = held_count list count xs n after r.held ∙ append_length list count e (omega (arith, r.room)) in
        record {
          absent = r.absent;
          room = r.room;
          counted = more;
          appended = held_entries list count xs n after r.held;
          behind = held_past list count xs n after r.held n (omega arith) (omega arith);
          fitting = fits_is after n (held_length list count xs n after r.held (omega (arith, r.room)) (omega (arith, r.room)) ∙ size) (omega (arith, r.room));
        }

    -- an entry remembered is found, and refused a second time
    pub remember_found : present (entries after n) e ≡ true
    remember_found = rw remember_accepted.appended (present_of e (entries list count ++ (e ∷ [])) (Memᴰ.append_right (entries list count) (Memᴰ.head refl)))

    pub remember_again : remembered after n e ≡ refused 18 after
    unfolding remembered
    remember_again = rw (remember_accepted.fitting, remember_found)

module _ (list : List Entry) (count : ℕ) (p : Purge) (n : ℕ) (after : List Entry) where
  -- refused: every place keeps its value
  pub forget_refused : forgotten list count p ≡ refused n after → after ≡ list
  forget_refused = forgotten_kept list count n after p

  pub forget_accepted : forgotten list count p ≡ accepted n after → Forgets list count p n after
  unfolding kept
  forget_accepted h =
      let r = forgotten_back list count n after p h in
      let xs : List Entry = kept p (entries list count) in
      let size : length list ≡ 16 = fits_list list count r.0 in
      let below : count ≤ 16 = fits_count list count r.0 in
      let less : n ≤ count = omega (arith, held_count list count xs n after r.1, filter_length (stays p) (entries list count), length-take-le count list (omega arith)) in
      record {
        fewer = less;
        filtered = held_entries list count xs n after r.1;
        freed = held_freed list count xs n after r.1;
        behind = held_past list count xs n after r.1 count (omega arith) less;
        fitting = fits_is after n (held_length list count xs n after r.1 (omega arith) (omega arith) ∙ size) (omega arith);
      }

pub in_one_pass : (list : List Entry) (count : ℕ) (p : Purge) → fits list count ≡ true → OnePass list count p
in_one_pass list count p f = record { each = λ i l. forget_accepted list i p _ _ (stands i (omega (arith, below))); ended = stands count below }
  where
    size : length list ≡ 16
    size = fits_list list count f

    below : count ≤ 16
    below = fits_count list count f

    stands : (i : ℕ) → i ≤ 16 → forgotten list i p ≡ done (after_read p list i)
    stands i l = forgotten_ok list i p (fits_is list i size l) ∙ sym (ap done (at_end p list i (omega (arith, size))))

-- present are exactly the members
pub present_exactly : (xs : List Entry) (e : Entry) → (present xs e ≡ true) ↔ Memᴰ e xs
present_exactly xs e = (of_present e xs, present_of e xs)

-- kept are exactly the entries that stay; what goes is the principal's own, with Ta + La at or below the clock
pub kept_exactly : (p : Purge) (xs : List Entry) (x : Entry) → Memᴰ x (kept p xs) ↔ (Memᴰ x xs × (stays p x ≡ true))
unfolding kept
kept_exactly p xs x = (of_filter (stays p) xs, λ m. filter_of (stays p) xs m.0 m.1)

pub goes_exactly : (p : Purge) (x : Entry) → (stays p x ≡ false) ↔ ((x.b ≡ p.b) × (x.ta + p.la ≤ p.clock))
goes_exactly p x = (goes p x, λ h. goes_if p x h.0 h.1)

module _ (list other : List Entry) (count : ℕ) (size : length list ≡ length other) (same_entries : entries list count ≡ entries other count) where
  tested : (t : Bool) (number : ℕ) (o r : CacheOutcome) → answered o ≡ answered r → answered (cond t (refused number list) o) ≡ answered (cond t (refused number other) r)
  tested true number o r h = refl
  tested false number o r h = h

  pub remember_unread : (e : Entry) → answered (remembered list count e) ≡ answered (remembered other count e)
  unfolding fits remembered
  remember_unread e = let number = cache_refusal other count e in rw (size, same_entries) (tested (not (fits other count)) 10 _ _ (tested (not (eqb number 0)) number _ _ refl))

  pub forget_unread : (p : Purge) → answered (forgotten list count p) ≡ answered (forgotten other count p)
  unfolding fits forgotten
  forget_unread p = rw (size, same_entries) (tested (not (fits other count)) 10 _ _ refl)
