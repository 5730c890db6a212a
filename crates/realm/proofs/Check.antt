-- What follows from the definitions of the same name in specs/.
-- Assumes nothing.
use Rattle.std.specs.Prelude.{ℕ, ◌<◌, ◌≤◌, ◌≡◌, Bool, false, List, ltb, leb, eqb, length, get_or, take, MatchBool, HoldsAt}
use Rattle.std.specs.List.{AllWithin}
use Rattle.std.proofs.Common.{sym, ◌∙◌, arith, length-take-le}
use Rattle.std.proofs.lemmas.List.{get_or-take}
use borrow.Author.Tests.{le-leb, lt-leb, leb-true, ltb-true, lt-ltb, eq-eqb, eqb-true}
use Rattle.std.proofs.Math.Bool.{true, and-eq-true_iff}
use Rattle.marks.specs.Marks.{marked}
use Rattle.marks.specs.Within.{within}
use Rattle.marks.proofs.Within.{within_is, is_within}
use Rattle.terms.specs.Valid.{holds}
use Rattle.terms.proofs.Valid.{holds_valid, valid_holds}
use Rattle.terms.proofs.AllOf.{each_true, true_each, five}
use Rattle.runs.proofs.Promises.{rows_decided}
use Rattle.terms.proofs.Choice.{no_true, is_false}
use Rattle.runs.specs.Lent.{rows_hold}
use Rattle.replay.specs.declared.entry.Entry.{Entry}
use Rattle.replay.specs.Cache.{empty}
use Rattle.realm.specs.Opening.{realm_fits}
use Rattle.realm.proofs.HeaderLaws.{realm_is, is_realm}
use Rattle.realm.specs.Tables.{Tables, EntryFits, Together}
use Rattle.realm.specs.Check.{TimesFit, WordsFit, wire_holds, entry_fits, entries_hold, together}

-- ---- by the way out

module _ (n : ℕ) (cache : List Entry) (count : ℕ) where
  pub over_limit : 16 < count → false ≡ entries_hold n cache count
  unfolding entries_hold
  over_limit h = rw (lt-leb count 16 h)

  pub all_fit : count ≤ 16 → ((i : ℕ) → i < count → entry_fits n (get_or cache i empty) ≡ true) → true ≡ entries_hold n cache count
  unfolding entries_hold
  all_fit h f = rw (le-leb count 16 h, true_each (λ i. entry_fits n (get_or cache i empty)) count f)

  -- what `all` over the first `count` places finds
  pub all_fit_taken : count ≤ 16 → length cache ≡ 16 → {r : Bool}
      → MatchBool r (AllWithin (λ (e : Entry). entry_fits n e ≡ true) (take count cache) 0 (length (take count cache)))
      ((k : ℕ) × (k < length (take count cache)) × HoldsAt (λ (e : Entry). entry_fits n e ≡ false) (take count cache) k)
      → r ≡ entries_hold n cache count
  unfolding entries_hold
  all_fit_taken room size {r = true} h =
      all_fit room (λ i lt. rw (← get_or-take count cache i empty lt) (h i empty (omega arith) (rw (length-take-le count cache (omega arith)) lt)))
  all_fit_taken room size {r = false} h =
      let lt : h.0 < count = rw (length-take-le count cache (omega arith)) at h.1 in
      let there : entry_fits n (get_or (take count cache) h.0 empty) ≡ false = h.2 empty in
      let unfit : entry_fits n (get_or cache h.0 empty) ≡ false = rw (get_or-take count cache h.0 empty lt) at there in
      is_false (entries_hold n cache count) (λ e. no_true (sym unfit ∙ fits_at h.0 lt e))
    where
      fits_at : (i : ℕ) → i < count → entries_hold n cache count ≡ true → entry_fits n (get_or cache i empty) ≡ true
      fits_at i lt e = each_true (λ j. entry_fits n (get_or cache j empty)) count ((and-eq-true_iff (leb count 16) _).0 e).1 i lt

  pub entries_are : entries_hold n cache count ≡ true → (count ≤ 16) × ((i : ℕ) → i < count → EntryFits n (get_or cache i empty))
  unfolding entries_hold
  entries_are e =
      let p = (and-eq-true_iff (leb count 16) _).0 e in
      (leb-true count 16 p.0, λ i h. fitting (get_or cache i empty) (each_true (λ i. entry_fits n (get_or cache i empty)) count p.1 i h))
    where
      fitting : (x : Entry) → entry_fits n x ≡ true → EntryFits n x
      fitting x q =
          let t = (and-eq-true_iff (ltb x.b n) (leb x.k 95)).0 q in
          record { b_below = ltb-true x.b n t.0; k_most = leb-true x.k 95 t.1 }

module _ (ws : List ℕ) (count : ℕ) where
  pub eight_words : length ws ≡ 8 → within ws count ≡ wire_holds ws count
  unfolding wire_holds
  eight_words h = rw (eq-eqb (length ws) 8 h)

  pub wire_is : wire_holds ws count ≡ true → (length ws ≡ 8) × ((i : ℕ) → marked ws i ≡ true → i < count)
  unfolding wire_holds
  wire_is e = let p = (and-eq-true_iff (eqb (length ws) 8) (within ws count)).0 e in (eqb-true (length ws) 8 p.0, within_is ws count p.1)

-- the test says that the tables hold together, where the fields have their widths
pub together_is : (t : Tables) → TimesFit t.realm → WordsFit t.wire → length t.cache ≡ 16 → together t ≡ true → Together t
unfolding together
together_is t z w places e =
    let h = t.realm in
    let f =
    five (realm_fits h) (holds h.n t.terms h.terms) (rows_hold h.n t.runs h.runs t.terms h.terms)
    (wire_holds t.wire h.terms) (entries_hold h.n t.cache h.entries) e in
    let r = realm_is h z.ls z.la f.first in
    let wire = wire_is t.wire h.terms f.fourth in
    let es = entries_are h.n t.cache h.entries f.fifth in
    record {
      header_fits = r.0;
      rules_known = r.1;
      clock_fits = z.clock;
      terms_hold = holds_valid h.n t.terms h.terms f.second;
      rows_hold = (rows_decided h.n t.runs h.runs t.terms h.terms).0 f.third;
      wire_words = record { len = wire.0; fit = w };
      wire_within = wire.1;
      places = places;
      entries_most = es.0;
      entries_fit = es.1;
    }

-- an answer that is the test says so too
pub holding : (t : Tables) → TimesFit t.realm → WordsFit t.wire → length t.cache ≡ 16 → {r : Bool} → r ≡ together t
    → (r ≡ together t) × (r ≡ true → Together t)
holding t z w places e = (e, λ q. together_is t z w places (sym e ∙ q))

pub is_together : (t : Tables) → Together t → together t ≡ true
unfolding together
is_together t f =
    let h = t.realm in
    rw (
      is_realm h f.header_fits f.rules_known,
      valid_holds f.terms_hold,
      (rows_decided h.n t.runs h.runs t.terms h.terms).1 f.rows_hold,
      sym (eight_words t.wire h.terms f.wire_words.len),
      is_within t.wire h.terms f.wire_within,
      sym (all_fit h.n t.cache h.entries f.entries_most (λ i l. fitting (get_or t.cache i empty) (f.entries_fit i l))),
    )
  where
    fitting : (x : Entry) → EntryFits t.realm.n x → entry_fits t.realm.n x ≡ true
    fitting x e = rw (lt-ltb x.b t.realm.n e.b_below, le-leb x.k 95 e.k_most)
