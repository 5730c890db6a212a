-- The replay cache after an effect: an entry goes behind the others, entries are dropped, or nothing changes. It still fits, and
-- its entries are those of the log's cache.
-- Assumes nothing.
use Rattle.std.specs.Prelude.{ℕ, zero, suc, ◌<◌, ◌≤◌, ◌≡◌, refl, length, get_or}
use Rattle.std.proofs.Common.{sym, ap, ◌∙◌, subst, ⊎_elim, arith, length-take-le, get_or-take}
use mathlib.Core.List.Memᴰ
use mathlib.Core.List.{List, [], ◌∷◌, ◌++◌, map, map-append, Memᴰ}
use Rattle.traces.specs.RuleSets as rulesets
use Rattle.traces.specs.Realm as exchange
use Rattle.replay.specs.declared.entry.Entry.{Entry}
use Rattle.replay.specs.declared.entry.Purge as replay
use Rattle.replay.specs.Cache.{empty, stays, kept, entries, written}
use Rattle.replay.proofs.CacheLaws.Entries.{filter_length}
use Rattle.replay.proofs.CacheLaws.Places.{append_length, written_entries, written_length}
use Rattle.replay.proofs.Promises.{kept_exactly}
use Rattle.realm.specs.declared.header.Realm.{Realm}
use Rattle.realm.specs.Opening.{header}
use Rattle.realm.specs.Tables.{Tables, EntryFits, Together}
use Rattle.decisions.specs.declared.Keeping.{Keeping}
use Rattle.decisions.specs.declared.Keeping.TheVariants.{Same, Remember, Forget}
use Rattle.effects.specs.Cache.{cache_of}
use Rattle.simulation.proofs.Mirrors.{CacheMirrors}
use Rattle.simulation.specs.Values.{logged}
use Rattle.simulation.proofs.Cached.{logged_kept}
use Rattle.decisions.specs.Laws.Fits.{EntryReady}

-- ---- entries that fit

-- the cache's part of tables that hold together
pub record CacheHolds (n : ℕ) (list : List Entry) (count : ℕ) : Type 0 where
  pub places : length list ≡ 16
  pub most : count ≤ 16
  pub each : (i : ℕ) → i < count → EntryFits n (get_or list i empty)

member_at : (xs : List Entry) (i : ℕ) → i < length xs → Memᴰ (get_or xs i empty) xs
member_at [] i h = absurd (omega arith)
member_at (x ∷ xs) zero h = Memᴰ.head refl
member_at (x ∷ xs) (suc i) h = Memᴰ.tail (member_at xs i (omega arith))

fit_members : {n : ℕ} (xs : List Entry) → ((i : ℕ) → i < length xs → EntryFits n (get_or xs i empty)) → {x : Entry} → Memᴰ x xs → EntryFits n x
fit_members [] g x4 = elim x4 [ ]
fit_members {n} (y ∷ xs) g (Memᴰ.head e) = subst (EntryFits n) (sym e) (g 0 (omega arith))
fit_members (y ∷ xs) g (Memᴰ.tail m) = fit_members xs (λ i h. g (suc i) (omega arith)) m

module _ {n : ℕ} {list : List Entry} {count : ℕ} (c : CacheHolds n list count) where
  entries_length : length (entries list count) ≡ count
  entries_length = length-take-le count list (omega (arith, c.places, c.most))

  entry_fits_lem : {x : Entry} → Memᴰ x (entries list count) → EntryFits n x
  entry_fits_lem =
      fit_members (entries list count)
      (λ i h. let l : i < count = omega (arith, entries_length) in subst (EntryFits n) (sym (get_or-take count list i empty l)) (c.each i l))

  -- the entries become xs
  held_holds : (xs : List Entry) → length xs ≤ 16 → ((x : Entry) → Memᴰ x xs → EntryFits n x) → CacheHolds n (written list count xs) (length xs)
  held_holds xs l f =
      let after = written list count xs in
      let same = written_entries list count xs in
      record {
        places = written_length list count xs (omega (arith, c.places, c.most)) (omega (arith, c.places)) ∙ c.places;
        most = l;
        each = λ i h.
            let e : get_or xs i empty ≡ get_or after i empty = ap (λ (t : List Entry). get_or t i empty) (sym same) ∙ get_or-take (length xs) after i empty h in
            subst (EntryFits n) e (f (get_or xs i empty) (member_at xs i h));
      }

  appended_holds : count < 16 → (x : Entry) → EntryFits n x → let xs = entries list count ++ (x ∷ []) in CacheHolds n (written list count xs) (length xs)
  appended_holds l x f =
      held_holds (entries list count ++ (x ∷ [])) (omega (arith, append_length list count x (omega (arith, c.places, c.most))))
      (λ y m. ⊎_elim (λ i. entry_fits_lem i) (λ i. subst (EntryFits n) (sym (Memᴰ.eq_of_singleton i)) f) (Memᴰ.append_cases (entries list count) m))

  kept_holds : (p : replay.Purge) → let xs = kept p (entries list count) in CacheHolds n (written list count xs) (length xs)
  unfolding kept
  kept_holds p =
      held_holds (kept p (entries list count)) (omega (arith, filter_length (stays p) (entries list count), entries_length, c.most))
      (λ y m. entry_fits_lem ((kept_exactly p (entries list count) y).0 m).0)

-- ---- the cache after an effect

module _ {t : Tables} (w : Together t) where
  -- the cache's part of the tables
  pub cache_holds : CacheHolds t.realm.n t.cache t.realm.entries
  cache_holds = record { places = w.places; most = w.entries_most; each = w.entries_fit }

  pub entries_kept : (x : Keeping) → EntryReady t x → let c = cache_of t.realm t.cache x in CacheHolds t.realm.n c.places c.count
  entries_kept Same f = cache_holds
  entries_kept (Remember e) f = appended_holds cache_holds f.0 e f.1
  entries_kept (Forget b) f = kept_holds cache_holds (record { b = b; clock = t.realm.clock; la = t.realm.la })

module _ (h : Realm) (list : List Entry) {R : exchange.Realm} (is : header h ≡ R) {now : ℕ} (clock : h.clock ≡ now) {old : List rulesets.Entry}
    (same : map logged (entries list h.entries) ≡ old) where
  pub entries_follow : (x : Keeping) (f : List rulesets.Entry → List rulesets.Entry) → CacheMirrors R now x f
      → let c = cache_of h list x in map logged (entries c.places c.count) ≡ f old
  entries_follow Same f after = same ∙ sym (after old)
  entries_follow (Remember e) f after =
      ap (map logged) (written_entries list h.entries (entries list h.entries ++ (e ∷ [])))
      ∙ map-append logged (entries list h.entries) (e ∷ []) ∙ ap (λ (t : List rulesets.Entry). t ++ (logged e ∷ [])) same ∙ sym (after old)
  entries_follow (Forget b) f after =
      let p : replay.Purge = record { b = b; clock = h.clock; la = h.la } in
      ap (map logged) (written_entries list h.entries (kept p (entries list h.entries)))
      ∙ logged_kept p (entries list h.entries)
      ∙ rw (clock, same, ap (λ (x : exchange.Realm). x.auth_life) is) (sym (after old))
