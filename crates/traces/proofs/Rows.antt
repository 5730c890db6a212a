-- What follows from the definitions of the same name in specs/.
-- Assumes nothing.
use Rattle.std.specs.Prelude.{ℕ, zero, suc, ◌≡◌, refl, ◌≢◌, ◌⊎◌, List, [], ◌∷◌, ◌++◌, length, set}
use Rattle.std.proofs.Math.Decide.{ℕ_discrete}
use Rattle.std.proofs.Common.{arith, ap, inl, inr}
use Rattle.std.proofs.Math.Option.{Option, none, some}
use Rattle.std.proofs.Math.ListN.{get_elem?}
use Rattle.terms.specs.Message.{Message}
use Rattle.traces.specs.Lists.{◌∈◌, here, there}
use Rattle.traces.specs.Logs.{Act, Log, Did, did, Trace, start, add}
use Rattle.traces.specs.Rows.{RowChange, RowEffect, moved, rested, Telling}

module _ {Run : Type 0} where
  past_end : (t : List Run) → get_elem? t (length t) ≡ none
  past_end [] = refl
  past_end (x ∷ t) = past_end t

  append_fresh : (t : List Run) (y : Run) → get_elem? (t ++ (y ∷ [])) (length t) ≡ some y
  append_fresh [] y = refl
  append_fresh (x ∷ t) y = append_fresh t y

  append_others : (t : List Run) (y : Run) (j : ℕ) → j ≢ length t → get_elem? (t ++ (y ∷ [])) j ≡ get_elem? t j
  append_others [] y zero h = absurd (h refl)
  append_others [] y (suc j) h = refl
  append_others (x ∷ t) y zero h = refl
  append_others (x ∷ t) y (suc j) h = append_others t y j (λ e. h (ap suc e))

  pub change_append : (t : List Run) (y : Run) → RowChange t (t ++ (y ∷ [])) (length t) none (some y)
  change_append t y = record { old = past_end t; fresh = append_fresh t y; others = append_others t y }

  set_fresh : (t : List Run) (i : ℕ) (x y : Run) → get_elem? t i ≡ some x → get_elem? (set t i y) i ≡ some y
  set_fresh [] i x y h = cc
  set_fresh (z ∷ t) zero x y h = refl
  set_fresh (z ∷ t) (suc i) x y h = set_fresh t i x y h

  set_others : (t : List Run) (i : ℕ) (y : Run) (j : ℕ) → j ≢ i → get_elem? (set t i y) j ≡ get_elem? t j
  set_others [] i y j h = refl
  set_others (x ∷ t) zero y zero h = absurd (h refl)
  set_others (x ∷ t) zero y (suc j) h = refl
  set_others (x ∷ t) (suc i) y zero h = refl
  set_others (x ∷ t) (suc i) y (suc j) h = set_others t i y j (λ e. h (ap suc e))

  pub change_set : (t : List Run) (i : ℕ) {x : Run} (y : Run) → get_elem? t i ≡ some x → RowChange t (set t i y) i (some x) (some y)
  change_set t i y e = record { old = e; fresh = set_fresh t i _ y e; others = set_others t i y }

same_run : {i j : ℕ} {x : Option ℕ} → x ≡ some i → x ≡ some j → j ≡ i
same_run p q = cc

-- ---- through a change of row i, the row of any run j

module _ {Event Run : Type 0} (story : ℕ → Option Run → List Event) {t t' : List Run} {i : ℕ} {e : Event} {x y : Option Run}
    (ch : RowChange t t' i x y) (s : story i y ≡ e ∷ story i x) (j : ℕ) where
  -- what it told it still tells,
  forth : {f : Event} → f ∈ story j (get_elem? t j) → f ∈ story j (get_elem? t' j)
  forth {f} h = go (ℕ_discrete j i)
    where
      go : Dec (j ≡ i) → f ∈ story j (get_elem? t' j)
      go (yes p) = rw (p, ch.fresh, s) (there (rw (p, ch.old) at h))
      go (no p) = rw (ch.others j p) h

  -- the event too, if it is the run's,
  gained : j ≡ i → e ∈ story j (get_elem? t' j)
  gained p = rw (p, ch.fresh, s) here

  -- and no more.
  back : {f : Event} → f ∈ story j (get_elem? t' j) → (f ∈ story j (get_elem? t j)) ⊎ (f ≡ e)
  back {f} h = go (ℕ_discrete j i)
    where
      split : {g f : Event} {k : List Event} → g ∈ (f ∷ k) → (g ∈ k) ⊎ (g ≡ f)
      split here = inr refl
      split (there h) = inl h

      at_i : j ≡ i → (f ∈ story i x) ⊎ (f ≡ e) → (f ∈ story j (get_elem? t j)) ⊎ (f ≡ e)
      at_i p (inl k) = inl (rw (p, ch.old) k)
      at_i p (inr q) = inr q

      go : Dec (j ≡ i) → (f ∈ story j (get_elem? t j)) ⊎ (f ≡ e)
      go (yes p) = at_i p (split (rw (p, ch.fresh, s) at h))
      go (no p) = inl (rw (ch.others j p) at h)

-- ---- the table agrees with the log

module _ {Event Run : Type 0} {Adds : Log Event → Act Event → Type 0} {runs : Log Event → List Run}
    {of : Event → Option ℕ} {story : ℕ → Option Run → List Event} (T : Telling Adds runs of story) where
  arrive : {e : Event} {t t' : List Run} {r : ℕ} → RowEffect of story e t t' → of e ≡ some r → e ∈ story r (get_elem? t' r)
  arrive (moved o ch eq) h = gained story ch eq _ (same_run o h)
  arrive (rested o same) h = absurd (none_some o h)
    where
      none_some : {x : Option ℕ} {r : ℕ} → x ≡ none → x ≡ some r → ⊥
      none_some p q = let z : ◌≡◌ {A = ℕ} 0 1 = cc in absurd (omega arith)

  stay : {e f : Event} {t t' : List Run} → RowEffect of story e t t' → (r : ℕ) → f ∈ story r (get_elem? t r) → f ∈ story r (get_elem? t' r)
  stay (moved o ch eq) r h = forth story ch eq r h
  stay (rested o same) r h = rw same h

  recorded_at : {l : Log Event} {e : Event} {ms : List Message} {r : ℕ} → Trace Adds l → (e, ms) ∈ l → of e ≡ some r → e ∈ story r (get_elem? (runs l) r)
  recorded_at {e = e} {ms = ms} {r = r} start x5 h = elim x5 [ ]
  recorded_at (add w t) here h = arrive (T.effect t) h
  recorded_at (add {a = (e, ms)} w t) (there i) h = stay (T.effect t) _ (recorded_at w i h)

  -- Each event of a run is told by its row,
  pub recorded : {l : Log Event} {e : Event} {r : ℕ} → Trace Adds l → Did l e → of e ≡ some r → e ∈ story r (get_elem? (runs l) r)
  recorded w (did i) h = recorded_at w i h

  -- and what a row tells was done.
  earlier : {l : Log Event} {f : Event} {a : Act Event} → Did l f → Did (a ∷ l) f
  earlier (did i) = did (there i)

  trace : {l : Log Event} {e f : Event} {ms : List Message} {r : ℕ} {t t' : List Run}
      → RowEffect of story e t t'
      → (f ∈ story r (get_elem? t r) → Did l f)
      → f ∈ story r (get_elem? t' r) → Did ((e, ms) ∷ l) f
  trace {l} {e} {f} {ms} {r} {t} (moved o ch eq) below h = go (back story ch eq r h)
    where
      go : (f ∈ story r (get_elem? t r)) ⊎ (f ≡ e) → Did ((e, ms) ∷ l) f
      go (inl k) = earlier (below k)
      go (inr q) = rw q (did here)
  trace (rested o same) below h = earlier (below (rw same at h))

  nothing_told : (r : ℕ) {f : Event} → f ∈ story r (get_elem? (runs []) r) → ⊥
  nothing_told r h = elim (rw (T.no_runs, T.no_story r) at h) [ ]

  pub traced : {l : Log Event} {r : ℕ} {f : Event} → Trace Adds l → f ∈ story r (get_elem? (runs l) r) → Did l f
  traced start h = absurd (nothing_told _ h)
  traced (add {a = (e, ms)} w t) h = trace (T.effect t) (λ k. traced w k) h
