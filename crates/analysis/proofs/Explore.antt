-- The terms on the wire are found first. Then each found term is looked at once, in the order of the list; what it gives goes
-- behind the others. When all have been looked at the set is saturated.
-- Assumes nothing.
use Rattle.std.specs.Prelude.{◌≡◌, refl, ◌⊎◌, true, cond, List, get_or}
use Rattle.std.proofs.Common.{sym, ap, ◌∙◌, inl, inr, ⊎_elim, le_refl, arith}
use Rattle.std.proofs.Math.Path.{subst}
use Rattle.std.proofs.Math.Logic.{dite}
use Prim.Native.Nat.{ℕ, zero, suc, ◌+◌, ◌<◌, ◌≤◌}
use Rattle.std.proofs.Math.Decide.{ℕ_discrete}
use Rattle.marks.specs.Marks.{marked}
use Rattle.marks.proofs.Size.{size_le}
use Rattle.marks.proofs.Empty.{empty_marked}
use Rattle.marks.specs.Within.{Below}
use Rattle.words.specs.declared.Term.TheVariants.{Pair, Encrypted}
use Rattle.terms.proofs.Choice.{cond_elim, no_true}
use Rattle.terms.specs.Rules.{term_at}
use Rattle.terms.specs.Valid.{Valid}
use Rattle.terms.proofs.Valid.{fields_of_lem}
use Rattle.deduction.specs.Derives.{on_wire}
use Rattle.worklist.specs.Found.{Found, blank, learn_of, start_of, Room, Listed}
use Rattle.worklist.proofs.FoundLaws.{notice_room, learn_marks, learn_new, blank_listed}
use Rattle.analysis.specs.Gives.{given_of}
use Rattle.analysis.proofs.Gives.{Work, Step, learn_step, step_refl, given_step, given_halves, given_body, given_under}
use Rattle.deduction.specs.Known.{Filled}
use Rattle.deduction.proofs.Opens.{opens_if}
use Rattle.deduction.specs.Public.{public_of}
use Rattle.deduction.proofs.Secrecy.{derives_more}

-- ---- the terms on the wire

module _ (flags : ℕ) {n : ℕ} {ts : List ℕ} {count : ℕ} (v : Valid n ts count) (ws : List ℕ) where
  start_one : (g : Found) → Work n flags ts count ws g → (m : ℕ) → m < count → Step n flags ts count ws g (cond (marked ws m) (learn_of g m) g)
  start_one g w m h =
      cond_elim (Step n flags ts count ws g) (marked ws m) (learn_of g m) g
      (λ e. learn_step flags v ws w m h (on_wire (record { at = m; below = h; mark = e; is = refl }))) (λ _. step_refl flags v ws w)

  pub start_work : (f : Found) → Work n flags ts count ws f → (m : ℕ) → m ≤ count → Work n flags ts count ws (start_of ws m f)
  unfolding start_of
  start_work f w zero h = w
  start_work f w (suc m) h = (start_one (start_of ws m f) (start_work f w m (omega arith)) m h).work

  pub started : (f : Found) → Work n flags ts count ws f → (m : ℕ) → m ≤ count → (i : ℕ) → i < m → marked ws i ≡ true → marked (start_of ws m f).known i ≡ true
  unfolding start_of
  started f w zero h i lt e = absurd (omega arith)
  started f w (suc m) h i lt e =
      let g = start_of ws m f in
      let at = start_work f w m (omega arith) in
      dite (ℕ_discrete i m)
      (λ s. rw (s, subst (λ (x : ℕ). marked ws x ≡ true) s e) (learn_marks g m (omega (arith, v.room)) at.listed.room))
      (λ ne. (start_one g at m h).more.keeps i (started f w m (omega arith) i (omega arith) e))

-- ---- the terms that have been looked at

-- the first d of the list have given all that they can, as far as keys among them or public ones go
pub record Done (flags : ℕ) (ts : List ℕ) (f : Found) (d : ℕ) : Type 0 where
  pub halves : (j l r : ℕ) → j < d → term_at ts (get_or f.list j 0) ≡ Pair l r → (marked f.known l ≡ true) × (marked f.known r ≡ true)
  pub public : (j b k : ℕ) → j < d → term_at ts (get_or f.list j 0) ≡ Encrypted b k → public_of flags (term_at ts k) ≡ true → marked f.known b ≡ true
  pub opened : (j j' b k : ℕ) → j < d → j' < d → term_at ts (get_or f.list j 0) ≡ Encrypted b k → get_or f.list j' 0 ≡ k → marked f.known b ≡ true

done_none : (flags : ℕ) (ts : List ℕ) (f : Found) → Done flags ts f 0
done_none flags ts f =
    record {
      halves = λ j l r h e. absurd (omega arith);
      public = λ j b k h e p. absurd (omega arith);
      opened = λ j j' b k h h' e e'. absurd (omega arith);
    }

module _ (flags : ℕ) {n : ℕ} {ts : List ℕ} {count : ℕ} (v : Valid n ts count) (ws : List ℕ) (f : Found) (w : Work n flags ts count ws f) where
  -- the next term of the list
  module _ (d : ℕ) (h : d < f.count) where
    abbrev i : ℕ
    i = get_or f.list d 0

    abbrev g : Found
    g = given_of flags ts count f i

    next_marked : marked f.known i ≡ true
    next_marked = w.listed.member d h

    next_below : i < count
    next_below = w.listed.below i next_marked

    next_step : Step n flags ts count ws f g
    next_step = given_step flags v ws f w i next_below next_marked

    kept : (j : ℕ) → j < f.count → get_or g.list j 0 ≡ get_or f.list j 0
    kept = next_step.more.same

    done_next : Done flags ts f d → Done flags ts g (d + 1)
    done_next done =
        record {
          halves = λ j l r lt e.
              let e' = ap (term_at ts) (sym (kept j (omega arith))) ∙ e in
              dite (ℕ_discrete j d)
              (λ s. given_halves flags v ws f w i next_below next_marked l r (subst (λ (x : ℕ). term_at ts (get_or f.list x 0) ≡ Pair l r) s e'))
              (λ ne. let x = done.halves j l r (omega arith) e' in (next_step.more.keeps l x.0, next_step.more.keeps r x.1));
          public = λ j b k lt e p.
              let e' = ap (term_at ts) (sym (kept j (omega arith))) ∙ e in
              dite (ℕ_discrete j d)
              (λ s.
              given_body flags v ws f w i next_below next_marked b k (subst (λ (x : ℕ). term_at ts (get_or f.list x 0) ≡ Encrypted b k) s e')
              (opens_if flags ts f.known k (inr p)))
              (λ ne. next_step.more.keeps b (done.public j b k (omega arith) e' p));
          opened = λ j j' b k lt lt' e e'.
              opened j j' b k lt lt' (ap (term_at ts) (sym (kept j (omega arith))) ∙ e) (sym (kept j' (omega arith)) ∙ e') (ℕ_discrete j d) (ℕ_discrete j' d);
        }
      where
        opened : (j j' b k : ℕ) → j < d + 1 → j' < d + 1 → term_at ts (get_or f.list j 0) ≡ Encrypted b k → get_or f.list j' 0 ≡ k
            → Dec (j ≡ d) → Dec (j' ≡ d) → marked g.known b ≡ true
        opened j j' b k lt lt' e e' (yes s) (yes s') =
            let at : term_at ts i ≡ Encrypted b k = subst (λ (x : ℕ). term_at ts (get_or f.list x 0) ≡ Encrypted b k) s e in
            let key : i ≡ k = subst (λ (x : ℕ). get_or f.list x 0 ≡ k) s' e' in
            let low = fields_of_lem v.terms i next_below at in
            absurd (omega (arith, low.1, key))
        opened j j' b k lt lt' e e' (yes s) (no ne) =
            given_body flags v ws f w i next_below next_marked b k (subst (λ (x : ℕ). term_at ts (get_or f.list x 0) ≡ Encrypted b k) s e)
            (opens_if flags ts f.known k (inl (subst (λ (x : ℕ). marked f.known x ≡ true) e' (w.listed.member j' (omega arith)))))
        opened j j' b k lt lt' e e' (no ne) (yes s) =
            let here : marked f.known (get_or f.list j 0) ≡ true = w.listed.member j (omega arith) in
            let key : i ≡ k = subst (λ (x : ℕ). get_or f.list x 0 ≡ k) s e' in
            given_under flags v ws f w i next_below next_marked (get_or f.list j 0) b (w.listed.below (get_or f.list j 0) here)
            (e ∙ ap (λ (x : ℕ). Encrypted b x) (sym key)) here
        opened j j' b k lt lt' e e' (no ne) (no ne') = next_step.more.keeps b (done.opened j j' b k (omega arith) (omega arith) e e')

-- ---- from the first term to the last

-- the terms of ws were found first, and d of those in the list have been looked at
pub record Exploring (n flags : ℕ) (ts : List ℕ) (count : ℕ) (ws : List ℕ) (f : Found) (d : ℕ) : Type 0 where
  pub work : Work n flags ts count ws f
  pub done : Done flags ts f d
  pub within : d ≤ f.count
  pub holds : (i : ℕ) → i < count → marked ws i ≡ true → marked f.known i ≡ true

module _ (flags : ℕ) {n : ℕ} {ts : List ℕ} {count : ℕ} (v : Valid n ts count) where
  pub explore_start : (f : Found) → Listed count f → Exploring n flags ts count f.known f 0
  explore_start f l =
      record {
        work = record { listed = l; sound = λ k h m. on_wire (record { at = k; below = h; mark = m; is = refl }) };
        done = done_none flags ts f;
        within = omega arith;
        holds = λ i h m. m;
      }

  module _ {ws : List ℕ} (f : Found) (d : ℕ) (x : Exploring n flags ts count ws f d) where
    -- the list is no longer than the set can be
    pub explore_most : f.count ≤ 512
    explore_most = omega (arith, x.work.listed.room.counted, size_le x.work.listed.room.words)

    pub explore_below : d < f.count → get_or f.list d 0 < count
    explore_below h = next_below flags v ws f x.work d h

    pub explore_next : d < f.count → {g : Found} → g ≡ given_of flags ts count f (get_or f.list d 0) → Exploring n flags ts count ws g (d + 1)
    explore_next h e =
        let step = next_step flags v ws f x.work d h in
        rw e
        (record {
          work = step.work;
          done = done_next flags v ws f x.work d h x.done;
          within = omega (arith, step.more.longer);
          holds = λ i lt m. step.more.keeps i (x.holds i lt m);
        })

    pub explore_end : f.count ≤ d → Filled n flags ts count ws f.known × Below count f.known
    explore_end over = (
      record {
        holds = x.holds;
        sound = x.work.sound;
        full = record { halves = halves; bodies = λ i b k h m e o. bodies i b k m e o (place i m) };
      },
      x.work.listed.below,
    )
      where
        place : (i : ℕ) → marked f.known i ≡ true → (j : ℕ) × (j < d) × (get_or f.list j 0 ≡ i)
        place i m = let p = x.work.listed.place i m in (p.0, omega (arith, p.1, x.within, over), p.2)

        halves : (i l r : ℕ) → i < count → marked f.known i ≡ true → term_at ts i ≡ Pair l r → (marked f.known l ≡ true) × (marked f.known r ≡ true)
        halves i l r h m e = let p = place i m in x.done.halves p.0 l r p.1 (ap (term_at ts) p.2 ∙ e)

        bodies : (i b k : ℕ) → marked f.known i ≡ true → term_at ts i ≡ Encrypted b k → (marked f.known k ≡ true) ⊎ (public_of flags (term_at ts k) ≡ true)
            → (j : ℕ) × (j < d) × (get_or f.list j 0 ≡ i) → marked f.known b ≡ true
        bodies i b k m e (inl mk) p = let q = place k mk in x.done.opened p.0 q.0 b k p.1 q.1 (ap (term_at ts) p.2 ∙ e) q.2
        bodies i b k m e (inr pk) p = x.done.public p.0 b k p.1 (ap (term_at ts) p.2 ∙ e) pk

-- ---- the whole

start_room : (ws : List ℕ) (m : ℕ) → m ≤ 512 → Room (start_of ws m blank)
unfolding start_of
start_room ws zero h = (blank_listed 0).room
start_room ws (suc j) h = notice_room ws (start_of ws j blank) j h (start_room ws j (omega arith))

-- only the terms on the wire are found at the start
start_only : (ws : List ℕ) (m : ℕ) → m ≤ 512 → (i : ℕ) → marked (start_of ws m blank).known i ≡ true → marked ws i ≡ true
unfolding start_of
start_only ws zero h i m = no_true (sym (empty_marked 8 i) ∙ m)
start_only ws (suc j) h i m =
    let g = start_of ws j blank in
    cond_elim (λ (x : Found). marked x.known i ≡ true → marked ws i ≡ true) (marked ws j) (learn_of g j) g
    (λ on new. ⊎_elim (λ e. subst (λ (x : ℕ). marked ws x ≡ true) (sym e) on) (start_only ws j (omega arith) i) (learn_new g j h (start_room ws j (omega arith)) i new))
    (λ _ old. start_only ws j (omega arith) i old) m

module _ (flags : ℕ) {n : ℕ} {ts : List ℕ} {count : ℕ} (v : Valid n ts count) (ws : List ℕ) where
  blank_work : Work n flags ts count ws blank
  blank_work = record { listed = blank_listed count; sound = λ k h m. no_true (sym (empty_marked 8 k) ∙ m) }

  pub start_listed : Listed count (start_of ws count blank)
  start_listed = (start_work flags v ws blank blank_work count (le_refl count)).listed

  -- what is found from there on is found from the wire
  pub saturated : {r : List ℕ} → Filled n flags ts count (start_of ws count blank).known r → Filled n flags ts count ws r
  saturated f =
      record {
        holds = λ k h m. f.holds k h (started flags v ws blank blank_work count (le_refl count) k h m);
        sound = λ k h m. derives_more (λ x y. record { at = y.at; below = y.below; mark = start_only ws count v.room y.at y.mark; is = y.is }) (f.sound k h m);
        full = f.full;
      }
