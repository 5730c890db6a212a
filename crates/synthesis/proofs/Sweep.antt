-- What follows from the definitions of the same name in specs/.
-- Assumes nothing.
use Rattle.std.specs.Prelude.{◌≡◌, ◌⊎◌, Bool, true, length}
use Rattle.std.proofs.Common.{sym, ◌∙◌, subst, ⊎_elim, le_refl, arith}
use Rattle.std.proofs.Math.Path.{ap}
use Rattle.std.proofs.Math.Logic.{dite}
use Rattle.std.proofs.Math.Bool.{cond}
use mathlib.Core.List.{List}
use Prim.Native.Nat.{ℕ, zero, suc, ◌*◌, ◌<◌, ◌≤◌}
use Rattle.std.proofs.Math.Decide.{ℕ_discrete}
use Rattle.marks.proofs.Grown.{Grown, grown_refl, grown_trans, grown_with}
use Rattle.marks.specs.Marks.{Words, marked, with_mark, size}
use Rattle.marks.proofs.Marks.{marked_same, marked_keeps, marked_new, with_length}
use Rattle.words.specs.declared.Term.{Term}
use Rattle.words.specs.declared.Term.TheVariants.{Pair, Encrypted}
use Rattle.terms.proofs.Choice.{cond_elim}
use Rattle.terms.specs.Message.{Message}
use Rattle.terms.proofs.Operands.{operands_elim}
use Rattle.terms.specs.Rules.{term_at}
use Rattle.terms.specs.Valid.{Valid}
use Rattle.terms.proofs.Valid.{fields_of_lem}
use Rattle.deduction.specs.Known.{Saturated}
use Rattle.deduction.specs.Opens.{opens_of}
use Rattle.deduction.proofs.Opens.{opens_if, Sure, key_sure, left_sure, right_sure, body_sure}
use Rattle.deduction.specs.Public.{public_of}
use Rattle.synthesis.specs.Sweep.{parts_of, visit_of, sweep_of}

-- ---- the set grows

module _ (flags : ℕ) {n : ℕ} {ts : List ℕ} {count : ℕ} (v : Valid n ts count) where
  parts_grown : {ws : List ℕ} → Words 8 ws → (i : ℕ) → i < count → Grown 8 ws (parts_of flags ts ws (term_at ts i))
  parts_grown {ws} w i h =
      operands_elim (Grown 8 ws) ws (λ l r. with_mark (with_mark ws l) r) (λ b k. cond (opens_of flags ts ws k) (with_mark ws b) ws) (term_at ts i) (grown_refl w)
      (λ l r e.
      let f = fields_of_lem v.terms i h e in
      let g = grown_with w l (omega (arith, v.room, f.0)) in
      grown_trans g (grown_with g.words r (omega (arith, v.room, f.1))))
      (λ b k e.
      let f = fields_of_lem v.terms i h e in
      cond_elim (Grown 8 ws) (opens_of flags ts ws k) (with_mark ws b) ws (λ _. grown_with w b (omega (arith, v.room, f.0))) (λ _. grown_refl w))

  visit_grown : {ws : List ℕ} → Words 8 ws → (i : ℕ) → i < count → Grown 8 ws (visit_of flags ts ws i)
  unfolding visit_of
  visit_grown {ws} w i h =
      cond_elim (Grown 8 ws) (marked ws i) (parts_of flags ts ws (term_at ts i)) ws (λ _. parts_grown w i h) (λ _. grown_refl w)

  pub sweep_grown : (m : ℕ) → m ≤ count → {ws : List ℕ} → Words 8 ws → Grown 8 ws (sweep_of flags ts m ws)
  unfolding sweep_of
  sweep_grown zero h w = grown_refl w
  sweep_grown (suc m) h {ws} w =
      let g = visit_grown w m h in
      grown_trans g (sweep_grown m (omega arith) g.words)

  -- a sweep that adds nothing leaves every term as it is
  still : (m : ℕ) → m ≤ count → {ws : List ℕ} → Words 8 ws → size (sweep_of flags ts m ws) ≡ size ws
      → (i : ℕ) → i < m → visit_of flags ts ws i ≡ ws
  unfolding sweep_of
  still zero h w e i lt = absurd (omega arith)
  still (suc m) h {ws} w e i lt =
      let g = visit_grown w m h in
      let idle : visit_of flags ts ws m ≡ ws = g.same (omega (arith, g.more, (sweep_grown m (omega arith) g.words).more, e)) in
      dite (ℕ_discrete i m) (λ q. rw q idle)
      (λ ne. still m (omega arith) w (subst (λ (x : List ℕ). size (sweep_of flags ts m x) ≡ size ws) idle e) i (omega arith))

-- ---- where nothing is added, the set is saturated

module _ (flags : ℕ) {n : ℕ} {ts : List ℕ} {count : ℕ} (v : Valid n ts count) {ws : List ℕ} (w : Words 8 ws)
    (idle : (i : ℕ) → i < count → visit_of flags ts ws i ≡ ws) where
  parts_idle : (i : ℕ) → i < count → marked ws i ≡ true → (t : Term) → term_at ts i ≡ t → parts_of flags ts ws t ≡ ws
  unfolding visit_of
  parts_idle i h m t e =
      ap (parts_of flags ts ws) (sym e) ∙ ap (λ (b : Bool). cond b (parts_of flags ts ws (term_at ts i)) ws) (sym m) ∙ idle i h

  pub idle_saturated : Saturated flags ts count ws
  idle_saturated = record { halves = halves; bodies = bodies }
    where
      halves : (i l r : ℕ) → i < count → marked ws i ≡ true → term_at ts i ≡ Pair l r → (marked ws l ≡ true) × (marked ws r ≡ true)
      halves i l r h m e =
          let f = fields_of_lem v.terms i h e in
          let p = parts_idle i h m (Pair l r) e in
          let hl : l < 64 * length ws = omega (arith, v.room, f.0, w.len) in
          let hr : r < 64 * length (with_mark ws l) = omega (arith, v.room, f.1, w.len, with_length ws l) in (
            subst (λ (x : List ℕ). marked x l ≡ true) p (marked_keeps (with_mark ws l) r hr l (marked_same ws l hl)),
            subst (λ (x : List ℕ). marked x r ≡ true) p (marked_same (with_mark ws l) r hr),
          )

      bodies : (i b k : ℕ) → i < count → marked ws i ≡ true → term_at ts i ≡ Encrypted b k
          → (marked ws k ≡ true) ⊎ (public_of flags (term_at ts k) ≡ true) → marked ws b ≡ true
      bodies i b k h m e o =
          let f = fields_of_lem v.terms i h e in
          let p = parts_idle i h m (Encrypted b k) e in
          let q : with_mark ws b ≡ ws = ap (λ (c : Bool). cond c (with_mark ws b) ws) (sym (opens_if flags ts ws k o)) ∙ p in
          subst (λ (x : List ℕ). marked x b ≡ true) q (marked_same ws b (omega (arith, v.room, f.0, w.len)))

-- a sweep over all terms that adds none
pub sweep_saturated : (flags : ℕ) {n : ℕ} {ts : List ℕ} {count : ℕ} (v : Valid n ts count) {ws : List ℕ} → Words 8 ws
    → size (sweep_of flags ts count ws) ≡ size ws → Saturated flags ts count ws
sweep_saturated flags {count = count} v w e = idle_saturated flags v w (still flags v count (le_refl count) w e)

-- ---- what becomes known can be derived

module _ (flags : ℕ) {n : ℕ} {ts : List ℕ} {count : ℕ} (v : Valid n ts count) (Wire : Message → Type 0) where
  -- every marked term can be derived
  abbrev pub Sound : List ℕ → Type 0
  Sound ws = (k : ℕ) → k < count → marked ws k ≡ true → Sure flags v Wire k

  with_sound : {ws : List ℕ} → Words 8 ws → (i : ℕ) → i < 512 → Sound ws → Sure flags v Wire i → Sound (with_mark ws i)
  with_sound {ws} w i h s d k hk m =
      ⊎_elim (λ e. subst (Sure flags v Wire) (sym e) d) (λ m'. s k hk m') (marked_new ws i (omega (arith, w.len)) k m)

  parts_sound : {ws : List ℕ} → Words 8 ws → Sound ws → (i : ℕ) → i < count → Sure flags v Wire i → Sound (parts_of flags ts ws (term_at ts i))
  parts_sound {ws} w s i h d =
      operands_elim Sound ws (λ l r. with_mark (with_mark ws l) r) (λ b k. cond (opens_of flags ts ws k) (with_mark ws b) ws) (term_at ts i) s
      (λ l r e.
      let f = fields_of_lem v.terms i h e in
      let hl : l < 512 = omega (arith, v.room, f.0) in
      with_sound (grown_with w l hl).words r (omega (arith, v.room, f.1)) (with_sound w l hl s (left_sure flags v Wire i h l r e d)) (right_sure flags v Wire i h l r e d))
      (λ b k e.
      let f = fields_of_lem v.terms i h e in
      cond_elim Sound (opens_of flags ts ws k) (with_mark ws b) ws
      (λ o. with_sound w b (omega (arith, v.room, f.0)) s (body_sure flags v Wire i h b k e d (key_sure flags v Wire ws s k (omega (arith, f.1)) o))) (λ _. s))

  visit_sound : {ws : List ℕ} → Words 8 ws → Sound ws → (i : ℕ) → i < count → Sound (visit_of flags ts ws i)
  unfolding visit_of
  visit_sound {ws} w s i h =
      cond_elim Sound (marked ws i) (parts_of flags ts ws (term_at ts i)) ws (λ m. parts_sound w s i h (s i h m)) (λ _. s)

  pub sweep_sound : (m : ℕ) → m ≤ count → {ws : List ℕ} → Words 8 ws → Sound ws → Sound (sweep_of flags ts m ws)
  unfolding sweep_of
  sweep_sound zero h w s = s
  sweep_sound (suc m) h {ws} w s = sweep_sound m (omega arith) (visit_grown flags v w m h).words (visit_sound w s m h)
