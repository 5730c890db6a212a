-- What follows from the definitions of the same name in specs/.
-- Assumes nothing.
use Rattle.std.specs.Prelude.{◌≡◌, Bool, false, List, eqb}
use Rattle.std.proofs.Math.Path.{refl, subst}
use Rattle.std.proofs.Common.{sym, ap, ◌∙◌, ⊎_elim, le_refl, arith}
use Rattle.std.proofs.Math.Logic.{dite}
use Rattle.std.proofs.Math.Bool.{true, cond}
use Prim.Native.Nat.{ℕ, zero, suc, ◌<◌, ◌≤◌}
use Rattle.std.proofs.Math.Decide.{ℕ_discrete}
use borrow.Author.Tests.{eqb-true, eq-eqb}
use Rattle.marks.specs.Marks.{marked}
use Rattle.words.specs.declared.Term.{Term}
use Rattle.words.specs.declared.Term.TheVariants.{Pair, Encrypted}
use Rattle.terms.proofs.Choice.{cond_elim, no_true}
use Rattle.terms.proofs.Operands.{operands_elim}
use Rattle.terms.specs.Rules.{term_at, is_key}
use Rattle.terms.specs.Valid.{Valid}
use Rattle.terms.proofs.Valid.{fields_of_lem}
use Rattle.worklist.specs.Found.{Found, learn_of, Listed}
use Rattle.worklist.proofs.FoundLaws.{More, more_refl, more_trans, learn_marks, learn_more, learn_new, learn_listed}
use Rattle.deduction.specs.Known.{Known, Derivable}
use Rattle.deduction.specs.Opens.{opens_of}
use Rattle.deduction.proofs.Opens.{key_sure, left_sure, right_sure, body_sure}
use Rattle.analysis.specs.Gives.{is_under, decrypt_of, under_of, parts_of, given_of}

-- what has been found can be derived from the terms of ws
pub record Work (n flags : ℕ) (ts : List ℕ) (count : ℕ) (ws : List ℕ) (f : Found) : Type 0 where
  pub listed : Listed count f
  pub sound : (k : ℕ) → k < count → marked f.known k ≡ true → Derivable n flags ts count ws k

-- and nothing is lost
pub record Step (n flags : ℕ) (ts : List ℕ) (count : ℕ) (ws : List ℕ) (f g : Found) : Type 0 where
  pub work : Work n flags ts count ws g
  pub more : More f g

-- ---- an encryption under a key

pub is_under_lem : (k : ℕ) (t : Term) → is_under k t ≡ true → (b : ℕ) × (t ≡ Encrypted b k)
is_under_lem k t =
    operands_elim (λ (u : Bool). u ≡ true → (b : ℕ) × (t ≡ Encrypted b k)) false (λ l r. false) (λ b j. eqb j k) t no_true (λ l r e. no_true)
    (λ b j e u. (b, e ∙ ap (Encrypted b) (eqb-true j k u)))

pub under_is : (k b : ℕ) (t : Term) → t ≡ Encrypted b k → is_under k t ≡ true
under_is k b t e = rw e (eq-eqb k k refl)

-- ---- decrypting a term that has been found, and one that has not

module _ (f : Found) (e : ℕ) {t : Term} {b k : ℕ} (is : t ≡ Encrypted b k) where
  pub decrypt_found : marked f.known e ≡ true → learn_of f b ≡ decrypt_of f e t
  decrypt_found m = rw (is, m)

  pub decrypt_not : marked f.known e ≡ false → f ≡ decrypt_of f e t
  decrypt_not m = rw (is, m)

-- ---- the ways of `parts_of` and `given_of`

module _ (flags : ℕ) (ts : List ℕ) (f : Found) {t : Term} where
  pub pair_split : {l r : ℕ} → t ≡ Pair l r → learn_of (learn_of f l) r ≡ parts_of flags ts f t
  pair_split is = rw is

  module _ {b k : ℕ} (is : t ≡ Encrypted b k) where
    pub body_given : opens_of flags ts f.known k ≡ true → learn_of f b ≡ parts_of flags ts f t
    body_given o = rw (is, o)

    pub body_kept : opens_of flags ts f.known k ≡ false → f ≡ parts_of flags ts f t
    body_kept o = rw (is, o)

module _ (flags : ℕ) (ts : List ℕ) (count : ℕ) (f : Found) (i : ℕ) where
  pub by_key : is_key (term_at ts i) ≡ true → under_of ts i count f ≡ given_of flags ts count f i
  by_key e = rw e

  pub by_parts : is_key (term_at ts i) ≡ false → parts_of flags ts f (term_at ts i) ≡ given_of flags ts count f i
  by_parts e = rw e

-- ---- each step finds only what can be derived

module _ (flags : ℕ) {n : ℕ} {ts : List ℕ} {count : ℕ} (v : Valid n ts count) (ws : List ℕ) where
  abbrev Certain : ℕ → Type 0
  Certain = Derivable n flags ts count ws

  abbrev Next : Found → Found → Type 0
  Next = Step n flags ts count ws

  pub step_refl : {f : Found} → Work n flags ts count ws f → Next f f
  step_refl {f} w = record { work = w; more = more_refl f }

  pub step_trans : {f g h : Found} → Next f g → Next g h → Next f h
  step_trans a b = record { work = b.work; more = more_trans a.more b.more }

  pub learn_step : {f : Found} → Work n flags ts count ws f → (t : ℕ) → t < count → Certain t → Next f (learn_of f t)
  learn_step {f} w t h d =
      let low : t < 512 = omega (arith, v.room) in
      let room = w.listed.room in
      record {
        work = record {
          listed = learn_listed f t low h w.listed;
          sound = λ k hk m. ⊎_elim (λ e. subst Certain (sym e) d) (λ m'. w.sound k hk m') (learn_new f t low room k m);
        };
        more = learn_more f t low room;
      }

  decrypt_step : {f : Found} → Work n flags ts count ws f → (e k : ℕ) → e < count → Certain k → is_under k (term_at ts e) ≡ true
      → Next f (decrypt_of f e (term_at ts e))
  decrypt_step {f} w e k h dk u =
      let x = is_under_lem k (term_at ts e) u in
      rw x.1
      (cond_elim (Next f) (marked f.known e) (learn_of f x.0) f
      (λ m. learn_step w x.0 (omega (arith, (fields_of_lem v.terms e h x.1).0)) (body_sure flags v (Known ts count ws) e h x.0 k x.1 (w.sound e h m) dk)) (λ _. step_refl w))

  one_step : {f : Found} → Work n flags ts count ws f → (e k : ℕ) → e < count → Certain k
      → Next f (cond (is_under k (term_at ts e)) (decrypt_of f e (term_at ts e)) f)
  one_step {f} w e k h dk =
      cond_elim (Next f) (is_under k (term_at ts e)) (decrypt_of f e (term_at ts e)) f (decrypt_step w e k h dk) (λ _. step_refl w)

  pub under_step : (f : Found) → Work n flags ts count ws f → (k m : ℕ) → m ≤ count → Certain k → Next f (under_of ts k m f)
  unfolding under_of
  under_step f w k zero h dk = step_refl w
  under_step f w k (suc m) h dk =
      let one = one_step w m k h dk in
      step_trans one (under_step (cond (is_under k (term_at ts m)) (decrypt_of f m (term_at ts m)) f) one.work k m (omega arith) dk)

  parts_step : {f : Found} → Work n flags ts count ws f → (i : ℕ) → i < count → marked f.known i ≡ true → Next f (parts_of flags ts f (term_at ts i))
  parts_step {f} w i h m =
      operands_elim (Next f) f (λ l r. learn_of (learn_of f l) r) (λ b k. cond (opens_of flags ts f.known k) (learn_of f b) f) (term_at ts i) (step_refl w)
      (λ l r e.
      let low = fields_of_lem v.terms i h e in
      let first = learn_step w l (omega (arith, low.0)) (left_sure flags v (Known ts count ws) i h l r e (w.sound i h m)) in
      step_trans first (learn_step first.work r (omega (arith, low.1)) (right_sure flags v (Known ts count ws) i h l r e (w.sound i h m))))
      (λ b k e.
      let low = fields_of_lem v.terms i h e in
      cond_elim (Next f) (opens_of flags ts f.known k) (learn_of f b) f
      (λ o. learn_step w b (omega (arith, low.0)) (body_sure flags v (Known ts count ws) i h b k e (w.sound i h m) (key_sure flags v (Known ts count ws) f.known w.sound k (omega (arith, low.1)) o)))
      (λ _. step_refl w))

  -- ---- and all that the term gives

  module _ (f : Found) (w : Work n flags ts count ws f) (i : ℕ) (h : i < count) (m : marked f.known i ≡ true) where
    pub given_step : Next f (given_of flags ts count f i)
    given_step =
        cond_elim (Next f) (is_key (term_at ts i)) (under_of ts i count f) (parts_of flags ts f (term_at ts i))
        (λ _. under_step f w i count (le_refl count) (w.sound i h m)) (λ _. parts_step w i h m)

    pub given_halves : (l r : ℕ) → term_at ts i ≡ Pair l r → (marked (given_of flags ts count f i).known l ≡ true) × (marked (given_of flags ts count f i).known r ≡ true)
    given_halves l r e =
        let low = fields_of_lem v.terms i h e in
        let d = w.sound i h m in
        let first = learn_step w l (omega (arith, low.0)) (left_sure flags v (Known ts count ws) i h l r e d) in
        let second = learn_step first.work r (omega (arith, low.1)) (right_sure flags v (Known ts count ws) i h l r e d) in
        let hl : l < 512 = omega (arith, low.0, v.room) in
        let hr : r < 512 = omega (arith, low.1, v.room) in
        rw e (second.more.keeps l (learn_marks f l hl w.listed.room), learn_marks (learn_of f l) r hr first.work.listed.room)

    pub given_body : (b k : ℕ) → term_at ts i ≡ Encrypted b k → opens_of flags ts f.known k ≡ true → marked (given_of flags ts count f i).known b ≡ true
    given_body b k e o = rw (e, o) (learn_marks f b (omega (arith, (fields_of_lem v.terms i h e).0, v.room)) w.listed.room)

  -- every encryption under the key that had been found is opened
  under_opens : (f : Found) → Work n flags ts count ws f → (k m : ℕ) → m ≤ count → Certain k → (e b : ℕ) → e < m → term_at ts e ≡ Encrypted b k
      → marked f.known e ≡ true → marked (under_of ts k m f).known b ≡ true
  unfolding under_of
  under_opens f w k zero h dk e b lt q m = absurd (omega arith)
  under_opens f w k (suc j) h dk e b lt q m =
      let g = cond (is_under k (term_at ts j)) (decrypt_of f j (term_at ts j)) f in
      let one : Next f g = one_step w j k h dk in
      dite (ℕ_discrete e j)
      (λ s.
      let q' : term_at ts j ≡ Encrypted b k = subst (λ (x : ℕ). term_at ts x ≡ Encrypted b k) s q in
      let m' : marked f.known j ≡ true = subst (λ (x : ℕ). marked f.known x ≡ true) s m in
      let here : marked g.known b ≡ true =
      rw (q', eq-eqb k k refl, m') (learn_marks f b (omega (arith, (fields_of_lem v.terms j h q').0, v.room)) w.listed.room) in
      (under_step g one.work k j (omega arith) dk).more.keeps b here)
      (λ ne. under_opens g one.work k j (omega arith) dk e b (omega arith) q (one.more.keeps e m))

  pub given_under : (f : Found) → Work n flags ts count ws f → (i : ℕ) → i < count → marked f.known i ≡ true → (e b : ℕ) → e < count
      → term_at ts e ≡ Encrypted b i → marked f.known e ≡ true → marked (given_of flags ts count f i).known b ≡ true
  given_under f w i h m e b he q me = rw (fields_of_lem v.terms e he q).2 (under_opens f w i count (le_refl count) (w.sound i h m) e b he q me)
