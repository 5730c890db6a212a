-- What is known stays true when an answer is noted, and the ways of the descent to its answer.
-- Assumes nothing.
use Rattle.std.specs.Prelude.{◌≡◌, ◌⊎◌, Bool, List, ℕ, ◌*◌, ◌<◌, length}
use Rattle.std.proofs.Math.Path.{refl}
use Rattle.std.proofs.Common.{sym, ap, ◌∙◌, subst, inl, inr, ⊎_elim, arith}
use Rattle.std.proofs.Math.Bool.{true, false}
use Rattle.marks.specs.Marks.{Words, marked, with_mark}
use Rattle.marks.proofs.Marks.{marked_same, marked_keeps, marked_new, with_length}
use Rattle.marks.specs.Within.{Below}
use Rattle.words.specs.declared.Term.{Term}
use Rattle.words.specs.declared.Term.TheVariants.{Principal, Time, Nonce, LongTermKey, SessionKey, Pair, Encrypted, Unknown}
use Rattle.terms.specs.Choice.{Decides}
use Rattle.terms.proofs.Choice.{proved, refuted, no_true, same_answer}
use Rattle.terms.specs.Rules.{term_at, is_key}
use Rattle.terms.specs.Valid.{Valid}
use Rattle.terms.proofs.Valid.{fields_of_lem}
use Rattle.deduction.specs.Known.{Derivable, Saturated}
use Rattle.deduction.specs.Public.{public_of}
use Rattle.std.specs.Prelude.{Option, Some, None}
use Rattle.synthesis.specs.Compose.{operands_of}
use Rattle.synthesis.proofs.ComposeLaws.{composable_atom, together, apart}
use Rattle.synthesis.specs.Test.{derivable_of}
use Rattle.synthesis.proofs.Test.{decided, derives_composable, composable_derives, test_decides}
use Rattle.synthesis.specs.Knowledge.{as_known, Knows, Kept, note_of, ComposedIs}
use Rattle.synthesis.specs.declared.knowledge.Knowledge.{Knowledge}

-- ---- a set that takes a term with its operands stays saturated

-- a term can go into the set s: its operands are there, or it has none and is public
abbrev pub Closes : (flags : ℕ) (s : List ℕ) → Term → Option (ℕ × ℕ) → Type 0
Closes flags s t (Some (l, r)) = (marked s l ≡ true) × (marked s r ≡ true)
Closes flags s t None = public_of flags t ≡ true

-- a key has no operands
key_public : (flags : ℕ) (s : List ℕ) (t : Term) → is_key t ≡ true → Closes flags s t (operands_of t) → public_of flags t ≡ true
key_public flags s (Principal p) e c = no_true e
key_public flags s (Time x) e c = no_true e
key_public flags s (Nonce i) e c = no_true e
key_public flags s (LongTermKey p) e c = c
key_public flags s (SessionKey i) e c = c
key_public flags s (Pair l r) e c = no_true e
key_public flags s (Encrypted b k) e c = no_true e
key_public flags s Unknown e c = no_true e

module _ (flags : ℕ) {n : ℕ} {ts : List ℕ} {count : ℕ} (v : Valid n ts count) {s : List ℕ} (eight : length s ≡ 8) (sat : Saturated flags ts count s)
    (t : ℕ) (h : t < count) (closes : Closes flags s (term_at ts t) (operands_of (term_at ts t))) where
  place : t < 64 * length s
  place = omega (arith, v.room, eight)

  keeps : (k : ℕ) → marked s k ≡ true → marked (with_mark s t) k ≡ true
  keeps = marked_keeps s t place

  new : (k : ℕ) → marked (with_mark s t) k ≡ true → (k ≡ t) ⊎ (marked s k ≡ true)
  new = marked_new s t place

  at_t : {i : ℕ} {x : Term} → i ≡ t → term_at ts i ≡ x → Closes flags s x (operands_of x)
  at_t {i} {x} e is = subst (λ (y : Term). Closes flags s y (operands_of y)) (ap (term_at ts) (sym e) ∙ is) closes

  pub with_saturated : Saturated flags ts count (with_mark s t)
  with_saturated = record { halves = halves; bodies = bodies }
    where
      halves : (i l r : ℕ) → i < count → marked (with_mark s t) i ≡ true → term_at ts i ≡ Pair l r
          → (marked (with_mark s t) l ≡ true) × (marked (with_mark s t) r ≡ true)
      halves i l r lt m e =
          ⊎_elim (λ q. let c = at_t q e in (keeps l c.0, keeps r c.1))
          (λ q. let c = sat.halves i l r lt q e in (keeps l c.0, keeps r c.1)) (new i m)

      opened : (k : ℕ) → is_key (term_at ts k) ≡ true → (marked (with_mark s t) k ≡ true) ⊎ (public_of flags (term_at ts k) ≡ true)
          → (marked s k ≡ true) ⊎ (public_of flags (term_at ts k) ≡ true)
      opened k key (inl m) = ⊎_elim (λ q. inr (key_public flags s (term_at ts k) key (at_t q refl))) (λ q. inl q) (new k m)
      opened k key (inr p) = inr p

      bodies : (i b k : ℕ) → i < count → marked (with_mark s t) i ≡ true → term_at ts i ≡ Encrypted b k
          → (marked (with_mark s t) k ≡ true) ⊎ (public_of flags (term_at ts k) ≡ true) → marked (with_mark s t) b ≡ true
      bodies i b k lt m e o =
          ⊎_elim (λ q. keeps b (at_t q e).0)
          (λ q. keeps b (sat.bodies i b k lt q e (opened k (fields_of_lem v.terms i lt e).2 o))) (new i m)

-- ---- an answer is noted

module _ {flags n : ℕ} {ts : List ℕ} {count : ℕ} (v : Valid n ts count) {ws : List ℕ} {ks : Knowledge} (known : Knows n flags ts count ws ks) (t : ℕ) (h : t < count) where
  t_in : (s : List ℕ) → length s ≡ 8 → t < 64 * length s
  t_in s e = omega (arith, v.room)

  below_with : (s : List ℕ) → length s ≡ 8 → Below count s → Below count (with_mark s t)
  below_with s e b i m = ⊎_elim (λ q. omega (arith, h)) (b i) (marked_new s t (t_in s e) i m)

  pub found_in : t < 64 * length ks.found
  found_in = t_in ks.found known.size.0

  -- as derivable
  pub found_knows : Derivable n flags ts count ws t → Closes flags ks.found (term_at ts t) (operands_of (term_at ts t))
      → Knows n flags ts count ws (as_known ks.wire (with_mark ks.found t) ks.missed)
  found_knows d closes =
      record {
        size = (with_length ks.found t ∙ known.size.0, known.size.1);
        found =
            record {
              holds = λ k lt m. marked_keeps ks.found t found_in k (known.found.holds k lt m);
              sound = λ k lt m. ⊎_elim (λ q. subst (Derivable n flags ts count ws) (sym q) d) (known.found.sound k lt) (marked_new ks.found t found_in k m);
              full = with_saturated flags v known.size.0 known.found.full t h closes;
            };
        missed = known.missed;
        below = (known.below.0, below_with ks.found known.size.0 known.below.1, known.below.2);
      }

  -- as not derivable
  pub missed_knows : ¬ (Derivable n flags ts count ws t) → Knows n flags ts count ws (as_known ks.wire ks.found (with_mark ks.missed t))
  missed_knows never =
      record {
        size = (known.size.0, with_length ks.missed t ∙ known.size.1);
        found = known.found;
        missed = λ k lt m.
            ⊎_elim (λ q. subst (λ (i : ℕ). ¬ (Derivable n flags ts count ws i)) (sym q) never) (known.missed k lt)
            (marked_new ks.missed t (t_in ks.missed known.size.1) k m);
        below = (known.below.0, known.below.1, below_with ks.missed known.size.1 known.below.2);
      }

-- ---- the ways of the descent to its answer

module _ {flags n : ℕ} {ts : List ℕ} {count : ℕ} (v : Valid n ts count) {ws : List ℕ} {ks : Knowledge} (known : Knows n flags ts count ws ks) (wire : ks.wire ≡ ws)
    (t : ℕ) (h : t < count) where
  -- the term was found, or missed, before
  pub composed_found : marked ks.found t ≡ true → ComposedIs n flags ts count ws t true ks ks
  composed_found m =
      record { knows = known; wire = wire; keeps = λ k q. q; finds = λ _. m; answer = proved (known.found.sound t h m) }

  pub composed_missed : marked ks.missed t ≡ true → ComposedIs n flags ts count ws t false ks ks
  composed_missed m =
      record { knows = known; wire = wire; keeps = λ k q. q; finds = λ e. no_true e; answer = refuted (known.missed t h m) }

  -- it was neither, and its answer is noted, in what is known after its operands were asked for
  noted : {ks₁ : Knowledge} → Knows n flags ts count ws ks₁ → ks₁.wire ≡ ws
      → ((k : ℕ) → marked ks.found k ≡ true → marked ks₁.found k ≡ true) → (ok : Bool) → Decides ok (Derivable n flags ts count ws t)
      → (ok ≡ true → Closes flags ks₁.found (term_at ts t) (operands_of (term_at ts t)))
      → ComposedIs n flags ts count ws t ok ks (note_of ks₁ t ok)
  unfolding note_of
  noted {ks₁} known₁ wire₁ keeps₁ true d c =
      let sure = d.yes refl in
      record {
        knows = found_knows v known₁ t h sure (c refl);
        wire = wire₁;
        keeps = λ k m. marked_keeps ks₁.found t (found_in v known₁ t h) k (keeps₁ k m);
        finds = λ _. marked_same ks₁.found t (found_in v known₁ t h);
        answer = d;
      }
  noted {ks₁} known₁ wire₁ keeps₁ false d c =
      let never = d.no refl in
      record {
        knows = missed_knows v known₁ t h never;
        wire = wire₁;
        keeps = keeps₁;
        finds = λ e. no_true e;
        answer = d;
      }

  module _ (away : marked ks.found t ≡ false) where
    -- it has no operands
    pub composed_atom : operands_of (term_at ts t) ≡ None → (ok : Bool) → ok ≡ public_of flags (term_at ts t)
        → {x : Bool} {ks₁ : Knowledge} → (x ≡ ok) × (ks₁ ≡ note_of ks t ok) → ComposedIs n flags ts count ws t x ks ks₁
    composed_atom e ok p s =
        rw (s.0, s.1)
        (noted known wire (λ k m. m) ok (rw p (decided flags v known.found t (composable_atom flags v ks.found t h away e)))
        (λ q. subst (Closes flags ks.found (term_at ts t)) (sym e) (sym p ∙ q)))

    module _ (l r : ℕ) (e : operands_of (term_at ts t) ≡ Some (l, r)) where
      halves : Derivable n flags ts count ws t → Derivable n flags ts count ws l × Derivable n flags ts count ws r
      halves d =
          let c = apart flags v ks.found t h l r e away (derives_composable flags v known.found t d) in
          (composable_derives flags v known.found l c.0, composable_derives flags v known.found r c.1)

      both : Derivable n flags ts count ws l → Derivable n flags ts count ws r → Derivable n flags ts count ws t
      both a b =
          composable_derives flags v known.found t
          (together flags v ks.found t h l r e (derives_composable flags v known.found l a) (derives_composable flags v known.found r b))

      -- the first operand cannot be derived
      pub composed_left : {ok : Bool} {ks₁ : Knowledge} → ok ≡ false → ComposedIs n flags ts count ws l ok ks ks₁
          → {x : Bool} {ks₂ : Knowledge} → (x ≡ false) × (ks₂ ≡ note_of ks₁ t false) → ComposedIs n flags ts count ws t x ks ks₂
      composed_left q a s =
          rw (s.0, s.1) (noted a.knows a.wire a.keeps false (refuted (λ d. a.answer.no q (halves d).0)) (λ y. no_true y))

      -- it can, so all hangs on the second
      pub composed_right : {ok : Bool} {ks₁ : Knowledge} → ok ≡ true → ComposedIs n flags ts count ws l ok ks ks₁
          → {ok₂ : Bool} {ks₂ : Knowledge} → ComposedIs n flags ts count ks₁.wire r ok₂ ks₁ ks₂
          → {x : Bool} {ks₃ : Knowledge} → (x ≡ ok₂) × (ks₃ ≡ note_of ks₂ t ok₂) → ComposedIs n flags ts count ws t x ks ks₃
      composed_right {ks₁ = ks₁} q a {ok₂} {ks₂} b s =
          let b' = subst (λ (w : List ℕ). ComposedIs n flags ts count w r ok₂ ks₁ ks₂) a.wire b in
          rw (s.0, s.1)
          (noted b'.knows b'.wire (λ k m. b'.keeps k (a.keeps k m)) ok₂
          (record { yes = λ y. both (a.answer.yes q) (b'.answer.yes y); no = λ y d. b'.answer.no y (halves d).1 })
          (λ y. subst (Closes flags ks₂.found (term_at ts t)) (sym e) (b'.keeps l (a.finds q), b'.finds y)))

-- ---- after it

pub kept_after : {flags n : ℕ} {ts : List ℕ} {count : ℕ} {ws : List ℕ} {t : ℕ} {ok : Bool} {ks ks' : Knowledge}
    → ComposedIs n flags ts count ws t ok ks ks' → Kept n flags ts count ks'
kept_after {flags} {n} {ts} {count} {ks' = ks'} a = subst (λ (w : List ℕ). Knows n flags ts count w ks') (sym a.wire) a.knows

-- the answer on a term, from what is known of the wire ws
pub answered : (flags : ℕ) {n : ℕ} {ts : List ℕ} {count : ℕ} → Valid n ts count → {ws : List ℕ} {ks ks' : Knowledge} → ks.wire ≡ ws → Words 8 ws → (t : ℕ) → t < count
    → {ok : Bool} → ComposedIs n flags ts count ks.wire t ok ks ks' → (ok ≡ derivable_of flags ts count ws t) × Kept n flags ts count ks'
answered flags {n} {ts} {count} v {ws} e w t h {ok} a = (
  same_answer ok _ (subst (λ (x : List ℕ). Decides ok (Derivable n flags ts count x t)) e a.answer) (test_decides flags v w t h),
  kept_after a,
)
