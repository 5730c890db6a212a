-- What follows from the definitions of the same name in specs/.
-- Assumes nothing.
use Rattle.std.specs.Prelude.{◌≡◌, refl, Option, Some, None, ◌⊎◌, true, false, List, ℕ, ◌<◌, get_or}
use Rattle.std.proofs.Common.{sym, ◌∙◌, subst, inl, inr, ⊎_elim, arith}
use Rattle.marks.specs.Marks.{marked}
use Rattle.words.specs.declared.Term.{Term}
use Rattle.words.specs.declared.Term.TheVariants.{Principal, Time, Nonce, LongTermKey, SessionKey, Pair, Encrypted, Unknown}
use Rattle.terms.specs.Choice.{Decides}
use Rattle.terms.proofs.Choice.{no_true}
use Rattle.terms.specs.Meaning.{key_of, message_of, message_at}
use Rattle.terms.proofs.Meaning.{message_at_lem, key_at}
use Rattle.terms.specs.Message.{Message, key}
use Rattle.terms.specs.Rules.{term_at, is_key}
use Rattle.terms.proofs.RulesLaws.{Fields}
use Rattle.terms.specs.Valid.{Valid}
use Rattle.terms.proofs.Valid.{fields_at}
use Rattle.words.proofs.Word.{TimeFits, time_fits}
use Rattle.deduction.specs.Known.{Known}
use Rattle.deduction.proofs.Known.{known_self}
use Rattle.deduction.specs.Public.{public_of}
use Rattle.deduction.proofs.Public.{Free, public_free, free_public}
use Rattle.deduction.proofs.Synth.{Synth, of_known}
use Rattle.synthesis.specs.Compose.{operands_of}

-- term t can be put together from the terms of the set ws
abbrev pub Composable : (n flags : ℕ) (ts : List ℕ) (count : ℕ) (ws : List ℕ) (t : ℕ) → Type 0
Composable n flags ts count ws t = Synth n flags (Known ts count ws) (message_at ts t)

-- ---- putting together, by operands

abbrev TwoWay : (n flags : ℕ) (ts : List ℕ) (at : ℕ) (sub : ℕ → Message) (K : Message → Type 0) → Term → Option (ℕ × ℕ) → Type 0
TwoWay n flags ts at sub K t (Some (l, r)) = (l < at) × (r < at)
    × (Synth n flags K (sub l) → Synth n flags K (sub r) → Synth n flags K (message_of sub t))
    × (Synth n flags K (message_of sub t) → K (message_of sub t) ⊎ (Synth n flags K (sub l) × Synth n flags K (sub r)))
TwoWay n flags ts at sub K t None =
    (public_of flags t ≡ true → Synth n flags K (message_of sub t))
    × (Synth n flags K (message_of sub t) → K (message_of sub t) ⊎ (public_of flags t ≡ true))

module _ (n flags : ℕ) (ts : List ℕ) (at : ℕ) (sub : ℕ → Message) (K : Message → Type 0)
    (is_key : (k : ℕ) → k < at → is_key (term_at ts k) ≡ true → sub k ≡ key (key_of (sub k))) where
  -- a term without operands is public or not
  atom : (t : Term) → Fields n ts at t → TimeFits t → (Free n flags (message_of sub t) → Synth n flags K (message_of sub t))
      → (Synth n flags K (message_of sub t) → K (message_of sub t) ⊎ Free n flags (message_of sub t)) → TwoWay n flags ts at sub K t None
  atom t f h put split =
      (λ e. put (public_free n flags ts at sub t f h e), λ y. ⊎_elim (λ k. inl k) (λ z. inr (free_public n flags ts at sub t f z)) (split y))

  two_way : (t : Term) → Fields n ts at t → TimeFits t → TwoWay n flags ts at sub K t (operands_of t)
  two_way (Principal p) f t = atom (Principal p) f t (λ z. inr z) (λ y. y)
  two_way (Time x) f t = atom (Time x) f t (λ z. inr z) (λ y. y)
  two_way (Nonce i) f t = atom (Nonce i) f t (λ z. inr z) (λ y. y)
  two_way (LongTermKey p) f t = atom (LongTermKey p) f t (λ z. inr z) (λ y. y)
  two_way (SessionKey i) f t = atom (SessionKey i) f t (λ z. inr z) (λ y. y)
  two_way (Pair l r) f t = (f.0, f.1, λ a b. inr (a, b), λ y. y)
  two_way (Encrypted b k) f t =
      let e = is_key k f.1 f.2 in
      (f.0, f.1, λ x y. inr (x, subst (Synth n flags K) e y), λ y. ⊎_elim (λ z. inl z) (λ z. inr (z.0, subst (Synth n flags K) (sym e) z.1)) y)
  two_way Unknown f t = absurd f

-- ---- a term of the table, by its operands

pub composable_known : (n flags : ℕ) (ts : List ℕ) (count : ℕ) (ws : List ℕ) (t : ℕ) → t < count → marked ws t ≡ true
    → Composable n flags ts count ws t
composable_known n flags ts count ws t h m =
    of_known n flags (Known ts count ws) (message_at ts t) (record { at = t; below = h; mark = m; is = refl })

module _ (flags : ℕ) {n : ℕ} {ts : List ℕ} {count : ℕ} (v : Valid n ts count) (ws : List ℕ) (t : ℕ) (h : t < count) where
  here : TwoWay n flags ts t (message_at ts) (Known ts count ws) (term_at ts t) (operands_of (term_at ts t))
  here =
      two_way n flags ts t (message_at ts) (Known ts count ws) (λ k lt e. key_at v.terms k (omega arith) e) (term_at ts t) (fields_at v.terms t h)
      (time_fits (get_or ts t 0))

  to : Synth n flags (Known ts count ws) (message_of (message_at ts) (term_at ts t)) → Composable n flags ts count ws t
  to = subst (Synth n flags (Known ts count ws)) (sym (message_at_lem v.terms t h))

  from : Composable n flags ts count ws t → Synth n flags (Known ts count ws) (message_of (message_at ts) (term_at ts t))
  from = subst (Synth n flags (Known ts count ws)) (message_at_lem v.terms t h)

  unknown : marked ws t ≡ false → Known ts count ws (message_of (message_at ts) (term_at ts t)) → ⊥
  unknown m k = no_true (sym m ∙ known_self flags ws v t h (subst (Known ts count ws) (sym (message_at_lem v.terms t h)) k))

  -- it is not in the set, and has no operands
  pub composable_atom : marked ws t ≡ false → operands_of (term_at ts t) ≡ None
      → Decides (public_of flags (term_at ts t)) (Composable n flags ts count ws t)
  composable_atom m e =
      let way : TwoWay n flags ts t (message_at ts) (Known ts count ws) (term_at ts t) None =
      subst (TwoWay n flags ts t (message_at ts) (Known ts count ws) (term_at ts t)) e here in
      record { yes = λ q. to (way.0 q); no = λ q y. ⊎_elim (unknown m) (λ z. no_true (sym q ∙ z)) (way.1 (from y)) }

  module _ (l r : ℕ) (e : operands_of (term_at ts t) ≡ Some (l, r)) where
    ways : TwoWay n flags ts t (message_at ts) (Known ts count ws) (term_at ts t) (Some (l, r))
    ways = subst (TwoWay n flags ts t (message_at ts) (Known ts count ws) (term_at ts t)) e here

    pub left_below : l < t
    left_below = ways.0

    pub right_below : r < t
    right_below = ways.1

    pub together : Composable n flags ts count ws l → Composable n flags ts count ws r → Composable n flags ts count ws t
    together a b = to (ways.2 a b)

    -- a term that is not in the set takes both operands
    pub apart : marked ws t ≡ false → Composable n flags ts count ws t → Composable n flags ts count ws l × Composable n flags ts count ws r
    apart m y = ⊎_elim (λ k. absurd (unknown m k)) (λ z. z) (ways.3 (from y))
