-- What follows from the definitions of the same name in specs/.
-- Assumes nothing.
use Rattle.std.specs.Prelude.{◌≡◌, ◌⊎◌, true, List, ℕ, ◌<◌}
use Rattle.std.proofs.Common.{sym, ap, ◌∙◌, subst, inl, inr, ⊎_elim, arith}
use Rattle.marks.specs.Marks.{marked}
use Rattle.words.specs.declared.Term.{Term}
use Rattle.words.specs.declared.Term.TheVariants.{Principal, Time, Nonce, LongTermKey, SessionKey, Pair, Encrypted, Unknown}
use Rattle.terms.proofs.Choice.{no_true}
use Rattle.terms.specs.Meaning.{message_of, message_at}
use Rattle.terms.proofs.Meaning.{message_at_lem, key_at, PairAt, pair_inv, EncryptedAt, encrypted_inv}
use Rattle.terms.specs.Message.{Key, Message, key, pair, encrypted}
use Rattle.terms.proofs.Number.{messages_once}
use Rattle.terms.specs.Rules.{term_at, is_key}
use Rattle.terms.proofs.RulesLaws.{Fields}
use Rattle.terms.specs.Valid.{Valid}
use Rattle.terms.proofs.Valid.{fields_at, fields_of_lem}
use Rattle.deduction.specs.Derives.{Derives}
use Rattle.deduction.specs.Public.{public_of}
use Rattle.deduction.proofs.Public.{free_public}
use Rattle.deduction.proofs.Synth.{Synth, derives_in}
use Rattle.deduction.specs.Known.{Known, Saturated}

-- ---- a key that can be put together is known or public

key_by : (n flags : ℕ) (ts : List ℕ) (at : ℕ) (sub : ℕ → Message) (K : Message → Type 0) (X : Type 0) (t : Term)
    → Fields n ts at t → is_key t ≡ true → (K (message_of sub t) → X) → Synth n flags K (message_of sub t) → X ⊎ (public_of flags t ≡ true)
key_by n flags ts at sub K X (Principal p) f e g y = no_true e
key_by n flags ts at sub K X (Time t) f e g y = no_true e
key_by n flags ts at sub K X (Nonce i) f e g y = no_true e
key_by n flags ts at sub K X (LongTermKey p) f e g y = ⊎_elim (λ x. inl (g x)) (λ z. inr (free_public n flags ts at sub (LongTermKey p) f z)) y
key_by n flags ts at sub K X (SessionKey i) f e g y = ⊎_elim (λ x. inl (g x)) (λ z. inr (free_public n flags ts at sub (SessionKey i) f z)) y
key_by n flags ts at sub K X (Pair l r) f e g y = no_true e
key_by n flags ts at sub K X (Encrypted b k) f e g y = no_true e
key_by n flags ts at sub K X Unknown f e g y = no_true e

module _ (flags : ℕ) (ws : List ℕ) {n : ℕ} {ts : List ℕ} {count : ℕ} (v : Valid n ts count) where
  -- a known message of term t marks t itself
  pub known_self : (t : ℕ) → t < count → Known ts count ws (message_at ts t) → marked ws t ≡ true
  known_self t h k = subst (λ (i : ℕ). marked ws i ≡ true) (messages_once v k.at t k.below h k.is) k.mark

  pub key_open : (k : ℕ) → k < count → is_key (term_at ts k) ≡ true → Synth n flags (Known ts count ws) (message_at ts k)
      → (marked ws k ≡ true) ⊎ (public_of flags (term_at ts k) ≡ true)
  key_open k h e y =
      let at = message_at_lem v.terms k h in
      key_by n flags ts k (message_at ts) (Known ts count ws) (marked ws k ≡ true) (term_at ts k) (fields_at v.terms k h) e
      (λ x. known_self k h (subst (Known ts count ws) (sym at) x)) (subst (Synth n flags (Known ts count ws)) at y)

  module _ (sat : Saturated flags ts count ws) where
    known_halves : {a b : Message} → Known ts count ws (pair a b) → Known ts count ws a × Known ts count ws b
    known_halves {a} {b} k =
        let p : PairAt (message_at ts) a b (term_at ts k.at) =
        pair_inv (message_at ts) (term_at ts k.at) (sym (message_at_lem v.terms k.at k.below) ∙ k.is) in
        let f = fields_of_lem v.terms k.at k.below p.2 in
        let m = sat.halves k.at p.0 p.1 k.below k.mark p.2 in (
          record { at = p.0; below = omega (arith, k.below, f.0); mark = m.0; is = p.3 },
          record { at = p.1; below = omega (arith, k.below, f.1); mark = m.1; is = p.4 },
        )

    known_body : {m : Message} {k : Key} → Known ts count ws (encrypted m k) → Synth n flags (Known ts count ws) (key k) → Known ts count ws m
    known_body {m} {k} w y =
        let p : EncryptedAt (message_at ts) m k (term_at ts w.at) =
        encrypted_inv (message_at ts) (term_at ts w.at) (sym (message_at_lem v.terms w.at w.below) ∙ w.is) in
        let f = fields_of_lem v.terms w.at w.below p.2 in
        let lt : p.1 < count = omega (arith, w.below, f.1) in
        let same : message_at ts p.1 ≡ key k = key_at v.terms p.1 lt f.2 ∙ ap key p.4 in
        let o = key_open p.1 lt f.2 (subst (Synth n flags (Known ts count ws)) (sym same) y) in
        record {
          at = p.0;
          below = omega (arith, w.below, f.0);
          mark = sat.bodies w.at p.0 p.1 w.below w.mark p.2 o;
          is = p.3;
        }

    pub derives_synth : {Wire : Message → Type 0} → ((m : Message) → Wire m → Known ts count ws m)
        → {m : Message} → Derives n flags Wire m → Synth n flags (Known ts count ws) m
    derives_synth {Wire = W} g =
        derives_in n flags W (Known ts count ws) g (λ a b k. known_halves k) (λ m k w y. known_body w y)
