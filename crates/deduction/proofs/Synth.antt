-- What can be put together from a set K of messages. For a K that is closed under taking apart it is all that can be
-- derived (`derives_in`). It is a function of the message, so that nothing has to be inverted.
-- Assumes nothing.
use Rattle.std.specs.Prelude.{◌⊎◌, ℕ}
use Rattle.std.proofs.Common.{inl, inr, ⊎_elim}
use Rattle.terms.specs.Message.{Key, Message, principal, time, nonce, key, pair, encrypted}
use Rattle.deduction.specs.Derives.{Derives, on_wire, a_principal, a_time, bad_key, own_nonce, own_key, left, right, decrypt, join, encrypt}
use Rattle.deduction.proofs.Public.{Free, free}

-- m is in K, or free, or put together from such
abbrev pub Synth : (n flags : ℕ) (K : Message → Type 0) → Message → Type 0
Synth n flags K (principal p) = K (principal p) ⊎ Free n flags (principal p)
Synth n flags K (time t) = K (time t) ⊎ Free n flags (time t)
Synth n flags K (nonce i) = K (nonce i) ⊎ Free n flags (nonce i)
Synth n flags K (key k) = K (key k) ⊎ Free n flags (key k)
Synth n flags K (pair a b) = K (pair a b) ⊎ (Synth n flags K a × Synth n flags K b)
Synth n flags K (encrypted m k) = K (encrypted m k) ⊎ (Synth n flags K m × (K (key k) ⊎ Free n flags (key k)))

module _ (n flags : ℕ) (K : Message → Type 0) where
  pub of_known : (m : Message) → K m → Synth n flags K m
  of_known (principal p) k = inl k
  of_known (time t) k = inl k
  of_known (nonce i) k = inl k
  of_known (key x) k = inl k
  of_known (pair a b) k = inl k
  of_known (encrypted m x) k = inl k

  of_free : (m : Message) → Free n flags m → Synth n flags K m
  of_free (principal p) f = inr f
  of_free (time t) f = inr f
  of_free (nonce i) f = inr f
  of_free (key x) f = inr f
  of_free (pair a b) f = absurd f
  of_free (encrypted m x) f = absurd f

  -- whatever is closed under putting together holds the whole of it
  pub synth_derives : (Wire : Message → Type 0) → ((m : Message) → K m → Derives n flags Wire m) → (m : Message) → Synth n flags K m → Derives n flags Wire m
  synth_derives W g (principal p) s = ⊎_elim (g (principal p)) (free (principal p)) s
  synth_derives W g (time t) s = ⊎_elim (g (time t)) (free (time t)) s
  synth_derives W g (nonce i) s = ⊎_elim (g (nonce i)) (free (nonce i)) s
  synth_derives W g (key x) s = ⊎_elim (g (key x)) (free (key x)) s
  synth_derives W g (pair a b) s =
      ⊎_elim (g (pair a b)) (λ p. join (synth_derives W g a p.0) (synth_derives W g b p.1)) s
  synth_derives W g (encrypted m x) s =
      ⊎_elim (g (encrypted m x)) (λ p. encrypt (synth_derives W g m p.0) (⊎_elim (g (key x)) (free (key x)) p.1)) s

-- what can be derived is what can be put together from a set A that holds the wire, halves of its pairs, and bodies of
-- its encryptions where the key can be put together
pub derives_in : (n flags : ℕ) (Wire A : Message → Type 0) → ((m : Message) → Wire m → A m)
    → ((a b : Message) → A (pair a b) → A a × A b) → ((m : Message) (k : Key) → A (encrypted m k) → Synth n flags A (key k) → A m)
    → {m : Message} → Derives n flags Wire m → Synth n flags A m
derives_in n flags W A g h o {m} (on_wire w) = of_known n flags A m (g m w)
derives_in n flags W A g h o {m} (a_principal f) = of_free n flags A m f
derives_in n flags W A g h o {m} (a_time f) = of_free n flags A m f
derives_in n flags W A g h o {m} (bad_key f) = of_free n flags A m f
derives_in n flags W A g h o {m} (own_nonce f) = of_free n flags A m f
derives_in n flags W A g h o {m} (own_key f) = of_free n flags A m f
derives_in n flags W A g h o {m} (left {b = b} d) = ⊎_elim (λ k. of_known n flags A m (h m b k).0) (λ p. p.0) (derives_in n flags W A g h o d)
derives_in n flags W A g h o {m} (right {a = a} d) = ⊎_elim (λ k. of_known n flags A m (h a m k).1) (λ p. p.1) (derives_in n flags W A g h o d)
derives_in n flags W A g h o {m} (decrypt {k = k} d e) =
    ⊎_elim (λ w. of_known n flags A m (o m k w (derives_in n flags W A g h o e))) (λ p. p.0) (derives_in n flags W A g h o d)
derives_in n flags W A g h o (join d e) = inr (derives_in n flags W A g h o d, derives_in n flags W A g h o e)
derives_in n flags W A g h o (encrypt d e) = inr (derives_in n flags W A g h o d, derives_in n flags W A g h o e)
