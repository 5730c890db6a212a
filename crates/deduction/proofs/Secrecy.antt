-- What follows from the definitions of the same name in specs/.
-- Assumes nothing.
use Rattle.std.specs.Prelude.{ℕ, ◌⊎◌}
use Rattle.std.proofs.Common.{inl, inr}
use Rattle.terms.specs.Message.{Key, long_term, session, Message, encrypted}
use Rattle.deduction.specs.Derives.{Own, Bad, Derives, on_wire, a_principal, a_time, bad_key, own_nonce, own_key, left, right, decrypt, join, encrypt}
use Rattle.deduction.specs.Secrecy.{Guarded}

-- More on the wire derives more.
pub derives_more : {n flags : ℕ} {W W' : Message → Type 0} → ((m : Message) → W m → W' m) → {m : Message} → Derives n flags W m → Derives n flags W' m
derives_more f (on_wire h) = on_wire (f _ h)
derives_more f (a_principal h) = a_principal h
derives_more f (a_time h) = a_time h
derives_more f (bad_key h) = bad_key h
derives_more f (own_nonce h) = own_nonce h
derives_more f (own_key h) = own_key h
derives_more f (left h) = left (derives_more f h)
derives_more f (right h) = right (derives_more f h)
derives_more f (decrypt h k) = decrypt (derives_more f h) (derives_more f k)
derives_more f (join x y) = join (derives_more f x) (derives_more f y)
derives_more f (encrypt h k) = encrypt (derives_more f h) (derives_more f k)

module _ (n flags : ℕ) (Wire : Message → Type 0) (S : Key → Type 0) (I : Message → Type 0)
    (safe : (m : Message) → Wire m → Guarded S I m)
    (not_own : (i : ℕ) → Own i → ¬ (S (session i)))
    (notBad : (p : ℕ) → Bad n flags p → ¬ (S (long_term p))) where
  opened : {m : Message} {k : Key} → Guarded S I (encrypted m k) → ¬ (S k) → Guarded S I m
  opened (inl h) open' = absurd (open' h.0)
  opened (inr h) open' = h.1

  pub guarded : {m : Message} → Derives n flags Wire m → Guarded S I m
  guarded (on_wire h) = safe _ h
  guarded (a_principal h) = tt
  guarded (a_time h) = tt
  guarded (bad_key h) = notBad _ h
  guarded (own_nonce h) = tt
  guarded (own_key h) = not_own _ h
  guarded (left h) = (guarded h).0
  guarded (right h) = (guarded h).1
  guarded (decrypt h k) = opened (guarded h) (guarded k)
  guarded (join x y) = (guarded x, guarded y)
  guarded (encrypt h k) = inr (guarded k, guarded h)

-- A guarded encryption under a secret key (A) was issued (B); if its body is not guarded (C), its key is secret.
pub was_issued : {A B C : Type 0} → A → (A × B) ⊎ ((¬ A) × C) → B
was_issued a (inl h) = h.1
was_issued a (inr h) = absurd (h.0 a)

pub is_secret : {A B C : Type 0} → ¬ C → (A × B) ⊎ ((¬ A) × C) → A
is_secret f (inl h) = h.0
is_secret f (inr h) = absurd (f h.1)
