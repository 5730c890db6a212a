-- What follows from the definitions of the same name in specs/.
-- Assumes nothing.
use Rattle.std.specs.Prelude.{ℕ, ◌<◌, ◌≡◌}
use Rattle.std.proofs.Common.{inl, inr}
use Rattle.std.proofs.Math.Decide.{ℕ_discrete, dec_lt}
use Rattle.marks.specs.Bits.{bit}
use Rattle.terms.specs.Message.{Key, long_term, session, Message, encrypted}
use Rattle.deduction.specs.Derives.{Bad}
use Rattle.deduction.specs.Secrecy.{Guarded}
use Rattle.traces.specs.Realm.{Realm}
use Rattle.traces.specs.Secrets.{Secret}

bad? : (R : Realm) (p : ℕ) → Dec (Bad R.n R.flags p)
bad? R p = go (dec_lt p R.n) (ℕ_discrete (bit R.flags p) 1)
  where
    go : Dec (p < R.n) → Dec (bit R.flags p ≡ 1) → Dec (Bad R.n R.flags p)
    go (yes i) (yes f) = yes (record { present = i; flagged = f })
    go (yes i) (no f) = no (λ b. f b.flagged)
    go (no i) f = no (λ b. i b.present)

module _ (R : Realm) (X : ℕ → Type 0) (Made : Message → Type 0) where
  pub under_long_term : (p : ℕ) (m : Message) → Made (encrypted m (long_term p)) → (Bad R.n R.flags p → Guarded (Secret R X) Made m)
      → Guarded (Secret R X) Made (encrypted m (long_term p))
  under_long_term p m s f = go (bad? R p)
    where
      go : Dec (Bad R.n R.flags p) → Guarded (Secret R X) Made (encrypted m (long_term p))
      go (yes b) = inr ((λ g. g b), f b)
      go (no g) = inl (g, s)

  pub under_session : (k : ℕ) (m : Message) → Dec (X k) → Made (encrypted m (session k)) → Guarded (Secret R X) Made m
      → Guarded (Secret R X) Made (encrypted m (session k))
  under_session k m (yes x) s f = inl (x, s)
  under_session k m (no x) s f = inr (x, f)

-- What holds where an encryption was made, and where its body is guarded, holds of a guarded one. By this a part that is sent on
-- unopened is guarded.
pub inside : (S : Key → Type 0) (Made : Message → Type 0) (m : Message) (k : Key) {D : Type 0} → (Made (encrypted m k) → D) → (Guarded S Made m → D)
    → Guarded S Made (encrypted m k) → D
inside S Made m k made body (inl h) = made h.1
inside S Made m k made body (inr h) = body h.1
