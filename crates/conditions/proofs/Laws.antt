-- Each way out of `admit`, and what its number says.
-- Assumes nothing.
use Rattle.std.specs.Prelude.{ℕ, ◌≤◌, Bool, not, cond, List, ◌↔◌, ◌⊎◌, ◌≡◌}
use Rattle.std.proofs.Math.Bool.{true, false}
use Rattle.std.proofs.Common.{inl, inr, sym, ◌∙◌}
use Rattle.std.proofs.Math.Path.{refl}
use Rattle.std.proofs.Math.Decide.{ℕ_discrete}
use native.Mathlib.Omega.{arith}
use Rattle.traces.specs.Lists.{◌∈◌, here, there}
use Rattle.replay.specs.Cache.{cache_refusal}
use Rattle.replay.proofs.CacheLaws.Calls.{refusal_number}
use Rattle.replay.specs.declared.entry.Entry.{Entry}
use Rattle.realm.specs.declared.header.Realm.{Realm}
use Rattle.conditions.specs.Conditions.{ticket_lives, authenticator_lives, not_ahead, admission, admission_refusals}

-- the number by its tests, ticket and authenticator live and the time is not ahead, and the cache's number
abbrev chosen : (a b c : Bool) → ℕ → ℕ
chosen a b c k = cond (not a) 16 (cond (not b) 17 (cond (not c) 22 k))

not_22 : {k : ℕ} → (k ≡ 0) ⊎ ((18 ≤ k) × (k ≤ 19)) → k ≡ 22 → ⊥
not_22 (inl z) e = omega arith
not_22 (inr (low, high)) e = omega arith

module _ (h : Realm) (cache : List Entry) (ts : ℕ) (e : Entry) where
  pub ticket_over : ticket_lives h ts ≡ false → ◌≡◌ {A = ℕ} 16 (admission h cache ts e)
  unfolding admission
  ticket_over p = rw p

  module _ (ticket : ticket_lives h ts ≡ true) where
    pub authenticator_over : authenticator_lives h e.ta ≡ false → ◌≡◌ {A = ℕ} 17 (admission h cache ts e)
    unfolding admission
    authenticator_over p = rw (ticket, p)

    module _ (authenticator : authenticator_lives h e.ta ≡ true) where
      pub too_far_ahead : not_ahead h e.ta ≡ false → ◌≡◌ {A = ℕ} 22 (admission h cache ts e)
      unfolding admission
      too_far_ahead p = rw (ticket, authenticator, p)

      pub by_cache : not_ahead h e.ta ≡ true → cache_refusal cache h.entries e ≡ admission h cache ts e
      unfolding admission
      by_cache p = rw (ticket, authenticator, p)

      -- no other way gives 22
      pub ahead_exact : (admission h cache ts e ≡ 22) ↔ (not_ahead h e.ta ≡ false)
      ahead_exact = (λ z. by (not_ahead h e.ta) refl z, λ p. sym (too_far_ahead p))
        where
          by : (c : Bool) → not_ahead h e.ta ≡ c → admission h cache ts e ≡ 22 → c ≡ false
          by false p z = refl
          by true p z = absurd (not_22 (refusal_number cache h.entries e) (by_cache p ∙ z))

  -- and the way back from 0
  pub admission_passed : admission h cache ts e ≡ 0
      → (ticket_lives h ts ≡ true) × (authenticator_lives h e.ta ≡ true) × (not_ahead h e.ta ≡ true) × (cache_refusal cache h.entries e ≡ 0)
  unfolding admission
  admission_passed = by (ticket_lives h ts) (authenticator_lives h e.ta) (not_ahead h e.ta) (cache_refusal cache h.entries e)
    where
      by : (a b c : Bool) (k : ℕ) → chosen a b c k ≡ 0 → (a ≡ true) × (b ≡ true) × (c ≡ true) × (k ≡ 0)
      by true true true k z = (refl, refl, refl, z)
      by true true false k z = absurd (omega arith)
      by true false c k z = absurd (omega arith)
      by false b c k z = absurd (omega arith)

  -- what it is where it is not 0
  pub admission_number : (admission h cache ts e ≡ 0) ⊎ (admission h cache ts e ∈ admission_refusals)
  unfolding admission
  admission_number =
      by (ticket_lives h ts) (authenticator_lives h e.ta) (not_ahead h e.ta) (cache_refusal cache h.entries e) (refusal_number cache h.entries e)
    where
      of_cache : (k : ℕ) → 18 ≤ k → k ≤ 19 → Dec (k ≡ 18) → k ∈ admission_refusals
      of_cache k low high (yes z) = rw z (there (there (there here)))
      of_cache k low high (no z) = let z : k ≡ 19 = omega arith in rw z (there (there (there (there here))))

      by : (a b c : Bool) (k : ℕ) → (k ≡ 0) ⊎ ((18 ≤ k) × (k ≤ 19)) → (chosen a b c k ≡ 0) ⊎ (chosen a b c k ∈ admission_refusals)
      by true true true k (inl z) = inl z
      by true true true k (inr (low, high)) = inr (of_cache k low high (ℕ_discrete k 18))
      by true true false k i = inr (there (there here))
      by true false c k i = inr (there here)
      by false b c k i = inr here
