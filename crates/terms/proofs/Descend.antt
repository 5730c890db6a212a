-- What follows from the definitions of the same name in specs/.
-- Assumes nothing.
use Rattle.std.specs.Prelude.{◌≡◌}
use Rattle.std.proofs.Math.Path.{refl}
use Rattle.std.proofs.Common.{◌∙◌, arith}
use Prim.Native.Nat.{ℕ, zero, suc, ◌<◌}
use Rattle.std.proofs.Math.Decide.{le_ind}
use Rattle.terms.specs.Descend.{layers, descend}

-- below `count` the reading of i asks for numbers below i only
abbrev pub Falls : {X : Type 0} → (ℕ → (ℕ → X) → X) → ℕ → Type 0
Falls {X} f count = (i : ℕ) → i < count → (g h : ℕ → X) → ((k : ℕ) → k < i → g k ≡ h k) → f i g ≡ f i h

module _ {X : Type 0} (bottom : X) (f : ℕ → (ℕ → X) → X) (count : ℕ) (falls : Falls f count) where
  more : (depth i : ℕ) → i < depth → i < count → layers bottom f (suc depth) i ≡ layers bottom f depth i
  unfolding layers
  more zero i h hi = absurd (omega arith)
  more (suc d) i h hi = falls i hi (layers bottom f (suc d)) (layers bottom f d) (λ k lt. more d k (omega arith) (omega arith))

  any_depth : (depth i : ℕ) → i < depth → i < count → layers bottom f depth i ≡ descend bottom f i
  unfolding descend
  any_depth depth i h hi =
      le_ind (λ (d : ℕ). layers bottom f d i ≡ layers bottom f (suc i) i) refl (λ d k e. more d i k hi ∙ e) depth h

  pub descend_at : (i : ℕ) → i < count → descend bottom f i ≡ f i (descend bottom f)
  unfolding descend layers
  descend_at i h = falls i h (layers bottom f i) (descend bottom f) (λ k lt. any_depth i k lt (omega arith))

  -- two readings that are the same layer by layer are the same
  module _ (f' : ℕ → (ℕ → X) → X) (same : (i : ℕ) → i < count → (g : ℕ → X) → f i g ≡ f' i g) where
    same_layers : (d i : ℕ) → i < count → layers bottom f d i ≡ layers bottom f' d i
    unfolding layers
    same_layers zero i h = refl
    same_layers (suc d) i h =
        falls i h (layers bottom f d) (layers bottom f' d) (λ k lt. same_layers d k (omega arith)) ∙ same i h (layers bottom f' d)

    pub descend_same : (i : ℕ) → i < count → descend bottom f i ≡ descend bottom f' i
    unfolding descend
    descend_same i h = same_layers (suc i) i h
