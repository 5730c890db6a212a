-- What follows from the definitions of the same name in specs/.
-- Assumes nothing.
use Rattle.std.specs.Prelude.{◌≡◌, refl, Option, Some, None, Bool, ◌&&◌, List, eqb}
use Rattle.std.proofs.Common.{subst, arith, eqb-true}
use Rattle.std.proofs.Math.Bool.{true, false}
use Prim.Native.Nat.{ℕ, zero, suc, ◌-◌, ◌<◌}
use Rattle.std.proofs.lemmas.Bool.{eqb-false}
use Rattle.marks.specs.Marks.{Words, marked, size}
use Rattle.terms.specs.Choice.{Decides}
use Rattle.terms.proofs.Choice.{cond_elim, proved, refuted}
use Rattle.terms.specs.Descend.{layers, descend}
use Rattle.terms.specs.Meaning.{message_at}
use Rattle.terms.specs.Rules.{term_at}
use Rattle.terms.specs.Valid.{Valid}
use Rattle.synthesis.specs.Compose.{operands_of}
use Rattle.synthesis.proofs.ComposeLaws.{Composable, composable_known, composable_atom, left_below, right_below, together, apart}
use Rattle.deduction.specs.Derives.{Derives}
use Rattle.deduction.specs.Known.{Known, Derivable, Filled}
use Rattle.deduction.proofs.Known.{derives_synth}
use Rattle.deduction.specs.Public.{public_of}
use Rattle.deduction.proofs.Synth.{synth_derives}
use Rattle.synthesis.proofs.Saturate.{Filling, fill_start, fill_more, fill_less, fill_done}
use Rattle.synthesis.specs.Sweep.{sweep_of}
use Rattle.synthesis.specs.Test.{saturate_of, made_of, compose_by, composes_of, derivable_of}

-- ---- there is fuel enough

pub saturate_fills : (flags : ℕ) {n : ℕ} {ts : List ℕ} {count : ℕ} (v : Valid n ts count) {ws : List ℕ} (fuel : ℕ) {s : List ℕ}
    → Filling n flags ts count ws s → 512 - size s < fuel → Filled n flags ts count ws (saturate_of flags ts count fuel s)
unfolding saturate_of
saturate_fills flags v zero f h = absurd (omega arith)
saturate_fills flags {n} {ts} {count} v {ws} (suc fuel) {s} f h =
    let next = sweep_of flags ts count s in
    cond_elim (Filled n flags ts count ws) (eqb (size next) (size s)) s (saturate_of flags ts count fuel next)
    (λ e. fill_done flags v f (eqb-true (size next) (size s) e))
    (λ e. saturate_fills flags v fuel (fill_more flags v f) (omega (arith, h, fill_less flags v f (eqb-false (size next) (size s) e))))

-- ---- the descent

both_decide : {P Q R : Type 0} (a b : Bool) → Decides a P → Decides b Q → (P → Q → R) → (R → P × Q) → Decides (a && b) R
both_decide true true f g i o = proved (i (f.yes refl) (g.yes refl))
both_decide true false f g i o = refuted (λ y. g.no refl (o y).1)
both_decide false b f g i o = refuted (λ y. f.no refl (o y).0)

module _ (flags : ℕ) {n : ℕ} {ts : List ℕ} {count : ℕ} (v : Valid n ts count) (ws : List ℕ) where
  made : (t : ℕ) → t < count → marked ws t ≡ false → (sub : ℕ → Bool) → ((k : ℕ) → k < t → Decides (sub k) (Composable n flags ts count ws k))
      → (o : Option (ℕ × ℕ)) → operands_of (term_at ts t) ≡ o
      → Decides (made_of sub (public_of flags (term_at ts t)) o) (Composable n flags ts count ws t)
  made t h m sub d (Some (l, r)) e =
      both_decide (sub l) (sub r) (d l (left_below flags v ws t h l r e)) (d r (right_below flags v ws t h l r e))
      (together flags v ws t h l r e) (apart flags v ws t h l r e m)
  made t h m sub d None e = composable_atom flags v ws t h m e

  layers_decide : (depth t : ℕ) → t < depth → t < count → Decides (layers false (compose_by flags ts ws) depth t) (Composable n flags ts count ws t)
  unfolding layers
  layers_decide zero t lt h = absurd (omega arith)
  layers_decide (suc depth) t lt h =
      let sub = layers false (compose_by flags ts ws) depth in
      cond_elim (λ (b : Bool). Decides b (Composable n flags ts count ws t)) (marked ws t) true
      (made_of sub (public_of flags (term_at ts t)) (operands_of (term_at ts t)))
      (λ m. proved (composable_known n flags ts count ws t h m))
      (λ m. made t h m sub (λ k below. layers_decide depth k (omega arith) (omega arith)) (operands_of (term_at ts t)) refl)

  pub composes_decides : (t : ℕ) → t < count → Decides (composes_of flags ts ws t) (Composable n flags ts count ws t)
  unfolding composes_of descend
  composes_decides t h = layers_decide (suc t) t (omega arith) h

-- ---- the whole test

-- what can be put together from the saturated set is what can be derived
module _ (flags : ℕ) {n : ℕ} {ts : List ℕ} {count : ℕ} (v : Valid n ts count) {ws ws₁ : List ℕ} (f : Filled n flags ts count ws ws₁) (t : ℕ) where
  pub composable_derives : Composable n flags ts count ws₁ t → Derivable n flags ts count ws t
  composable_derives =
      synth_derives n flags (Known ts count ws₁) (Known ts count ws)
      (λ m k. subst (Derives n flags (Known ts count ws)) k.is (f.sound k.at k.below k.mark)) (message_at ts t)

  pub derives_composable : Derivable n flags ts count ws t → Composable n flags ts count ws₁ t
  derives_composable =
      derives_synth flags ws₁ v f.full (λ m k. record { at = k.at; below = k.below; mark = f.holds k.at k.below k.mark; is = k.is })

  pub decided : {ok : Bool} → Decides ok (Composable n flags ts count ws₁ t) → Decides ok (Derivable n flags ts count ws t)
  decided b = record { yes = λ q. composable_derives (b.yes q); no = λ q d. b.no q (derives_composable d) }

pub test_decides : (flags : ℕ) {n : ℕ} {ts : List ℕ} {count : ℕ} (v : Valid n ts count) {ws : List ℕ} → Words 8 ws → (t : ℕ) → t < count
    → Decides (derivable_of flags ts count ws t) (Derivable n flags ts count ws t)
unfolding derivable_of
test_decides flags {ts = ts} {count} v {ws} w t h =
    let s = saturate_of flags ts count 513 ws in
    decided flags v (saturate_fills flags v 513 (fill_start flags v w) (omega arith)) t (composes_decides flags v s t h)
