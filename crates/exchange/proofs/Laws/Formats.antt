-- The table of header marks by its laws: what every row has, and the row of each mark.
-- Assumes nothing.
use Rattle.std.specs.Prelude.{ℕ, ◌^◌, ◌<◌, ◌≤◌, ◌≡◌, refl, Bool, true, false, cond, List, [], ◌∷◌, eqb, Some, Option, find}
use Rattle.std.proofs.Common.{subst, arith, eqb-true}
use Rattle.exchange.specs.declared.header.Flags.{Flags}
use Rattle.exchange.specs.declared.header.Flags.TheVariants.{Bits16, Bits32}
use Rattle.exchange.specs.declared.header.Format.{Format}
use Rattle.exchange.specs.Formats.{hd, wide, hw, h5, h4, formats, format_of}
use Rattle.exchange.specs.Forms.{RULE_SETS}

-- ---- what every row has

abbrev Each : (P : Format → Type 0) → List Format → Type 0
Each P [] = Unit {0}
Each P (f ∷ fs) = P f × Each P fs

-- a row that was found has the mark, and what all rows have
abbrev row_of : (mark : ℕ) → List Format → Option Format
row_of mark fs = find (λ (f : Format). eqb f.mark mark) fs

found : (P : Format → Type 0) (mark : ℕ) (fs : List Format) (f : Format) → Each P fs → row_of mark fs ≡ Some f → (f.mark ≡ mark) × P f
found P mark [] f all e = let z : ◌≡◌ {A = ℕ} 0 1 = cc in absurd (omega arith)
found P mark (g ∷ fs) f all e = by (eqb g.mark mark) refl e (found P mark fs f all.1)
  where
    by : (b : Bool) → eqb g.mark mark ≡ b → cond b (Some g) (row_of mark fs) ≡ Some f → (row_of mark fs ≡ Some f → (f.mark ≡ mark) × P f) → (f.mark ≡ mark) × P f
    by true same is later = let same_row : g ≡ f = cc in subst (λ (x : Format). (x.mark ≡ mark) × P x) same_row (eqb-true _ mark same, all.0)
    by false other is later = later is

abbrev pub bits : Flags → ℕ
bits Bits16 = 16
bits Bits32 = 32

-- a row: its mark has two bytes, each of its principals a flag, and its rule set is one of those that there are
pub record Sound (f : Format) : Type 0 where
  pub mark_fits : f.mark < 2 ^ 16
  pub flag_each : f.most ≤ bits f.flags
  pub rules_known : f.rules < RULE_SETS

bits_most : (x : Flags) → bits x ≤ 32
bits_most Bits16 = omega arith
bits_most Bits32 = omega arith

wide_sound : (mark rules : ℕ) → mark < 2 ^ 16 → rules < RULE_SETS → Sound (wide mark rules)
wide_sound mark rules m r = record { mark_fits = m; flag_each = omega arith; rules_known = r }

pub format_found : (mark : ℕ) (f : Format) → format_of mark ≡ Some f → (f.mark ≡ mark) × Sound f
unfolding formats
format_found mark f e =
    found Sound mark formats f (
      record { mark_fits = omega arith; flag_each = omega arith; rules_known = omega arith },
      (wide_sound 0x4857 0 (omega arith) (omega arith), (wide_sound 0x4835 1 (omega arith) (omega arith), (wide_sound 0x4834 2 (omega arith) (omega arith), tt))),
    ) e

-- so a mark that is known allows at most 32 principals
pub most_known : (mark : ℕ) (f : Format) → format_of mark ≡ Some f → f.most ≤ 32
most_known mark f e = omega (arith, (format_found mark f e).1.flag_each, bits_most f.flags)

-- ---- the marks

pub hd_known : format_of 0x4844 ≡ Some hd
unfolding formats
hd_known = refl

pub hw_known : format_of 0x4857 ≡ Some hw
unfolding formats
hw_known = refl

pub h5_known : format_of 0x4835 ≡ Some h5
unfolding formats
h5_known = refl

pub h4_known : format_of 0x4834 ≡ Some h4
unfolding formats
h4_known = refl
