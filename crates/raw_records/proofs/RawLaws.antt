-- What follows from the definitions of the same name in specs/.
-- Assumes nothing.
use Rattle.std.specs.Prelude.{◌≡◌, refl, List, [], ◌∷◌, ℕ, ◌+◌, ◌*◌, ◌<◌, ◌≤◌, length, get_or, drop, Option, Some, None}
use Rattle.std.proofs.Common.{ap, ◌∙◌, arith, length-drop, get_or-drop, drop-drop}
use borrow.Author.Tests.{eq-eqb, ne_eqb}
use Rattle.records.specs.Records.{term_mark, step_mark}
use Rattle.raw_records.specs.declared.raw.RawRecord.{RawRecord}
use Rattle.raw_records.specs.declared.raw.RawRecord.TheVariants.{Term, Step}
use Rattle.raw_records.specs.Raw.{raw_by, records_of, raw_at}

-- ---- laws: record by record

seven : (rest : List ℕ) → 7 ≤ length rest → records_of rest ≡ raw_at rest 0 ∷ records_of (drop 7 rest)
unfolding records_of
seven [] h = absurd (omega arith)
seven (_ ∷ []) h = absurd (omega arith)
seven (_ ∷ _ ∷ []) h = absurd (omega arith)
seven (_ ∷ _ ∷ _ ∷ []) h = absurd (omega arith)
seven (_ ∷ _ ∷ _ ∷ _ ∷ []) h = absurd (omega arith)
seven (_ ∷ _ ∷ _ ∷ _ ∷ _ ∷ []) h = absurd (omega arith)
seven (_ ∷ _ ∷ _ ∷ _ ∷ _ ∷ _ ∷ []) h = absurd (omega arith)
seven (mark ∷ u ∷ v ∷ w ∷ x ∷ y ∷ z ∷ rest) h = refl

front : (words : List ℕ) (at : ℕ) → get_or (drop at words) 0 0 ≡ get_or words at 0
front words at = get_or-drop at words 0 0 ∙ ap (λ (k : ℕ). get_or words k 0) (omega arith)

raw_later : (words : List ℕ) (at : ℕ) → raw_at (drop at words) 0 ≡ raw_at words at
raw_later words at =
    rw (
      front words at,
      get_or-drop at words 1 0,
      get_or-drop at words 2 0,
      get_or-drop at words 3 0,
      get_or-drop at words 4 0,
      get_or-drop at words 5 0,
      get_or-drop at words 6 0,
    )

-- the next record, and those after it
pub record_next : (words : List ℕ) (i : ℕ) → i * 7 + 7 ≤ length words
    → records_of (drop (i * 7) words) ≡ raw_at words (i * 7) ∷ records_of (drop ((i + 1) * 7) words)
record_next words i h =
    seven (drop (i * 7) words) (omega (arith, length-drop (i * 7) words))
    ∙ ap (λ (raw : Option RawRecord). raw ∷ records_of (drop 7 (drop (i * 7) words))) (raw_later words (i * 7))
    ∙ ap (λ (rest : List ℕ). raw_at words (i * 7) ∷ records_of rest) (drop-drop 7 (i * 7) words)
    ∙ ap (λ (k : ℕ). raw_at words (i * 7) ∷ records_of (drop k words)) (next i)
  where
    next : (i : ℕ) → i * 7 + 7 ≡ (i + 1) * 7
    next i = omega arith

pub none_left : (rest : List ℕ) → length rest ≡ 0 → records_of rest ≡ []
unfolding records_of
none_left [] h = refl
none_left (_ ∷ _) h = absurd (omega arith)

pub cut_short : (rest : List ℕ) → 0 < length rest → length rest < 7 → records_of rest ≡ None ∷ []
unfolding records_of
cut_short [] p h = absurd (omega arith)
cut_short (_ ∷ []) p h = refl
cut_short (_ ∷ _ ∷ []) p h = refl
cut_short (_ ∷ _ ∷ _ ∷ []) p h = refl
cut_short (_ ∷ _ ∷ _ ∷ _ ∷ []) p h = refl
cut_short (_ ∷ _ ∷ _ ∷ _ ∷ _ ∷ []) p h = refl
cut_short (_ ∷ _ ∷ _ ∷ _ ∷ _ ∷ _ ∷ []) p h = refl
cut_short (_ ∷ _ ∷ _ ∷ _ ∷ _ ∷ _ ∷ _ ∷ _) p h = absurd (omega arith)

module _ (mark u v w x y z : ℕ) where
  pub raw_term : mark ≡ term_mark → Some (Term u v w) ≡ raw_by mark u v w x y z
  unfolding raw_by
  raw_term e = rw (eq-eqb mark term_mark e)

  pub raw_step : (mark ≡ term_mark → ⊥) → mark ≡ step_mark → Some (Step u v w x y z) ≡ raw_by mark u v w x y z
  unfolding raw_by
  raw_step n e = rw (ne_eqb mark term_mark n, eq-eqb mark step_mark e)

  pub raw_none : (mark ≡ term_mark → ⊥) → (mark ≡ step_mark → ⊥) → None ≡ raw_by mark u v w x y z
  unfolding raw_by
  raw_none n o = rw (ne_eqb mark term_mark n, ne_eqb mark step_mark o)
