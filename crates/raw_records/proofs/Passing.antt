-- Going through the records one by one: what is left of them, and of their refusals, after i of them.
-- Assumes nothing.
use Rattle.std.specs.Prelude.{◌≡◌, List, ℕ, ◌+◌, ◌*◌, ◌<◌, ◌≤◌, length, drop, Option}
use Rattle.std.proofs.Common.{sym, ◌∙◌, arith}
use Rattle.std.proofs.Math.Path.{ap}
use Rattle.std.proofs.Math.ListN.{length-drop}
use Rattle.raw_records.specs.declared.raw.RawRecord.{RawRecord}
use Rattle.raw_records.specs.Raw.{records_of, raw_at}
use Rattle.raw_records.proofs.RawLaws.{record_next, none_left, cut_short}
use Rattle.raw_records.specs.Refusals.{first, own_refusal, records_refusal}
use Rattle.raw_records.proofs.Refusals.{first_some}

-- the records that are left after i of them
abbrev pub records_from : List ℕ → ℕ → List (Option RawRecord)
records_from words i = records_of (drop (i * 7) words)

module _ (n : ℕ) (words : List ℕ) (i : ℕ) where
  pub refused_here : i * 7 + 7 ≤ length words → {k : ℕ} → k ≡ own_refusal n (raw_at words (i * 7)) → (k ≡ 0 → ⊥) → k ≡ records_refusal n (records_from words i)
  refused_here h {k} e s =
      first_some k (records_refusal n (records_from words (i + 1))) s
      ∙ ap (λ (a : ℕ). first a (records_refusal n (records_from words (i + 1)))) e
      ∙ ap (records_refusal n) (sym (record_next words i h))

  pub refused_later : i * 7 + 7 ≤ length words → {k : ℕ} → k ≡ own_refusal n (raw_at words (i * 7)) → k ≡ 0
      → records_refusal n (records_from words i) ≡ records_refusal n (records_from words (i + 1))
  refused_later h {k} e z =
      ap (records_refusal n) (record_next words i h)
      ∙ ap (λ (a : ℕ). first a (records_refusal n (records_from words (i + 1)))) (sym e ∙ z)

  pub refused_cut : i * 7 < length words → length words < i * 7 + 7 → records_refusal n (records_from words i) ≡ 3
  unfolding own_refusal
  refused_cut l h = ap (records_refusal n) (cut_short (drop (i * 7) words) (omega (arith, length-drop (i * 7) words)) (omega (arith, length-drop (i * 7) words)))

  pub refused_none : length words ≡ i * 7 → records_refusal n (records_from words i) ≡ 0
  refused_none h = ap (records_refusal n) (none_left (drop (i * 7) words) (omega (arith, length-drop (i * 7) words)))
