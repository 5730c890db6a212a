-- The list of records that is handed in: words of 32 bits, seven a record, its mark and then its fields in the order of the file.
-- Assumes nothing.
use Rattle.std.specs.Prelude.{cond, List, [], ◌∷◌, ℕ, ◌+◌, eqb, get_or, Option, Some, None}
use Rattle.records.specs.Records.{term_mark, step_mark}
use Rattle.raw_records.specs.declared.raw.RawRecord.{RawRecord}
use Rattle.raw_records.specs.declared.raw.RawRecord.TheVariants.{Term, Step}

-- ---- definitions

-- a record by its mark and the six words after it; a term leaves the last three
unfoldable pub raw_by : (mark u v w x y z : ℕ) → Option RawRecord
raw_by mark u v w x y z = cond (eqb mark term_mark) (Some (Term u v w)) (cond (eqb mark step_mark) (Some (Step u v w x y z)) None)

-- the records of a list of words; one that is cut short at the end is no known record
unfoldable pub records_of : List ℕ → List (Option RawRecord)
records_of [] = []
records_of (_ ∷ []) = None ∷ []
records_of (_ ∷ _ ∷ []) = None ∷ []
records_of (_ ∷ _ ∷ _ ∷ []) = None ∷ []
records_of (_ ∷ _ ∷ _ ∷ _ ∷ []) = None ∷ []
records_of (_ ∷ _ ∷ _ ∷ _ ∷ _ ∷ []) = None ∷ []
records_of (_ ∷ _ ∷ _ ∷ _ ∷ _ ∷ _ ∷ []) = None ∷ []
records_of (mark ∷ u ∷ v ∷ w ∷ x ∷ y ∷ z ∷ rest) = raw_by mark u v w x y z ∷ records_of rest

-- the record whose words begin at a place
abbrev pub raw_at : List ℕ → ℕ → Option RawRecord
raw_at words at =
    raw_by (get_or words at 0) (get_or words (at + 1) 0) (get_or words (at + 2) 0) (get_or words (at + 3) 0) (get_or words (at + 4) 0) (get_or words (at + 5) 0)
    (get_or words (at + 6) 0)
