-- The records of a file as words: what `raw_records` says a caller hands to the writer, from what `records` says a file holds.
-- Assumes nothing.
use Rattle.std.specs.Prelude.{Result, Ok, Err, List, ℕ, drop}
use Rattle.std.proofs.Math.ListN.{length}
use Rattle.records.specs.Calls.{Ending, ended, broken, calls_of}
use Rattle.raw_records.specs.Calls.{words_for}
use Rattle.fields.specs.Placed.{placed}

-- ---- definitions

-- the answer, and the words after it
pub record ReadOutcome : Type 0 where
  pub answer : Result ℕ ℕ
  pub words : List ℕ

abbrev pub read_outcome : Result ℕ ℕ → List ℕ → ReadOutcome
read_outcome r words = record { answer = r; words = words }

-- how many words were read, or the number of the refusal, where reading ended before the file does
abbrev pub answer_by : Ending → (count : ℕ) → Result ℕ ℕ
answer_by ended count = Ok count
answer_by broken count = Err 3

-- the words of the records of a file, from a place on and up to where reading ends
abbrev pub file_words : (from : ℕ) → List ℕ → List ℕ
file_words from file = words_for (calls_of (drop from file)).calls

-- they stand at the front, and what stands behind them is kept
unfoldable pub read_of : (from : ℕ) (file words : List ℕ) → ReadOutcome
read_of from file words = read_outcome (answer_by (calls_of (drop from file)).ending (length (file_words from file))) (placed words 0 (file_words from file))
