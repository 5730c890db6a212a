-- What a call on the term table comes to, in the paper's numbers: the answer, and the table with how many terms it has, every
-- place of it. The promises of the calls are equations between outcomes.
-- Assumes nothing.
use Rattle.std.specs.Prelude.{List, ℕ}

-- a term's number, or a refusal's: "A refusal is its number alone"
pub data TermAnswer : Type 0 where
  number : ℕ → TermAnswer
  refused : ℕ → TermAnswer

pub record TermOutcome : Type 0 where
  pub answer : TermAnswer
  pub count : ℕ
  pub table : List ℕ

abbrev pub accept : (i count : ℕ) → List ℕ → TermOutcome
accept i count ts = record { answer = number i; count = count; table = ts }

-- "State, wire, cache and terms stay unchanged."
abbrev pub refuse : (r count : ℕ) → List ℕ → TermOutcome
refuse r count ts = record { answer = refused r; count = count; table = ts }
