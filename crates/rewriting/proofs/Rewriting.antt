-- What follows from the definitions of the same name in specs/.
-- Assumes nothing.
use Rattle.std.specs.Prelude.{Result, Ok, List, ◌≡◌, ℕ, drop, replicate}
use Rattle.std.proofs.Common.{sym, ◌∙◌}
use Rattle.std.proofs.Math.Path.{ap}
use Rattle.exchange.specs.declared.header.Header.{Header}
use Rattle.records.specs.Headers.{header_width, header_of}
use Rattle.records.specs.Calls.{Ending, calls_of}
use Rattle.writer.specs.Write.{WriteOutcome, write_outcome, write_of}
use Rattle.rewriting.specs.Rewriting.{offset, places, compared_by, written_back, by_ending, by_header, rewritten_of}

-- ---- laws: by the way out

pub compared_is : (g : Header) (words file : List ℕ) {r : Result ℕ ℕ} {after : List ℕ}
    → write_outcome r after ≡ write_of g words (replicate places 0) offset → compared_by r after file ≡ written_back g words file
unfolding written_back
compared_is g words file e = ap (λ (o : WriteOutcome). compared_by o.answer o.buffer file) e

module _ (file : List ℕ) where
  pub by_header_lem : {h : Result Header ℕ} → h ≡ header_of file → by_header h file ≡ rewritten_of file
  unfolding rewritten_of
  by_header_lem e = ap (λ (h : Result Header ℕ). by_header h file) e

  pub by_ending_lem : (g : Header) → Ok g ≡ header_of file → {e : Ending} → (calls_of (drop (header_width g.mark) file)).ending ≡ e
      → by_ending e g file ≡ rewritten_of file
  by_ending_lem g h e = ap (λ (k : Ending). by_ending k g file) (sym e) ∙ by_header_lem h
