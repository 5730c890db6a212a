-- Going through a file record by record: the words that were put, and those that are still to come.
-- Assumes nothing.
use Rattle.std.specs.Prelude.{◌≡◌, refl, List, [], ◌++◌, ℕ, ◌+◌, ◌-◌, ◌≤◌, length, drop}
use Rattle.std.proofs.Math.Path.{sym, ap}
use Rattle.std.proofs.Common.{◌∙◌, append_assoc, append-nil, arith, length-append}
use borrow.Rule.Slice.PartMut.{mid_of, put_mid}
use Rattle.exchange.specs.declared.call.Call.{Call}
use Rattle.exchange.specs.declared.call.Call.TheVariants.{Term, Step}
use Rattle.records.specs.Calls.{Ending, Calls, calls_of, CallAt}
use Rattle.raw_records.specs.Calls.{call_words, words_for}
use Rattle.fields.specs.Placed.{Wrote}
use Rattle.fields.proofs.Placed.{joined, wrote_as}
use Rattle.fields.proofs.Parts.{part_wrote, nothing_wrote}
use Rattle.rewriting.specs.Reading.{read_outcome, answer_by, file_words, read_of}

-- the words of the records before `at` stand at the front
pub record ReadProgress (from : ℕ) (file before after : List ℕ) (at end : ℕ) : Type 0 where
  pub done : List ℕ
  pub wrote : Wrote before 0 done after end
  pub whole : done ++ words_for (calls_of (drop at file)).calls ≡ file_words from file
  pub ending : (calls_of (drop at file)).ending ≡ (calls_of (drop from file)).ending

-- ---- one record

pub seven : (c : Call) → length (call_words c) ≡ 7
seven (Term kind l r) = refl
seven (Step step run a b m t) = refl

-- ---- one record after the other

pub starts : (from : ℕ) (file before : List ℕ) → ReadProgress from file before before from 0
starts from file before = record { done = []; wrote = nothing_wrote before 0; whole = refl; ending = refl }

module _ (from : ℕ) (file before after : List ℕ) (at end : ℕ) (p : ReadProgress from file before after at end) where
  module _ {c : Call} {next : ℕ} (r : CallAt file at c next) where
    onward : p.done ++ (call_words c ++ words_for (calls_of (drop next file)).calls) ≡ file_words from file
    onward = ap (λ (cs : Calls). p.done ++ words_for cs.calls) (sym r.first) ∙ p.whole

    pub next_fits : length (file_words from file) ≤ length before → end + 7 ≤ length before
    next_fits room =
        omega (
          arith,
          p.wrote.offset,
          seven c,
          length-append p.done (call_words c ++ words_for (calls_of (drop next file)).calls),
          length-append (call_words c) (words_for (calls_of (drop next file)).calls),
          ap (λ (ws : List ℕ). length ws) onward,
        )

    pub goes_on : {part : List ℕ} {n : ℕ} → Wrote (mid_of end (length after - end) after) 0 (call_words c) part n
        → ReadProgress from file before (put_mid end (length after - end) after part) next (end + n)
    goes_on {part} {n} w = record {
      done = p.done ++ call_words c;
      wrote = joined (omega arith) p.wrote (part_wrote after end (call_words c) w);
      whole = append_assoc p.done (call_words c) (words_for (calls_of (drop next file)).calls) ∙ onward;
      ending = ap (λ (cs : Calls). cs.ending) (sym r.first) ∙ p.ending;
    }

  pub finishes : {e : Ending} → calls_of (drop at file) ≡ record { calls = []; ending = e } → read_outcome (answer_by e end) after ≡ read_of from file before
  unfolding read_of
  finishes {e} last =
      let is : p.done ≡ file_words from file = sym (append-nil p.done) ∙ ap (λ (cs : Calls). p.done ++ words_for cs.calls) (sym last) ∙ p.whole in
      let w : Wrote before 0 (file_words from file) after end = wrote_as is p.wrote in
      ap (λ (k : Ending). read_outcome (answer_by k end) after) (ap (λ (cs : Calls). cs.ending) (sym last) ∙ p.ending)
      ∙ ap (λ (k : ℕ). read_outcome (answer_by (calls_of (drop from file)).ending k) after) (omega (arith, w.offset))
      ∙ ap (read_outcome (answer_by (calls_of (drop from file)).ending (length (file_words from file)))) w.contents
