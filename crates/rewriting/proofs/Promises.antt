-- What follows from the definitions of the same name in specs/.
-- Assumes nothing.
use Rattle.std.proofs.Math.Path.{◌≡◌, refl, sym, ap}
use Rattle.std.proofs.Common.{◌∙◌, arith}
use Rattle.std.specs.Prelude.{Option, None, Result, Ok, Err, List, ℕ, length, drop, replicate}
use Rattle.std.proofs.lemmas.List.{length-replicate}
use Rattle.exchange.specs.declared.header.Header.{Header}
use Rattle.records.specs.Fields.{Bytes}
use Rattle.records.specs.Headers.{header_width, header_of}
use Rattle.records.specs.Calls.{Ending, ended, broken, Calls, calls_of}
use Rattle.records.proofs.Promises.{header_read}
use Rattle.raw_records.specs.Raw.{records_of}
use Rattle.raw_records.specs.Refusals.{records_refusal}
use Rattle.raw_records.specs.Calls.{words_for}
use Rattle.raw_records.proofs.Calls.{records_for}
use Rattle.fields.proofs.Placed.{placed_there}
use Rattle.writer.specs.Write.{WriteOutcome, write_outcome, write_of, WalkPasses}
use Rattle.written_walks.proofs.Promises.{written_passes, write_back}
use Rattle.comparison.specs.Compare.{difference}
use Rattle.comparison.proofs.Promises.{itself}
use Rattle.rewriting.specs.Reading.{file_words}
use Rattle.rewriting.specs.Rewriting.{offset, places, compared, compared_by, written_back, by_ending, by_header, rewritten_of}
use Rattle.rewriting.proofs.Rewriting.{compared_is, by_ending_lem}
use Rattle.rewriting.specs.Promises.{Writable}

module _ (file : List ℕ) where
  -- ---- what was written was writable

  passed : (g : Header) (words : List ℕ) (v : Option ℕ) (r : Result ℕ ℕ) (after : List ℕ)
      → write_outcome r after ≡ write_of g words (replicate places 0) offset → compared_by r after file ≡ compared v
      → WalkPasses g (records_of words) (length (replicate {A = ℕ} places 0)) offset
  passed g words v (Ok count) after w e = written_passes g words (replicate places 0) offset count after (sym w)
  passed g words v (Err number) after w e = let z : ◌≡◌ {A = ℕ} 0 1 = cc in absurd (omega arith)

  by_calls : (g : Header) (v : Option ℕ) → header_of file ≡ Ok g → (e : Ending) → (calls_of (drop (header_width g.mark) file)).ending ≡ e
      → by_ending e g file ≡ compared v → Writable file
  unfolding written_back
  by_calls g v h ended e b =
      let calls = (calls_of (drop (header_width g.mark) file)).calls in
      let o : WriteOutcome = write_of g (file_words (header_width g.mark) file) (replicate places 0) offset in
      let a = passed g (file_words (header_width g.mark) file) v o.answer o.buffer refl b in
      record {
        values = g;
        calls = calls;
        reads = record { header = h; records = ap (λ (k : Ending). record { calls = calls; ending = k }) e };
        header_passes = a.header;
        records_pass = sym (ap (records_refusal g.n) (records_for calls)) ∙ a.records;
      }
  by_calls g v h broken e b = let z : ◌≡◌ {A = ℕ} 0 1 = cc in absurd (omega arith)

  by_opening : (v : Option ℕ) (h : Result Header ℕ) → header_of file ≡ h → by_header h file ≡ compared v → Writable file
  by_opening v (Ok g) h b = by_calls g v h (calls_of (drop (header_width g.mark) file)).ending refl b
  by_opening v (Err number) h b = let z : ◌≡◌ {A = ℕ} 0 1 = cc in absurd (omega arith)

  -- ---- what is writable is written

  -- A writable file is written, and what was written is the file,
  pub written_back_lem : Bytes file → Writable file → rewritten_of file ≡ compared None
  written_back_lem b w =
      let most = (header_read file w.values w.reads.header).most in
      let long = length-replicate {A = ℕ} places 0 in
      sym (by_ending_lem file w.values (sym w.reads.header) (ap (λ (cs : Calls). cs.ending) w.reads.records))
      ∙ ap (λ (cs : Calls). written_back w.values (words_for cs.calls) file) w.reads.records
      ∙ sym (compared_is w.values (words_for w.calls) file
      (sym (write_back file b w.values w.calls w.reads w.header_passes w.records_pass (replicate places 0) offset (omega (arith, most, long)))))
      ∙ ap (λ (xs : List ℕ). compared (difference 1 xs file)) (placed_there (replicate places 0) offset file (omega (arith, long)))
      ∙ ap compared (itself 1 file)

  -- and no other file is written.
  pub written_only : (v : Option ℕ) → rewritten_of file ≡ compared v → Writable file
  unfolding rewritten_of
  written_only v e = by_opening v (header_of file) refl e

  -- So "a file so read is written back as the same bytes": `rewrite` never finds other bytes.
  pub never_another : Bytes file → (v : Option ℕ) → rewritten_of file ≡ compared v → v ≡ None
  never_another b v e = let same = written_back_lem b (written_only v e) in cc
