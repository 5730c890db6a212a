-- What follows from the definitions of the same name in specs/.
-- Assumes nothing.
use Rattle.std.specs.Prelude.{◌≡◌, false, List, ◌++◌, ℕ, drop, Ok, Err}
use Rattle.std.proofs.Math.Path.{refl, ap}
use Rattle.std.proofs.Common.{◌∙◌, arith}
use Rattle.std.proofs.Math.ListN.{take}
use Rattle.exchange.specs.declared.call.Call.{Call}
use Rattle.exchange.specs.declared.header.Header.{Header}
use Rattle.exchange.specs.Calls.{Sized}
use Rattle.exchange.specs.Formats.{HeaderSized}
use Rattle.realm.specs.Opening.{opening_of}
use Rattle.realm.proofs.Promises.{new_together}
use Rattle.realm.specs.Tables.{Tables, Together}
use Rattle.effects.specs.Apply.{refuse}
use Rattle.records.specs.Calls.{Calls, ended}
use Rattle.raw_records.specs.Apart.{walk_has}
use Rattle.raw_records.specs.Calls.{calls_from, raw_for}
use Rattle.raw_records.specs.Fit.{Words32}
use Rattle.raw_records.proofs.Promises.{records_fit}
use Rattle.raw_records.specs.Raw.{records_of}
use Rattle.raw_records.specs.Refusals.{own_refusal}
use Rattle.writer.specs.Write.{write_outcome, write_of}
use Rattle.written_walks.proofs.Promises.{written_passes, read_back}
use Rattle.lines.specs.Lines.{header_line}
use Rattle.walkfile.specs.Listing.{new_tables, call_lines, walk_lines, opening_lines, header_lines, listing_of}
use Rattle.walkfile.proofs.Opened.{lends}
use Rattle.calls.specs.Lent.{lent_call}
use Rattle.calls.proofs.Same.{lent_called}
use Rattle.written_answers.specs.Answers.{LeftApart}
use Rattle.written_answers.proofs.AnswersLaws.{lent_past, called_absent, called_barred}
use Rattle.written_answers.proofs.Opens.{header_opens}
use Rattle.written_answers.proofs.Walks as walks
use Rattle.written_answers.specs.Walks.{TakenPast}
use Rattle.written_answers.specs.Promises.{realm}

-- ---- one record, on any tables

-- A record that the writer lets pass is not refused with a number from 1 to 5, and with 6 only for what depends on the walk.
pub public_past : (t : Tables) (c : Call) → Sized c → own_refusal t.realm.n (raw_for c) ≡ 0 → {k : ℕ} → (lent_call t c).answer ≡ Err k → LeftApart t c k
public_past t c sized z e = lent_past t c sized z e

module _ (t : Tables) (w : Together t) (c : Call) (sized : Sized c) where
  -- With 6 it is refused for all that depends on the walk,
  pub public_absent : own_refusal t.realm.n (raw_for c) ≡ 0 → walk_has t.realm t.terms c ≡ false → lent_call t c ≡ refuse t 6
  public_absent z e = lent_called t c w ∙ called_absent t (omega (arith, w.rows_hold.room)) (omega (arith, w.terms_hold.room)) c sized z e

  -- and a record that the writer turns away is refused with the same number.
  pub public_barred : (own_refusal t.realm.n (raw_for c) ≡ 0 → ⊥) → lent_call t c ≡ refuse t (own_refusal t.realm.n (raw_for c))
  public_barred n = lent_called t c w ∙ called_barred t (omega (arith, w.rows_hold.room)) (omega (arith, w.terms_hold.room)) c sized n

module _ (g : Header) (fits : HeaderSized g) (words : List ℕ) (w : Words32 words)
    (buffer : List ℕ) (at count : ℕ) (after : List ℕ) (e : write_of g words buffer at ≡ write_outcome (Ok count) after) where
  -- Its header opens a realm,
  pub walk_opens : opening_of g ≡ Ok (realm g fits words w buffer at count after e)
  walk_opens = header_opens g fits words w buffer at count after e

  -- and none of its records, which are read to the end of the file (`read_back` of `written_walks`), is refused for its own fields.
  pub walk_taken : TakenPast (new_tables (realm g fits words w buffer at count after e)) (calls_from (records_of words))
  unfolding new_tables
  walk_taken =
      let p = written_passes g words buffer at count after e in
      walks.taken_past g.n (records_of words) (records_fit g.n fits.0 words w p.records) p.records (new_tables (realm g fits words w buffer at count after e))
      (new_together g (realm g fits words w buffer at count after e) (new_tables (realm g fits words w buffer at count after e)) fits.2 fits.3 (header_opens g fits words w buffer at count after e) (lends (realm g fits words w buffer at count after e))) refl

  -- So the listing of its bytes has `ok` for the header, a line for each record in turn, and the last line: 1, 2 and 3 do not arise.
  pub written_listed : listing_of (take count (drop at after)) ≡ header_line g.mark ++ call_lines 1 (new_tables (realm g fits words w buffer at count after e)) (calls_from (records_of words)) ended
  unfolding listing_of walk_lines
  written_listed =
      let r = read_back g words buffer at count after e fits w in
      let file = take count (drop at after) in
      ap (header_lines file) r.header ∙ ap (opening_lines g.mark file) (header_opens g fits words w buffer at count after e)
      ∙ ap (λ (cs : Calls). header_line g.mark ++ call_lines 1 (new_tables (realm g fits words w buffer at count after e)) cs.calls cs.ending) r.records
