-- What follows from the definitions of the same name in specs/.
-- Assumes nothing.
use Rattle.std.specs.Prelude.{Option, Some, None, Result, Ok, Err, ◌≡◌, refl, length, take, drop}
use Rattle.std.proofs.Common.{sym, ◌∙◌, arith, add-zero, take-append-drop}
use Rattle.std.proofs.Math.Path.{ap}
use mathlib.Core.List.{List, [], ◌++◌, append_assoc, append-nil}
use Prim.Native.Nat.{ℕ, suc, ◌+◌, ◌-◌, ◌*◌, ◌<◌, ◌≤◌}
use Rattle.std.proofs.Math.Numerals.{add-one}
use Rattle.exchange.specs.declared.call.Call.{Call}
use Rattle.exchange.specs.Calls.{Sized}
use Rattle.records.specs.declared.record.Record.{Record}
use Rattle.records.specs.Headers.{header_width, max_file}
use Rattle.records.specs.Records.{record_at}
use Rattle.records.specs.Calls.{broken, Calls, calls_of}
use Rattle.records.proofs.Promises.{step_on, none_left, ends, breaks}
use Rattle.lines.specs.Lines.{header_line, call_line, file_line}
use Rattle.fields.specs.Placed.{placed, Wrote}
use Rattle.fields.proofs.Placed.{joined, wrote_as}
use Rattle.realm.specs.declared.header.Realm.{Realm}
use Rattle.realm.specs.Tables.{Tables, Together}
use Rattle.effects.specs.Apply.{Outcome}
use Rattle.effects.specs.Call.{called}
use Rattle.simulation.proofs.Kept.{call_kept}
use Rattle.walkfile.specs.Listing.{new_tables, tables_line, last_lines, call_lines, lines_of, walk_lines}
use Rattle.walkfile.specs.Walking.{Walkable}

-- Before the record at a place, which would be record `number`; the lines after the header's are written from `first` on.
-- A record takes at least 7 bytes and a line at most 24.
pub record BeforeRecord (bytes before : List ℕ) (first : ℕ) (all after : List ℕ) (t : Tables) (at number end : ℕ) : Type 0 where
  pub together : Together t
  pub inside : at ≤ length bytes
  pub count : 7 * number + 6 ≤ at
  pub short : end ≤ 24 * number
  pub room : first ≤ length before
  pub lines : List ℕ
  pub wrote : Wrote before first lines after end
  pub rest : lines ++ lines_of number t (calls_of (drop at bytes)) ≡ all

-- Before the last line.
pub record BeforeLast (before : List ℕ) (first : ℕ) (all after : List ℕ) (t : Tables) (end : ℕ) : Type 0 where
  pub short : end ≤ 24 * 9362
  pub room : first ≤ length before
  pub lines : List ℕ
  pub wrote : Wrote before first lines after end
  pub rest : lines ++ tables_line t ≡ all

-- ---- the header

-- the lines of all records
abbrev pub record_lines : Realm → (mark : ℕ) → List ℕ → List ℕ
record_lines h mark bytes = lines_of 1 (new_tables h) (calls_of (drop (header_width mark) bytes))

nothing_written : (xs : List ℕ) (at : ℕ) → Wrote xs at [] xs at
unfolding placed
nothing_written xs at = record { contents = rw (append-nil (take at xs), add-zero at) (sym (take-append-drop at xs)); offset = omega arith }

pub starts : (bytes before : List ℕ) (h : Realm) (mark first : ℕ) {at : ℕ} → at ≡ header_width mark → Walkable h mark bytes → first ≤ 24 → 24 ≤ length before
    → BeforeRecord bytes before first (record_lines h mark bytes) before (new_tables h) at 1 first
starts bytes before h mark first e w few room =
    record {
      together = w.together;
      inside = omega (arith, e, w.whole);
      count = omega (arith, e, w.least);
      short = omega (arith, few);
      room = omega (arith, few, room);
      lines = [];
      wrote = nothing_written before first;
      rest = ap (λ (k : ℕ). lines_of 1 (new_tables h) (calls_of (drop k bytes))) e;
    }

module _ (bytes before : List ℕ) (first : ℕ) (all after : List ℕ) (t : Tables) (at number end : ℕ) (s : BeforeRecord bytes before first all after t at number end) where
  -- ---- a call

  pub goes_on : (c : Call) (next : ℕ) (o : Outcome) (after' : List ℕ) (end' : ℕ) → record_at bytes at ≡ Ok (Some (record { call = c; next = next })) → Sized c
      → o ≡ called t c → Wrote after end (call_line number c o.answer) after' end' → end' ≤ end + 24
      → BeforeRecord bytes before first all after' o.tables next (number + 1) end'
  unfolding call_lines
  goes_on c next o after' end' e sized is w short =
      let taken = step_on bytes at c next e in
      let line : List ℕ = call_line number c (called t c).answer in
      let later : List ℕ = lines_of (suc number) (called t c).tables (calls_of (drop next bytes)) in
      let same : s.lines ++ line ++ later ≡ all =
      append_assoc s.lines line later ∙ ap (λ (cs : Calls). s.lines ++ lines_of number t cs) (sym taken.first) ∙ s.rest in
      record {
        together = rw is (call_kept t c sized s.together);
        inside = taken.inside;
        count = omega (arith, s.count, taken.later);
        short = omega (arith, s.short, short);
        room = s.room;
        lines = s.lines ++ call_line number c o.answer;
        wrote = joined s.room s.wrote w;
        rest = rw (is, add-one number) same;
      }

  -- the place rises, and stays in the file
  pub advances : (c : Call) (next : ℕ) → record_at bytes at ≡ Ok (Some (record { call = c; next = next })) → length bytes - next < length bytes - at
  advances c next e = let taken = step_on bytes at c next e in omega (arith, taken.later, taken.inside)

  -- ---- the end

  -- no more records than the file has bytes for
  pub few : length bytes ≤ max_file → number ≤ 9361
  few most = omega (arith, s.count, s.inside, most)

  pub ends_whole : length bytes ≤ max_file → length bytes ≤ at → BeforeLast before first all after t end
  unfolding last_lines call_lines
  ends_whole most h =
      record {
        short = omega (arith, s.short, few most);
        room = s.room;
        lines = s.lines;
        wrote = s.wrote;
        rest = ap (λ (cs : Calls). s.lines ++ lines_of number t cs) (sym (none_left bytes at h)) ∙ s.rest;
      }

  broken_here : (r : Result (Option Record) ℕ) → record_at bytes at ≡ r → ((q : Record) → record_at bytes at ≡ Ok (Some q) → ⊥) → at < length bytes
      → calls_of (drop at bytes) ≡ record { calls = []; ending = broken }
  broken_here (Ok (Some q)) e none h = absurd (none q e)
  broken_here (Ok None) e none h = absurd (omega (arith, (ends bytes at).0 e))
  broken_here (Err n) e none h = (breaks bytes at n e).last

  pub ends_broken : length bytes ≤ max_file → at < length bytes → ((q : Record) → record_at bytes at ≡ Ok (Some q) → ⊥)
      → (mid : List ℕ) (next : ℕ) → Wrote after end (file_line number 3) mid next → next ≤ end + 24 → BeforeLast before first all mid t next
  unfolding last_lines call_lines
  ends_broken most h none mid next w short =
      record {
        short = omega (arith, s.short, few most, short);
        room = s.room;
        lines = s.lines ++ file_line number 3;
        wrote = joined s.room s.wrote w;
        rest =
            append_assoc s.lines (file_line number 3) (tables_line t)
            ∙ ap (λ (cs : Calls). s.lines ++ lines_of number t cs) (sym (broken_here (record_at bytes at) refl none h))
            ∙ s.rest;
      }

pub ready_as : {before : List ℕ} {first : ℕ} {all after after' : List ℕ} {t : Tables} {end end' : ℕ} → after' ≡ after → end' ≡ end
    → BeforeLast before first all after t end → BeforeLast before first all after' t end'
ready_as p q s = rw (p, q) s

pub finishes : (before after₀ after last bytes : List ℕ) (h : Realm) (mark first : ℕ) (t : Tables) (end r : ℕ) → Wrote before 0 (header_line mark) after₀ first
    → BeforeLast after₀ first (record_lines h mark bytes) after t end → Wrote after end (tables_line t) last r → Wrote before 0 (walk_lines h mark bytes) last r
unfolding walk_lines
finishes before after₀ after last bytes h mark first t end r w₀ s w =
    joined (omega arith) w₀ (wrote_as s.rest (joined s.room s.wrote w))
