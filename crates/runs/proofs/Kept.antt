-- A table of runs that holds together still does after a row was written, a run opened or terms added, where what was written
-- holds.
-- Assumes nothing.
use Rattle.std.specs.Prelude.{◌≡◌, List, ℕ, suc, ◌<◌, ◌≤◌, length}
use Rattle.std.proofs.Common.{sym, ap, ◌∙◌, arith}
use Rattle.std.proofs.Math.Decide.{ℕ_discrete}
use Rattle.terms.specs.Rules.{Agree}
use Rattle.exchange.specs.declared.run.Row.{Row}
use Rattle.rows.specs.Row.{words_of, Fits}
use Rattle.rows.specs.Runs.{Full, run_at, set_run}
use Rattle.rows.proofs.Runs.{SameRows, run_as, set_full, words_same, words_other, run_same, run_other}
use Rattle.runs.specs.Lent.{KeyStands, RunHolds, Written, RowsHold}

-- an empty table
pub hold_none : (n : ℕ) {runs ts : List ℕ} {present : ℕ} → Full runs → present ≤ length ts → RowsHold n runs 0 ts present
hold_none n size room =
    record {
      size = size;
      room = omega arith;
      terms_room = room;
      written = λ r h. absurd (omega arith);
      holds = λ r h. absurd (omega arith);
    }

-- "Places at or past a table's count are never read"
pub hold_same : {n : ℕ} {runs runs' : List ℕ} {count : ℕ} {ts : List ℕ} {present : ℕ} → RowsHold n runs count ts present
    → Full runs' → SameRows runs runs' count → RowsHold n runs' count ts present
hold_same {runs = runs} {runs'} v size g =
    record {
      size = size;
      room = v.room;
      terms_room = v.terms_room;
      written = λ r h. sym (g r h) ∙ v.written r h ∙ ap words_of (run_as runs runs' r (g r h));
      holds = λ r h. rw (run_as runs runs' r (g r h)) at (v.holds r h);
    }

-- ---- a row is written

module _ {n : ℕ} {runs : List ℕ} {count : ℕ} {ts : List ℕ} {present : ℕ} (v : RowsHold n runs count ts present) {x : Row} (f : Fits x) where
  -- x is row r, and the other rows below `count'` were rows before
  hold_write : (r : ℕ) → r < 64 → RunHolds n ts present r x → (count' : ℕ) → count' ≤ 64 → ((q : ℕ) → q < count' → (q ≡ r → ⊥) → q < count)
      → RowsHold n (set_run runs r x) count' ts present
  hold_write r l h count' room others =
      record {
        size = set_full runs v.size r l x;
        room = room;
        terms_room = v.terms_room;
        written = λ q lt. written q lt (ℕ_discrete q r);
        holds = λ q lt. holds q lt (ℕ_discrete q r);
      }
    where
      written : (q : ℕ) → q < count' → Dec (q ≡ r) → Written (set_run runs r x) q
      written q lt (yes e) = rw e (words_same runs v.size r l x ∙ ap words_of (sym (run_same runs v.size r l x f)))
      written q lt (no ne) =
          words_other runs v.size r l x q ne ∙ v.written q (others q lt ne) ∙ ap words_of (sym (run_other runs v.size r l x q ne))

      holds : (q : ℕ) → q < count' → Dec (q ≡ r) → RunHolds n ts present q (run_at (set_run runs r x) q)
      holds q lt (yes e) = rw (e, run_same runs v.size r l x f) h
      holds q lt (no ne) = rw (run_other runs v.size r l x q ne) (v.holds q (others q lt ne))

  pub hold_set : (r : ℕ) → r < count → RunHolds n ts present r x → RowsHold n (set_run runs r x) count ts present
  hold_set r l h = hold_write r (omega (arith, v.room)) h count v.room (λ q lt ne. lt)

  pub hold_open : count < 64 → RunHolds n ts present count x → RowsHold n (set_run runs count x) (suc count) ts present
  hold_open l h = hold_write count l h (suc count) (omega arith) (λ q lt ne. omega arith)

-- a run that holds has a row's widths
pub hold_fits : {n : ℕ} {ts : List ℕ} {present r : ℕ} {x : Row} → n ≤ 256 → RunHolds n ts present r x → Fits x
hold_fits small h =
    let p = h.principals in
    record { a = omega (arith, p.a_below); b = omega (arith, p.b_below); k = omega (arith, h.key) }

-- ---- terms are added

key_more : {ts ts' : List ℕ} {present present' k : ℕ} → Agree ts ts' present → present ≤ present' → KeyStands ts present k → KeyStands ts' present' k
key_more g more s = record { place = s.place; below = omega (arith, s.below); here = sym (g s.place s.below) ∙ s.here }

run_more : {n : ℕ} {ts ts' : List ℕ} {present present' r : ℕ} {x : Row} → Agree ts ts' present → present ≤ present' → RunHolds n ts present r x → RunHolds n ts' present' r x
run_more g more h =
    record {
      stage = h.stage;
      principals = h.principals;
      key = h.key;
      server = λ e. let s = h.server e in (s.0, key_more g more s.1);
    }

pub hold_more : {n : ℕ} {runs : List ℕ} {count : ℕ} {ts ts' : List ℕ} {present present' : ℕ} → RowsHold n runs count ts present
    → Agree ts ts' present → present ≤ present' → present' ≤ length ts' → RowsHold n runs count ts' present'
hold_more v g more room =
    record {
      size = v.size;
      room = v.room;
      terms_room = room;
      written = v.written;
      holds = λ r h. run_more g more (v.holds r h);
    }
