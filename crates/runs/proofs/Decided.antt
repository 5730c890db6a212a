-- The test of a lent table of runs is true exactly where the table holds together, part by part: `x-is` and `x-are` go from the
-- test to the record, `is_x` and `are-x` from the record to the test.
-- Assumes nothing.
use Rattle.std.specs.Prelude.{◌≡◌, refl, Bool, false, not, List, ℕ, ◌*◌, ◌<◌, ◌≤◌, ltb, leb, eqb, length, Option, Some, None}
use Rattle.std.specs.Option.{is_some}
use Rattle.std.proofs.Common.{sym, ap, ◌∙◌, arith, ◌⊎◌, inl, inr}
use Rattle.std.proofs.Math.Bool.{true}
use borrow.Author.Tests.{ltb-true, leb-true, eqb-true, eqb-false, not-true, lt-ltb, le-leb, eq-eqb, ne_eqb}
use Rattle.words.specs.declared.Term.TheVariants.{SessionKey}
use Rattle.terms.proofs.Choice.{no_true, is_false}
use Rattle.terms.specs.Table.{find_of}
use Rattle.terms.proofs.TableLaws.{found_at}
use Rattle.terms.specs.Valid.{is_nothing}
use Rattle.words.specs.Word.{word_of}
use Rattle.exchange.specs.declared.run.Role.{Role}
use Rattle.exchange.specs.declared.run.Role.TheVariants.{Initiator, Responder, Server}
use Rattle.exchange.specs.declared.run.Row.{Row}
use Rattle.terms.specs.AllOf.{each}
use Rattle.terms.proofs.AllOf.{five, all_five, each_true, true_each}
use Rattle.rows.specs.Row.{width, is_row}
use Rattle.rows.proofs.Row.{is_row_words, words_is_row}
use Rattle.rows.specs.Runs.{Full, words_at, run_at}
use Rattle.rows.proofs.Runs.{words_length, run_fits}
use Rattle.runs.specs.Lent.{has_stage, PrincipalsFit, KeyStands, RunHolds, Written, RowsHold, principals_fit, key_stands, key_holds, run_holds, row_holds, rows_hold}

-- ---- the key

-- something is what is not nothing
pub some_is : (f : Option ℕ) → is_some f ≡ not (is_nothing f)
some_is (Some i) = refl
some_is None = refl

pub key_found : (ts : List ℕ) (count k : ℕ) (f : Option ℕ) → find_of ts count (word_of (SessionKey k)) ≡ f → key_stands ts count k ≡ not (is_nothing f)
unfolding key_stands
key_found ts count k f e = ap (λ (g : Option ℕ). not (is_nothing g)) e

key_is : (ts : List ℕ) (count k : ℕ) → key_stands ts count k ≡ true → KeyStands ts count k
key_is ts count k h = by_found (find_of ts count (word_of (SessionKey k))) refl
  where
    by_found : (f : Option ℕ) → find_of ts count (word_of (SessionKey k)) ≡ f → KeyStands ts count k
    by_found (Some i) e = let s = found_at ts count (word_of (SessionKey k)) e in record { place = i; below = s.0; here = s.1 }
    by_found None e = no_true (sym (key_found ts count k None e) ∙ h)

is_key_lem : {ts : List ℕ} {count k : ℕ} → KeyStands ts count k → key_stands ts count k ≡ true
is_key_lem {ts} {count} {k} s = by_found (find_of ts count (word_of (SessionKey k))) refl
  where
    by_found : (f : Option ℕ) → find_of ts count (word_of (SessionKey k)) ≡ f → key_stands ts count k ≡ true
    by_found (Some i) e = key_found ts count k (Some i) e
    by_found None e = absurd (found_at ts count (word_of (SessionKey k)) e s.place s.below s.here)

module _ (ts : List ℕ) (present r k : ℕ) where
  server_is : (role : Role) → key_holds ts present r role k ≡ true → role ≡ Server → (k ≡ r) × KeyStands ts present k
  server_is Initiator h e = let z : ◌≡◌ {A = ℕ} 0 1 = cc in absurd (omega arith)
  server_is Responder h e = let z : ◌≡◌ {A = ℕ} 0 1 = cc in absurd (omega arith)
  server_is Server h e =
      let t = five true true true (eqb k r) (key_stands ts present k) h in
      (eqb-true k r t.fourth, key_is ts present k t.fifth)

  is_server : (role : Role) → (role ≡ Server → (k ≡ r) × KeyStands ts present k) → key_holds ts present r role k ≡ true
  is_server Initiator f = refl
  is_server Responder f = refl
  is_server Server f = rw (eq-eqb k r (f refl).0) (is_key_lem (f refl).1)

-- ---- a run

differ : (a b : ℕ) → not (eqb a b) ≡ true → a ≡ b → ⊥
differ a b h = eqb-false a b (not-true (eqb a b) h)

is_differ : (a b : ℕ) → (a ≡ b → ⊥) → not (eqb a b) ≡ true
is_differ a b h = ap not (ne_eqb a b h)

pub principals_are : (n a b : ℕ) → principals_fit n a b ≡ true → PrincipalsFit n a b
principals_are n a b h =
    let t = five (ltb a n) (ltb b n) (not (eqb a 0)) (not (eqb b 0)) (not (eqb a b)) h in
    record {
      a_below = ltb-true a n t.first;
      b_below = ltb-true b n t.second;
      apart = record {
        a_not_server = differ a 0 t.third;
        b_not_server = differ b 0 t.fourth;
        unequal = differ a b t.fifth;
      };
    }

pub are_principals : {n a b : ℕ} → PrincipalsFit n a b → principals_fit n a b ≡ true
are_principals {n} {a} {b} v =
    all_five
    (record {
      first = lt-ltb a n v.a_below;
      second = lt-ltb b n v.b_below;
      third = is_differ a 0 v.apart.a_not_server;
      fourth = is_differ b 0 v.apart.b_not_server;
      fifth = is_differ a b v.apart.unequal;
    })

pub run_is : (n : ℕ) (ts : List ℕ) (present r : ℕ) (x : Row) → run_holds n ts present r x ≡ true → RunHolds n ts present r x
unfolding run_holds
run_is n ts present r x h =
    let t = five true (principals_fit n x.a x.b) (has_stage x.role x.stage) (leb x.k 95) (key_holds ts present r x.role x.k) h in
    record {
      stage = t.third;
      principals = principals_are n x.a x.b t.second;
      key = leb-true x.k 95 t.fourth;
      server = server_is ts present r x.k x.role t.fifth;
    }

pub is_run : {n : ℕ} {ts : List ℕ} {present r : ℕ} {x : Row} → RunHolds n ts present r x → run_holds n ts present r x ≡ true
unfolding run_holds
is_run {n} {ts} {present} {r} {x} v =
    all_five
    (record {
      first = refl;
      second = are_principals v.principals;
      third = v.stage;
      fourth = le-leb x.k 95 v.key;
      fifth = is_server ts present r x.k x.role v.server;
    })

-- ---- a row

module _ (n : ℕ) (runs ts : List ℕ) (present r : ℕ) where
  pub row_is : length (words_at runs r) ≡ width → row_holds n runs ts present r ≡ true → Written runs r × RunHolds n ts present r (run_at runs r)
  unfolding row_holds run_at
  row_is size h =
      let t = five true true true (is_row (words_at runs r)) (run_holds n ts present r (run_at runs r)) h in
      (is_row_words (words_at runs r) size t.fourth, run_is n ts present r (run_at runs r) t.fifth)

  pub is_row_lem : Written runs r → RunHolds n ts present r (run_at runs r) → row_holds n runs ts present r ≡ true
  unfolding row_holds
  is_row_lem w v = rw (ap is_row w ∙ words_is_row (run_fits runs r)) (is_run v)

-- ---- the table

module _ (n : ℕ) (runs : List ℕ) (count : ℕ) (ts : List ℕ) (present : ℕ) where
  pub rows_are : rows_hold n runs count ts present ≡ true → RowsHold n runs count ts present
  unfolding rows_hold
  rows_are h =
      let t = five true (eqb (length runs) (64 * width)) (leb count 64) (leb present (length ts)) (each (row_holds n runs ts present) count) h in
      let size : Full runs = eqb-true (length runs) (64 * width) t.second in
      let room : count ≤ 64 = leb-true count 64 t.third in
      let row : (r : ℕ) → r < count → Written runs r × RunHolds n ts present r (run_at runs r) = λ r lt.
      row_is n runs ts present r (words_length runs size r (omega arith)) (each_true (row_holds n runs ts present) count t.fifth r lt) in
      record {
        size = size;
        room = room;
        terms_room = leb-true present (length ts) t.fourth;
        written = λ r lt. (row r lt).0;
        holds = λ r lt. (row r lt).1;
      }

  pub refused : (RowsHold n runs count ts present → ⊥) → false ≡ rows_hold n runs count ts present
  refused f = is_false (rows_hold n runs count ts present) (λ e. f (rows_are e))

  pub held : Full runs → count ≤ 64 → present ≤ length ts → {r : Bool} → r ≡ each (row_holds n runs ts present) count → r ≡ rows_hold n runs count ts present
  unfolding rows_hold
  held size room terms_room e = rw (eq-eqb (length runs) (64 * width) size, le-leb count 64 room, le-leb present (length ts) terms_room) e

  -- one of the first three tests fails
  pub not_held : (length runs ≡ 448 × count ≤ 64 × length ts < present) ⊎ ((length runs ≡ 448 × 64 < count) ⊎ (length runs ≡ 448 → ⊥))
      → false ≡ rows_hold n runs count ts present
  not_held (inl p) = refused (λ v. omega (arith, p.2, v.terms_room))
  not_held (inr (inl p)) = refused (λ v. omega (arith, p.1, v.room))
  not_held (inr (inr f)) = refused (λ v. f v.size)

  pub all_hold : Full runs → count ≤ 64 → present ≤ length ts → ((r : ℕ) → r < count → row_holds n runs ts present r ≡ true)
      → rows_hold n runs count ts present ≡ true
  unfolding rows_hold
  all_hold size room terms_room rows =
      all_five
      (record {
        first = refl;
        second = eq-eqb (length runs) (64 * width) size;
        third = le-leb count 64 room;
        fourth = le-leb present (length ts) terms_room;
        fifth = true_each (row_holds n runs ts present) count rows;
      })

pub are_rows : {n : ℕ} {runs : List ℕ} {count : ℕ} {ts : List ℕ} {present : ℕ} → RowsHold n runs count ts present → rows_hold n runs count ts present ≡ true
are_rows {n} {runs} {count} {ts} {present} v =
    all_hold n runs count ts present v.size v.room v.terms_room (λ r lt. is_row_lem n runs ts present r (v.written r lt) (v.holds r lt))
