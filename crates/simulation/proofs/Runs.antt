-- The table of runs after an effect: a row is added behind the others, replaced, or nothing changes. It still holds together, and
-- its rows are those of the log's runs.
-- Assumes nothing.
use Rattle.std.specs.Prelude.{ℕ, zero, suc, ◌+◌, ◌<◌, ◌≤◌, ◌≡◌, refl, List, [], ◌∷◌, ◌++◌, map, length, set}
use Rattle.std.proofs.Common.{sym, ap, ap₂, ◌∙◌, add-one, arith}
use Rattle.std.proofs.lemmas.List.{map-append}
use Rattle.terms.specs.Message.{Message, session, key}
use Rattle.terms.specs.Number.{word_in, terms_of}
use Rattle.terms.proofs.Number.{word_at, terms_length, terms_agree, terms_list}
use Rattle.terms.specs.Valid.{Valid}
use Rattle.messages.specs.Standing.{Standing}
use Rattle.sending.specs.Send.{SentIs}
use Rattle.exchange.specs.declared.run.Row.{Row}
use Rattle.kerberos.specs.Log.{Run, stored}
use Rattle.rows.specs.Runs.{set_run}
use Rattle.rows.specs.Rows.{rows_of}
use Rattle.runs.specs.Lent.{KeyStands, RunHolds, RowsHold}
use Rattle.rows.proofs.Promises.{writes}
use Rattle.runs.proofs.Promises.{hold_set, hold_open, hold_fits}
use Rattle.realm.specs.Tables.{Tables}
use Rattle.decisions.specs.declared.Change.{Change}
use Rattle.decisions.specs.declared.Change.TheVariants as changes
use Rattle.effects.specs.Row.{changed, run_count}
use Rattle.simulation.proofs.Mirrors.{RowMirrors}
use Rattle.decisions.specs.Laws.Fits.{RowFits, RowReady}
use Rattle.messages.specs.Parts.{Part}
use Rattle.messages.proofs.Parts.{part_stands}

-- ---- one row

map_set : (l : List Run) (r : ℕ) (x : Run) → map stored (set l r x) ≡ set (map stored l) r (stored x)
map_set [] r x = refl
map_set (y ∷ l) zero x = refl
map_set (y ∷ l) (suc r) x = ap {B = List Row} (λ t. stored y ∷ t) (map_set l r x)

module _ {n : ℕ} (small : n ≤ 256) {runs : List ℕ} {count : ℕ} {ts : List ℕ} {present : ℕ} (v : RowsHold n runs count ts present) (x : Row) where
  -- the next run is opened
  module _ (l : count < 64) (h : RunHolds n ts present count x) where
    opened_holds : RowsHold n (set_run runs count x) (count + 1) ts present
    opened_holds = rw (add-one count) (hold_open v (hold_fits small h) l h)

    opened_rows : rows_of (set_run runs count x) (count + 1) ≡ rows_of runs count ++ (x ∷ [])
    opened_rows = rw (add-one count) (writes runs v.size count l x (hold_fits small h)).opened

  -- a run goes on
  module _ {r : ℕ} (l : r < count) (h : RunHolds n ts present r x) where
    replaced_holds : RowsHold n (set_run runs r x) count ts present
    replaced_holds = hold_set v (hold_fits small h) r l h

    replaced_rows : rows_of (set_run runs r x) count ≡ set (rows_of runs count) r x
    replaced_rows = (writes runs v.size r (omega (arith, v.room)) x (hold_fits small h)).replaced count l

-- ---- the row that is written holds

-- what is written is a run's row
module _ (n : ℕ) (ts : List ℕ) (present count : ℕ) where
  abbrev pub ChangeHolds : Change → Type 0
  ChangeHolds (changes.Open x) = (count < 64) × RunHolds n ts present count x
  ChangeHolds (changes.Set r x) = (r < count) × RunHolds n ts present r x
  ChangeHolds changes.Nothing = Unit {0}

-- the session key of a message that was sent
key_sent : {n : ℕ} {ts : List ℕ} {count : ℕ} → Valid n ts count → {k : ℕ} {m : Message} {i : ℕ} → Part (key (session k)) m
    → Standing (terms_of ts count) m i → KeyStands ts count k
unfolding word_in
key_sent {ts = ts} {count} v {k} {i = i} p s =
    let q = part_stands (terms_list v) p i s.below s.means in
    let l : q.place < length (terms_of ts count) = omega (arith, q.by, s.below) in
    let below : q.place < count = omega (arith, l, terms_length v) in
    record {
      place = q.place;
      below = below;
      here = terms_agree v q.place below ∙ sym (word_at (terms_of ts count) (terms_list v) q.place l) ∙ ap (word_in (terms_of ts count)) q.means;
    }

module _ (t : Tables) {ms : List Message} {ts ws : List ℕ} {count : ℕ} (s : SentIs t.realm.n t.terms t.wire t.realm.terms ms ts ws count) where
  row_holds_lem : {r : ℕ} {x : Row} → RowFits t.realm.n ms r x → RunHolds t.realm.n ts count r x
  row_holds_lem f =
      record {
        stage = f.stage;
        principals = f.principals;
        key = f.key;
        server = λ e. let q = f.server e in (q.0, key_sent s.valid q.1.part (s.each _ q.1.among));
      }

  pub change_holds : (x : Change) → RowReady t ms x → ChangeHolds t.realm.n ts count t.realm.runs x
  change_holds (changes.Open x) f = (f.0, row_holds_lem f.1)
  change_holds (changes.Set r x) f = (f.0, row_holds_lem f.1)
  change_holds changes.Nothing f = tt

-- ---- the table after an effect

module _ {n : ℕ} (small : n ≤ 256) {runs : List ℕ} {count : ℕ} {ts : List ℕ} {present : ℕ} (v : RowsHold n runs count ts present) where
  pub rows_kept : (x : Change) → ChangeHolds n ts present count x → RowsHold n (changed count x runs) (run_count count x) ts present
  rows_kept (changes.Open x) h = opened_holds small v x h.0 h.1
  rows_kept (changes.Set r x) h = replaced_holds small v x h.0 h.1
  rows_kept changes.Nothing h = v

  pub rows_follow : (x : Change) → ChangeHolds n ts present count x → (f : List Run → List Run) → RowMirrors x f
      → (old : List Run) → rows_of runs count ≡ map stored old → rows_of (changed count x runs) (run_count count x) ≡ map stored (f old)
  rows_follow (changes.Open x) h f (y, is, after) old same =
      opened_rows small v x h.0 h.1
      ∙ ap₂ (λ (rs : List Row) (r : Row). rs ++ (r ∷ [])) same is
      ∙ sym (map-append stored old (y ∷ [])) ∙ ap (map stored) (sym (after old))
  rows_follow (changes.Set r x) h f (y, is, after) old same =
      replaced_rows small v x h.0 h.1
      ∙ ap₂ (λ (rs : List Row) (q : Row). set rs r q) same is
      ∙ sym (map_set old r y) ∙ ap (map stored) (sym (after old))
  rows_follow changes.Nothing h f after old same = same ∙ ap (map stored) (sym (after old))
