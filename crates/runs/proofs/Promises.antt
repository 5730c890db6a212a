-- What the crate promises beside the contracts of its functions: what the check of a lent table says, and that a table that
-- holds together goes on to do so. Clients use these and leave `rows_hold` shut.
-- Assumes nothing.
use Rattle.std.specs.Prelude.{◌≡◌, true, List, ◌↔◌, ℕ, ◌≤◌}
use Rattle.std.proofs.Common.{ap, ◌∙◌, arith}
use Rattle.words.specs.declared.Term.{Term}
use Rattle.words.specs.declared.Term.TheVariants.{SessionKey}
use Rattle.terms.specs.Meaning.{message_of, message_at}
use Rattle.terms.proofs.Meaning.{message_at_lem}
use Rattle.terms.specs.Message.{session, key}
use Rattle.terms.specs.Valid.{Terms}
use Rattle.words.specs.Word.{term_of}
use Rattle.words.proofs.Word.{term_back}
use Rattle.runs.specs.Lent.{PrincipalsFit, KeyStands, RowsHold, principals_fit, rows_hold}
use Rattle.runs.proofs.Decided.{principals_are, are_principals, rows_are, are_rows}
-- ---- laws passed on
-- a table holds together that is empty; that has the same rows; with a row replaced; with one opened; with terms added; and a
-- run that holds has a row's widths
pub use Rattle.runs.proofs.Kept.{hold_none, hold_same, hold_set, hold_open, hold_more, hold_fits}

-- ---- the check

-- `rows_hold` says yes exactly where the table holds together
pub rows_decided : (n : ℕ) (runs : List ℕ) (count : ℕ) (ts : List ℕ) (present : ℕ) → (rows_hold n runs count ts present ≡ true) ↔ RowsHold n runs count ts present
rows_decided n runs count ts present = (rows_are n runs count ts present, are_rows)

-- `principals_fit` says yes exactly where 6 does not bar a and b in steps 1 and 2
pub principals_decided : (n a b : ℕ) → (principals_fit n a b ≡ true) ↔ PrincipalsFit n a b
principals_decided n a b = (principals_are n a b, are_principals)

-- in a term table that keeps the rules, the key of a server run is a term that means it
pub key_means : {n : ℕ} {ts : List ℕ} {present k : ℕ} → Terms n ts present → k ≤ 95 → (s : KeyStands ts present k) → message_at ts s.place ≡ key (session k)
key_means {ts = ts} {k = k} v h s =
    message_at_lem v s.place s.below ∙ ap (λ (t : Term). message_of (message_at ts) t) (ap term_of s.here ∙ term_back (SessionKey k) (omega arith))
