-- What the crate promises beside the contracts of its functions, each proved in the files below. Reading order of the
-- definitions: Message, Rules, Table, Valid, Outcome, Add; then Meaning and Number, by which a number of the table and a
-- message stand for each other.
-- Assumes nothing.
use Rattle.std.specs.Prelude.{◌≡◌, true, List, ℕ, ◌<◌}
use Rattle.terms.specs.Add.{add_of, AddsTerm}
use Rattle.terms.proofs.Add.{adds}
use Rattle.terms.specs.Meaning.{message_of, message_at}
use Rattle.terms.proofs.Meaning.{message_at_lem, messages_same}
use Rattle.terms.proofs.Number.{messages_once}
use Rattle.terms.specs.Rules.{term_at, Agree}
use Rattle.terms.specs.Valid.{Valid, holds}
use Rattle.terms.proofs.Valid.{holds_valid, valid_holds}

-- The test of a lent table says exactly that it holds together.
pub check_sound : (n : ℕ) (ts : List ℕ) (count : ℕ) → holds n ts count ≡ true → Valid n ts count
check_sound n ts count e = holds_valid n ts count e

pub check_complete : {n : ℕ} {ts : List ℕ} {count : ℕ} → Valid n ts count → holds n ts count ≡ true
check_complete v = valid_holds v

-- Adding a term keeps that, and an accepted answer is the number at which the term stands; older terms stay.
pub add_exact : {n : ℕ} {ts : List ℕ} {count : ℕ} → Valid n ts count → (w : ℕ) → AddsTerm n ts count w (add_of n ts count w)
add_exact v w = adds v w

-- A term's message is made of its operands' messages,
pub meaning : {n : ℕ} {ts : List ℕ} {count : ℕ} → Valid n ts count → (i : ℕ) → i < count → message_at ts i ≡ message_of (message_at ts) (term_at ts i)
meaning v i h = message_at_lem v.terms i h

-- stays the same in every table that has the same terms,
pub meaning_kept : {n : ℕ} {ts : List ℕ} {count : ℕ} → Valid n ts count → (ts' : List ℕ) → Agree ts ts' count → (i : ℕ) → i < count
    → message_at ts i ≡ message_at ts' i
meaning_kept v ts' g i h = messages_same v.terms ts' g i h

-- and is no other term's.
pub meaning_once : {n : ℕ} {ts : List ℕ} {count : ℕ} → Valid n ts count → (i j : ℕ) → i < count → j < count → message_at ts i ≡ message_at ts j → i ≡ j
meaning_once v i j hi hj e = messages_once v i j hi hj e
