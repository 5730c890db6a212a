-- What follows from the definitions of the same name in specs/.
-- Assumes nothing.
use Rattle.std.specs.Prelude.{ℕ, ◌<◌, ◌≤◌, List, ◌≡◌}
use Rattle.std.proofs.Common.{sym, ap, ◌∙◌, arith}
use Rattle.terms.specs.Meaning.{message_at}
use Rattle.terms.proofs.Meaning.{message_at_lem, pair_inv, encrypted_inv}
use Rattle.terms.specs.Message.{Message}
use Rattle.terms.specs.Number.{number_in, terms_of}
use Rattle.terms.proofs.Number.{number_at, terms_length, terms_list, terms_message}
use Rattle.terms.specs.Rules.{term_at}
use Rattle.terms.specs.Valid.{Terms, Valid}
use Rattle.terms.proofs.Valid.{fields_of_lem}
use Rattle.messages.specs.Parts.{Part, itself, in_left, in_right, in_body}

-- a term for the message x, not behind term i
pub record StandsBy (ts : List ℕ) (i : ℕ) (x : Message) : Type 0 where
  pub place : ℕ
  pub by : place ≤ i
  pub means : message_at ts place ≡ x

-- it is not behind an earlier one either
later : {ts : List ℕ} {x : Message} (i j : ℕ) → j < i → StandsBy ts j x → StandsBy ts i x
later i j h s = record { place = s.place; by = omega (arith, s.by, h); means = s.means }

module _ {n : ℕ} {ts : List ℕ} {count : ℕ} (v : Terms n ts count) where
  pub part_stands : {x m : Message} → Part x m → (i : ℕ) → i < count → message_at ts i ≡ m → StandsBy ts i x
  part_stands itself i h e = record { place = i; by = omega arith; means = e }
  part_stands (in_left p) i h e =
      let q = pair_inv (message_at ts) (term_at ts i) (sym (message_at_lem v i h) ∙ e) in
      let f = fields_of_lem v i h q.2 in
      later i q.0 f.0 (part_stands p q.0 (omega (arith, f.0, h)) q.3)
  part_stands (in_right p) i h e =
      let q = pair_inv (message_at ts) (term_at ts i) (sym (message_at_lem v i h) ∙ e) in
      let f = fields_of_lem v i h q.2 in
      later i q.1 f.1 (part_stands p q.1 (omega (arith, f.1, h)) q.4)
  part_stands (in_body p) i h e =
      let q = encrypted_inv (message_at ts) (term_at ts i) (sym (message_at_lem v i h) ∙ e) in
      let f = fields_of_lem v i h q.2 in
      later i q.0 f.0 (part_stands p q.0 (omega (arith, f.0, h)) q.3)

pub number_here : {n : ℕ} {ts : List ℕ} {count : ℕ} → Valid n ts count → (i : ℕ) → i < count → number_in (terms_of ts count) (message_at ts i) ≡ i
number_here {ts = ts} {count} v i h =
    ap (number_in (terms_of ts count)) (terms_message v i h) ∙ number_at (terms_of ts count) (terms_list v) i (omega (arith, terms_length v, h))
