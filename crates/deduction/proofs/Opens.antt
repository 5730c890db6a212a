-- What follows from the definitions of the same name in specs/.
-- Assumes nothing.
use Rattle.std.specs.Prelude.{◌≡◌, refl, ◌⊎◌, Bool, true, List, ℕ, ◌<◌, get_or}
use Rattle.std.proofs.Common.{sym, ap, ◌∙◌, subst, inl, inr, arith}
use Rattle.marks.specs.Marks.{marked}
use Rattle.words.specs.declared.Term.{Term}
use Rattle.words.specs.declared.Term.TheVariants.{Pair, Encrypted}
use Rattle.words.proofs.Word.{time_fits}
use Rattle.terms.proofs.Choice.{cond_elim}
use Rattle.terms.specs.Meaning.{message_of, message_at}
use Rattle.terms.proofs.Meaning.{message_at_lem, key_at}
use Rattle.terms.specs.Message.{Message}
use Rattle.terms.specs.Rules.{term_at}
use Rattle.terms.specs.Valid.{Valid}
use Rattle.terms.proofs.Valid.{fields_at, fields_of_lem}
use Rattle.deduction.specs.Derives.{Derives, left, right, decrypt}
use Rattle.deduction.specs.Public.{public_of}
use Rattle.deduction.proofs.Public.{public_free, free}
use Rattle.deduction.specs.Opens.{opens_of}

pub opens_if : (flags : ℕ) (ts ws : List ℕ) (k : ℕ) → (marked ws k ≡ true) ⊎ (public_of flags (term_at ts k) ≡ true) → opens_of flags ts ws k ≡ true
opens_if flags ts ws k (inl x) = rw x
opens_if flags ts ws k (inr x) = cond_elim (λ (c : Bool). c ≡ true) (marked ws k) true (public_of flags (term_at ts k)) (λ _. refl) (λ _. x)

module _ (flags : ℕ) {n : ℕ} {ts : List ℕ} {count : ℕ} (v : Valid n ts count) (Wire : Message → Type 0) where
  -- term i can be derived
  abbrev pub Sure : ℕ → Type 0
  Sure i = Derives n flags Wire (message_at ts i)

  -- a known key, or a public one, can be derived
  pub key_sure : (ws : List ℕ) → ((k : ℕ) → k < count → marked ws k ≡ true → Sure k) → (k : ℕ) → k < count → opens_of flags ts ws k ≡ true → Sure k
  key_sure ws s k h = cond_elim (λ (c : Bool). c ≡ true → Sure k) (marked ws k) true (public_of flags (term_at ts k))
      (λ m _. s k h m)
      (λ _ p. subst (Derives n flags Wire) (sym (message_at_lem v.terms k h)) (free (message_of (message_at ts) (term_at ts k)) (public_free n flags ts k (message_at ts) (term_at ts k) (fields_at v.terms k h) (time_fits (get_or ts k 0)) p)))

  module _ (i : ℕ) (h : i < count) where
    reads : {t : Term} → term_at ts i ≡ t → Sure i → Derives n flags Wire (message_of (message_at ts) t)
    reads e d = subst (Derives n flags Wire) (message_at_lem v.terms i h ∙ ap (message_of (message_at ts)) e) d

    pub left_sure : (l r : ℕ) → term_at ts i ≡ Pair l r → Sure i → Sure l
    left_sure l r e d = left (reads e d)

    pub right_sure : (l r : ℕ) → term_at ts i ≡ Pair l r → Sure i → Sure r
    right_sure l r e d = right (reads e d)

    pub body_sure : (b k : ℕ) → term_at ts i ≡ Encrypted b k → Sure i → Sure k → Sure b
    body_sure b k e d dk =
        let f = fields_of_lem v.terms i h e in
        decrypt (reads e d) (subst (Derives n flags Wire) (key_at v.terms k (omega (arith, f.1)) f.2) dk)
