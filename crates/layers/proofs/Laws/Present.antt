-- What is known of a term that is present: its message, its operands, and what the layers read of it.
-- Assumes nothing.
use Rattle.std.specs.Prelude.{◌≡◌, refl, List, ℕ, ◌<◌, Option, Some, option_map}
use Rattle.std.proofs.Common.{sym, ap, ◌∙◌, subst, arith}
use Rattle.words.specs.declared.Term.{Term}
use Rattle.words.specs.declared.Term.TheVariants.{Principal, Time, Nonce, LongTermKey, SessionKey, Pair, Encrypted, Unknown}
use Rattle.terms.specs.Meaning.{key_of, message_of, message_at}
use Rattle.terms.proofs.Meaning.{message_at_lem, key_at}
use Rattle.terms.specs.Message.{Message, key, pair, encrypted}
use Rattle.terms.specs.Rules.{term_at}
use Rattle.terms.proofs.RulesLaws.{Fields}
use Rattle.terms.proofs.Valid.{fields_at}
use Rattle.layers.specs.Layers.{PAIR, ENCRYPTED, number, operands, of_kind, atom, first, under}
use Rattle.layers.specs.Present.{Present, held, Opens}
use Rattle.layers.proofs.Laws.Layers.{of_kind_lem, of_other, layer_read}

-- ---- an answer is known by its case

pub opens : {K : Type 0} (number : K → ℕ) {r s : Option (K × ℕ)} → r ≡ s → (ts : List ℕ) (i : ℕ) (o : Option (ℕ × Message)) → Opens number ts i r o → Opens number ts i s o
opens number e ts i o h = subst (λ r. Opens number ts i r o) e h

-- ---- a term without operands holds what is read of its message

held_atom : (n : ℕ) (ts : List ℕ) (i : ℕ) (sub : ℕ → Message) (k : ℕ) → k < 5 → (t : Term) → Fields n ts i t → held k t ≡ atom k (message_of sub t)
unfolding of_kind
held_atom n ts i sub k h (Principal p) f = refl
held_atom n ts i sub k h (Time x) f = refl
held_atom n ts i sub k h (Nonce x) f = refl
held_atom n ts i sub k h (LongTermKey p) f = refl
held_atom n ts i sub k h (SessionKey x) f = refl
held_atom n ts i sub k h (Pair l r) f = sym (of_other number k (pair (sub l) (sub r)) (λ e. omega arith))
held_atom n ts i sub k h (Encrypted b j) f = sym (of_other number k (encrypted (sub b) (key_of (sub j))) (λ e. omega arith))
held_atom n ts i sub k h Unknown f = absurd f

-- ---- a term's message, kind and operands

module _ {ts : List ℕ} {i : ℕ} (p : Present ts i) where
  pub message_here : {t : Term} → t ≡ term_at ts i → message_at ts i ≡ message_of (message_at ts) t
  message_here e = message_at_lem p.valid.terms i p.below ∙ ap (message_of (message_at ts)) (sym e)

  pub fields_here : {t : Term} → t ≡ term_at ts i → Fields p.n ts i t
  fields_here e = subst (Fields p.n ts i) (sym e) (fields_at p.valid.terms i p.below)

  earlier : (j : ℕ) → j < i → Present ts j
  earlier j h = record { n = p.n; count = p.count; valid = p.valid; below = omega (arith, p.below) }

  -- "Every operand term of a pair or lock is an earlier term."
  pub pair_operands : {l r : ℕ} → Pair l r ≡ term_at ts i → Present ts l × Present ts r
  pair_operands {l} {r} e = let f = fields_here e in (earlier l f.0, earlier r f.1)

  pub encrypted_operands : {b k : ℕ} → Encrypted b k ≡ term_at ts i → Present ts b × Present ts k
  encrypted_operands {b} {k} e = let f = fields_here e in (earlier b f.0, earlier k f.1)

  -- the key of an encryption is a key
  key_operand : {b k : ℕ} → Encrypted b k ≡ term_at ts i → key (key_of (message_at ts k)) ≡ message_at ts k
  key_operand {b} {k} e =
      let f = fields_here e in
      sym (key_at p.valid.terms k (omega (arith, f.1, p.below)) f.2)

  -- ---- layers

  pub atom_here : {t : Term} → t ≡ term_at ts i → (k : ℕ) → k < 5 → held k t ≡ atom k (message_at ts i)
  atom_here {t} e k h = rw (message_here e) (held_atom p.n ts i (message_at ts) k h t (fields_here e))

  pub pair_here : {l r : ℕ} → Pair l r ≡ term_at ts i → of_kind PAIR operands (message_at ts i) ≡ Some (message_at ts l, message_at ts r)
  pair_here {l} {r} e = rw (message_here e) (of_kind_lem operands PAIR (pair (message_at ts l) (message_at ts r)) refl)

  -- what a layer reads, if o is what its value reads as
  module _ (k : ℕ) {o : Option ℕ} where
    pub first_here : {l r : ℕ} → Pair l r ≡ term_at ts i → o ≡ atom k (message_at ts l) → first k (message_at ts i) ≡ option_map (λ v. (v, message_at ts r)) o
    first_here {l} {r} e h = rw (message_here e, h) (layer_read PAIR (λ p. p.0) (λ p. p.1) k (pair (message_at ts l) (message_at ts r)) refl)

    pub under_here : {b j : ℕ} → Encrypted b j ≡ term_at ts i → o ≡ atom k (message_at ts j) → under k (message_at ts i) ≡ option_map (λ v. (v, message_at ts b)) o
    under_here {b} {j} e h =
        rw (message_here e, h, ← key_operand e)
        (layer_read ENCRYPTED (λ p. p.1) (λ p. p.0) k (encrypted (message_at ts b) (key_of (message_at ts j))) refl)
