-- A term that is no pair has the message of no pair, and one that is no encryption that of none, so nothing is read of its
-- operands. Assumes nothing.
use Rattle.std.specs.Prelude.{List, ◌≡◌, refl, ℕ, None}
use Rattle.std.proofs.Common.{sym, ap, ◌∙◌, arith}
use Rattle.words.specs.declared.Term.{Term}
use Rattle.words.specs.declared.Term.TheVariants.{Principal, Time, Nonce, LongTermKey, SessionKey, Pair, Encrypted, Unknown}
use Rattle.terms.specs.Meaning.{message_of, message_at}
use Rattle.terms.specs.Message.{Message}
use Rattle.terms.specs.Rules.{term_at}
use Rattle.terms.proofs.RulesLaws.{Fields}
use Rattle.layers.specs.Layers.{PAIR, ENCRYPTED, kind, operands, of_kind, first, under}
use Rattle.layers.proofs.Laws.Layers.{of_other, no_layer}
use Rattle.layers.specs.Present.{Present}
use Rattle.layers.proofs.Laws.Present.{message_here, fields_here}

module _ (n : ℕ) (ts : List ℕ) (i : ℕ) (sub : ℕ → Message) where
  no_pair : (t : Term) → Fields n ts i t → ((l r : ℕ) → t ≡ Pair l r → ⊥) → kind (message_of sub t) ≡ PAIR → ⊥
  no_pair (Principal p) f h e = omega arith
  no_pair (Time x) f h e = omega arith
  no_pair (Nonce x) f h e = omega arith
  no_pair (LongTermKey p) f h e = omega arith
  no_pair (SessionKey x) f h e = omega arith
  no_pair (Pair l r) f h e = h l r refl
  no_pair (Encrypted b k) f h e = omega arith
  no_pair Unknown f h e = f

  no_encryption : (t : Term) → Fields n ts i t → ((b k : ℕ) → t ≡ Encrypted b k → ⊥) → kind (message_of sub t) ≡ ENCRYPTED → ⊥
  no_encryption (Principal p) f h e = omega arith
  no_encryption (Time x) f h e = omega arith
  no_encryption (Nonce x) f h e = omega arith
  no_encryption (LongTermKey p) f h e = omega arith
  no_encryption (SessionKey x) f h e = omega arith
  no_encryption (Pair l r) f h e = omega arith
  no_encryption (Encrypted b k) f h e = h b k refl
  no_encryption Unknown f h e = f

module _ {ts : List ℕ} {i : ℕ} (p : Present ts i) {t : Term} (e : t ≡ term_at ts i) where
  module _ (h : (l r : ℕ) → t ≡ Pair l r → ⊥) where
    other_kind : kind (message_at ts i) ≡ PAIR → ⊥
    other_kind q = no_pair p.n ts i (message_at ts) t (fields_here p e) h (sym (ap kind (message_here p e)) ∙ q)

    pub not_pair : of_kind PAIR operands (message_at ts i) ≡ None
    not_pair = of_other operands PAIR (message_at ts i) other_kind

    pub not_first : (k : ℕ) → first k (message_at ts i) ≡ None
    not_first k = no_layer PAIR (λ p. p.0) (λ p. p.1) k (message_at ts i) other_kind

  pub not_under : ((b k : ℕ) → t ≡ Encrypted b k → ⊥) → (k : ℕ) → under k (message_at ts i) ≡ None
  not_under h k =
      no_layer ENCRYPTED (λ p. p.1) (λ p. p.0) k (message_at ts i)
      (λ q. no_encryption p.n ts i (message_at ts) t (fields_here p e) h (sym (ap kind (message_here p e)) ∙ q))
