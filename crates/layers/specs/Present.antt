-- A term that is present in a lent table that holds together, what a term without operands holds, and what a layer's answer says of
-- the term's message.
-- Assumes nothing.
use Rattle.std.specs.Prelude.{◌≡◌, cond, List, ℕ, ◌<◌, eqb, Option, None, Some}
use Rattle.terms.specs.Meaning.{message_at}
use Rattle.terms.specs.Message.{Message}
use Rattle.terms.specs.Valid.{Valid}
use Rattle.words.specs.declared.Term.{Term}
use Rattle.words.specs.declared.Term.TheVariants as terms
use Rattle.layers.specs.Layers.{PRINCIPAL, TIME, NONCE, LONG_TERM_KEY, SESSION_KEY}

-- term i is present in the table ts, whatever the realm and the count: the calls ask for no more
pub record Present (ts : List ℕ) (i : ℕ) : Type 0 where
  pub n : ℕ
  pub count : ℕ
  pub valid : Valid n ts count
  pub below : i < count

-- x, if the kind is k
abbrev at_kind : (k kind x : ℕ) → Option ℕ
at_kind k kind x = cond (eqb kind k) (Some x) None

-- the value of a term without operands, if it is of kind k
abbrev pub held : (k : ℕ) → Term → Option ℕ
held k (terms.Principal p) = at_kind k PRINCIPAL p
held k (terms.Time t) = at_kind k TIME t
held k (terms.Nonce i) = at_kind k NONCE i
held k (terms.LongTermKey p) = at_kind k LONG_TERM_KEY p
held k (terms.SessionKey i) = at_kind k SESSION_KEY i
held k (terms.Pair l r) = None
held k (terms.Encrypted b j) = None
held k terms.Unknown = None

-- the answer is what a layer reads of term i: the same value, and what is left is an earlier term that stands for the message left
abbrev pub Opens : {K : Type 0} → (K → ℕ) → List ℕ → (i : ℕ) → Option (K × ℕ) → Option (ℕ × Message) → Type 0
Opens number ts i None o = o ≡ None
Opens number ts i (Some (v, rest)) o = (o ≡ Some (number v, message_at ts rest)) × Present ts rest × (rest < i)
