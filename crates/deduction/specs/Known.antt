-- The messages of a packed set of terms, and when such a set is saturated. For a saturated set that holds the wire, what
-- can be derived is what can be put together from the set.
-- Assumes nothing.
use Rattle.std.specs.Prelude.{◌≡◌, ◌⊎◌, true, List, ℕ, ◌<◌}
use Rattle.marks.specs.Marks.{marked}
use Rattle.words.specs.declared.Term.TheVariants.{Pair, Encrypted}
use Rattle.terms.specs.Meaning.{message_at}
use Rattle.terms.specs.Message.{Message}
use Rattle.terms.specs.Rules.{term_at}
use Rattle.deduction.specs.Derives.{Derives}
use Rattle.deduction.specs.Public.{public_of}

-- ---- definitions

-- m is the message of a marked term: with the wire's marks, "the terms on the wire"
pub record Known (ts : List ℕ) (count : ℕ) (ws : List ℕ) (m : Message) : Type 0 where
  pub at : ℕ
  pub below : at < count
  pub mark : marked ws at ≡ true
  pub is : message_at ts at ≡ m

-- "the intruder can build m": term t's message, where the set ws is on the wire
abbrev pub Derivable : (n flags : ℕ) (ts : List ℕ) (count : ℕ) (ws : List ℕ) (t : ℕ) → Type 0
Derivable n flags ts count ws t = Derives n flags (Known ts count ws) (message_at ts t)

-- a marked pair's halves are marked, and a marked encryption's body where the key is marked or public
pub record Saturated (flags : ℕ) (ts : List ℕ) (count : ℕ) (ws : List ℕ) : Type 0 where
  pub halves : (i l r : ℕ) → i < count → marked ws i ≡ true → term_at ts i ≡ Pair l r → (marked ws l ≡ true) × (marked ws r ≡ true)
  pub bodies : (i b k : ℕ) → i < count → marked ws i ≡ true → term_at ts i ≡ Encrypted b k
      → (marked ws k ≡ true) ⊎ (public_of flags (term_at ts k) ≡ true) → marked ws b ≡ true

-- ws' holds the terms of ws and nothing that cannot be derived from them, and is saturated
pub record Filled (n flags : ℕ) (ts : List ℕ) (count : ℕ) (ws ws' : List ℕ) : Type 0 where
  pub holds : (k : ℕ) → k < count → marked ws k ≡ true → marked ws' k ≡ true
  pub sound : (k : ℕ) → k < count → marked ws' k ≡ true → Derivable n flags ts count ws k
  pub full : Saturated flags ts count ws'
