-- The encryptions under each key, as chains in one array: a key's place holds the last encryption under it, an encryption's
-- place the one before it under the same key. 0 ends a chain, since term 0 has no operands.
-- Assumes nothing.
use Rattle.std.specs.Prelude.{◌≡◌, ◌⊎◌, true, List, ℕ, zero, suc, ◌<◌, ◌≤◌, get_or, length, set}
use Rattle.words.specs.declared.Term.{Term}
use Rattle.words.specs.declared.Term.TheVariants.{Encrypted}
use Rattle.terms.specs.Operands.{by_operands}
use Rattle.terms.specs.Rules.{term_at, is_key}
use Rattle.terms.specs.Valid.{Valid}

-- ---- definitions

-- the array after term i was looked at
abbrev pub link_of : Term → ℕ → List ℕ → List ℕ
link_of t i c = by_operands c (λ l r. c) (λ b k. set (set c i (get_or c k 0)) k i) t

-- and after the terms below m, the first first
unfoldable pub chains_of : List ℕ → ℕ → List ℕ → List ℕ
chains_of ts zero c = c
chains_of ts (suc m) c = link_of (term_at ts m) m (chains_of ts m c)

-- e is the last encryption under key k below m, or 0 where there is none
pub record LastUnder (ts : List ℕ) (k m e : ℕ) : Type 0 where
  pub most : (i b : ℕ) → i < m → term_at ts i ≡ Encrypted b k → i ≤ e
  pub is : (e ≡ 0) ⊎ ((b : ℕ) × (e < m) × (term_at ts e ≡ Encrypted b k))

-- the chains of the terms below m, of `count`
pub record Chained (ts : List ℕ) (count m : ℕ) (c : List ℕ) : Type 0 where
  pub places : length c ≡ 512
  pub last : (k : ℕ) → k < count → is_key (term_at ts k) ≡ true → LastUnder ts k m (get_or c k 0)
  pub before : (e b k : ℕ) → e < m → term_at ts e ≡ Encrypted b k → LastUnder ts k e (get_or c e 0)

-- a table that holds together, whatever the number of principals
pub record Table (ts : List ℕ) (count : ℕ) : Type 0 where
  pub n : ℕ
  pub valid : Valid n ts count

-- and its chains
pub record Linked (ts : List ℕ) (count : ℕ) (c : List ℕ) : Type 0 where
  pub table : Table ts count
  pub chains : Chained ts count count c
