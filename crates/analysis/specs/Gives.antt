-- What a found term gives: a pair its halves, an encryption its body where the key has been found or is public, and a key the
-- bodies of the encryptions under it that have been found. Nothing becomes known that cannot be derived.
-- Assumes nothing.
use Rattle.std.specs.Prelude.{Bool, false, List, eqb}
use Rattle.std.proofs.Math.Bool.{cond}
use Prim.Native.Nat.{ℕ, zero, suc}
use Rattle.marks.specs.Marks.{marked}
use Rattle.words.specs.declared.Term.{Term}
use Rattle.terms.specs.Operands.{by_operands}
use Rattle.terms.specs.Rules.{term_at, is_key}
use Rattle.worklist.specs.Found.{Found, learn_of}
use Rattle.deduction.specs.Opens.{opens_of}

-- ---- definitions

-- the term is an encryption under key k
abbrev pub is_under : ℕ → Term → Bool
is_under k = by_operands false (λ l r. false) (λ b j. eqb j k)

-- term e is decrypted, if it is an encryption that has been found
abbrev pub decrypt_of : Found → ℕ → Term → Found
decrypt_of f e = by_operands f (λ l r. f) (λ b k. cond (marked f.known e) (learn_of f b) f)

-- the encryptions under key k, of the terms below m, the last first
unfoldable pub under_of : List ℕ → (k m : ℕ) → Found → Found
under_of ts k zero f = f
under_of ts k (suc m) f = under_of ts k m (cond (is_under k (term_at ts m)) (decrypt_of f m (term_at ts m)) f)

-- what a pair and an encryption give
abbrev pub parts_of : (flags : ℕ) (ts : List ℕ) → Found → Term → Found
parts_of flags ts f = by_operands f (λ l r. learn_of (learn_of f l) r) (λ b k. cond (opens_of flags ts f.known k) (learn_of f b) f)

-- what term i, of `count`, gives
abbrev pub given_of : (flags : ℕ) (ts : List ℕ) (count : ℕ) → Found → ℕ → Found
given_of flags ts count f i = cond (is_key (term_at ts i)) (under_of ts i count f) (parts_of flags ts f (term_at ts i))
