-- What follows from the definitions of the same name in specs/.
-- Assumes nothing.
use Rattle.std.specs.Prelude.{◌≡◌, refl, true, List, ℕ, ◌^◌, ◌<◌}
use Rattle.std.proofs.Common.{le-leb, leb-true}
use Rattle.marks.proofs.Marks.{set_is, is_set_lem}
use Rattle.words.specs.declared.Term.{Term}
use Rattle.words.specs.declared.Term.TheVariants.{Principal, Time, Nonce, LongTermKey, SessionKey, Pair, Encrypted, Unknown}
use Rattle.terms.proofs.Choice.{no_true}
use Rattle.terms.specs.Meaning.{message_of}
use Rattle.terms.specs.Message.{long_term, session, Message, principal, time, nonce, key, pair, encrypted}
use Rattle.terms.proofs.RulesLaws.{Fields}
use Rattle.words.proofs.Word.{TimeFits}
use Rattle.deduction.specs.Derives.{Own, Bad, Derives, a_principal, a_time, bad_key, own_nonce, own_key}
use Rattle.deduction.specs.Public.{public_of}

-- the clauses of `Derives` that need neither the wire nor other members
abbrev pub Free : (n flags : ℕ) → Message → Type 0
Free n flags (principal p) = p < n
Free n flags (time t) = t < 2 ^ 32
Free n flags (nonce i) = Own i
Free n flags (key (long_term p)) = Bad n flags p
Free n flags (key (session i)) = Own i
Free n flags (pair a b) = ⊥
Free n flags (encrypted m k) = ⊥

pub free : {n flags : ℕ} {Wire : Message → Type 0} (m : Message) → Free n flags m → Derives n flags Wire m
free (principal p) f = a_principal f
free (time t) f = a_time f
free (nonce i) f = own_nonce f
free (key (long_term p)) f = bad_key f
free (key (session i)) f = own_key f
free (pair a b) f = absurd f
free (encrypted m k) f = absurd f

module _ (n flags : ℕ) (ts : List ℕ) (at : ℕ) (sub : ℕ → Message) where
  pub public_free : (t : Term) → Fields n ts at t → TimeFits t → public_of flags t ≡ true → Free n flags (message_of sub t)
  public_free (Principal p) f t e = f
  public_free (Time x) f t e = t
  public_free (Nonce i) f t e = record { low = leb-true 64 i e; high = f }
  public_free (LongTermKey p) f t e = record { present = f; flagged = set_is flags p e }
  public_free (SessionKey i) f t e = record { low = leb-true 64 i e; high = f }
  public_free (Pair l r) f t e = no_true e
  public_free (Encrypted b k) f t e = no_true e
  public_free Unknown f t e = no_true e

  pub free_public : (t : Term) → Fields n ts at t → Free n flags (message_of sub t) → public_of flags t ≡ true
  free_public (Principal p) f e = refl
  free_public (Time x) f e = refl
  free_public (Nonce i) f e = le-leb 64 i e.low
  free_public (LongTermKey p) f e = is_set_lem flags p e.flagged
  free_public (SessionKey i) f e = le-leb 64 i e.low
  free_public (Pair l r) f e = absurd e
  free_public (Encrypted b k) f e = absurd e
  free_public Unknown f e = absurd f
