-- What the crate promises beside the contract of its function. Reading order of the definitions: Derives, then Known (the
-- messages of a packed set of terms, and which terms can be derived). The other files are laws.
-- Assumes nothing.
use Rattle.std.specs.Prelude.{ℕ}
use Rattle.terms.specs.Message.{Key, long_term, session, Message}
use Rattle.deduction.specs.Derives.{Own, Bad, Derives}
use Rattle.deduction.specs.Secrecy.{Guarded}
use Rattle.deduction.proofs.Secrecy.{guarded, derives_more}

-- More on the wire derives more.
pub monotone : {n flags : ℕ} {w w' : Message → Type 0} → ((m : Message) → w m → w' m) → {m : Message} → Derives n flags w m → Derives n flags w' m
monotone f d = derives_more f d

-- If what is on the wire shows no secret key, and each encryption under one was issued, so it is with all that is derived.
pub secrecy : (n flags : ℕ) (Wire : Message → Type 0) (Secret : Key → Type 0) (Issued : Message → Type 0)
    → ((m : Message) → Wire m → Guarded Secret Issued m)
    → ((i : ℕ) → Own i → ¬ (Secret (session i)))
    → ((p : ℕ) → Bad n flags p → ¬ (Secret (long_term p)))
    → {m : Message} → Derives n flags Wire m → Guarded Secret Issued m
secrecy n flags Wire Secret Issued safe not_own notBad d = guarded n flags Wire Secret Issued safe not_own notBad d
