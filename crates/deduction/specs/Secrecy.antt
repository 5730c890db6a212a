-- One lemma for secrecy and authenticity: all that the intruder derives is guarded. A message is guarded if it shows no secret
-- key and each encryption under a secret key in it was issued; what stands inside such an encryption does not matter. Which
-- keys are secret and what was issued are parameters, so that other sets of rules can use the same lemma.
-- Assumes nothing.
use Rattle.std.specs.Prelude.{◌⊎◌}
use Rattle.terms.specs.Message.{Key, Message, principal, time, nonce, key, pair, encrypted}

abbrev pub Guarded : (Secret : Key → Type 0) (Issued : Message → Type 0) → Message → Type 0
Guarded S I (principal p) = Unit {0}
Guarded S I (time t) = Unit {0}
Guarded S I (nonce i) = Unit {0}
Guarded S I (key k) = ¬ (S k)
Guarded S I (pair x y) = Guarded S I x × Guarded S I y
Guarded S I (encrypted m k) = (S k × I (encrypted m k)) ⊎ ((¬ (S k)) × Guarded S I m)
