-- `worklist::chains::link` meets its contract: an encryption is linked, another term is not. Assumes nothing.
use mathlib.Core.Path.{◌≡◌, sym, ap, subst}
use Prim.Native.Nat.{ℕ, ◌<◌}
use Rattle.words.specs.declared.Term.{Term}
use Rattle.words.specs.declared.Term.TheVariants.{Encrypted}
use Rattle.terms.specs.Meaning.{Under}
use Rattle.terms.proofs.Tags.{not_encrypted}
use Rattle.worklist.specs.Chains.{link_of}
use borrow.Enum.Refused.{opened}
use Rattle.worklist.proofs.chains.link.Goals as goal

key_below : (t : Term) (b k : ℕ) → t ≡ Encrypted b k → Under 512 t → k < 512
key_below t b k e u = (subst (Under 512) e u).1

pub bounds-chains-k : goal.bounds-chains-k
bounds-chains-k c =
    key_below c.args.t _ _ c.in-Encrypted.is c.requires.0

pub bounds-chains-k-in-Encrypted : goal.bounds-chains-k-in-Encrypted
bounds-chains-k-in-Encrypted c =
    key_below c.args.t _ _ c.in-Encrypted.is c.requires.0

pub returns-in-Encrypted : goal.returns-in-Encrypted
returns-in-Encrypted c =
    sym (ap (λ (x : Term). link_of x c.args.i c.args.chains.now) c.in-Encrypted.is)

pub returns-in_default : goal.returns-in_default
returns-in_default c = not_encrypted c.args.chains.now c.args.t _ (opened c.in_default.in_default-own.keys2)
