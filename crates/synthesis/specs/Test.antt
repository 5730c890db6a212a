-- The test as a function: sweeps until one adds nothing, then the descent. The code keeps a list in place of sweeps and
-- remembers what it put together; the answer is the same, since both decide `Derivable`.
-- Assumes nothing.
use Rattle.std.specs.Prelude.{Option, Some, None, Bool, ◌&&◌, cond, List, eqb}
use Rattle.std.proofs.Math.Bool.{true, false}
use Prim.Native.Nat.{ℕ, zero, suc}
use Rattle.marks.specs.Marks.{marked, size}
use Rattle.terms.specs.Descend.{descend}
use Rattle.terms.specs.Rules.{term_at}
use Rattle.synthesis.specs.Compose.{operands_of}
use Rattle.deduction.specs.Public.{public_of}
use Rattle.synthesis.specs.Sweep.{sweep_of}

-- ---- definitions

-- sweeps until one adds nothing, at most `fuel` of them
unfoldable pub saturate_of : (flags : ℕ) (ts : List ℕ) (count fuel : ℕ) (ws : List ℕ) → List ℕ
saturate_of flags ts count zero ws = ws
saturate_of flags ts count (suc fuel) ws =
    let next = sweep_of flags ts count ws in
    cond (eqb (size next) (size ws)) ws (saturate_of flags ts count fuel next)

-- both operands can be put together, or an atom is public
abbrev pub made_of : (ℕ → Bool) → Bool → Option (ℕ × ℕ) → Bool
made_of sub free (Some (l, r)) = sub l && sub r
made_of sub free None = free

-- term t is in the set or can be made, given the answers on its operands
abbrev pub compose_by : (flags : ℕ) (ts ws : List ℕ) (t : ℕ) → (ℕ → Bool) → Bool
compose_by flags ts ws t sub = cond (marked ws t) true (made_of sub (public_of flags (term_at ts t)) (operands_of (term_at ts t)))

-- term t can be put together from the set
unfoldable pub composes_of : (flags : ℕ) (ts ws : List ℕ) (t : ℕ) → Bool
composes_of flags ts ws = descend false (compose_by flags ts ws)

-- "the intruder can build m": saturate, then compose. Every sweep but the last adds one of 512 terms.
unfoldable pub derivable_of : (flags : ℕ) (ts : List ℕ) (count : ℕ) (ws : List ℕ) (t : ℕ) → Bool
derivable_of flags ts count ws t = composes_of flags ts (saturate_of flags ts count 513 ws) t
