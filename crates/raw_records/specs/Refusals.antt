-- What turns a record away by its own fields, "what depends on the walk's runs and terms apart": refusals 3 to 6.
-- Assumes nothing.
use Rattle.std.specs.Prelude.{Bool, ◌&&◌, ◌||◌, cond, List, [], ◌∷◌, map, ℕ, zero, suc, Option, Some, None}
use Rattle.std.proofs.Math.Dec.{ltb, eqb}
use Rattle.realm.specs.declared.header.Realm.{Realm}
use Rattle.realm.specs.declared.input.Step as fields
use Rattle.realm.specs.Input.{input_refusal}
use Rattle.raw_records.specs.declared.raw.RawRecord.{RawRecord}
use Rattle.raw_records.specs.declared.raw.RawRecord.TheVariants.{Term, Step}

-- "the first that applies is given": the first number that is not 0
abbrev pub first : ℕ → ℕ → ℕ
first zero b = b
first (suc a) b = suc a

abbrev pub first_of : List ℕ → ℕ
first_of [] = 0
first_of (a ∷ rest) = first a (first_of rest)

-- ---- a term

-- kinds 1, 5 and 6 use R
abbrev pub uses_right : ℕ → Bool
uses_right kind = eqb kind 1 || eqb kind 5 || eqb kind 6

-- the first L out of range: "party at n or above", "nonce or key above 95", or what two bytes do not hold
abbrev pub limit_of : (n kind : ℕ) → ℕ
limit_of n kind = cond (eqb kind 0 || eqb kind 3) n (cond (eqb kind 2 || eqb kind 4) 96 65536)

-- 4 "kind above 6", 5 "a field the record does not use is not 0", 6 as above
unfoldable pub term_refusal : (n kind l r : ℕ) → ℕ
term_refusal n kind l r = cond (ltb 6 kind) 4 (cond (uses_right kind || eqb r 0) (cond (ltb l (limit_of n kind) && ltb r 65536) 0 6) 5)

-- ---- a step

-- a realm with every run and term that a record can name
abbrev pub roomy : (n : ℕ) → Realm
roomy n = record { n = n; rules = 0; flags = 0; ls = 0; la = 0; clock = 0; terms = 65536; runs = 256; entries = 0 }

abbrev pub step_fields : (step run a b m t : ℕ) → fields.Step
step_fields step run a b m t = record { step = step; run = run; a = a; b = b; m = m; t = t }

-- the rules of the fields of a step, in it
abbrev pub step_refusal : (n step run a b m t : ℕ) → ℕ
step_refusal n step run a b m t = input_refusal (roomy n) (step_fields step run a b m t)

-- ---- a record

-- 3 "a mark other than TM or ST after the first record, or a record cut short"
unfoldable pub own_refusal : (n : ℕ) → Option RawRecord → ℕ
own_refusal n (Some (Term kind l r)) = term_refusal n kind l r
own_refusal n (Some (Step step run a b m t)) = step_refusal n step run a b m t
own_refusal n None = 3

-- the first record that is turned away decides
abbrev pub records_refusal : (n : ℕ) → List (Option RawRecord) → ℕ
records_refusal n raws = first_of (map (own_refusal n) raws)
