-- What follows from the definitions of the same name in specs/.
-- Assumes nothing.
use Rattle.std.specs.Prelude.{◌≡◌, refl, List, [], ◌∷◌, map, Option, Some}
use Rattle.std.proofs.Common.{ap}
use Rattle.exchange.specs.declared.call.Call.{Call}
use Rattle.exchange.specs.declared.call.Call.TheVariants as call
use Rattle.raw_records.specs.declared.raw.RawRecord.{RawRecord}
use Rattle.raw_records.specs.declared.raw.RawRecord.TheVariants.{Term, Step}
use Rattle.raw_records.specs.Raw.{raw_by, records_of}
use Rattle.raw_records.specs.Calls.{raw_for, words_for}

-- ---- laws

pub records_for : (calls : List Call) → records_of (words_for calls) ≡ map raw_for calls
unfolding records_of raw_by
records_for [] = refl
records_for (call.Term kind l r ∷ calls) = ap (λ (raws : List (Option RawRecord)). Some (Term kind l r) ∷ raws) (records_for calls)
records_for (call.Step step run a b m t ∷ calls) = ap (λ (raws : List (Option RawRecord)). Some (Step step run a b m t) ∷ raws) (records_for calls)
