-- What the crate promises beside the contracts of its functions, which say that `raw_at` gives `raw_at` and that `check_records` gives
-- `records_refusal` of the lent words. Raw and Refusals have the definitions, Calls says which calls the records are.
-- Assumes nothing.
use Rattle.std.specs.Prelude.{◌≡◌, cond, List, ℕ, ◌^◌, ◌<◌, ◌≤◌}
use Rattle.exchange.specs.declared.call.Call.{Call}
use Rattle.exchange.specs.Calls.{Sized}
use Rattle.realm.specs.declared.header.Realm.{Realm}
use Rattle.raw_records.specs.Raw.{records_of}
use Rattle.raw_records.specs.Refusals.{first, own_refusal, records_refusal}
use Rattle.raw_records.specs.Calls.{raw_for, AllRawSized}
use Rattle.raw_records.proofs.Fit as fit
use Rattle.raw_records.specs.Fit.{Words32}
use Rattle.raw_records.proofs.Apart as apart
use Rattle.raw_records.specs.Apart.{fields_refusal, walk_has}

-- Records that pass by their own fields have the widths of the file's fields.
pub records_fit : (n : ℕ) → n < 2 ^ 8 → (words : List ℕ) → Words32 words → records_refusal n (records_of words) ≡ 0 → AllRawSized (records_of words)
records_fit n h words w e = fit.records_fit n h words w e

-- "on its own fields (what depends on the walk's runs and terms apart)": in any realm of n principals a call's fields are refused
-- with the number of its record's own fields, and behind it with 6 for a run or a term that is not present or a key of another kind.
pub fields_apart : (h : Realm) (ts : List ℕ) → h.runs ≤ 256 → h.terms ≤ 65536 → (c : Call) → Sized c
    → fields_refusal h ts c ≡ first (own_refusal h.n (raw_for c)) (cond (walk_has h ts c) 0 6)
fields_apart h ts p q c f = apart.fields_apart h ts p q c f
