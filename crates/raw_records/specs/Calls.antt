-- The calls of a list of records, and the words by which calls are handed over: the writer and the reader of files speak of the same
-- calls.
-- Assumes nothing.
use Rattle.std.specs.Prelude.{List, [], ◌∷◌, ◌++◌, ℕ, Option, Some, None}
use Rattle.exchange.specs.declared.call.Call.{Call}
use Rattle.exchange.specs.declared.call.Call.TheVariants as call
use Rattle.exchange.specs.Calls.{Sized}
use Rattle.records.specs.Records.{term_mark, step_mark}
use Rattle.raw_records.specs.declared.raw.RawRecord.{RawRecord}
use Rattle.raw_records.specs.declared.raw.RawRecord.TheVariants.{Term, Step}

-- ---- definitions

-- the calls of records, in their order
abbrev pub calls_from : List (Option RawRecord) → List Call
calls_from [] = []
calls_from (Some (Term kind l r) ∷ raws) = call.Term kind l r ∷ calls_from raws
calls_from (Some (Step step run a b m t) ∷ raws) = call.Step step run a b m t ∷ calls_from raws
calls_from (None ∷ raws) = calls_from raws

abbrev pub raw_for : Call → Option RawRecord
raw_for (call.Term kind l r) = Some (Term kind l r)
raw_for (call.Step step run a b m t) = Some (Step step run a b m t)

abbrev pub call_words : Call → List ℕ
call_words (call.Term kind l r) = term_mark ∷ kind ∷ l ∷ r ∷ 0 ∷ 0 ∷ 0 ∷ []
call_words (call.Step step run a b m t) = step_mark ∷ step ∷ run ∷ a ∷ b ∷ m ∷ t ∷ []

-- the words by which a caller hands calls to the writer
abbrev pub words_for : List Call → List ℕ
words_for [] = []
words_for (c ∷ calls) = call_words c ++ words_for calls

-- it is a record, and every number has its field's width
abbrev pub RawSized : Option RawRecord → Type 0
RawSized (Some (Term kind l r)) = Sized (call.Term kind l r)
RawSized (Some (Step step run a b m t)) = Sized (call.Step step run a b m t)
RawSized None = ⊥

abbrev pub AllRawSized : List (Option RawRecord) → Type 0
AllRawSized [] = Unit {0}
AllRawSized (raw ∷ raws) = RawSized raw × AllRawSized raws
