-- `rewriting::back::rewrite` meets its contract: the slice has room for a file's words, and those of a file that reads whole go on.
-- Assumes nothing.
use mathlib.Core.List.{List}
use mathlib.Core.Path.{◌≡◌, sym, ap, ◌∙◌}
use Prim.Native.Nat.{ℕ, ◌≤◌}
use native.Mathlib.Omega.{arith}
use lib.ListN.{length, drop, replicate, length-replicate, length-take}
use Rattle.std.specs.Prelude.{Ok, Result}
use Rattle.refusals.specs.Numbers.{numbered}
use Rattle.refusals.specs.declared.Refusal.{Refusal}
use Rattle.records.specs.Calls.{Ending, calls_of}
use Rattle.records.specs.Headers.{header_width, header_of}
use Rattle.records.proofs.Promises as records
use Rattle.rewriting.specs.Reading.{read_outcome, file_words}
use Rattle.rewriting.proofs.ReadingLaws.{ReadWhole, words_few, counted, broken_off}
use Rattle.rewriting.specs.Rewriting.{written_back, by_ending, rewritten_of}
use Rattle.rewriting.proofs.Rewriting.{by_header_lem, by_ending_lem}
use Rattle.rewriting.proofs.back.rewrite.Goals as goal
use Rattle.rewriting.proofs.back.rewrite.Goals.{After-header_width-from, In-Ok-read_words}

-- the header that was read
was_read-after-header_width-from : (c : After-header_width-from) → Ok c.in-Ok.header ≡ header_of c.args.file.now
was_read-after-header_width-from c = ap numbered (sym c.in-Ok.is) ∙ c.read_header.ensures

-- where its records begin
from_is : (c : After-header_width-from) → c.header_width-from.result ≡ header_width c.in-Ok.header.mark
from_is c = c.header_width-from.ensures

-- the words have room
few : (c : After-header_width-from) → length (file_words c.header_width-from.result c.args.file.now) ≤ 65520
few c =
    let file = c.args.file.now in
    let h = records.header_read file _ (sym (was_read-after-header_width-from c)) in
    words_few c.header_width-from.result file (omega (arith, from_is c, h.least)) h.most

-- the ending of the reading is that of the file
ending-is : (c : After-header_width-from) {e : Ending} → (calls_of (drop c.header_width-from.result c.args.file.now)).ending ≡ e
    → by_ending e c.in-Ok.header c.args.file.now ≡ rewritten_of c.args.file.now
ending-is c h =
    let file = c.args.file.now in
    by_ending_lem file _ (was_read-after-header_width-from c) (ap (λ (k : ℕ). (calls_of (drop k file)).ending) (sym (from_is c)) ∙ h)

pub returns-in_default : goal.returns-in_default
returns-in_default c = by_header_lem _ (ap numbered (sym c.in_default.is) ∙ c.read_header.ensures)

pub read_words-requires : goal.read_words-requires
read_words-requires c = omega (arith, few (goal.at.read_words-requires c).After-header_width-from, length-replicate {A = ℕ} 65520 0)

pub returns-in_default-read_words : goal.returns-in_default-read_words
returns-in_default-read_words c =
    let r = c.read_words in
    ending-is (goal.at.returns-in_default-read_words c).After-header_width-from
    (broken_off _ _ (replicate 65520 0) r.new.words _ (ap (λ (w : Result ℕ Refusal). read_outcome (numbered w) r.new.words) (sym c.in_default-read_words.is) ∙ r.ensures))

-- all words of the file were read
whole : (c : In-Ok-read_words)
    → ReadWhole c.header_width-from.result c.args.file.now c.read_words.new.words c.in-Ok-read_words.end
whole c =
    let r = c.read_words in
    counted _ _ (replicate 65520 0) r.new.words _ (ap (λ (w : Result ℕ Refusal). read_outcome (numbered w) r.new.words) (sym c.in-Ok-read_words.is) ∙ r.ensures)

pub slice_bounds-words-end : goal.slice_bounds-words-end
slice_bounds-words-end c = let w = whole c in omega (arith, w.count_is, ap (λ (ws : List ℕ). length ws) w.front_is, length-take c.in-Ok-read_words.end c.read_words.new.words)

pub slice_bounds-write_back-end : goal.slice_bounds-write_back-end
slice_bounds-write_back-end c = let w = whole (goal.at.slice_bounds-write_back-end c).In-Ok-read_words in w.count_is ∙ sym (ap (λ (ws : List ℕ). length ws) w.front_is)

pub returns : goal.returns
returns c =
    let w = whole (goal.at.returns c).In-Ok-read_words in
    let g = c.in-Ok.header in
    let file = c.args.file.now in
    c.write_back.ensures
    ∙ ap (λ (ws : List ℕ). written_back g ws file) w.front_is
    ∙ ap (λ (from : ℕ). written_back g (file_words from file) file) (from_is (goal.at.returns c).After-header_width-from)
    ∙ ending-is (goal.at.returns c).After-header_width-from w.ending
