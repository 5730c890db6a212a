-- `term_table::add` meets its contract, by the law for each way out. Assumes nothing.
use mathlib.Core.Path.{◌≡◌, sym, ap, ◌∙◌}
use Rattle.refusals.specs.Numbers.{number_of}
use Rattle.refusals.proofs.Numbers.{passed_up}
use Rattle.terms.specs.Rules.{refusal_of}
use Rattle.terms.proofs.Add.{add_refused, add_old, add_full, add_new}
use Rattle.term_table.proofs.add.Goals as goal
use Rattle.term_table.proofs.add.Goals.{In_ok-check_word}

passed : (c : In_ok-check_word) → let a = c.args in refusal_of a.n a.terms.now a.count a.word ≡ 0
passed c = sym c.check_word.ensures ∙ ap number_of c.in_ok-check_word.was

pub returns-in_err-check_word : goal.returns-in_err-check_word
returns-in_err-check_word c =
    let a = c.args in
    rw (passed_up c.from_residual.result c.in_err-check_word.field-0.0 c.from_residual.ensures.1)
    (add_refused a.n a.terms.now a.count a.word c.in_err-check_word.field-0.0 c.in_err-check_word.ensures)

pub returns-in-Some : goal.returns-in-Some
returns-in-Some c =
    let a = c.args in
    add_old a.n a.terms.now a.count a.word (passed (goal.at.returns-in-Some c).In_ok-check_word) (sym c.find.ensures ∙ c.in-Some.is)

pub returns-then-count-eq-MAX_TERMS : goal.returns-then-count-eq-MAX_TERMS
returns-then-count-eq-MAX_TERMS c =
    let a = c.args in
    add_full a.n a.terms.now a.count a.word (passed (goal.at.returns-then-count-eq-MAX_TERMS c).In_ok-check_word) (sym c.find.ensures ∙ c.in_default.is) c.if-count-eq-MAX_TERMS.true

pub returns : goal.returns
returns c =
    let a = c.args in
    add_new a.n a.terms.now a.count a.word (passed (goal.at.returns c).In_ok-check_word) (sym c.find.ensures ∙ c.in_default.is) c.if-count-eq-MAX_TERMS.false
