-- `lent_terms::term_stands` meets its contract: what the rules and the search say is what the test computes. Assumes nothing.
use mathlib.Core.Path.{sym, ◌∙◌}
use Rattle.lent_terms.proofs.Lent.{stands_found, stands_not}
use Rattle.lent_terms.proofs.term_stands.Goals as goal

pub returns-then-is_ok : goal.returns-then-is_ok
returns-then-is_ok c =
    let a = c.args in
    stands_found a.n a.terms.now a.i c.check_word.result c.check_word.ensures (sym c.is_ok.ensures.value ∙ c.if-is_ok.true) c.find.ensures c.is_none.ensures

pub returns-else-is_ok : goal.returns-else-is_ok
returns-else-is_ok c =
    let a = c.args in
    c.if-is_ok.false ∙ stands_not a.n a.terms.now a.i c.check_word.result c.check_word.ensures (sym c.is_ok.ensures.value ∙ c.if-is_ok.false)
