-- `calls::knowledge::known` meets its contract: the header first, then the tables. Assumes nothing.
use Rattle.std.proofs.Common.{sym, ◌∙◌}
use Rattle.calls.proofs.Known.{realm_misfit, realm_fit}
use Rattle.calls.proofs.knowledge.known.Goals as goal

pub returns-then-not-realm_fits : goal.returns-then-not-realm_fits
returns-then-not-realm_fits c =
    let a = c.args in
    realm_misfit a.h a.terms.now a.wire.now a.out.now (sym c.realm_fits.ensures ∙ c.if-not-realm_fits.true)

pub returns : goal.returns
returns c =
    let a = c.args in
    c.derive_terms.ensures ∙ realm_fit a.h a.terms.now a.wire.now a.out.now (sym c.realm_fits.ensures ∙ c.if-not-realm_fits.false)
