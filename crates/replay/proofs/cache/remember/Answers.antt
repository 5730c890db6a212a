-- `cache::remember` meets its contract: each way out is a law of `remembered`. Assumes nothing.
use Rattle.std.proofs.Common.{ℕ, sym, ap, ◌∙◌, rules}
use Rattle.std.proofs.lemmas.Result.{err_from_is_err_and}
use Rattle.refusals.proofs.Numbers.{not_0}
use Rattle.replay.specs.Cache.{refused, done}
use Rattle.replay.proofs.CacheLaws.Calls.{fits_is, misfit_count, remembered_10, remembered_refused, remembered_ok}
use Rattle.replay.proofs.cache.remember.Goals as goal

pub returns-then-count-gt-PLACES : goal.returns-then-count-gt-PLACES
returns-then-count-gt-PLACES c = let a = c.args in sym (remembered_10 a.places a.count a.e (misfit_count a.places a.count c.if-count-gt-PLACES.true))

pub returns-in_err-check : goal.returns-in_err-check
returns-in_err-check c =
    let a = c.args in
    let f = fits_is a.places a.count (search rules) c.if-count-gt-PLACES.false in
    let e = c.in_err-check.ensures in
    let p = err_from_is_err_and c.from_residual.result c.from_residual.ensures.1 in
    rw (p.1, p.2) (ap (λ (n : ℕ). refused n a.places) e ∙ sym (remembered_refused a.places a.count a.e f (λ z. not_0 c.in_err-check.field-0.0 (e ∙ z))))

pub returns : goal.returns
returns c =
    let a = c.args in
    let f = fits_is a.places a.count (search rules) c.if-count-gt-PLACES.false in
    ap done c.append.ensures ∙ sym (remembered_ok a.places a.count a.e f (sym c.in_ok-check.ensures))
