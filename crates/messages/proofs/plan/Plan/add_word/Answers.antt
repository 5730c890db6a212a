-- `messages::plan::Plan::add_word` meets its contract, by what the two searches find. Assumes nothing.
use mathlib.Core.Path.{refl, sym, ◌∙◌}
use native.Mathlib.Omega.{arith}
use Rattle.terms.proofs.TableLaws.{found_at}
use Rattle.messages.proofs.PlanLaws.{planned_before, in_the_table, planned_now}
use Rattle.messages.proofs.plan.Plan.add_word.Goals as goal

pub overflow_add-result : goal.overflow_add-result
overflow_add-result c =
    let a = c.args in
    let f = found_at a.self.now.words a.self.now.count a.word (sym c.find.ensures ∙ c.in-Some.is) in
    record { fits = omega (arith, f.0) }

pub overflow_cast-result : goal.overflow_cast-result
overflow_cast-result c =
    let a = c.args in
    let f = found_at a.self.now.words a.self.now.count a.word (sym c.find.ensures ∙ c.in-Some.is) in
    record { fits = omega (arith, f.0) }

pub returns-in-Some : goal.returns-in-Some
returns-in-Some c =
    let a = c.args in
    (planned_before a.terms.now a.count a.self.now.words a.self.now.count a.word (omega (arith, c.requires)) (omega arith) (sym c.find.ensures ∙ c.in-Some.is), refl)

pub overflow_cast-result-in-Some-find : goal.overflow_cast-result-in-Some-find
overflow_cast-result-in-Some-find c =
    let a = c.args in
    let f = found_at a.terms.now a.count a.word (sym c.find-2.ensures ∙ c.in-Some-find.is) in
    record { fits = omega (arith, f.0) }

pub returns-in-Some-find : goal.returns-in-Some-find
returns-in-Some-find c =
    let a = c.args in (
      in_the_table a.terms.now a.count a.self.now.words a.self.now.count a.word (omega (arith, c.requires)) (omega arith)
          (sym c.find.ensures ∙ c.in_default.is) (sym c.find-2.ensures ∙ c.in-Some-find.is),
      refl,
    )

pub returns : goal.returns
returns c =
    let a = c.args in (
      planned_now a.terms.now a.count a.self.now.words a.self.now.count a.word (omega (arith, c.requires)) (omega arith)
          (sym c.find.ensures ∙ c.in_default.is) (sym c.find-2.ensures ∙ c.in_default-find.is) (omega arith),
      refl,
    )
