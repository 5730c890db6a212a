-- `engine::call::add_term` meets its contract: by the contract of adding; a number is below 512. Assumes nothing.
use Rattle.std.specs.Prelude.{◌≡◌, Result, Ok, List, ℕ}
use Rattle.refusals.specs.declared.Refusal.{Refusal}
use Rattle.terms.specs.declared.table.Added.{Added}
use Rattle.effects.specs.Call.{adding}
use Rattle.engine.proofs.Ways.{number_below, old_told, new_told}
use Rattle.terms.specs.Add.{add_outcome, add_of}
use native.Mathlib.Omega.{arith}
use mathlib.Core.Path.{sym, ap, ◌∙◌}
use Rattle.engine.proofs.call.add_term.Goals as goal

-- what the answer of adding comes to, once it is known
told : (r : Result Added Refusal) {f v : Added} → r ≡ Ok f → f ≡ v → (count : ℕ) (ts : List ℕ) → add_outcome (Ok v) count ts ≡ add_outcome r count ts
told r p q count ts = rw (p, q)

pub overflow_cast-result : goal.overflow_cast-result
overflow_cast-result c = record { fits = omega (arith, number_below c.requires _ (told c.add.result c.in-Ok-Old.is c.in-Ok-Old.field-0-is c.args.h.terms c.add.new.terms ∙ c.add.ensures)) }

pub overflow_cast-result-in-Ok-New : goal.overflow_cast-result-in-Ok-New
overflow_cast-result-in-Ok-New c = record { fits = omega (arith, number_below c.requires _ (told c.add.result c.in-Ok-New.is c.in-Ok-New.field-0-is c.args.h.terms c.add.new.terms ∙ c.add.ensures)) }

pub returns-in-Ok-Old : goal.returns-in-Ok-Old
returns-in-Ok-Old c = let a = c.args in
    old_told a.h _ _
    ∙ ap (adding a.h) (told c.add.result c.in-Ok-Old.is c.in-Ok-Old.field-0-is a.h.terms c.add.new.terms ∙ c.add.ensures ∙ ap (add_of a.h.n a.terms.now a.h.terms) c.pack.ensures)

pub returns-in-Ok-New : goal.returns-in-Ok-New
returns-in-Ok-New c = let a = c.args in
    new_told a.h _ _
    ∙ ap (adding a.h) (told c.add.result c.in-Ok-New.is c.in-Ok-New.field-0-is a.h.terms c.add.new.terms ∙ c.add.ensures ∙ ap (add_of a.h.n a.terms.now a.h.terms) c.pack.ensures)

pub returns-in-Err : goal.returns-in-Err
returns-in-Err c = let a = c.args in
    ap (adding a.h) (ap (λ r. add_outcome r a.h.terms c.add.new.terms) (sym c.in-Err.is) ∙ c.add.ensures ∙ ap (add_of a.h.n a.terms.now a.h.terms) c.pack.ensures)
