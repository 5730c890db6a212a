-- `worklist::found::Found::learn` meets its contract: a new term has a place. Assumes nothing.
use mathlib.Core.Path.{◌≡◌, sym, ap, ◌∙◌, subst}
use mathlib.Core.Bool.{Bool, false}
use Prim.Native.Nat.{ℕ, ◌<◌}
use Rattle.std.proofs.Common.{rules}
use Rattle.marks.specs.Marks.{marked}
use Rattle.worklist.specs.Found.{Found, Room, learn_of}
use Rattle.worklist.proofs.FoundLaws.{new_place, learn_again, learn_fresh, learn_room}
use Rattle.worklist.proofs.found.Found.learn.Goals as goal

-- the term is new, in the fields as in what they stand for
fresh : (f now : Found) (t : ℕ) {b : Bool} → f ≡ now → b ≡ marked now.known t → b ≡ false → marked f.known t ≡ false
fresh f now t is e b = ap (λ (g : Found). marked g.known t) is ∙ sym e ∙ b

pub returns-then-has : goal.returns-then-has
returns-then-has c =
    learn_again c.args.self.now c.args.t (sym c.has.ensures ∙ c.if-has.true)

pub offset_bounds-self-inside-self-inside : goal.offset_bounds-self-inside-self-inside
offset_bounds-self-inside-self-inside c =
    let place : c.self.inside.count < 512 = new_place _ c.self.invariant c.args.t c.requires (fresh _ _ c.args.t c.self.view_is c.has.ensures c.if-has.false) in
    search (rules, place)

pub bounds-self-inside-self-inside : goal.bounds-self-inside-self-inside
bounds-self-inside-self-inside c =
    new_place _ c.self.invariant c.args.t c.requires (fresh _ _ c.args.t c.self.view_is c.has.ensures c.if-has.false)

pub overflow_add-self : goal.overflow_add-self
overflow_add-self c =
    let place : c.self.inside.count < 512 = new_place _ c.self.invariant c.args.t c.requires (fresh _ _ c.args.t c.self.view_is c.has.ensures c.if-has.false) in
    search (rules, place)

pub invariant_of-self : goal.invariant_of-self
invariant_of-self c =
    let new = fresh _ _ c.args.t c.self.view_is c.has.ensures c.if-has.false in
    subst Room (sym (learn_fresh _ c.args.t new c.mark.ensures)) (learn_room _ c.args.t c.requires c.self.invariant)

pub returns : goal.returns
returns c =
    let new = fresh _ _ c.args.t c.self.view_is c.has.ensures c.if-has.false in
    learn_fresh _ c.args.t new c.mark.ensures ∙ ap (λ (f : Found). learn_of f c.args.t) c.self.view_is
