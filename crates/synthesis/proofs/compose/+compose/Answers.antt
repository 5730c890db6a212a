-- The proof of the cycle of calls {compose}: each way out cites its law. Assumes nothing.
use Rattle.std.proofs.Common.{ℕ, ◌<◌, refl, sym, ap, ◌∙◌, subst, arith}
use Rattle.deduction.specs.Public.{public_of}
use Rattle.synthesis.specs.Compose.{operands_of}
use Rattle.synthesis.proofs.ComposeLaws.{left_below, right_below}
use Rattle.synthesis.proofs.Noted.{composed_found, composed_missed, composed_atom, composed_left, composed_right, kept_after}
use Rattle.synthesis.proofs.compose.+compose.Goals as goal

pub returns-then-is_marked : goal.returns-then-is_marked
returns-then-is_marked t c =
    composed_found c.requires.0 c.requires.1 refl c.args.t c.requires.2
    (sym c.is_marked.ensures ∙ c.if-is_marked.true)

pub returns-then-is_marked-2 : goal.returns-then-is_marked-2
returns-then-is_marked-2 t c =
    composed_missed c.requires.0 c.requires.1 refl c.args.t c.requires.2
    (sym c.is_marked-2.ensures ∙ c.if-is_marked-2.true)

pub returns-in_default : goal.returns-in_default
returns-in_default t c =
    let away = sym c.is_marked.ensures ∙ c.if-is_marked.false in
    composed_atom c.requires.0 c.requires.1 refl c.args.t c.requires.2 away
    (sym (c.operands_of.ensures ∙ ap operands_of c.from-term.ensures) ∙ c.in_default.is) c.is_public-public.result
    (c.is_public-public.ensures ∙ ap (public_of c.args.who.flags) c.from-term.ensures) c.note.ensures

pub compose-requires : goal.compose-requires
compose-requires t c =
    let less = left_below c.args.who.flags c.requires.0 c.args.known.now.found c.args.t c.requires.2 c.in-Some.l c.in-Some.r (sym (c.operands_of.ensures ∙ ap operands_of c.from-term.ensures) ∙ c.in-Some.is) in
    (subst (λ (x : ℕ). c.in-Some.l < x) c.decreases less, (c.requires.0, c.requires.1, omega (arith, less, c.requires.2)))

pub returns-then-not-compose : goal.returns-then-not-compose
returns-then-not-compose t c =
    let away = sym c.is_marked.ensures ∙ c.if-is_marked.false in
    composed_left c.requires.0 c.requires.1 refl c.args.t c.requires.2 away c.in-Some.l c.in-Some.r
    (sym (c.operands_of.ensures ∙ ap operands_of c.from-term.ensures) ∙ c.in-Some.is)
    c.if-not-compose.true c.compose.ensures c.note-then-not-compose.ensures

pub compose-ok-requires : goal.compose-ok-requires
compose-ok-requires t c =
    let less = right_below c.args.who.flags c.requires.0 c.args.known.now.found c.args.t c.requires.2 c.in-Some.l c.in-Some.r (sym (c.operands_of.ensures ∙ ap operands_of c.from-term.ensures) ∙ c.in-Some.is) in
    (subst (λ (x : ℕ). c.in-Some.r < x) c.decreases less, (c.requires.0, kept_after c.compose.ensures, omega (arith, less, c.requires.2)))

pub returns : goal.returns
returns t c =
    let away = sym c.is_marked.ensures ∙ c.if-is_marked.false in
    composed_right c.requires.0 c.requires.1 refl c.args.t c.requires.2 away c.in-Some.l c.in-Some.r
    (sym (c.operands_of.ensures ∙ ap operands_of c.from-term.ensures) ∙ c.in-Some.is)
    c.if-not-compose.false c.compose.ensures c.compose-ok.ensures c.note-2.ensures
