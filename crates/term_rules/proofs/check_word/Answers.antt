-- `term_rules::check_word` meets its contract, test by test. Assumes nothing.
use mathlib.Core.Path.{◌≡◌, refl, ap, ◌∙◌, sym}
use mathlib.Core.Bool.{Bool, cond}
use mathlib.Core.List.{List}
use Prim.Native.Nat.{ℕ}
use borrow.Author.Tests.{lt-ltb, le-ltb, eq-eqb, ne_eqb}
use lib.Dec.{ltb, eqb}
use Rattle.words.specs.Word.{kind_of, right_of, term_of}
use Rattle.words.proofs.Word.{read_fails, read_holds}
use Rattle.terms.specs.Rules.{spare, fields_ok, refusal_of}
use Rattle.term_rules.proofs.check_word.Goals as goal
use Rattle.term_rules.proofs.check_word.Goals.{After-fields_ok, After-spare_of-spare}

-- the refusal, from what the three tests say
by_tests : (n : ℕ) (ts : List ℕ) (at w : ℕ) {a b d : Bool}
    → ltb 6 (kind_of w) ≡ a
    → eqb (spare (term_of w) (right_of w)) 0 ≡ b
    → fields_ok n ts at (term_of w) ≡ d
    → cond a 4 (cond b (cond d 0 6) 5) ≡ refusal_of n ts at w
unfolding refusal_of
by_tests n ts at w p q r = simp (p, q, r)

-- what `spare_of` gave, at the term of the word
spare-is : (c : After-spare_of-spare) → c.spare_of-spare.result ≡ spare (term_of c.args.word) (right_of c.args.word)
spare-is c = c.spare_of-spare.ensures ∙ ap (λ s. spare s (right_of c.args.word)) c.from-t.ensures

-- what `spare_of` gave, at the term of the word
spare-is-after-fields_ok : (c : After-fields_ok) → c.spare_of-spare.result ≡ spare (term_of c.args.word) (right_of c.args.word)
spare-is-after-fields_ok c = c.spare_of-spare.ensures ∙ ap (λ s. spare s (right_of c.args.word)) c.from-t.ensures

fields-is : (c : After-fields_ok)
    → c.fields_ok.result
    ≡ fields_ok c.args.n c.args.terms.now
    c.args.at (term_of c.args.word)
fields-is c = c.fields_ok.ensures ∙ ap (fields_ok _ _ _) c.from-t.ensures

pub returns-then-is_err : goal.returns-then-is_err
returns-then-is_err c = by_tests _ _ _ c.args.word (lt-ltb 6 _ (read_fails _ _ c.try_from.ensures (sym c.is_err.ensures.value ∙ c.if-is_err.true))) refl refl

pub returns-then-spare-ne0 : goal.returns-then-spare-ne0
returns-then-spare-ne0 c =
    by_tests _ _ _ _ (le-ltb 6 _ (read_holds _ _ c.try_from.ensures (sym c.is_err.ensures.value ∙ c.if-is_err.false))) (ne_eqb _ 0 (λ z. c.if-spare-ne0.true (spare-is (goal.at.returns-then-spare-ne0 c).After-spare_of-spare ∙ z))) refl

tests : (c : After-fields_ok) {d : Bool} → c.fields_ok.result ≡ d
    → cond d 0 6 ≡ refusal_of c.args.n c.args.terms.now
    c.args.at c.args.word
tests c e =
    by_tests _ _ _ _ (le-ltb 6 _ (read_holds _ _ c.try_from.ensures (sym c.is_err.ensures.value ∙ c.if-is_err.false)))
    (eq-eqb _ 0 (sym (spare-is-after-fields_ok c) ∙ c.if-spare-ne0.false)) (sym (fields-is c) ∙ e)

pub returns-then-fields_ok : goal.returns-then-fields_ok
returns-then-fields_ok c = tests (goal.at.returns-then-fields_ok c).After-fields_ok c.if-fields_ok.true

pub returns : goal.returns
returns c = tests (goal.at.returns c).After-fields_ok c.if-fields_ok.false
