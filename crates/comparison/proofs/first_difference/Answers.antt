-- `first_difference` meets its contract: what is left of the two texts differs where the whole does.
use Rattle.std.proofs.Common.{◌≡◌, ◌∙◌, refl, sym, ℕ, ◌∷◌, ◌+◌, ◌⊎◌, inl, inr, length, arith}
use Rattle.comparison.specs.Compare.{line_after, difference}
use Rattle.comparison.proofs.Laws as laws
use Rattle.comparison.proofs.first_difference.Goals as goal
use Rattle.comparison.proofs.first_difference.Goals.{In-None, In-Some}

-- the bytes that the turn takes
taken : (c : In-Some) (line : ℕ) → difference line c.loop-x.x-iterator.a.rest.now c.loop-x.x-iterator.b.rest.now
    ≡ difference line (c.in-Some.x.now ∷ c.next.new.self.a.rest.now) (c.in-Some.y.now ∷ c.next.new.self.b.rest.now)
taken c line = let s = c.in-Some.ensures.steps in rw (s.0, s.1)

pub returns-then-x-y : goal.returns-then-x-y
returns-then-x-y c =
    let l = c.loop-x in
    laws.bytes_differ l.line _ _ _ _ c.if-x-y.true ∙ sym (taken (goal.at.returns-then-x-y c).In-Some l.line) ∙ l.invariant.rest

-- what is left behind two bytes that are the same
onward : (c : In-Some) (next : ℕ) → c.in-Some.x.now ≡ c.in-Some.y.now → next ≡ line_after c.loop-x.line c.in-Some.x.now
    → difference next c.next.new.self.a.rest.now c.next.new.self.b.rest.now ≡ difference 1 c.args.a.now c.args.b.now
onward c next e n = laws.goes_on c.loop-x.line _ _ _ _ next e n ∙ sym (taken c c.loop-x.line) ∙ c.loop-x.invariant.rest

-- each text is shorter by the byte that was taken
shorter : (c : In-Some) → (length c.loop-x.x-iterator.a.rest.now ≡ 1 + length c.next.new.self.a.rest.now) × (length c.loop-x.x-iterator.b.rest.now ≡ 1 + length c.next.new.self.b.rest.now)
shorter c = let s = c.in-Some.ensures.steps in (rw s.0 (omega arith), rw s.1 (omega arith))

pub loop-x-preserved-then-x-eq-NEWLINE : goal.loop-x-preserved-then-x-eq-NEWLINE
loop-x-preserved-then-x-eq-NEWLINE c =
    let s = shorter (goal.at.loop-x-preserved-then-x-eq-NEWLINE c).In-Some in
    record {
      as_many = omega (arith, c.loop-x.invariant.as_many, s.0, s.1);
      few_lines = omega (arith, c.loop-x.invariant.few_lines, s.0);
      rest =
          onward (goal.at.loop-x-preserved-then-x-eq-NEWLINE c).In-Some (c.loop-x.line + 1) c.if-x-y.false
          (laws.newline c.loop-x.line c.in-Some.x.now (c.loop-x.line + 1) c.if-x-eq-NEWLINE.true refl);
    }

pub loop-x-preserved : goal.loop-x-preserved
loop-x-preserved c =
    let s = shorter (goal.at.loop-x-preserved c).In-Some in
    record {
      as_many = omega (arith, c.loop-x.invariant.as_many, s.0, s.1);
      few_lines = omega (arith, c.loop-x.invariant.few_lines, s.0);
      rest =
          onward (goal.at.loop-x-preserved c).In-Some c.loop-x.line c.if-x-y.false
          (laws.other_byte c.loop-x.line c.in-Some.x.now c.loop-x.line c.if-x-eq-NEWLINE.false refl);
    }

-- one of the texts has ended
ended : (c : In-None) → (length c.loop-x.x-iterator.a.rest.now ≡ 0) ⊎ (length c.loop-x.x-iterator.b.rest.now ≡ 0)
ended c = elim c.in-None.ensures.steps [ inl p ↦ inl p.1.0 | inr q ↦ inr q.1.0 ]

pub returns-then-a-b : goal.returns-then-a-b
returns-then-a-b c =
    let l = c.loop-x in
    laws.both_end l.line _ _ (elim (ended (goal.at.returns-then-a-b c).In-None) [ inl p ↦ omega arith | inr q ↦ omega arith ])
    (elim (ended (goal.at.returns-then-a-b c).In-None) [ inl p ↦ omega arith | inr q ↦ omega arith ]) ∙ l.invariant.rest

pub returns : goal.returns
returns c =
    let l = c.loop-x in
    laws.one_ends l.line _ _ (ended (goal.at.returns c).In-None) (λ e. omega arith) ∙ l.invariant.rest
