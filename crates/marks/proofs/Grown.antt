-- A packed set that has grown: its members stay, and it is the same set if it has as many members.
-- Assumes nothing.
use Rattle.std.specs.Prelude.{◌≡◌, refl, Bool, true, false, List, ℕ, suc, ◌*◌, ◌<◌, ◌≤◌}
use Rattle.std.proofs.Common.{sym, ap, ◌∙◌, subst, arith, le_refl}
use Rattle.marks.specs.Marks.{Words, marked, with_mark, size}
use Rattle.marks.proofs.Marks.{with_words, with_idle, marked_keeps}
use Rattle.marks.proofs.Size.{size_with}

pub record Grown (k : ℕ) (ws ws' : List ℕ) : Type 0 where
  pub words : Words k ws'
  pub keeps : (i : ℕ) → marked ws i ≡ true → marked ws' i ≡ true
  pub more : size ws ≤ size ws'
  pub same : size ws' ≡ size ws → ws' ≡ ws

pub grown_refl : {k : ℕ} {ws : List ℕ} → Words k ws → Grown k ws ws
grown_refl {ws = ws} w = record { words = w; keeps = λ i m. m; more = le_refl (size ws); same = λ e. refl }

pub grown_trans : {k : ℕ} {a b c : List ℕ} → Grown k a b → Grown k b c → Grown k a c
grown_trans {k} {a} {b} {c} f g =
    record {
      words = g.words;
      keeps = λ i m. g.keeps i (f.keeps i m);
      more = omega (arith, f.more, g.more);
      same = λ e.
          let x : c ≡ b = g.same (omega (arith, f.more, g.more)) in
          x ∙ f.same (sym (ap size x) ∙ e);
    }

pub grown_with : {k : ℕ} {ws : List ℕ} → Words k ws → (i : ℕ) → i < 64 * k → Grown k ws (with_mark ws i)
grown_with {k} {ws} w i h = by_mark (marked ws i) refl
  where
    by_mark : (b : Bool) → marked ws i ≡ b → Grown k ws (with_mark ws i)
    by_mark true e = subst (Grown k ws) (sym (with_idle ws i e)) (grown_refl w)
    by_mark false e =
        let one : size (with_mark ws i) ≡ suc (size ws) = size_with w i h e in
        record {
          words = with_words ws i w h;
          keeps = marked_keeps ws i (omega (arith, w.len));
          more = omega arith;
          same = λ z. absurd (omega arith);
        }
