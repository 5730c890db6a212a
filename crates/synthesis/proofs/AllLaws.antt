-- What follows from the definitions of the same name in specs/.
-- Assumes nothing.
use Rattle.std.specs.Prelude.{◌≡◌, refl, ◌↔◌, Bool, true, List, ℕ, ◌+◌, ◌<◌}
use Rattle.std.proofs.Common.{sym, ◌∙◌, subst, arith}
use Rattle.std.proofs.Math.Logic.{dite}
use Rattle.std.proofs.Math.Decide.{ℕ_discrete}
use Rattle.marks.specs.Marks.{Words, marked}
use Rattle.marks.specs.Sets.{set_of}
use Rattle.marks.proofs.Sets.{set_exact, members_set}
use Rattle.terms.specs.Choice.{Decides}
use Rattle.terms.proofs.Choice.{proved, no_true, is_false, same_answer}
use Rattle.terms.specs.Valid.{Valid}
use Rattle.deduction.specs.Known.{Derivable}
use Rattle.synthesis.specs.Knowledge.{Knows, Kept, ComposedIs}
use Rattle.synthesis.specs.declared.knowledge.Knowledge.{Knowledge}
use Rattle.synthesis.specs.Test.{derivable_of}
use Rattle.synthesis.proofs.Test.{test_decides}
use Rattle.synthesis.specs.All.{FoundTo}

-- what holds is answered so
sure : {P : Type 0} {b : Bool} → Decides b P → P → b ≡ true
sure {b = b} d p = sym (same_answer true b (proved p) d)

module _ {n flags : ℕ} {ts : List ℕ} {count : ℕ} where
  pub found_start : {ks : Knowledge} → Kept n flags ts count ks → FoundTo n flags ts count ks.wire 0 ks
  found_start known = record { knows = known; wire = refl; all = λ k h. absurd (omega arith) }

  pub found_kept : {ws : List ℕ} {ks : Knowledge} {t : ℕ} → FoundTo n flags ts count ws t ks → Kept n flags ts count ks
  found_kept {ks = ks} f = subst (λ (w : List ℕ). Knows n flags ts count w ks) (sym f.wire) f.knows

  -- one term more was asked for
  pub found_next : {ws : List ℕ} {ks ks' : Knowledge} (t : ℕ) {ok : Bool} → FoundTo n flags ts count ws t ks → ComposedIs n flags ts count ks.wire t ok ks ks'
      → FoundTo n flags ts count ws (t + 1) ks'
  found_next {ws} {ks} {ks'} t {ok} f a =
      let b = subst (λ (w : List ℕ). ComposedIs n flags ts count w t ok ks ks') f.wire a in
      record {
        knows = b.knows;
        wire = b.wire;
        all = λ k h d.
            dite (ℕ_discrete k t)
            (λ e. subst (λ (i : ℕ). marked ks'.found i ≡ true) (sym e) (b.finds (sure b.answer (subst (Derivable n flags ts count ws) e d))))
            (λ ne. b.keeps k (f.all k (omega arith) d));
      }

  -- all were
  pub found_set : Valid n ts count → {on ws : List ℕ} {ks : Knowledge} → on ≡ ws → Words 8 ws → Words 8 ks.found → FoundTo n flags ts count on count ks
      → ks.found ≡ set_of 8 (derivable_of flags ts count ws) count
  found_set v {on} {ws} {ks} e w s g =
      let f = subst (λ (x : List ℕ). FoundTo n flags ts count x count ks) e g in
      members_set (omega (arith, v.room))
      (record {
        words = s;
        inside = λ i h.
            same_answer (marked ks.found i) _ (record { yes = f.knows.found.sound i h; no = λ e d. no_true (sym e ∙ f.all i h d) })
            (test_decides flags v w i h);
        outside = λ i h. sym (is_false (marked ks.found i) (λ e. omega (arith, f.knows.below.1 i e)));
      })

-- ---- its members

pub derivable_set : (flags : ℕ) {n : ℕ} {ts : List ℕ} {count : ℕ} → Valid n ts count → {ws : List ℕ} → Words 8 ws → (i : ℕ)
    → (marked (set_of 8 (derivable_of flags ts count ws) count) i ≡ true) ↔ ((i < count) × Derivable n flags ts count ws i)
derivable_set flags {ts = ts} {count} v {ws} w i =
    let exact = set_exact 8 (derivable_of flags ts count ws) count (omega (arith, v.room)) i in (
      λ e. let p = exact.0 e in (p.0, (test_decides flags v w i p.0).yes p.1),
      λ p. exact.1 (p.0, sure (test_decides flags v w i p.0) p.1),
    )
