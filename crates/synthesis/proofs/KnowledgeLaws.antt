-- What follows from the definitions of the same name in specs/.
-- Assumes nothing.
use Rattle.std.specs.Prelude.{◌≡◌, refl, List, ℕ, length, replicate}
use Rattle.std.proofs.Common.{sym, ◌∙◌, subst}
use Rattle.marks.proofs.Empty.{empty_marked}
use Rattle.marks.specs.Within.{Below}
use Rattle.terms.proofs.Choice.{no_true}
use Rattle.deduction.specs.Known.{Filled}
use Rattle.synthesis.specs.Knowledge.{as_known, nothing, Knows, Kept, RestartedIs}
use Rattle.synthesis.specs.declared.knowledge.Knowledge.{Knowledge}

none_below : (count : ℕ) → Below count (replicate 8 0)
none_below count i m = no_true (sym (empty_marked 8 i) ∙ m)

-- ---- nothing is known

pub kept_none : (n flags : ℕ) (ts : List ℕ) (count : ℕ) → Kept n flags ts count nothing
kept_none n flags ts count =
    record {
      size = (refl, refl);
      found =
          record {
            holds = λ k h m. m;
            sound = λ k h m. no_true (sym (empty_marked 8 k) ∙ m);
            full =
                record {
                  halves = λ i l r h m e. no_true (sym (empty_marked 8 i) ∙ m);
                  bodies = λ i b k h m e o. no_true (sym (empty_marked 8 i) ∙ m);
                };
          };
      missed = λ k h m. no_true (sym (empty_marked 8 k) ∙ m);
      below = (none_below count, none_below count, none_below count);
    }

-- ---- found anew

pub restarted : {n flags : ℕ} {ts : List ℕ} {count : ℕ} {ws s : List ℕ} → length s ≡ 8 → Filled n flags ts count ws s × Below count s → Below count ws
    → {w : List ℕ} → w ≡ ws → RestartedIs n flags ts count ws (as_known w s (replicate 8 0))
restarted {count = count} size f below e =
    record {
      knows = record {
        size = (size, refl);
        found = f.0;
        missed = λ k h m. no_true (sym (empty_marked 8 k) ∙ m);
        below = (below, f.1, none_below count);
      };
      wire = e;
    }

pub restarted_kept : {n flags : ℕ} {ts : List ℕ} {count : ℕ} {ws : List ℕ} {ks : Knowledge} → RestartedIs n flags ts count ws ks → Kept n flags ts count ks
restarted_kept {n} {flags} {ts} {count} {ks = ks} r = subst (λ (w : List ℕ). Knows n flags ts count w ks) (sym r.wire) r.knows
