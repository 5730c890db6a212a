-- What is known stays true when terms are added: it speaks of messages, and the older terms keep theirs.
-- Assumes nothing.
use Rattle.std.specs.Prelude.{◌≡◌, List, ℕ, ◌<◌, ◌≤◌}
use Rattle.std.proofs.Common.{sym, ap, ◌∙◌, subst, inl, inr, ⊎_elim, arith}
use Rattle.terms.specs.Meaning.{message_at}
use Rattle.terms.proofs.Meaning.{messages_same}
use Rattle.terms.specs.Message.{Message}
use Rattle.terms.specs.Rules.{term_at, Agree}
use Rattle.terms.specs.Valid.{Valid}
use Rattle.terms.proofs.Valid.{fields_of_lem}
use Rattle.words.specs.Word.{term_of}
use Rattle.deduction.specs.Derives.{Derives}
use Rattle.deduction.specs.Known.{Known, Derivable, Saturated}
use Rattle.deduction.specs.Public.{public_of}
use Rattle.deduction.proofs.Secrecy.{derives_more}
use Rattle.synthesis.specs.Knowledge.{Knows}
use Rattle.synthesis.specs.declared.knowledge.Knowledge.{Knowledge}

module _ {flags n : ℕ} {ts : List ℕ} {count : ℕ} (v : Valid n ts count) (ts' : List ℕ) (count' : ℕ) (same : Agree ts ts' count) (more : count ≤ count')
    {ws : List ℕ} {ks : Knowledge} (known : Knows n flags ts count ws ks) where
  term_same : (i : ℕ) → i < count → term_at ts i ≡ term_at ts' i
  term_same i h = ap term_of (same i h)

  means_same : (i : ℕ) → i < count → message_at ts i ≡ message_at ts' i
  means_same = messages_same v.terms ts' same

  later : (m : Message) → Known ts count ws m → Known ts' count' ws m
  later m k = record { at = k.at; below = omega (arith, k.below, more); mark = k.mark; is = sym (means_same k.at k.below) ∙ k.is }

  earlier : (m : Message) → Known ts' count' ws m → Known ts count ws m
  earlier m k =
      let lt = known.below.0 k.at k.mark in
      record { at = k.at; below = lt; mark = k.mark; is = means_same k.at lt ∙ k.is }

  derivable_later : (k : ℕ) → k < count → Derivable n flags ts count ws k → Derivable n flags ts' count' ws k
  derivable_later k h d = subst (Derives n flags (Known ts' count' ws)) (means_same k h) (derives_more later d)

  derivable_earlier : (k : ℕ) → k < count → Derivable n flags ts' count' ws k → Derivable n flags ts count ws k
  derivable_earlier k h d = subst (Derives n flags (Known ts count ws)) (sym (means_same k h)) (derives_more earlier d)

  saturated_later : Saturated flags ts' count' ks.found
  saturated_later =
      record {
        halves = λ i l r h m e. let lt = known.below.1 i m in known.found.full.halves i l r lt m (term_same i lt ∙ e);
        bodies = λ i b k h m e o.
            let lt = known.below.1 i m in
            let e' = term_same i lt ∙ e in
            let under : k < count = omega (arith, lt, (fields_of_lem v.terms i lt e').1) in
            known.found.full.bodies i b k lt m e' (⊎_elim (λ x. inl x) (λ p. inr (ap (public_of flags) (term_same k under) ∙ p)) o);
      }

  pub knows_later : Knows n flags ts' count' ws ks
  knows_later =
      record {
        size = known.size;
        found =
            record {
              holds = λ k h m. known.found.holds k (known.below.0 k m) m;
              sound = λ k h m. let lt = known.below.1 k m in derivable_later k lt (known.found.sound k lt m);
              full = saturated_later;
            };
        missed = λ k h m d. let lt = known.below.2 k m in known.missed k lt m (derivable_earlier k lt d);
        below = (
          λ i m. omega (arith, known.below.0 i m, more),
          λ i m. omega (arith, known.below.1 i m, more),
          λ i m. omega (arith, known.below.2 i m, more),
        );
      }
