-- A term is added alike to tables that are alike below the count: it is searched there, and goes behind the others.
-- Assumes nothing.
use Rattle.std.specs.Prelude.{ℕ, suc, ◌<◌, ◌≡◌, refl, Bool, true, false, List, [], ◌∷◌, ◌++◌, eqb, length, set, Option, Some, None}
use Rattle.std.proofs.Common.{sym, ap₂, ◌∙◌, le_refl, arith, length-set, take-suc, get_or-set_same}
use Rattle.std.proofs.Math.Path.{ap, subst}
use Rattle.std.proofs.Math.Bool.{cond}
use Rattle.std.proofs.lemmas.Bool.{eqb-false}
use Rattle.std.proofs.lemmas.List.{take-set-le}
use Rattle.terms.specs.Add.{add_by, add_of}
use Rattle.terms.specs.Number.{terms_of}
use Rattle.terms.specs.Outcome as terms
use Rattle.terms.specs.Rules.{refusal_of}
use Rattle.terms.proofs.RulesLaws.{refusal_same}
use Rattle.terms.specs.Table.{find_of}
use Rattle.terms.proofs.TableLaws.{find_same}
use Rattle.terms.specs.Valid.{Valid}
use Rattle.simulation.proofs.Unread.Reads.{words_same}

-- the same answer and count, and the same terms below it
pub record AddsSame (o o' : terms.TermOutcome) : Type 0 where
  pub answer : o.answer ≡ o'.answer
  pub count : o.count ≡ o'.count
  pub terms : terms_of o.table o.count ≡ terms_of o'.table o'.count

set_terms : (ts : List ℕ) (count word : ℕ) → count < length ts → terms_of (set ts count word) (suc count) ≡ terms_of ts count ++ (word ∷ [])
set_terms ts count word l =
    take-suc (set ts count word) count 0 (omega (arith, length-set ts count word))
    ∙ ap₂ (λ (xs : List ℕ) (x : ℕ). xs ++ (x ∷ [])) (take-set-le count ts count word (le_refl count)) (get_or-set_same ts count word 0 l)

module _ {n : ℕ} {ts ts' : List ℕ} {count : ℕ} (v : Valid n ts count) (v' : Valid n ts' count) (same : terms_of ts count ≡ terms_of ts' count) (word : ℕ) where
  kept_same : (k : ℕ) → AddsSame (terms.refuse k count ts) (terms.refuse k count ts')
  kept_same k = record { answer = refl; count = refl; terms = same }

  by_room : (full : Bool) → eqb count 512 ≡ full
      → AddsSame (cond full (terms.refuse 20 count ts) (terms.accept count (suc count) (set ts count word)))
      (cond full (terms.refuse 20 count ts') (terms.accept count (suc count) (set ts' count word)))
  by_room true e = kept_same 20
  by_room false e =
      let room : count < 512 = omega (arith, v.room, eqb-false count 512 e) in
      record {
        answer = refl;
        count = refl;
        terms =
            set_terms ts count word (omega (arith, v.size))
            ∙ ap (λ (xs : List ℕ). xs ++ (word ∷ [])) same
            ∙ sym (set_terms ts' count word (omega (arith, v'.size)));
      }

  by_found : (f : Option ℕ) → AddsSame (add_by ts count word f) (add_by ts' count word f)
  by_found (Some i) = record { answer = refl; count = refl; terms = same }
  by_found None = by_room (eqb count 512) refl

  by_rule : (fine : Bool) (k : ℕ) (f : Option ℕ) → AddsSame (cond fine (add_by ts count word f) (terms.refuse k count ts)) (cond fine (add_by ts' count word f) (terms.refuse k count ts'))
  by_rule true k f = by_found f
  by_rule false k f = kept_same k

  pub adds_same : AddsSame (add_of n ts count word) (add_of n ts' count word)
  unfolding add_of
  adds_same =
      let k = refusal_of n ts count word in
      let f = find_of ts count word in
      subst (AddsSame (add_of n ts count word))
      (ap (λ (j : ℕ). cond (eqb j 0) (add_by ts' count word f) (terms.refuse j count ts')) (refusal_same n ts ts' count word (words_same v v' same))
      ∙ ap (λ (g : Option ℕ). cond (eqb (refusal_of n ts' count word) 0) (add_by ts' count word g) (terms.refuse (refusal_of n ts' count word) count ts'))
      (find_same ts ts' count word (words_same v v' same)))
      (by_rule (eqb k 0) k f)
