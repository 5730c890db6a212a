-- What follows from the definitions of the same name in specs/.
-- Assumes nothing.
use Rattle.std.specs.Prelude.{◌≡◌, refl, true, ◌&&◌, Option, Some, None, List, ℕ, suc, ◌<◌, leb, eqb, length, get_or}
use Rattle.std.proofs.Common.{sym, ap, ◌∙◌, subst, arith, eqb-true, leb-true, eq-eqb, le-leb}
use Rattle.std.proofs.Math.Bool.{and-eq-true_iff}
use Rattle.std.proofs.Math.Logic.{dite}
use Rattle.std.proofs.Math.Decide.{ℕ_discrete, dec_lt}
use Rattle.words.specs.declared.Term.{Term}
use Rattle.terms.proofs.Choice.{no_true}
use Rattle.terms.specs.AllOf.{each}
use Rattle.terms.proofs.AllOf.{each_true, true_each}
use Rattle.terms.specs.Rules.{refusal_of, Agree, term_at}
use Rattle.terms.proofs.RulesLaws.{refusal_same, Passed, passed, Fields, fields}
use Rattle.terms.specs.Table.{find_of}
use Rattle.terms.proofs.TableLaws.{Absent, found_at, find_absent}
use Rattle.terms.specs.Valid.{Terms, Valid, is_nothing, stands, holds}

-- ---- the test says what `Valid` says

pub record Stands (n : ℕ) (ts : List ℕ) (i : ℕ) : Type 0 where
  pub fine : refusal_of n ts i (get_or ts i 0) ≡ 0
  pub new : Absent ts i (get_or ts i 0)

nothing_is : (f : Option ℕ) → is_nothing f ≡ true → f ≡ None
nothing_is (Some i) e = no_true e
nothing_is None e = refl

pub stands_is : (n : ℕ) (ts : List ℕ) (i : ℕ) → stands n ts i ≡ true → Stands n ts i
unfolding stands
stands_is n ts i e =
    let b = (and-eq-true_iff (eqb (refusal_of n ts i (get_or ts i 0)) 0) (is_nothing (find_of ts i (get_or ts i 0)))).0 e in
    record {
      fine = eqb-true (refusal_of n ts i (get_or ts i 0)) 0 b.0;
      new = found_at ts i (get_or ts i 0) (nothing_is (find_of ts i (get_or ts i 0)) b.1);
    }

pub is_stands : {n : ℕ} {ts : List ℕ} {i : ℕ} → Stands n ts i → stands n ts i ≡ true
unfolding stands
is_stands {n} {ts} {i} s =
    (and-eq-true_iff (eqb (refusal_of n ts i (get_or ts i 0)) 0) (is_nothing (find_of ts i (get_or ts i 0)))).1
    (eq-eqb (refusal_of n ts i (get_or ts i 0)) 0 s.fine, ap is_nothing (find_absent ts i (get_or ts i 0) s.new))

pub terms_of_lem : {n : ℕ} {ts : List ℕ} {count : ℕ} → ((i : ℕ) → i < count → Stands n ts i) → Terms n ts count
terms_of_lem {n} {ts} {count} all = record { fine = λ i h. (all i h).fine; once = once }
  where
    once : (i j : ℕ) → i < count → j < count → get_or ts i 0 ≡ get_or ts j 0 → i ≡ j
    once i j hi hj e =
        dite (ℕ_discrete i j) (λ q. q) (λ ne. absurd (dite (dec_lt i j) (λ lt. (all j hj).new i lt e) (λ ge. (all i hi).new j (omega arith) (sym e))))

pub terms_stand : {n : ℕ} {ts : List ℕ} {count : ℕ} → Terms n ts count → (i : ℕ) → i < count → Stands n ts i
terms_stand v i h =
    record { fine = v.fine i h; new = λ k lt e. let q : k ≡ i = v.once k i (omega arith) h e in omega arith }

pub holds_valid : (n : ℕ) (ts : List ℕ) (count : ℕ) → holds n ts count ≡ true → Valid n ts count
unfolding holds
holds_valid n ts count e =
    let b = (and-eq-true_iff (eqb (length ts) 512) (leb count 512 && each (stands n ts) count)).0 e in
    let d = (and-eq-true_iff (leb count 512) (each (stands n ts) count)).0 b.1 in
    record {
      size = eqb-true (length ts) 512 b.0;
      room = leb-true count 512 d.0;
      terms = terms_of_lem (λ i h. stands_is n ts i (each_true (stands n ts) count d.1 i h));
    }

pub valid_holds : {n : ℕ} {ts : List ℕ} {count : ℕ} → Valid n ts count → holds n ts count ≡ true
unfolding holds
valid_holds {n} {ts} {count} v =
    (and-eq-true_iff (eqb (length ts) 512) (leb count 512 && each (stands n ts) count)).1 (
      eq-eqb (length ts) 512 v.size,
      (and-eq-true_iff (leb count 512) (each (stands n ts) count)).1 (le-leb count 512 v.room, true_each (stands n ts) count (λ i h. is_stands (terms_stand v.terms i h))),
    )

-- ---- what the rules give at each term

pub passed_at : {n : ℕ} {ts : List ℕ} {count : ℕ} → Terms n ts count → (i : ℕ) → i < count → Passed n ts i (get_or ts i 0)
passed_at {n} {ts} v i h = passed n ts i (get_or ts i 0) (v.fine i h)

pub fields_at : {n : ℕ} {ts : List ℕ} {count : ℕ} → Terms n ts count → (i : ℕ) → i < count → Fields n ts i (term_at ts i)
fields_at {n} {ts} v i h = fields n ts i (term_at ts i) (passed_at v i h).fields

pub fields_of_lem : {n : ℕ} {ts : List ℕ} {count : ℕ} → Terms n ts count → (i : ℕ) → i < count → {t : Term} → term_at ts i ≡ t → Fields n ts i t
fields_of_lem {n} {ts} v i h e = subst (Fields n ts i) e (fields_at v i h)

-- ---- a table with the same words, and one with a word more

pub terms_same : {n : ℕ} {ts : List ℕ} {count : ℕ} → Terms n ts count → (ts' : List ℕ) → Agree ts ts' count → Terms n ts' count
terms_same {n} {ts} {count} v ts' g =
    record {
      fine = λ i h.
          sym (refusal_same n ts ts' i (get_or ts' i 0) (λ k lt. g k (omega arith))) ∙ ap (refusal_of n ts i) (sym (g i h)) ∙ v.fine i h;
      once = λ i j hi hj e. v.once i j hi hj (g i hi ∙ e ∙ sym (g j hj));
    }

pub terms_more : {n : ℕ} {ts : List ℕ} {count : ℕ} → Terms n ts count → refusal_of n ts count (get_or ts count 0) ≡ 0
    → Absent ts count (get_or ts count 0) → Terms n ts (suc count)
terms_more {count = count} v r a =
    terms_of_lem (λ i h. dite (ℕ_discrete i count) (λ e. rw e (record { fine = r; new = a })) (λ ne. terms_stand v i (omega arith)))
