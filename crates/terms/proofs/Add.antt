-- What follows from the definitions of the same name in specs/.
-- Assumes nothing.
use Rattle.std.specs.Prelude.{◌≡◌, refl, Option, Some, None, Ok, Err, List, ℕ, suc, ◌<◌, eqb, get_or, set}
use Rattle.std.proofs.Common.{sym, ap, ◌∙◌, arith, eqb-true, eq-eqb, ne_eqb, length-set, get_or-set_same, get_or-set_other}
use Rattle.std.proofs.lemmas.Bool.{eqb-false}
use Rattle.refusals.specs.declared.Refusal.{Refusal}
use Rattle.refusals.specs.declared.Refusal.TheVariants.{TermsFull}
use Rattle.refusals.specs.Numbers.{number}
use Rattle.refusals.proofs.Numbers.{not_0}
use Rattle.terms.specs.declared.table.Added.TheVariants.{Old, New}
use Rattle.terms.proofs.Choice.{cond_elim}
use Rattle.terms.specs.Outcome.{TermOutcome, accept, refuse}
use Rattle.terms.specs.Rules.{refusal_of, Agree}
use Rattle.terms.proofs.RulesLaws.{refusal_same}
use Rattle.terms.specs.Table.{find_of}
use Rattle.terms.proofs.TableLaws.{found_at}
use Rattle.terms.specs.Valid.{Terms, Valid}
use Rattle.terms.proofs.Valid.{terms_same, terms_more}
use Rattle.terms.specs.Add.{add_outcome, add_by, add_of, Extends, AddsTerm}

-- what holds of each way out holds of adding
pub add_elim : (P : TermOutcome → Type 0) (n : ℕ) (ts : List ℕ) (count w : ℕ) → P (refuse (refusal_of n ts count w) count ts) → P (refuse 20 count ts)
    → (refusal_of n ts count w ≡ 0 → (i : ℕ) → find_of ts count w ≡ Some i → P (accept i count ts))
    → (refusal_of n ts count w ≡ 0 → find_of ts count w ≡ None → (count ≡ 512 → ⊥) → P (accept count (suc count) (set ts count w)))
    → P (add_of n ts count w)
unfolding add_of
add_elim P n ts count w barred full old new =
    cond_elim P (eqb (refusal_of n ts count w) 0) (add_by ts count w (find_of ts count w)) (refuse (refusal_of n ts count w) count ts)
    (λ q. by (eqb-true (refusal_of n ts count w) 0 q) (find_of ts count w) refl) (λ _. barred)
  where
    by : refusal_of n ts count w ≡ 0 → (f : Option ℕ) → find_of ts count w ≡ f → P (add_by ts count w f)
    by r (Some i) e = old r i e
    by r None e = cond_elim P (eqb count 512) (refuse 20 count ts) (accept count (suc count) (set ts count w)) (λ _. full) (λ q. new r e (eqb-false count 512 q))

pub extends_refl : {n : ℕ} {ts : List ℕ} {count : ℕ} → Terms n ts count → Extends n ts count ts count
extends_refl v = record { terms = v; more = omega arith; agree = λ k h. refl }

pub extends_trans : {n : ℕ} {ts : List ℕ} {count : ℕ} {ts₁ : List ℕ} {count₁ : ℕ} {ts₂ : List ℕ} {count₂ : ℕ}
    → Extends n ts count ts₁ count₁ → Extends n ts₁ count₁ ts₂ count₂ → Extends n ts count ts₂ count₂
extends_trans f g =
    record {
      terms = g.terms;
      more = omega (arith, f.more, g.more);
      agree = λ k h. f.agree k h ∙ g.agree k (omega (arith, f.more));
    }

-- a word that keeps the rules and is not there, put behind the others
pub extends_by : {n : ℕ} {ts : List ℕ} {count : ℕ} → Terms n ts count → (ts' : List ℕ) (w : ℕ) → Agree ts ts' count
    → get_or ts' count 0 ≡ w → refusal_of n ts count w ≡ 0 → find_of ts count w ≡ None → Extends n ts count ts' (suc count)
extends_by {n} {ts} {count} v ts' w g e r f =
    record {
      terms =
          terms_more (terms_same v ts' g) (sym (refusal_same n ts ts' count (get_or ts' count 0) g) ∙ ap (refusal_of n ts count) e ∙ r)
          (λ k h q. found_at ts count w f k h (g k h ∙ q ∙ e));
      more = omega arith;
      agree = g;
    }

module _ {n : ℕ} {ts : List ℕ} {count : ℕ} (v : Valid n ts count) (w : ℕ) where
  kept : (r : ℕ) → AddsTerm n ts count w (refuse r count ts)
  kept r = record { is = (refl, refl); valid = v }

  pub adds : AddsTerm n ts count w (add_of n ts count w)
  adds = add_elim (AddsTerm n ts count w) n ts count w (kept (refusal_of n ts count w)) (kept 20) old new
    where
      old : refusal_of n ts count w ≡ 0 → (i : ℕ) → find_of ts count w ≡ Some i → AddsTerm n ts count w (accept i count ts)
      old r i e = let p = found_at ts count w e in record { is = (p.0, p.1, extends_refl v.terms); valid = v }

      new : refusal_of n ts count w ≡ 0 → find_of ts count w ≡ None → (count ≡ 512 → ⊥) → AddsTerm n ts count w (accept count (suc count) (set ts count w))
      new r e ne =
          let room : count < 512 = omega (arith, v.room, ne) in
          let here : get_or (set ts count w) count 0 ≡ w = get_or-set_same ts count w 0 (omega (arith, v.size)) in
          let x = extends_by v.terms (set ts count w) w (λ k h. sym (get_or-set_other ts count k w 0 (λ z. omega arith))) here r e in
          record { is = (omega arith, here, x); valid = record { size = length-set ts count w ∙ v.size; room = room; terms = x.terms } }

-- ---- by the way out

module _ (n : ℕ) (ts : List ℕ) (count w : ℕ) where
  pub add_refused : (r : Refusal) → number r ≡ refusal_of n ts count w → add_outcome (Err r) count ts ≡ add_of n ts count w
  unfolding add_of
  add_refused r e = simp (ne_eqb (refusal_of n ts count w) 0 (λ z. not_0 r (e ∙ z))) (ap (λ (x : ℕ). refuse x count ts) e)

  module _ (passed : refusal_of n ts count w ≡ 0) where
    by : {f : Option ℕ} → find_of ts count w ≡ f → add_by ts count w f ≡ add_of n ts count w
    unfolding add_of
    by e = rw (eq-eqb (refusal_of n ts count w) 0 passed) (ap (add_by ts count w) (sym e))

    pub add_old : {i : ℕ} → find_of ts count w ≡ Some i → add_outcome (Ok (Old i)) count ts ≡ add_of n ts count w
    add_old e = by e

    pub add_full : find_of ts count w ≡ None → count ≡ 512 → add_outcome (Err TermsFull) count ts ≡ add_of n ts count w
    add_full e h = rw (eq-eqb count 512 h) at (by e)

    pub add_new : find_of ts count w ≡ None → (count ≡ 512 → ⊥) → add_outcome (Ok (New count)) count (set ts count w) ≡ add_of n ts count w
    add_new e h = rw (ne_eqb count 512 h) at (by e)
