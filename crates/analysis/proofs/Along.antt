-- A walk along the chain of a key decrypts the encryptions under it, the last first.
-- Assumes nothing.
use Rattle.std.specs.Prelude.{◌≡◌, refl, Bool, true, false, cond, List, ℕ, zero, suc, ◌<◌, ◌≤◌, get_or}
use Rattle.std.proofs.Common.{sym, ap, ◌∙◌, subst, inl, inr, ⊎_elim, le_refl, arith}
use Rattle.words.specs.declared.Term.TheVariants.{Encrypted}
use Rattle.terms.proofs.Choice.{no_true}
use Rattle.terms.specs.Meaning.{Under}
use Rattle.terms.proofs.Meaning.{under_at}
use Rattle.terms.specs.Rules.{term_at, is_key}
use Rattle.terms.specs.Valid.{Valid}
use Rattle.terms.proofs.Valid.{fields_of_lem}
use Rattle.worklist.specs.Chains.{LastUnder, Linked}
use Rattle.worklist.specs.Found.{Found}
use Rattle.analysis.specs.Gives.{is_under, decrypt_of, under_of}
use Rattle.analysis.proofs.Gives.{is_under_lem, under_is}

-- e is the next encryption under key k to look at, of `count` terms; f has been found by then, and f₀ at the start
pub record Along (ts : List ℕ) (count k : ℕ) (f₀ f : Found) (e : ℕ) : Type 0 where
  pub m : ℕ
  pub within : m ≤ count
  pub last : LastUnder ts k m e
  pub same : under_of ts k m f ≡ under_of ts k count f₀

-- ---- the definition, along a chain

-- the last encryption under the key is decrypted, and then those before it
under_along : (ts : List ℕ) (k m : ℕ) (f : Found) (e : ℕ) → LastUnder ts k m e → (e ≡ 0 → ⊥) → under_of ts k m f ≡ under_of ts k e (decrypt_of f e (term_at ts e))
unfolding under_of
under_along ts k zero f e l ne = ⊎_elim (λ z. absurd (ne z)) (λ x. absurd (omega (arith, x.1))) l.is
under_along ts k (suc m) f e l ne = by (is_under k (term_at ts m)) refl (under_along ts k m f e)
  where
    is : (b : ℕ) × (e < suc m) × (term_at ts e ≡ Encrypted b k)
    is = ⊎_elim (λ z. absurd (ne z)) (λ x. x) l.is

    by : (c : Bool) → is_under k (term_at ts m) ≡ c → (LastUnder ts k m e → (e ≡ 0 → ⊥) → under_of ts k m f ≡ under_of ts k e (decrypt_of f e (term_at ts e)))
        → under_of ts k m (cond c (decrypt_of f m (term_at ts m)) f) ≡ under_of ts k e (decrypt_of f e (term_at ts e))
    by true u rest =
        let x = is_under_lem k (term_at ts m) u in
        let s : m ≡ e = omega (arith, l.most m x.0 (omega arith) x.1, is.1) in
        ap (λ (j : ℕ). under_of ts k j (decrypt_of f j (term_at ts j))) s
    by false u rest =
        let below : (e ≡ m → ⊥) = λ s. no_true (sym u ∙ subst (λ (j : ℕ). is_under k (term_at ts j) ≡ true) s (under_is k is.0 (term_at ts e) is.2)) in
        rest (record { most = λ i b h q. l.most i b (omega arith) q; is = inr (is.0, omega (arith, is.1, below), is.2) }) ne

-- at the end of the chain there is none
under_end : {n : ℕ} {ts : List ℕ} {count : ℕ} → Valid n ts count → (k m : ℕ) → m ≤ count → (f : Found) → LastUnder ts k m 0 → under_of ts k m f ≡ f
unfolding under_of
under_end v k zero h f l = refl
under_end {n} {ts} v k (suc m) h f l = by (is_under k (term_at ts m)) refl (under_end v k m (omega arith) f)
  where
    by : (c : Bool) → is_under k (term_at ts m) ≡ c → (LastUnder ts k m 0 → under_of ts k m f ≡ f) → under_of ts k m (cond c (decrypt_of f m (term_at ts m)) f) ≡ f
    by true u rest =
        let x = is_under_lem k (term_at ts m) u in
        let low = fields_of_lem v.terms m h x.1 in
        absurd (omega (arith, l.most m x.0 (omega arith) x.1, low.1))
    by false u rest = rest (record { most = λ i b lt q. l.most i b (omega arith) q; is = inl refl })

-- ---- the walk

module _ {ts : List ℕ} {count : ℕ} {c : List ℕ} (l : Linked ts count c) (k : ℕ) where
  pub along_start : k < count → is_key (term_at ts k) ≡ true → {f : Found} → Along ts count k f f (get_or c k 0)
  along_start h key = record { m = count; within = le_refl count; last = l.chains.last k h key; same = refl }

  module _ {f₀ f : Found} {e : ℕ} (a : Along ts count k f₀ f e) where
    -- it is a term of the table
    pub along_low : e < 512
    along_low = ⊎_elim (λ z. omega (arith, z)) (λ x. omega (arith, x.1, a.within, l.table.valid.room)) a.last.is

    module _ (ne : e ≡ 0 → ⊥) where
      pub along_is : (b : ℕ) × (e < count) × (term_at ts e ≡ Encrypted b k)
      along_is = let x = ⊎_elim (λ z. absurd (ne z)) (λ y. y) a.last.is in (x.0, omega (arith, x.1, a.within), x.2)

      pub along_under : Under 512 (term_at ts e)
      along_under = under_at l.table.valid.terms e 512 along_is.1 (omega (arith, along_is.1, l.table.valid.room))

      onward : LastUnder ts k e (get_or c e 0)
      onward = l.chains.before e along_is.0 k along_is.1 along_is.2

      pub along_less : get_or c e 0 < e
      along_less = ⊎_elim (λ z. omega (arith, z, ne)) (λ x. x.1) onward.is

      pub along_next : {g : Found} → g ≡ decrypt_of f e (term_at ts e) → Along ts count k f₀ g (get_or c e 0)
      along_next {g} q =
          record {
            m = e;
            within = omega (arith, along_is.1);
            last = onward;
            same = ap (under_of ts k e) q ∙ sym (under_along ts k a.m f e a.last ne) ∙ a.same;
          }

    pub along_end : e ≡ 0 → f ≡ under_of ts k count f₀
    along_end z = sym (under_end l.table.valid k a.m a.within f (subst (LastUnder ts k a.m) z a.last)) ∙ a.same
