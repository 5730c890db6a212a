-- What follows from the definitions of the same name in specs/.
-- Assumes nothing.
use Rattle.std.specs.Prelude.{◌≡◌, refl, Bool, true, false, List, ℕ, zero, suc, ◌+◌, ◌<◌, ◌≤◌, get_or, length, set}
use Rattle.std.proofs.Common.{sym, ap, ◌∙◌, subst, inl, inr, ⊎_elim, arith, length-set, get_or-set_same, get_or-set_other}
use Rattle.std.proofs.Math.Logic.{dite}
use Rattle.std.proofs.Math.Decide.{ℕ_discrete}
use Rattle.words.specs.declared.Term.{Term}
use Rattle.words.specs.declared.Term.TheVariants.{Principal, Time, Nonce, LongTermKey, SessionKey, Pair, Encrypted, Unknown}
use Rattle.terms.proofs.Choice.{no_true}
use Rattle.terms.specs.Operands.{by_operands}
use Rattle.terms.specs.Rules.{term_at, is_key}
use Rattle.terms.proofs.RulesLaws.{Fields}
use Rattle.terms.specs.Valid.{Valid}
use Rattle.terms.proofs.Valid.{fields_of_lem}
use Rattle.worklist.specs.Chains.{link_of, chains_of, LastUnder, Chained}

-- ---- a term that is no encryption ends no chain

abbrev is_encrypted : Term → Bool
is_encrypted = by_operands false (λ l r. false) (λ b k. true)

last_on : {ts : List ℕ} {k m e : ℕ} → ((b : ℕ) → term_at ts m ≡ Encrypted b k → ⊥) → LastUnder ts k m e → LastUnder ts k (suc m) e
last_on {ts} {k} {m} none l =
    record {
      most = λ i b h q.
          dite (ℕ_discrete i m) (λ same. absurd (none b (subst (λ (x : ℕ). term_at ts x ≡ Encrypted b k) same q))) (λ ne. l.most i b (omega arith) q);
      is = ⊎_elim (λ z. inl z) (λ x. inr (x.0, omega (arith, x.1), x.2)) l.is;
    }

module _ {n : ℕ} {ts : List ℕ} {count : ℕ} (v : Valid n ts count) {c : List ℕ} (m : ℕ) (h : m < count) (ch : Chained ts count m c) where
  plain : is_encrypted (term_at ts m) ≡ false → Chained ts count (suc m) c
  plain e =
      let none : (k b : ℕ) → term_at ts m ≡ Encrypted b k → ⊥ = λ k b q. no_true (sym e ∙ ap is_encrypted q) in
      record {
        places = ch.places;
        last = λ k lt key. last_on (none k) (ch.last k lt key);
        before = λ i b k lt q.
            dite (ℕ_discrete i m) (λ same. absurd (none k b (subst (λ (x : ℕ). term_at ts x ≡ Encrypted b k) same q))) (λ ne. ch.before i b k (omega arith) q);
      }

  -- an encryption becomes the last under its key
  module _ (b k : ℕ) (e : term_at ts m ≡ Encrypted b k) where
    fields : Fields n ts m (Encrypted b k)
    fields = fields_of_lem v.terms m h e

    abbrev c' : List ℕ
    c' = set c m (get_or c k 0)

    key_not : (i b' k' : ℕ) → is_key (term_at ts i) ≡ true → term_at ts i ≡ Encrypted b' k' → ⊥
    key_not i b' k' key q = no_true (sym (ap is_key q) ∙ key)

    at_key : get_or (set c' k m) k 0 ≡ m
    at_key = get_or-set_same c' k m 0 (omega (arith, fields.1, h, v.room, length-set c m (get_or c k 0), ch.places))

    at_self : get_or (set c' k m) m 0 ≡ get_or c k 0
    at_self = get_or-set_other c' k m m 0 (λ q. omega (arith, fields.1)) ∙ get_or-set_same c m (get_or c k 0) 0 (omega (arith, h, v.room, ch.places))

    at_other : (i : ℕ) → (i ≡ k → ⊥) → (i ≡ m → ⊥) → get_or (set c' k m) i 0 ≡ get_or c i 0
    at_other i x y = get_or-set_other c' k i m 0 x ∙ get_or-set_other c m i (get_or c k 0) 0 y

    linked : Chained ts count (suc m) (set c' k m)
    linked =
        record {
          places = length-set c' k m ∙ length-set c m (get_or c k 0) ∙ ch.places;
          last = λ i lt key.
              dite (ℕ_discrete i k) (λ q. rw (q, at_key) (record { most = λ j x below _. omega arith; is = inr (b, omega arith, e) }))
              (λ ne.
              rw (at_other i ne (λ q. key_not m b k (subst (λ (x : ℕ). is_key (term_at ts x) ≡ true) q key) e))
              (last_on (λ x q. ne (let z : Encrypted b k ≡ Encrypted x i = sym e ∙ q in let w : k ≡ i = cc in sym w)) (ch.last i lt key)));
          before = λ i b' k' lt q.
              dite (ℕ_discrete i m)
              (λ s.
              let z : Encrypted b k ≡ Encrypted b' k' = sym e ∙ subst (λ (x : ℕ). term_at ts x ≡ Encrypted b' k') s q in
              let w : k' ≡ k = cc in
              rw (s, at_self, w) (ch.last k (omega (arith, fields.1, h)) fields.2))
              (λ ne. rw (at_other i (λ s. key_not k b' k' fields.2 (subst (λ (x : ℕ). term_at ts x ≡ Encrypted b' k') s q)) ne) (ch.before i b' k' (omega arith) q));
        }

  link_by : (t : Term) → term_at ts m ≡ t → Chained ts count (suc m) (link_of t m c)
  link_by (Principal p) e = plain (ap is_encrypted e)
  link_by (Time t) e = plain (ap is_encrypted e)
  link_by (Nonce i) e = plain (ap is_encrypted e)
  link_by (LongTermKey p) e = plain (ap is_encrypted e)
  link_by (SessionKey i) e = plain (ap is_encrypted e)
  link_by (Pair l r) e = plain (ap is_encrypted e)
  link_by (Encrypted b k) e = linked b k e
  link_by Unknown e = plain (ap is_encrypted e)

-- ---- from an array of zeros the chains of all terms come

pub chained : {n : ℕ} {ts : List ℕ} {count : ℕ} → Valid n ts count → (c : List ℕ) → length c ≡ 512 → ((k : ℕ) → get_or c k 0 ≡ 0)
    → (m : ℕ) → m ≤ count → Chained ts count m (chains_of ts m c)
unfolding chains_of
chained {ts = ts} v c size zeros zero h =
    record {
      places = size;
      last = λ k lt key. rw (zeros k) (record { most = λ i b below _. absurd (omega arith); is = inl refl });
      before = λ e b k lt q. absurd (omega arith);
    }
chained {ts = ts} v c size zeros (suc m) h = link_by v m h (chained v c size zeros m (omega arith)) (term_at ts m) refl

-- ---- as a loop runs it

pub chains_start : (ts c : List ℕ) → c ≡ chains_of ts 0 c
unfolding chains_of
chains_start ts c = refl

pub chains_next : (ts c : List ℕ) (m : ℕ) → link_of (term_at ts m) m (chains_of ts m c) ≡ chains_of ts (m + 1) c
unfolding chains_of
chains_next ts c m =
    let s : m + 1 ≡ suc m = omega arith in
    rw s
