-- Laws of the layers. `Reads` and `Layer` say exactly which messages a form and a layer have; `stops` and `goes` are the ways
-- out of a chain.
-- Assumes nothing.
use Rattle.std.specs.Prelude.{◌↔◌, ◌≡◌, refl, ℕ, zero, suc, ◌<◌, eqb, Option, None, Some, option_and_then, option_map}
use Rattle.std.proofs.Common.{sym, ap, ap₂, ◌∙◌, arith, eqb-true, eq-eqb, ne_eqb}
use Rattle.std.proofs.lemmas.Option.{none-some, same_Some, cond_some}
use Rattle.terms.specs.Meaning.{key_of}
use Rattle.terms.specs.Message.{long_term, session, Message, principal, time, nonce, key, pair, encrypted}
use Rattle.layers.specs.Layers.{PRINCIPAL, TIME, NONCE, LONG_TERM_KEY, SESSION_KEY, PAIR, ENCRYPTED, kind, number, operands, of_kind, atom, layer, first, under, after, ◌▸◌}

-- ---- what is of a kind

module _ {A : Type 0} (f : Message → A) where
  pub of_kind_lem : (k : ℕ) (m : Message) → kind m ≡ k → of_kind k f m ≡ Some (f m)
  unfolding of_kind
  of_kind_lem k m e = rw (eq-eqb (kind m) k e)

  pub of_other : (k : ℕ) (m : Message) → (kind m ≡ k → ⊥) → of_kind k f m ≡ None
  unfolding of_kind
  of_other k m h = rw (ne_eqb (kind m) k h)

  pub kind_is : (k : ℕ) (m : Message) (x : A) → of_kind k f m ≡ Some x → (kind m ≡ k) × (f m ≡ x)
  unfolding of_kind
  kind_is k m x e =
      let p = cond_some (eqb (kind m) k) (f m) x e in
      (eqb-true (kind m) k p.0, p.1)

-- ---- the message of a kind and a number, or of operands

abbrev pub made : (kind number : ℕ) → Message
made zero v = principal v
made (suc zero) v = time v
made (suc (suc zero)) v = nonce v
made (suc (suc (suc zero))) v = key (long_term v)
made (suc (suc (suc (suc k)))) v = key (session v)

made_back : (m : Message) → kind m < 5 → made (kind m) (number m) ≡ m
made_back (principal p) h = refl
made_back (time t) h = refl
made_back (nonce i) h = refl
made_back (key (long_term p)) h = refl
made_back (key (session i)) h = refl
made_back (pair x y) h = absurd (omega arith)
made_back (encrypted m k) h = absurd (omega arith)

made_kind : (k v : ℕ) → k < 5 → kind (made k v) ≡ k
made_kind zero v h = refl
made_kind (suc zero) v h = refl
made_kind (suc (suc zero)) v h = refl
made_kind (suc (suc (suc zero))) v h = refl
made_kind (suc (suc (suc (suc zero)))) v h = refl
made_kind (suc (suc (suc (suc (suc k))))) v h = absurd (omega arith)

made_number : (k v : ℕ) → number (made k v) ≡ v
made_number zero v = refl
made_number (suc zero) v = refl
made_number (suc (suc zero)) v = refl
made_number (suc (suc (suc zero))) v = refl
made_number (suc (suc (suc (suc k)))) v = refl

pub pair_back : (m : Message) → kind m ≡ PAIR → m ≡ pair (operands m).0 (operands m).1
pair_back (principal p) e = absurd (omega arith)
pair_back (time t) e = absurd (omega arith)
pair_back (nonce i) e = absurd (omega arith)
pair_back (key (long_term p)) e = absurd (omega arith)
pair_back (key (session i)) e = absurd (omega arith)
pair_back (pair x y) e = refl
pair_back (encrypted m k) e = absurd (omega arith)

encrypted_back : (m : Message) → kind m ≡ ENCRYPTED → m ≡ encrypted (operands m).0 (key_of (operands m).1)
encrypted_back (principal p) e = absurd (omega arith)
encrypted_back (time t) e = absurd (omega arith)
encrypted_back (nonce i) e = absurd (omega arith)
encrypted_back (key (long_term p)) e = absurd (omega arith)
encrypted_back (key (session i)) e = absurd (omega arith)
encrypted_back (pair x y) e = absurd (omega arith)
encrypted_back (encrypted m k) e = refl

-- ---- which messages a form has

-- r reads exactly the messages that `make` makes of values
pub record Reads {A : Type 0} (r : Message → Option A) (make : A → Message) : Type 0 where
  pub back : (m : Message) (x : A) → r m ≡ Some x → m ≡ make x
  pub forth : (x : A) → r (make x) ≡ Some x

pub reads_atom : (k : ℕ) → k < 5 → Reads (atom k) (made k)
reads_atom k h =
    record {
      back = λ m x e.
          let p = kind_is number k m x e in
          let i : kind m < 5 = rw p.0 h in
          sym (made_back m i) ∙ ap₂ made p.0 p.1;
      forth = λ x. of_kind_lem number k (made k x) (made_kind k x h) ∙ ap Some (made_number k x);
    }

-- l reads exactly the messages that `make` makes of a value and a message
pub record Layer (l : Message → Option (ℕ × Message)) (make : ℕ → Message → Message) : Type 0 where
  pub back : (m : Message) (v : ℕ) (x : Message) → l m ≡ Some (v, x) → m ≡ make v x
  pub forth : (v : ℕ) (x : Message) → l (make v x) ≡ Some (v, x)

-- a value came of a value
module _ {A B : Type 0} where
  pub and_then_back : (f : A → Option B) (o : Option A) (y : B) → option_and_then f o ≡ Some y → (x : A) × (o ≡ Some x) × (f x ≡ Some y)
  and_then_back f None y e = absurd (none-some y e)
  and_then_back f (Some x) y e = (x, refl, e)

  pub map_back : (f : A → B) (o : Option A) (y : B) → option_map f o ≡ Some y → (x : A) × (o ≡ Some x) × (f x ≡ y)
  map_back f None y e = absurd (none-some y e)
  map_back f (Some x) y e = (x, refl, same_Some (f x) y e)

module _ (outer : ℕ) (value rest : Message × Message → Message) (k : ℕ) (m : Message) where
  pub no_layer : (kind m ≡ outer → ⊥) → layer outer value rest k m ≡ None
  unfolding layer
  no_layer h = rw (of_other operands outer m h)

  pub layer_read : kind m ≡ outer → layer outer value rest k m ≡ option_map (λ v. (v, rest (operands m))) (atom k (value (operands m)))
  unfolding layer
  layer_read e = rw (of_kind_lem operands outer m e)

  layer_back : (v : ℕ) (x : Message) → layer outer value rest k m ≡ Some (v, x)
      → (kind m ≡ outer) × (atom k (value (operands m)) ≡ Some v) × (rest (operands m) ≡ x)
  unfolding layer
  layer_back v x e =
      let p = and_then_back (λ p. option_map (λ v. (v, rest p)) (atom k (value p))) (of_kind outer operands m) (v, x) e in
      let q = map_back (λ v. (v, rest p.0)) (atom k (value p.0)) (v, x) p.2 in
      let i = kind_is operands outer m p.0 p.1 in
      (i.0, rw i.1 (q.1 ∙ ap (λ y. Some y.0) q.2), rw i.1 (ap (λ y. y.1) q.2))

pub layer_first : (k : ℕ) → k < 5 → Layer (first k) (λ v x. pair (made k v) x)
layer_first k h =
    record {
      back = λ m v x e.
          let b = layer_back PAIR (λ p. p.0) (λ p. p.1) k m v x e in
          pair_back m b.0 ∙ ap₂ pair ((reads_atom k h).back (operands m).0 v b.1) b.2;
      forth = λ v x. layer_read PAIR (λ p. p.0) (λ p. p.1) k (pair (made k v) x) refl ∙ ap (option_map (λ v. (v, x))) ((reads_atom k h).forth v);
    }

-- only a key can be the second operand of an encryption
pub layer_under : (k : ℕ) → k < 5 → ((v : ℕ) → key (key_of (made k v)) ≡ made k v) → Layer (under k) (λ v x. encrypted x (key_of (made k v)))
layer_under k h is =
    record {
      back = λ m v x e.
          let b = layer_back ENCRYPTED (λ p. p.1) (λ p. p.0) k m v x e in
          encrypted_back m b.0 ∙ ap₂ (λ (x y : Message). encrypted x (key_of y)) b.2 ((reads_atom k h).back (operands m).1 v b.1);
      forth = λ v x.
          layer_read ENCRYPTED (λ p. p.1) (λ p. p.0) k (encrypted x (key_of (made k v))) refl
          ∙ ap (option_map (λ v. (v, x))) (ap (atom k) (is v) ∙ (reads_atom k h).forth v);
    }

-- ---- going on with what is left

module _ {A : Type 0} (l : Message → Option (ℕ × Message)) (s : Message → Option A) (m : Message) where
  pub stops : l m ≡ None → (l ▸ s) m ≡ None
  unfolding ◌▸◌
  stops e = rw e

  pub goes : {v : ℕ} {x : Message} → l m ≡ Some (v, x) → {o : Option A} → s x ≡ o → (l ▸ s) m ≡ option_map (λ w. (v, w)) o
  unfolding ◌▸◌
  goes e h = rw (e, h)

  after_back : (o : Option (ℕ × Message)) (v : ℕ) (w : A) → after s o ≡ Some (v, w) → (x : Message) × (o ≡ Some (v, x)) × (s x ≡ Some w)
  after_back None v w e = absurd (none-some (v, w) e)
  after_back (Some (u, x)) v w e =
      let p = map_back (λ w. (u, w)) (s x) (v, w) e in
      (x, ap (λ y. Some (y.0, x)) p.2, p.1 ∙ ap (λ y. Some y.1) p.2)

  pub goes_back : (v : ℕ) (w : A) → (l ▸ s) m ≡ Some (v, w) → (x : Message) × (l m ≡ Some (v, x)) × (s x ≡ Some w)
  unfolding ◌▸◌
  goes_back v w e = after_back (l m) v w e

-- a layer with all that is left
pub reads_rest : {l : Message → Option (ℕ × Message)} {outer : ℕ → Message → Message} → Layer l outer → Reads l (λ x. outer x.0 x.1)
reads_rest L = record { back = λ m x e. L.back m x.0 x.1 e; forth = λ x. L.forth x.0 x.1 }

pub reads_▸ : {A : Type 0} {l : Message → Option (ℕ × Message)} {outer : ℕ → Message → Message} {s : Message → Option A} {inner : A → Message}
    → Layer l outer → Reads s inner → Reads (l ▸ s) (λ x. outer x.0 (inner x.1))
reads_▸ {l = l} {outer} {s} {inner} L S =
    record {
      back = λ m x e.
          let b = goes_back l s m x.0 x.1 e in
          L.back m x.0 b.0 b.1 ∙ ap (outer x.0) (S.back b.0 x.1 b.2);
      forth = λ x. goes l s (outer x.0 (inner x.1)) (L.forth x.0 (inner x.1)) (S.forth x.1);
    }

-- ---- the layers of the code

pub principal_first : Layer (first PRINCIPAL) (λ v x. pair (principal v) x)
principal_first = layer_first PRINCIPAL (omega arith)

pub nonce_first : Layer (first NONCE) (λ v x. pair (nonce v) x)
nonce_first = layer_first NONCE (omega arith)

pub time_first : Layer (first TIME) (λ v x. pair (time v) x)
time_first = layer_first TIME (omega arith)

pub key_first : Layer (first SESSION_KEY) (λ v x. pair (key (session v)) x)
key_first = layer_first SESSION_KEY (omega arith)

pub under_key : Layer (under LONG_TERM_KEY) (λ v x. encrypted x (long_term v))
under_key = layer_under LONG_TERM_KEY (omega arith) (λ v. refl)

pub under_session : Layer (under SESSION_KEY) (λ v x. encrypted x (session v))
under_session = layer_under SESSION_KEY (omega arith) (λ v. refl)

-- ---- a form and its answer

-- where the answer has the values read, and `to` takes them back
pub exactly : {A R : Type 0} {r : Message → Option A} {make : A → Message} → Reads r make → (of : A → R) (to : R → A)
    → ((x : A) → to (of x) ≡ x) → ((q : R) → of (to q) ≡ q) → (m : Message) (q : R) → (option_map of (r m) ≡ Some q) ↔ (m ≡ make (to q))
exactly {r = r} {make} R of to back forth m q = (
  λ h. let p = map_back of (r m) q h in R.back m p.0 p.1 ∙ ap make (sym (back p.0) ∙ ap to p.2),
  λ h. rw h (ap (option_map of) (R.forth (to q)) ∙ ap Some (forth q)),
)
