-- What follows from the definitions of the same name in specs/.
-- Assumes nothing.
use Rattle.std.specs.Prelude.{◌≡◌, refl, true, List, ℕ, ◌<◌, ◌≤◌}
use Rattle.std.proofs.Math.Path.{ap}
use Rattle.std.proofs.Common.{ap₂, le_refl, arith}
use Rattle.words.specs.declared.Term.{Term}
use Rattle.words.specs.declared.Term.TheVariants.{Principal, Time, Nonce, LongTermKey, SessionKey, Pair, Encrypted, Unknown}
use Rattle.terms.proofs.Choice.{no_true}
use Rattle.terms.proofs.Descend.{Falls, descend_at, descend_same}
use Rattle.terms.specs.Message.{Key, Message, principal, key, pair, encrypted}
use Rattle.terms.proofs.Operands.{operands_elim}
use Rattle.terms.specs.Rules.{term_at, is_key, Agree}
use Rattle.terms.specs.Valid.{Terms}
use Rattle.terms.proofs.Valid.{fields_of_lem}
use Rattle.words.specs.Word.{term_of}
use Rattle.terms.specs.Meaning.{key_of, message_of, read_term, message_at, Under}

pub under_at : {n : ℕ} {ts : List ℕ} {count : ℕ} → Terms n ts count → (i m : ℕ) → i < count → i ≤ m → Under m (term_at ts i)
under_at {ts = ts} v i m h le =
    operands_elim (λ (X : Type 0). X) (Unit {0}) (λ l r. (l < m) × (r < m)) (λ b k. (b < m) × (k < m)) (term_at ts i) tt
    (λ l r e. let f = fields_of_lem v i h e in (omega (arith, f.0), omega (arith, f.1)))
    (λ b k e. let f = fields_of_lem v i h e in (omega (arith, f.0), omega (arith, f.1)))

-- ---- a term's message is that of its operands' messages

message_same : (f g : ℕ → Message) (at : ℕ) (t : Term) → Under at t → ((k : ℕ) → k < at → f k ≡ g k) → message_of f t ≡ message_of g t
message_same f g at (Principal p) h e = refl
message_same f g at (Time t) h e = refl
message_same f g at (Nonce i) h e = refl
message_same f g at (LongTermKey p) h e = refl
message_same f g at (SessionKey i) h e = refl
message_same f g at (Pair l r) h e = ap₂ pair (e l h.0) (e r h.1)
message_same f g at (Encrypted b k) h e = ap₂ (λ (x y : Message). encrypted x (key_of y)) (e b h.0) (e k h.1)
message_same f g at Unknown h e = refl

module _ {n : ℕ} {ts : List ℕ} {count : ℕ} (v : Terms n ts count) where
  falls : Falls (read_term ts) count
  falls i h f g e = message_same f g i (term_at ts i) (under_at v i i h (le_refl i)) e

  pub message_at_lem : (i : ℕ) → i < count → message_at ts i ≡ message_of (message_at ts) (term_at ts i)
  unfolding message_at
  message_at_lem i h = descend_at (principal 0) (read_term ts) count falls i h

  -- a table that has the same words has the same messages
  pub messages_same : (ts' : List ℕ) → Agree ts ts' count → (i : ℕ) → i < count → message_at ts i ≡ message_at ts' i
  unfolding message_at
  messages_same ts' g i h =
      descend_same (principal 0) (read_term ts) count falls (read_term ts') (λ k lt sub. ap (λ (w : ℕ). message_of sub (term_of w)) (g k lt)) i h

-- ---- a term that can be a key stands for a key

pub key_message : (sub : ℕ → Message) (t : Term) → is_key t ≡ true → message_of sub t ≡ key (key_of (message_of sub t))
key_message sub (Principal p) e = no_true e
key_message sub (Time t) e = no_true e
key_message sub (Nonce i) e = no_true e
key_message sub (LongTermKey p) e = refl
key_message sub (SessionKey i) e = refl
key_message sub (Pair l r) e = no_true e
key_message sub (Encrypted b k) e = no_true e
key_message sub Unknown e = no_true e

pub key_at : {n : ℕ} {ts : List ℕ} {count : ℕ} → Terms n ts count → (i : ℕ) → i < count → is_key (term_at ts i) ≡ true → message_at ts i ≡ key (key_of (message_at ts i))
key_at {ts = ts} v i h e = rw (message_at_lem v i h) (key_message (message_at ts) (term_at ts i) e)

-- ---- a term by its message

-- only a term that can be a key stands for a key
pub key_inv : (sub : ℕ → Message) (t : Term) {k : Key} → message_of sub t ≡ key k → is_key t ≡ true
key_inv sub (Principal p) e = let z : ◌≡◌ {A = ℕ} 0 1 = cc in absurd (omega arith)
key_inv sub (Time t) e = let z : ◌≡◌ {A = ℕ} 0 1 = cc in absurd (omega arith)
key_inv sub (Nonce i) e = let z : ◌≡◌ {A = ℕ} 0 1 = cc in absurd (omega arith)
key_inv sub (LongTermKey p) e = refl
key_inv sub (SessionKey i) e = refl
key_inv sub (Pair l r) e = let z : ◌≡◌ {A = ℕ} 0 1 = cc in absurd (omega arith)
key_inv sub (Encrypted b k) e = let z : ◌≡◌ {A = ℕ} 0 1 = cc in absurd (omega arith)
key_inv sub Unknown e = let z : ◌≡◌ {A = ℕ} 0 1 = cc in absurd (omega arith)

-- only a pair stands for a pair
abbrev pub PairAt : (ℕ → Message) → Message → Message → Term → Type 0
PairAt sub a b t = (l : ℕ) × (r : ℕ) × (t ≡ Pair l r) × (sub l ≡ a) × (sub r ≡ b)

pub pair_inv : (sub : ℕ → Message) (t : Term) {a b : Message} → message_of sub t ≡ pair a b → PairAt sub a b t
pair_inv sub (Principal p) e = let z : ◌≡◌ {A = ℕ} 0 1 = cc in absurd (omega arith)
pair_inv sub (Time t) e = let z : ◌≡◌ {A = ℕ} 0 1 = cc in absurd (omega arith)
pair_inv sub (Nonce i) e = let z : ◌≡◌ {A = ℕ} 0 1 = cc in absurd (omega arith)
pair_inv sub (LongTermKey p) e = let z : ◌≡◌ {A = ℕ} 0 1 = cc in absurd (omega arith)
pair_inv sub (SessionKey i) e = let z : ◌≡◌ {A = ℕ} 0 1 = cc in absurd (omega arith)
pair_inv sub (Pair l r) e = (l, r, refl, (cc), (cc))
pair_inv sub (Encrypted b k) e = let z : ◌≡◌ {A = ℕ} 0 1 = cc in absurd (omega arith)
pair_inv sub Unknown e = let z : ◌≡◌ {A = ℕ} 0 1 = cc in absurd (omega arith)

-- only an encryption stands for an encryption
abbrev pub EncryptedAt : (ℕ → Message) → Message → Key → Term → Type 0
EncryptedAt sub m k t = (b : ℕ) × (j : ℕ) × (t ≡ Encrypted b j) × (sub b ≡ m) × (key_of (sub j) ≡ k)

pub encrypted_inv : (sub : ℕ → Message) (t : Term) {m : Message} {k : Key} → message_of sub t ≡ encrypted m k → EncryptedAt sub m k t
encrypted_inv sub (Principal p) e = let z : ◌≡◌ {A = ℕ} 0 1 = cc in absurd (omega arith)
encrypted_inv sub (Time t) e = let z : ◌≡◌ {A = ℕ} 0 1 = cc in absurd (omega arith)
encrypted_inv sub (Nonce i) e = let z : ◌≡◌ {A = ℕ} 0 1 = cc in absurd (omega arith)
encrypted_inv sub (LongTermKey p) e = let z : ◌≡◌ {A = ℕ} 0 1 = cc in absurd (omega arith)
encrypted_inv sub (SessionKey i) e = let z : ◌≡◌ {A = ℕ} 0 1 = cc in absurd (omega arith)
encrypted_inv sub (Pair l r) e = let z : ◌≡◌ {A = ℕ} 0 1 = cc in absurd (omega arith)
encrypted_inv sub (Encrypted b k) e = (b, k, refl, (cc), (cc))
encrypted_inv sub Unknown e = let z : ◌≡◌ {A = ℕ} 0 1 = cc in absurd (omega arith)
