-- What planning a node rests on: how many nodes are noted, that notes stay true as terms are added, and what the layer of a
-- node says of its message.
-- Assumes nothing.
use Rattle.std.specs.Prelude.{◌≡◌, refl, true, List, [], ◌∷◌, ℕ, zero, suc, ◌+◌, ◌<◌, ◌≤◌, ltb, length, get_or, take, set}
use Rattle.std.proofs.Common.{sym, ap, ap₂, ◌∙◌, subst, le_of_suc-le-suc, not-suc-le-zero, arith, ltb-true, length-append, length-take}
use Rattle.std.proofs.Math.Bool.{and-eq-true_iff}
use Rattle.drafts.specs.declared.DraftKey.{DraftKey}
use Rattle.drafts.specs.declared.DraftKey.TheVariants.{LongTerm, Session}
use Rattle.drafts.specs.declared.Layer.{Layer}
use Rattle.drafts.specs.declared.Layer.TheVariants as layer
use Rattle.drafts.specs.declared.Node.{Node}
use Rattle.drafts.specs.declared.Node.TheVariants as node
use Rattle.words.specs.declared.Term.TheVariants.{Pair, Encrypted}
use Rattle.drafts.specs.Draft.{key_name, node_message, node_fits, key_fits, layer_of, word_of_key}
use Rattle.terms.specs.Message.{Key, Message, key, pair, encrypted}
use Rattle.terms.specs.Number.{key_word, word_in, number_in}
use Rattle.terms.specs.Valid.{Terms}
use Rattle.words.specs.Word.{word_of}
use Rattle.messages.specs.Entered.{with_word, entered}
use Rattle.messages.specs.Plan.{joined, noted, NoteIs}
use Rattle.messages.specs.Standing.{Standing}
use Rattle.messages.proofs.Standing.{EnteredIs, Longer, standing_longer, standing_number}

-- ---- properties of `noted`

noted_rest : (v : ℕ) (vs : List ℕ) → noted (v ∷ vs) ≤ suc (noted vs)
unfolding noted
noted_rest zero vs = omega arith
noted_rest (suc v) vs = omega arith

pub noted_le : (vs : List ℕ) → noted vs ≤ length vs
unfolding noted
noted_le [] = omega arith
noted_le (v ∷ vs) = omega (arith, noted_rest v vs, noted_le vs)

-- a node that is not noted yet leaves room, and is noted once
pub noted_room : (vs : List ℕ) (k : ℕ) → k < length vs → get_or vs k 0 ≡ 0 → noted vs < length vs
unfolding noted
noted_room [] k h e = absurd (not-suc-le-zero h)
noted_room (zero ∷ vs) zero h e = omega (arith, noted_le vs)
noted_room (suc v ∷ vs) zero h e = absurd (omega arith)
noted_room (v ∷ vs) (suc k) h e = omega (arith, noted_rest v vs, noted_room vs k (le_of_suc-le-suc h) e)

pub noted_set : (vs : List ℕ) (k v : ℕ) → k < length vs → get_or vs k 0 ≡ 0 → noted (set vs k (suc v)) ≡ suc (noted vs)
unfolding noted
noted_set [] k v h e = absurd (not-suc-le-zero h)
noted_set (zero ∷ vs) zero v h e = refl
noted_set (suc x ∷ vs) zero v h e = absurd (omega arith)
noted_set (zero ∷ vs) (suc k) v h e = noted_set vs k v (le_of_suc-le-suc h) e
noted_set (suc x ∷ vs) (suc k) v h e = ap suc (noted_set vs k v (le_of_suc-le-suc h) e)

-- ---- notes stay true

pub note_longer : {n : ℕ} {xs ys : List ℕ} → Terms n xs (length xs) → Longer xs ys → (m : Message) (v : ℕ) → NoteIs xs m v → NoteIs ys m v
note_longer v x m zero s = tt
note_longer v x m (suc i) s = standing_longer v x s

pub joined_small : (ts : List ℕ) (count : ℕ) (words : List ℕ) (planned : ℕ) → length (joined ts count words planned) ≤ count + planned
joined_small ts count words planned =
    omega (arith, length-append (take count ts) (take planned words), take_le count ts, take_le planned words)
  where
    take_le : (m : ℕ) (l : List ℕ) → length (take m l) ≤ m
    take_le m l = simp length-take (omega arith)

-- the number at which an entered message stands
pub at_number : {n : ℕ} {xs ys : List ℕ} {m : Message} → EnteredIs n xs ys m → (number : ℕ) → number ≡ number_in ys m → Standing ys m number
at_number {ys = ys} {m = m} e number q = subst (Standing ys m) (sym (standing_number e.extends.terms e.stands) ∙ sym q) e.stands

-- ---- what a layer says of the message

-- a message without operands, by its word
pub record Atomic (m : Message) (w : ℕ) : Type 0 where
  pub enters : (xs : List ℕ) → entered xs m ≡ with_word xs w
  pub word : (xs : List ℕ) → word_in xs m ≡ w

abbrev pub LayerIs : (count k : ℕ) (stored sub : ℕ → Message) → Layer → Message → Type 0
LayerIs count k stored sub (layer.Stored i) m = (i < count) × (m ≡ stored i)
LayerIs count k stored sub (layer.Atom w) m = Atomic m w
LayerIs count k stored sub (layer.Pair l r) m = (l < k) × (r < k) × (m ≡ pair (sub l) (sub r))
LayerIs count k stored sub (layer.Encrypted b w) m = (b < k) × ((x : Key) × (m ≡ encrypted (sub b) x) × (w ≡ key_word x))

key_word_lem : (x : DraftKey) → word_of_key x ≡ key_word (key_name x)
key_word_lem (LongTerm p) = refl
key_word_lem (Session i) = refl

pub layer_is : (n count k : ℕ) (stored sub : ℕ → Message) (x : Node) → node_fits n count k x ≡ true → LayerIs count k stored sub (layer_of x) (node_message stored sub x)
unfolding entered word_in
layer_is n count k stored sub (node.Principal p) e = record { enters = λ xs. refl; word = λ xs. refl }
layer_is n count k stored sub (node.Time t) e = record { enters = λ xs. refl; word = λ xs. refl }
layer_is n count k stored sub (node.Nonce i) e = record { enters = λ xs. refl; word = λ xs. refl }
layer_is n count k stored sub (node.Key x) e = record { enters = λ xs. ap (with_word xs) (sym (key_word_lem x)); word = λ xs. sym (key_word_lem x) }
layer_is n count k stored sub (node.Pair l r) e =
    let b = (and-eq-true_iff (ltb l k) (ltb r k)).0 e in
    (ltb-true l k b.0, ltb-true r k b.1, refl)
layer_is n count k stored sub (node.Encrypted b x) e =
    (ltb-true b k ((and-eq-true_iff (ltb b k) (key_fits n x)).0 e).0, (key_name x, refl, key_word_lem x))
layer_is n count k stored sub (node.Stored i) e = (ltb-true i count e, refl)

-- the word of a pair, and of an encryption, of parts that stand at i and j
pub pair_word : {n : ℕ} {zs : List ℕ} → Terms n zs (length zs) → {a b : Message} {i j : ℕ} → Standing zs a i → Standing zs b j → word_in zs (pair a b) ≡ word_of (Pair i j)
unfolding word_in
pair_word v sa sb = ap₂ (λ (x y : ℕ). word_of (Pair x y)) (standing_number v sa) (standing_number v sb)

pub encrypted_word : {n : ℕ} {zs : List ℕ} → Terms n zs (length zs) → {m : Message} {x : Key} {i j : ℕ} → Standing zs m i → Standing zs (key x) j
    → word_in zs (encrypted m x) ≡ word_of (Encrypted i j)
unfolding word_in
encrypted_word v sm sk = ap₂ (λ (x y : ℕ). word_of (Encrypted x y)) (standing_number v sm) (standing_number v sk)
