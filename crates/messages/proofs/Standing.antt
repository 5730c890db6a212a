-- What follows from the definitions of the same name in specs/.
-- Assumes nothing.
use Rattle.std.specs.Prelude.{◌≡◌, List, [], ◌∷◌, ◌++◌, ℕ, suc, ◌<◌, ◌≤◌, length, get_or, Option, Some, None}
use Rattle.std.proofs.Math.Path.{refl, ap₂}
use Rattle.std.proofs.Common.{sym, ap, ◌∙◌, subst, le_refl, add-one, arith, length-append}
use Rattle.std.proofs.Math.ListN.{get_or-append}
use Rattle.std.proofs.Math.Seq.{get_or-append_seam}
use Rattle.words.specs.declared.Term.{Term}
use Rattle.words.specs.declared.Term.TheVariants.{Principal, Time, Nonce, LongTermKey, SessionKey, Pair, Encrypted, Unknown}
use Rattle.drafts.specs.Writes.{KeyFits, Writes}
use Rattle.terms.specs.Add.{Extends}
use Rattle.terms.proofs.Add.{extends_refl, extends_trans, extends_by}
use Rattle.terms.specs.Meaning.{key_of, message_of, message_at}
use Rattle.terms.proofs.Meaning.{message_at_lem, messages_same, key_at, key_inv, pair_inv, encrypted_inv}
use Rattle.terms.specs.Message.{Key, long_term, session, Message, principal, time, nonce, key, pair, encrypted}
use Rattle.terms.specs.Number.{place, key_word, word_in, number_in}
use Rattle.terms.proofs.Number.{number_at, word_at}
use Rattle.terms.specs.Rules.{term_at, spare, refusal_of, Agree}
use Rattle.terms.proofs.RulesLaws.{passes, Fields, fields_ok_lem}
use Rattle.terms.specs.Table.{find_of}
use Rattle.terms.proofs.TableLaws.{FoundIs, found_at, found_is}
use Rattle.terms.specs.Valid.{Terms}
use Rattle.terms.proofs.Valid.{fields_at}
use Rattle.words.specs.Word.{kind_of, right_of, term_of, word_of}
use Rattle.words.proofs.Word.{Packs, term_back}
use Rattle.messages.specs.Entered.{with_by, with_word, with_term, entered}
use Rattle.messages.specs.Standing.{Standing}

-- the terms ys are those of xs and more, among them the message m
pub record EnteredIs (n : ℕ) (xs ys : List ℕ) (m : Message) : Type 0 where
  pub extends : Extends n xs (length xs) ys (length ys)
  pub number : ℕ
  pub stands : Standing ys m number

-- ---- a word whose fields are in range keeps the rules

spare_word : (n : ℕ) (ts : List ℕ) (at : ℕ) (t : Term) → Packs t → Fields n ts at t → (kind_of (word_of t) ≤ 6) × (spare t (right_of (word_of t)) ≡ 0)
unfolding word_of
spare_word n ts at (Principal p) h f = (omega arith, omega arith)
spare_word n ts at (Time t) h f = (omega arith, refl)
spare_word n ts at (Nonce i) h f = (omega arith, omega arith)
spare_word n ts at (LongTermKey p) h f = (omega arith, omega arith)
spare_word n ts at (SessionKey i) h f = (omega arith, omega arith)
spare_word n ts at (Pair l r) h f = (omega (arith, h.0, h.1), refl)
spare_word n ts at (Encrypted b k) h f = (omega (arith, h.0, h.1), refl)
spare_word n ts at Unknown h f = absurd f

pub word_passes : (n : ℕ) (ts : List ℕ) (at : ℕ) (t : Term) → Packs t → Fields n ts at t → refusal_of n ts at (word_of t) ≡ 0
word_passes n ts at t h f =
    let s = spare_word n ts at t h f in
    let e = term_back t h in
    passes n ts at (word_of t) (record { kind = s.0; unused = rw e s.1; fields = rw e (fields_ok_lem n ts at t f) })

-- ---- one word more

-- a word that is there changes nothing
with_found : (xs : List ℕ) (w i : ℕ) → i < length xs → get_or xs i 0 ≡ w → (f : Option ℕ) → FoundIs xs (length xs) w f → with_by xs w f ≡ xs
with_found xs w i h e (Some j) p = refl
with_found xs w i h e None p = absurd (p i h e)

pub with_present : (xs : List ℕ) (w i : ℕ) → i < length xs → get_or xs i 0 ≡ w → with_word xs w ≡ xs
unfolding with_word
with_present xs w i h e = with_found xs w i h e (find_of xs (length xs) w) (found_is xs (length xs) w)

-- a term's word stands for the term's message
standing_by : {n : ℕ} {ys : List ℕ} → Terms n ys (length ys) → (t : Term) → Packs t → (i : ℕ) → i < length ys → get_or ys i 0 ≡ word_of t
    → (m : Message) → message_of (message_at ys) t ≡ m → Standing ys m i
standing_by {ys = ys} v t h i lt e m q =
    record {
      below = lt;
      means = message_at_lem v i lt ∙ ap (λ (w : ℕ). message_of (message_at ys) (term_of w)) e ∙ ap (message_of (message_at ys)) (term_back t h) ∙ q;
    }

module _ {n : ℕ} (xs : List ℕ) (v : Terms n xs (length xs)) (t : Term) (h : Packs t) (f : Fields n xs (length xs) t) (m : Message)
    (means : (ys : List ℕ) → Extends n xs (length xs) ys (length ys) → message_of (message_at ys) t ≡ m) where
  put_found : (o : Option ℕ) → find_of xs (length xs) (word_of t) ≡ o → EnteredIs n xs (with_by xs (word_of t) o) m
  put_found (Some i) e =
      let p = found_at xs (length xs) (word_of t) e in
      record { extends = extends_refl v; number = i; stands = standing_by v t h i p.0 p.1 m (means xs (extends_refl v)) }
  put_found None e =
      let ys = xs ++ (word_of t ∷ []) in
      let long : length ys ≡ suc (length xs) = length-append xs (word_of t ∷ []) ∙ add-one (length xs) in
      let here : get_or ys (length xs) 0 ≡ word_of t = get_or-append_seam xs (word_of t) [] 0 in
      let x : Extends n xs (length xs) ys (length ys) =
      rw long (extends_by v ys (word_of t) (λ k lt. sym (get_or-append xs (word_of t ∷ []) 0 k lt)) here (word_passes n xs (length xs) t h f) e) in
      record { extends = x; number = length xs; stands = standing_by x.terms t h (length xs) (omega (arith, long)) here m (means ys x) }

  pub put_word : EnteredIs n xs (with_word xs (word_of t)) m
  unfolding with_word
  put_word = put_found (find_of xs (length xs) (word_of t)) refl

-- ---- a message stays where it stands

-- the terms ys are those of xs, and more
pub record Longer (xs ys : List ℕ) : Type 0 where
  pub more : length xs ≤ length ys
  pub agree : Agree xs ys (length xs)

pub longer_refl : (xs : List ℕ) → Longer xs xs
longer_refl xs = record { more = le_refl (length xs); agree = λ k h. refl }

pub longer_trans : {xs ys zs : List ℕ} → Longer xs ys → Longer ys zs → Longer xs zs
longer_trans f g =
    record { more = omega (arith, f.more, g.more); agree = λ k h. f.agree k h ∙ g.agree k (omega (arith, f.more)) }

longer_by : (xs : List ℕ) (w : ℕ) (f : Option ℕ) → Longer xs (with_by xs w f)
longer_by xs w (Some i) = longer_refl xs
longer_by xs w None =
    record { more = omega (arith, length-append xs (w ∷ [])); agree = λ k h. sym (get_or-append xs (w ∷ []) 0 k h) }

pub longer_with : (xs : List ℕ) (w : ℕ) → Longer xs (with_word xs w)
unfolding with_word
longer_with xs w = longer_by xs w (find_of xs (length xs) w)

pub longer_entered : (xs : List ℕ) (m : Message) → Longer xs (entered xs m)
unfolding entered
longer_entered xs (principal p) = longer_with xs (word_in xs (principal p))
longer_entered xs (time t) = longer_with xs (word_in xs (time t))
longer_entered xs (nonce i) = longer_with xs (word_in xs (nonce i))
longer_entered xs (key k) = longer_with xs (word_in xs (key k))
longer_entered xs (pair a b) =
    let ys = entered (entered xs a) b in
    longer_trans (longer_trans (longer_entered xs a) (longer_entered (entered xs a) b)) (longer_with ys (word_in ys (pair a b)))
longer_entered xs (encrypted m k) =
    let ys = with_term (entered xs m) (key k) in
    longer_trans (longer_trans (longer_entered xs m) (longer_with (entered xs m) (word_in (entered xs m) (key k)))) (longer_with ys (word_in ys (encrypted m k)))

pub standing_longer : {n : ℕ} {xs ys : List ℕ} {m : Message} {i : ℕ} → Terms n xs (length xs) → Longer xs ys → Standing xs m i → Standing ys m i
standing_longer {ys = ys} {i = i} v x s =
    record { below = omega (arith, s.below, x.more); means = sym (messages_same v ys x.agree i s.below) ∙ s.means }

standing_later : {n : ℕ} {xs ys : List ℕ} {m : Message} {i : ℕ} → Terms n xs (length xs) → Extends n xs (length xs) ys (length ys)
    → Standing xs m i → Standing ys m i
standing_later v x s = standing_longer v (record { more = x.more; agree = x.agree }) s

pub standing_number : {n : ℕ} {xs : List ℕ} {m : Message} {i : ℕ} → Terms n xs (length xs) → Standing xs m i → number_in xs m ≡ i
standing_number {xs = xs} {i = i} v s = ap (number_in xs) (sym s.means) ∙ number_at xs v i s.below

pub standing_here : {n : ℕ} {xs : List ℕ} {m : Message} {i : ℕ} → Terms n xs (length xs) → Standing xs m i → Standing xs m (number_in xs m)
standing_here {xs = xs} {m = m} v s = subst (Standing xs m) (sym (standing_number v s)) s

-- ---- the whole message

then : {n : ℕ} {xs ys zs : List ℕ} {m m' : Message} → EnteredIs n xs ys m → EnteredIs n ys zs m' → EnteredIs n xs zs m'
then a b = record { extends = extends_trans a.extends b.extends; number = b.number; stands = b.stands }

module _ {n : ℕ} (small : n ≤ 65536) where
  pub key_entered : (xs : List ℕ) → Terms n xs (length xs) → (k : Key) → KeyFits n k → EnteredIs n xs (with_term xs (key k)) (key k)
  unfolding word_in
  key_entered xs v (long_term p) f = put_word xs v (LongTermKey p) (omega arith) f (key (long_term p)) (λ ys x. refl)
  key_entered xs v (session i) f = put_word xs v (SessionKey i) (omega arith) f (key (session i)) (λ ys x. refl)

  -- a pair, and an encryption, of parts that are there
  pub pair_entered : (xs : List ℕ) → Terms n xs (length xs) → length xs ≤ 65536 → {a b : Message} {i j : ℕ} → Standing xs a i → Standing xs b j
      → EnteredIs n xs (with_term xs (pair a b)) (pair a b)
  unfolding word_in
  pair_entered xs v room {a} {b} sa sb =
      let p = standing_here v sa in
      let q = standing_here v sb in
      put_word xs v (Pair (number_in xs a) (number_in xs b)) (omega (arith, p.below), omega (arith, q.below)) (p.below, q.below) (pair a b)
      (λ ys x. ap₂ pair (standing_later v x p).means (standing_later v x q).means)

  pub encrypted_entered : (xs : List ℕ) → Terms n xs (length xs) → length xs ≤ 65536 → {m : Message} {k : Key} {i j : ℕ} → Standing xs m i → Standing xs (key k) j
      → EnteredIs n xs (with_term xs (encrypted m k)) (encrypted m k)
  unfolding word_in
  encrypted_entered xs v room {m} {k} sm sk =
      let p = standing_here v sm in
      let q : Standing xs (key k) (place xs (key_word k)) = standing_here v sk in
      put_word xs v (Encrypted (number_in xs m) (place xs (key_word k))) (omega (arith, p.below), omega (arith, q.below))
      (p.below, q.below, key_inv (message_at xs) (term_at xs (place xs (key_word k))) (sym (message_at_lem v (place xs (key_word k)) q.below) ∙ q.means))
      (encrypted m k) (λ ys x. ap₂ (λ (x y : Message). encrypted x (key_of y)) (standing_later v x p).means (standing_later v x q).means)

  pub entered_is : (m : Message) → Writes n m → (xs : List ℕ) → Terms n xs (length xs) → length (entered xs m) ≤ 65536 → EnteredIs n xs (entered xs m) m
  unfolding entered word_in
  entered_is (principal p) w xs v room = put_word xs v (Principal p) (omega arith) w (principal p) (λ ys x. refl)
  entered_is (time t) w xs v room = put_word xs v (Time t) w tt (time t) (λ ys x. refl)
  entered_is (nonce i) w xs v room = put_word xs v (Nonce i) (omega arith) w (nonce i) (λ ys x. refl)
  entered_is (key k) w xs v room = key_entered xs v k w
  entered_is (pair a b) w xs v room =
      let ys = entered (entered xs a) b in
      let last = (longer_with ys (word_in ys (pair a b))).more in
      let p = entered_is a w.0 xs v (omega (arith, (longer_entered (entered xs a) b).more)) in
      let q = entered_is b w.1 (entered xs a) p.extends.terms (omega arith) in
      then (then p q) (pair_entered ys q.extends.terms (omega arith) (standing_later p.extends.terms q.extends p.stands) q.stands)
  entered_is (encrypted m k) w xs v room =
      let ys = with_term (entered xs m) (key k) in
      let last = (longer_with ys (word_in ys (encrypted m k))).more in
      let p = entered_is m w.0 xs v (omega (arith, (longer_with (entered xs m) (word_in (entered xs m) (key k))).more)) in
      let q = key_entered (entered xs m) p.extends.terms k w.1 in
      then (then p q) (encrypted_entered ys q.extends.terms (omega arith) (standing_later p.extends.terms q.extends p.stands) q.stands)

-- ---- a message that is there

standing_word : {n : ℕ} {xs : List ℕ} {m : Message} {i : ℕ} → Terms n xs (length xs) → Standing xs m i → get_or xs i 0 ≡ word_in xs m
standing_word {xs = xs} {i = i} v s = sym (word_at xs v i s.below) ∙ ap (word_in xs) s.means

term_present : {n : ℕ} {xs : List ℕ} {m : Message} {i : ℕ} → Terms n xs (length xs) → Standing xs m i → with_term xs m ≡ xs
term_present {xs = xs} {m} {i} v s = with_present xs (word_in xs m) i s.below (standing_word v s)

-- the parts of a pair and of an encryption are there too
module _ {n : ℕ} {xs : List ℕ} (v : Terms n xs (length xs)) {i : ℕ} where
  parts_of_pair : {a b : Message} → Standing xs (pair a b) i → (l : ℕ) × (r : ℕ) × Standing xs a l × Standing xs b r
  parts_of_pair s =
      let p = pair_inv (message_at xs) (term_at xs i) (sym (message_at_lem v i s.below) ∙ s.means) in
      let f : Fields n xs i (Pair p.0 p.1) = subst (Fields n xs i) p.2 (fields_at v i s.below) in
      (p.0, p.1, record { below = omega (arith, f.0, s.below); means = p.3 }, record { below = omega (arith, f.1, s.below); means = p.4 })

  parts_of_encrypted : {m : Message} {k : Key} → Standing xs (encrypted m k) i → (b : ℕ) × (j : ℕ) × Standing xs m b × Standing xs (key k) j
  parts_of_encrypted s =
      let p = encrypted_inv (message_at xs) (term_at xs i) (sym (message_at_lem v i s.below) ∙ s.means) in
      let f : Fields n xs i (Encrypted p.0 p.1) = subst (Fields n xs i) p.2 (fields_at v i s.below) in
      let lt : p.1 < length xs = omega (arith, f.1, s.below) in
      (p.0, p.1, record { below = omega (arith, f.0, s.below); means = p.3 }, record { below = lt; means = key_at v p.1 lt f.2 ∙ ap key p.4 })

pub entered_present : {n : ℕ} {xs : List ℕ} → Terms n xs (length xs) → (m : Message) {i : ℕ} → Standing xs m i → entered xs m ≡ xs
unfolding entered
entered_present v (principal p) s = term_present v s
entered_present v (time t) s = term_present v s
entered_present v (nonce i) s = term_present v s
entered_present v (key k) s = term_present v s
entered_present {xs = xs} v (pair a b) s =
    let p = parts_of_pair v s in
    ap (λ (ys : List ℕ). with_term (entered ys b) (pair a b)) (entered_present v a p.2)
    ∙ ap (λ (ys : List ℕ). with_term ys (pair a b)) (entered_present v b p.3) ∙ term_present v s
entered_present {xs = xs} v (encrypted m k) s =
    let p = parts_of_encrypted v s in
    ap (λ (ys : List ℕ). with_term (with_term ys (key k)) (encrypted m k)) (entered_present v m p.2)
    ∙ ap (λ (ys : List ℕ). with_term ys (encrypted m k)) (term_present v p.3) ∙ term_present v s
