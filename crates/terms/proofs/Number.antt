-- What follows from the definitions of the same name in specs/.
-- Assumes nothing.
use Rattle.std.specs.Prelude.{◌≡◌, refl, true, Option, Some, None, List, ℕ, zero, suc, ◌<◌, get_or, length}
use Rattle.std.proofs.Common.{sym, ap, ap₂, ◌∙◌, arith, length-take-le, get_or-take}
use Rattle.words.specs.declared.Term.{Term}
use Rattle.words.specs.declared.Term.TheVariants.{Principal, Time, Nonce, LongTermKey, SessionKey, Pair, Encrypted, Unknown}
use Rattle.terms.specs.Meaning.{key_of, message_of, message_at}
use Rattle.terms.proofs.Meaning.{message_at_lem, messages_same, key_at}
use Rattle.terms.specs.Message.{Message, key}
use Rattle.terms.specs.Rules.{term_at, is_key, Agree}
use Rattle.terms.proofs.RulesLaws.{Fields, word_back}
use Rattle.terms.specs.Table.{find_of}
use Rattle.terms.proofs.TableLaws.{FoundIs, found_is}
use Rattle.terms.specs.Valid.{Terms, Valid}
use Rattle.terms.proofs.Valid.{fields_at, passed_at, terms_same}
use Rattle.words.specs.Word.{word_of}
use Rattle.terms.specs.Number.{place_by, place, word_in, number_in, terms_of}

-- ---- a term's message has the term's number

-- the word of a term's message, where its operands' messages have their numbers
pub word_of_lem : (n : ℕ) (ts xs : List ℕ) (at : ℕ) (sub : ℕ → Message) → ((k : ℕ) → k < at → number_in xs (sub k) ≡ k)
    → ((k : ℕ) → k < at → is_key (term_at ts k) ≡ true → sub k ≡ key (key_of (sub k)))
    → (t : Term) → Fields n ts at t → word_in xs (message_of sub t) ≡ word_of t
unfolding word_in
word_of_lem n ts xs at sub e f (Principal p) h = refl
word_of_lem n ts xs at sub e f (Time t) h = refl
word_of_lem n ts xs at sub e f (Nonce i) h = refl
word_of_lem n ts xs at sub e f (LongTermKey p) h = refl
word_of_lem n ts xs at sub e f (SessionKey i) h = refl
word_of_lem n ts xs at sub e f (Pair l r) h = ap₂ (λ (a b : ℕ). word_of (Pair a b)) (e l h.0) (e r h.1)
word_of_lem n ts xs at sub e f (Encrypted b k) h =
    ap₂ (λ (x y : ℕ). word_of (Encrypted x y)) (e b h.0) (ap (number_in xs) (sym (f k h.1 h.2)) ∙ e k h.1)
word_of_lem n ts xs at sub e f Unknown h = absurd h

-- a word has one place
place_by_lem : {n : ℕ} {ts : List ℕ} {count : ℕ} → Terms n ts count → (i : ℕ) → i < count → (f : Option ℕ) → FoundIs ts count (get_or ts i 0) f → place_by f ≡ i
place_by_lem v i h (Some j) p = v.once j i p.0 h p.1
place_by_lem v i h None p = absurd (p i h refl)

pub place_at : {n : ℕ} {xs : List ℕ} → Terms n xs (length xs) → (i : ℕ) → i < length xs → place xs (get_or xs i 0) ≡ i
unfolding place
place_at {xs = xs} v i h = place_by_lem v i h (find_of xs (length xs) (get_or xs i 0)) (found_is xs (length xs) (get_or xs i 0))

module _ {n : ℕ} (xs : List ℕ) (v : Terms n xs (length xs)) where
  word_below : (i : ℕ) → i < length xs → ((k : ℕ) → k < i → number_in xs (message_at xs k) ≡ k) → word_in xs (message_at xs i) ≡ get_or xs i 0
  word_below i h below =
      ap (word_in xs) (message_at_lem v i h)
      ∙ word_of_lem n xs xs i (message_at xs) below (λ k lt e. key_at v k (omega arith) e) (term_at xs i) (fields_at v i h)
      ∙ word_back (passed_at v i h)

  number_below : (m i : ℕ) → i < m → i < length xs → number_in xs (message_at xs i) ≡ i
  number_below zero i h hi = absurd (omega arith)
  number_below (suc m) i h hi =
      ap (place xs) (word_below i hi (λ k lt. number_below m k (omega arith) (omega arith))) ∙ place_at v i hi

  pub number_at : (i : ℕ) → i < length xs → number_in xs (message_at xs i) ≡ i
  number_at i h = number_below (suc i) i (omega arith) h

  pub word_at : (i : ℕ) → i < length xs → word_in xs (message_at xs i) ≡ get_or xs i 0
  word_at i h = word_below i h (λ k lt. number_at k (omega arith))

  -- two terms stand for two messages
  pub message_inj : (i j : ℕ) → i < length xs → j < length xs → message_at xs i ≡ message_at xs j → i ≡ j
  message_inj i j hi hj e = sym (number_at i hi) ∙ ap (number_in xs) e ∙ number_at j hj

module _ {n : ℕ} {ts : List ℕ} {count : ℕ} (v : Valid n ts count) where
  pub terms_length : length (terms_of ts count) ≡ count
  terms_length = length-take-le count ts (omega (arith, v.size, v.room))

  pub terms_agree : Agree ts (terms_of ts count) count
  terms_agree k h = sym (get_or-take count ts k 0 h)

  pub terms_list : Terms n (terms_of ts count) (length (terms_of ts count))
  terms_list = rw terms_length (terms_same v.terms (terms_of ts count) terms_agree)

  pub terms_message : (i : ℕ) → i < count → message_at ts i ≡ message_at (terms_of ts count) i
  terms_message = messages_same v.terms (terms_of ts count) terms_agree

  -- two terms of the table stand for two messages
  pub messages_once : (i j : ℕ) → i < count → j < count → message_at ts i ≡ message_at ts j → i ≡ j
  messages_once i j hi hj e =
      message_inj (terms_of ts count) terms_list i j (omega (arith, terms_length)) (omega (arith, terms_length))
      (sym (terms_message i hi) ∙ e ∙ terms_message j hj)
