-- What follows from the definitions of the same name in specs/.
-- Assumes nothing.
use Prim.Native.Nat.{ℕ, zero, suc, ◌<◌, ◌≤◌}
use Rattle.std.specs.Prelude.{List, [], ◌∷◌, ◌++◌, ◌≡◌, Option, Some, None}
use Rattle.std.proofs.Math.Logic.{dite}
use Rattle.std.proofs.Math.Option.{some}
use Rattle.std.proofs.Math.Path.{refl, sym, ap}
use Rattle.std.proofs.Common.{◌∙◌, subst, arith}
use Rattle.std.proofs.Math.Decide.{ℕ_discrete}
use Rattle.std.proofs.Math.Numerals.{add-one}
use Rattle.std.proofs.Math.ListN.{length, length-append, get_or-append}
use Rattle.drafts.specs.Writes.{Writes}
use Rattle.terms.specs.Meaning.{message_at}
use Rattle.terms.proofs.Meaning.{messages_same}
use Rattle.terms.specs.Message.{Message, principal, time, nonce, key, pair, encrypted}
use Rattle.terms.specs.Number.{word_in}
use Rattle.terms.proofs.Number.{word_at}
use Rattle.terms.specs.Table.{find_of}
use Rattle.terms.proofs.TableLaws.{found_at}
use Rattle.terms.specs.Valid.{Terms}
use Rattle.messages.specs.Entered.{with_by, with_word, with_term, entered}
use Rattle.messages.specs.Listed.{term_at, insert, add}
use Rattle.messages.proofs.Listed.{insert_present, insert_new}
use Rattle.messages.proofs.Standing.{EnteredIs, entered_is, key_entered, pair_entered, encrypted_entered, longer_with, longer_entered, standing_longer}
use Rattle.messages.specs.Meanings.{meanings}

-- ---- the message at a place

pub meanings_length : (ts : List ℕ) (count : ℕ) → length (meanings ts count) ≡ count
unfolding meanings
meanings_length ts zero = refl
meanings_length ts (suc k) = length-append (meanings ts k) (message_at ts k ∷ []) ∙ add-one (length (meanings ts k)) ∙ ap suc (meanings_length ts k)

append_front : (l : List Message) (x : Message) (i : ℕ) {y : Message} → term_at l i ≡ some y → term_at (l ++ (x ∷ [])) i ≡ some y
append_front [] x i e = cc
append_front (z ∷ l) x zero e = e
append_front (z ∷ l) x (suc i) e = append_front l x i e

append_last : (l : List Message) (x : Message) → term_at (l ++ (x ∷ [])) (length l) ≡ some x
append_last [] x = refl
append_last (z ∷ l) x = append_last l x

below_length : (l : List Message) (i : ℕ) {y : Message} → term_at l i ≡ some y → i < length l
below_length [] i e = let z : ◌≡◌ {A = ℕ} 0 1 = cc in absurd (omega arith)
below_length (z ∷ l) zero e = omega arith
below_length (z ∷ l) (suc i) e = let h : i < length l = below_length l i e in omega arith

pub meanings_at : (ts : List ℕ) (count i : ℕ) → i < count → term_at (meanings ts count) i ≡ some (message_at ts i)
unfolding meanings
meanings_at ts zero i h = absurd (omega arith)
meanings_at ts (suc k) i h =
    dite (ℕ_discrete i k)
    (λ e. rw e (ap (term_at (meanings ts k ++ (message_at ts k ∷ []))) (sym (meanings_length ts k)) ∙ append_last (meanings ts k) (message_at ts k)))
    (λ ne. append_front (meanings ts k) (message_at ts k) i (meanings_at ts k i (omega arith)))

pub at_meanings : (ts : List ℕ) (count i : ℕ) (m : Message) → term_at (meanings ts count) i ≡ some m → (i < count) × (message_at ts i ≡ m)
at_meanings ts count i m e =
    let h : i < count = omega (arith, below_length (meanings ts count) i e, meanings_length ts count) in
    let q = meanings_at ts count i h in
    (h, (cc))

pub meanings_same : (ts ts' : List ℕ) (count : ℕ) → ((i : ℕ) → i < count → message_at ts i ≡ message_at ts' i) → meanings ts count ≡ meanings ts' count
unfolding meanings
meanings_same ts ts' zero e = refl
meanings_same ts ts' (suc k) e = rw (meanings_same ts ts' k (λ i h. e i (omega arith)), e k (omega arith))

-- ---- one term more

module _ {n : ℕ} (xs : List ℕ) (v : Terms n xs (length xs)) (m : Message) where
  absent : find_of xs (length xs) (word_in xs m) ≡ None → (i : ℕ) → i < length xs → ¬ (message_at xs i ≡ m)
  absent f i h e = found_at xs (length xs) (word_in xs m) f i h (sym (word_at xs v i h) ∙ ap (word_in xs) e)

  by_found : (f : Option ℕ) → find_of xs (length xs) (word_in xs m) ≡ f → EnteredIs n xs (with_by xs (word_in xs m) f) m
      → meanings (with_by xs (word_in xs m) f) (length (with_by xs (word_in xs m) f)) ≡ insert m (meanings xs (length xs))
  unfolding meanings
  by_found (Some i) f E =
      sym
      (insert_present m (meanings xs (length xs)) E.number
      (meanings_at xs (length xs) E.number E.stands.below ∙ ap some E.stands.means))
  by_found None f E = rw long (last ∙ sym (insert_new m (meanings xs (length xs)) (λ i e. let q = at_meanings xs (length xs) i m e in absent f i q.0 q.1)))
    where
      long : length (xs ++ (word_in xs m ∷ [])) ≡ suc (length xs)
      long = length-append xs (word_in xs m ∷ []) ∙ add-one (length xs)

      kept : (i : ℕ) → i < length xs → message_at xs i ≡ message_at (xs ++ (word_in xs m ∷ [])) i
      kept = messages_same v (xs ++ (word_in xs m ∷ [])) (λ k h. sym (get_or-append xs (word_in xs m ∷ []) 0 k h))

      at_end : message_at (xs ++ (word_in xs m ∷ [])) (length xs) ≡ m
      at_end =
          dite (ℕ_discrete E.number (length xs)) (λ e. subst (λ (i : ℕ). message_at (xs ++ (word_in xs m ∷ [])) i ≡ m) e E.stands.means)
          (λ ne.
          let h : E.number < length xs = omega (arith, E.stands.below, long) in
          absurd (absent f E.number h (kept E.number h ∙ E.stands.means)))

      last : meanings (xs ++ (word_in xs m ∷ [])) (suc (length xs)) ≡ meanings xs (length xs) ++ (m ∷ [])
      last = rw (sym (meanings_same xs (xs ++ (word_in xs m ∷ [])) (length xs) kept), at_end)

  pub meanings_with : EnteredIs n xs (with_term xs m) m → meanings (with_term xs m) (length (with_term xs m)) ≡ insert m (meanings xs (length xs))
  unfolding with_word
  meanings_with E = by_found (find_of xs (length xs) (word_in xs m)) refl E

-- ---- the whole message

module _ {n : ℕ} (small : n ≤ 65536) where
  pub meanings_entered : (m : Message) → Writes n m → (xs : List ℕ) → Terms n xs (length xs) → length (entered xs m) ≤ 65536
      → meanings (entered xs m) (length (entered xs m)) ≡ add m (meanings xs (length xs))
  unfolding entered
  meanings_entered (principal p) w xs v room = meanings_with xs v (principal p) (entered_is small (principal p) w xs v room)
  meanings_entered (time t) w xs v room = meanings_with xs v (time t) (entered_is small (time t) w xs v room)
  meanings_entered (nonce i) w xs v room = meanings_with xs v (nonce i) (entered_is small (nonce i) w xs v room)
  meanings_entered (key k) w xs v room = meanings_with xs v (key k) (entered_is small (key k) w xs v room)
  meanings_entered (pair a b) w xs v room =
      let ys = entered xs a in
      let zs = entered ys b in
      let grown = (longer_with zs (word_in zs (pair a b))).more in
      let more = (longer_entered ys b).more in
      let p = entered_is small a w.0 xs v (omega arith) in
      let q = entered_is small b w.1 ys p.extends.terms (omega arith) in
      let both = pair_entered small zs q.extends.terms (omega arith) (standing_longer p.extends.terms (longer_entered ys b) p.stands) q.stands in
      meanings_with zs q.extends.terms (pair a b) both
      ∙ ap (insert (pair a b)) (meanings_entered b w.1 ys p.extends.terms (omega arith) ∙ ap (add b) (meanings_entered a w.0 xs v (omega arith)))
  meanings_entered (encrypted m k) w xs v room =
      let ys = entered xs m in
      let zs = with_term ys (key k) in
      let grown = (longer_with zs (word_in zs (encrypted m k))).more in
      let more = longer_with ys (word_in ys (key k)) in
      let p = entered_is small m w.0 xs v (omega (arith, more.more)) in
      let q = key_entered small ys p.extends.terms k w.1 in
      let both = encrypted_entered small zs q.extends.terms (omega arith) (standing_longer p.extends.terms more p.stands) q.stands in
      meanings_with zs q.extends.terms (encrypted m k) both
      ∙ ap (insert (encrypted m k)) (meanings_with ys p.extends.terms (key k) q ∙ ap (insert (key k)) (meanings_entered m w.0 xs v (omega (arith, more.more))))
