-- Where entering messages takes more than 512 terms, so does adding them to the messages that the terms stand for. The laws
-- on `entered` are for lists that fit in a word's fields, so this goes by the part at which the list outgrows the table.
-- Assumes nothing.
use Rattle.std.specs.Prelude.{◌≡◌, ℕ, suc, ◌<◌, ◌≤◌, Option, Some, None}
use Rattle.std.proofs.Common.{sym, ap, ◌∙◌, length-append}
use Rattle.std.proofs.Math.Path.{subst}
use mathlib.Core.List.{List, [], ◌∷◌}
use Rattle.std.proofs.Math.Logic.{dite, ite}
use Rattle.std.proofs.Math.Decide.{dec_le}
use native.Mathlib.Omega.{arith}
use Rattle.std.proofs.Math.ListN.{length}
use Rattle.drafts.specs.Writes.{Writes}
use Rattle.terms.specs.Message.{Message, principal, time, nonce, key, pair, encrypted}
use Rattle.terms.specs.Number.{word_in}
use Rattle.terms.specs.Table.{find_of}
use Rattle.terms.specs.Valid.{Terms}
use Rattle.messages.specs.Entered.{with_by, with_word, with_term, entered}
use Rattle.messages.specs.Listed.{same, insert, add, add_all}
use Rattle.messages.specs.Meanings.{meanings}
use Rattle.messages.proofs.Meanings.{meanings_length, meanings_entered}
use Rattle.messages.proofs.Standing.{entered_is}
use Rattle.sending.specs.Send.{entered_all, AllWrites}

-- ---- adding makes no list shorter

insert_rest : {m x : Message} (d : Dec (m ≡ x)) (l : List Message) → length l ≤ length (insert m l) → length l ≤ length (ite d l (insert m l))
insert_rest (yes e) l h = omega arith
insert_rest (no ne) l h = h

pub insert_grows : (m : Message) (l : List Message) → length l ≤ length (insert m l)
insert_grows m [] = omega arith
insert_grows m (x ∷ l) = omega (arith, insert_rest (same m x) l (insert_grows m l))

pub add_grows : (m : Message) (l : List Message) → length l ≤ length (add m l)
add_grows (principal p) l = insert_grows (principal p) l
add_grows (time t) l = insert_grows (time t) l
add_grows (nonce i) l = insert_grows (nonce i) l
add_grows (key k) l = insert_grows (key k) l
add_grows (pair a b) l = omega (arith, add_grows a l, add_grows b (add a l), insert_grows (pair a b) (add b (add a l)))
add_grows (encrypted m k) l =
    omega (arith, add_grows m l, insert_grows (key k) (add m l), insert_grows (encrypted m k) (insert (key k) (add m l)))

pub add_all_grows : (ms l : List Message) → length l ≤ length (add_all ms l)
add_all_grows [] l = omega arith
add_all_grows (m ∷ ms) l = omega (arith, add_grows m l, add_all_grows ms (add m l))

-- ---- a word makes a list longer by one at most

one_by : (xs : List ℕ) (w : ℕ) (f : Option ℕ) → length (with_by xs w f) ≤ suc (length xs)
one_by xs w (Some i) = omega arith
one_by xs w None = omega (arith, length-append xs (w ∷ []))

one_more : (xs : List ℕ) (m : Message) → length (with_term xs m) ≤ suc (length xs)
unfolding with_word
one_more xs m = one_by xs (word_in xs m) (find_of xs (length xs) (word_in xs m))

-- ---- more than the table has places for

module _ {n : ℕ} (small : n ≤ 65536) where
  -- as many messages as terms, where the list is not too long
  as_many : (m : Message) → Writes n m → (xs : List ℕ) → Terms n xs (length xs) → length (entered xs m) ≤ 65536
      → length (add m (meanings xs (length xs))) ≡ length (entered xs m)
  as_many m w xs v room = ap length (sym (meanings_entered small m w xs v room)) ∙ meanings_length (entered xs m) (length (entered xs m))

  -- a message of which all terms but the last few fit
  outgrown : (m : Message) → Writes n m → (xs : List ℕ) → Terms n xs (length xs) → length (entered xs m) ≤ 514 → 512 < length (entered xs m)
      → 512 < length (add m (meanings xs (length xs)))
  outgrown m w xs v room h = omega (arith, as_many m w xs v (omega arith))

  pub too_long : (m : Message) → Writes n m → (xs : List ℕ) → Terms n xs (length xs) → length xs ≤ 512 → 512 < length (entered xs m)
      → 512 < length (add m (meanings xs (length xs)))
  unfolding entered
  too_long (principal p) w xs v room h = outgrown (principal p) w xs v (omega (arith, one_more xs (principal p))) h
  too_long (time t) w xs v room h = outgrown (time t) w xs v (omega (arith, one_more xs (time t))) h
  too_long (nonce i) w xs v room h = outgrown (nonce i) w xs v (omega (arith, one_more xs (nonce i))) h
  too_long (key k) w xs v room h = outgrown (key k) w xs v (omega (arith, one_more xs (key k))) h
  too_long (pair a b) w xs v room h =
      let old = meanings xs (length xs) in
      let ys = entered xs a in
      let last = insert_grows (pair a b) (add b (add a old)) in
      dite (dec_le (length ys) 512)
      (λ le.
      dite (dec_le (length (entered ys b)) 512) (λ le'. outgrown (pair a b) w xs v (omega (arith, one_more (entered ys b) (pair a b))) h)
      (λ gt.
      let E = entered_is small a w.0 xs v (omega arith) in
      let e : meanings ys (length ys) ≡ add a old = meanings_entered small a w.0 xs v (omega arith) in
      let long = subst (λ (l : List Message). 512 < length (add b l)) e (too_long b w.1 ys E.extends.terms le (omega arith)) in
      omega (arith, last)))
      (λ gt. omega (arith, too_long a w.0 xs v room (omega arith), add_grows b (add a old), last))
  too_long (encrypted m k) w xs v room h =
      let old = meanings xs (length xs) in
      let ys = entered xs m in
      dite (dec_le (length ys) 512)
      (λ le. outgrown (encrypted m k) w xs v (omega (arith, one_more ys (key k), one_more (with_term ys (key k)) (encrypted m k))) h)
      (λ gt.
      omega (
        arith,
        too_long m w.0 xs v room (omega arith),
        insert_grows (key k) (add m old),
        insert_grows (encrypted m k) (insert (key k) (add m old)),
      ))

  -- messages one after another
  pub all_too_long : (ms : List Message) → AllWrites n ms → (xs : List ℕ) → Terms n xs (length xs) → length xs ≤ 512 → 512 < length (entered_all xs ms)
      → 512 < length (add_all ms (meanings xs (length xs)))
  all_too_long [] w xs v room h = absurd (omega arith)
  all_too_long (m ∷ ms) w xs v room h =
      let ys = entered xs m in
      dite (dec_le (length ys) 512)
      (λ le.
      let E = entered_is small m w.0 xs v (omega arith) in
      subst (λ (l : List Message). 512 < length (add_all ms l)) (meanings_entered small m w.0 xs v (omega arith))
      (all_too_long ms w.1 ys E.extends.terms le h))
      (λ gt. omega (arith, too_long m w.0 xs v room (omega arith), add_all_grows ms (add m (meanings xs (length xs)))))
