-- Messages entered one after another: what was there stays, the rules are kept, and each message has a number. A message that
-- is entered again changes nothing.
-- Assumes nothing.
use Rattle.std.specs.Prelude.{◌≡◌, refl, ℕ, ◌≤◌, length}
use Rattle.std.proofs.Common.{sym, ap, ◌∙◌, subst, arith}
use mathlib.Core.List.{List, [], ◌∷◌, Memᴰ}
use Rattle.drafts.specs.Writes.{Writes}
use Rattle.terms.specs.Add.{Extends}
use Rattle.terms.proofs.Add.{extends_refl, extends_trans}
use Rattle.terms.specs.Message.{Message}
use Rattle.terms.specs.Number.{number_in}
use Rattle.terms.specs.Valid.{Terms}
use Rattle.messages.specs.Entered.{entered}
use Rattle.messages.specs.Listed.{add_all}
use Rattle.messages.specs.Meanings.{meanings}
use Rattle.messages.proofs.Meanings.{meanings_entered}
use Rattle.messages.specs.Standing.{Standing}
use Rattle.messages.proofs.Standing.{entered_is, Longer, longer_refl, longer_trans, longer_entered, standing_longer, standing_number, standing_here, entered_present}
use Rattle.sending.specs.Send.{entered_all, AllWrites}

-- ---- what was there stays

pub longer_all : (xs : List ℕ) (ms : List Message) → Longer xs (entered_all xs ms)
longer_all xs [] = longer_refl xs
longer_all xs (m ∷ ms) = longer_trans (longer_entered xs m) (longer_all (entered xs m) ms)

-- a message keeps its number
pub number_longer : {n : ℕ} {xs ys : List ℕ} {m : Message} {i : ℕ} → Terms n xs (length xs) → Terms n ys (length ys) → Longer xs ys → Standing xs m i
    → number_in ys m ≡ number_in xs m
number_longer v v' x s = standing_number v' (standing_longer v x s) ∙ sym (standing_number v s)

-- ---- each message stands

-- the terms ys are those of xs and more, among them the messages ms
pub record AllEntered (n : ℕ) (xs ys : List ℕ) (ms : List Message) : Type 0 where
  pub extends : Extends n xs (length xs) ys (length ys)
  pub stands : (m : Message) → Memᴰ m ms → Standing ys m (number_in ys m)
  pub added : meanings ys (length ys) ≡ add_all ms (meanings xs (length xs))

module _ {n : ℕ} (small : n ≤ 65536) where
  pub all_entered : (ms : List Message) → AllWrites n ms → (xs : List ℕ) → Terms n xs (length xs) → length (entered_all xs ms) ≤ 512
      → AllEntered n xs (entered_all xs ms) ms
  all_entered [] w xs v room = record { extends = extends_refl v; stands = λ m i. elim i [ ]; added = refl }
  all_entered (m ∷ ms) w xs v room =
      let ys = entered xs m in
      let more = longer_all ys ms in
      let E = entered_is small m w.0 xs v (omega (arith, more.more)) in
      let A = all_entered ms w.1 ys E.extends.terms room in
      record {
        extends = extends_trans E.extends A.extends;
        stands = either m ms (entered_all ys ms) (standing_here A.extends.terms (standing_longer E.extends.terms more E.stands)) A.stands;
        added = A.added ∙ ap (add_all ms) (meanings_entered small m w.0 xs v (omega (arith, more.more)));
      }
    where
      either : (m : Message) (ms : List Message) (ys : List ℕ) → Standing ys m (number_in ys m)
          → ((x : Message) → Memᴰ x ms → Standing ys x (number_in ys x)) → (x : Message) → Memᴰ x (m ∷ ms) → Standing ys x (number_in ys x)
      either m ms ys s f x (Memᴰ.head e) = subst (λ (z : Message). Standing ys z (number_in ys z)) (sym e) s
      either m ms ys s f x (Memᴰ.tail i) = f x i

  -- a message that was entered, entered again
  pub entered_again : (m : Message) → Writes n m → (xs : List ℕ) → Terms n xs (length xs) → length (entered xs m) ≤ 512 → entered (entered xs m) m ≡ entered xs m
  entered_again m w xs v room =
      let E = entered_is small m w xs v (omega arith) in
      entered_present E.extends.terms m E.stands
