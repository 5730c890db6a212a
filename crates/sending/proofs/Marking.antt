-- The wire with the numbers of messages marked: what was marked stays, and only those numbers are added.
-- Assumes nothing.
use Rattle.std.specs.Prelude.{◌≡◌, refl, true, ◌⊎◌, ℕ, ◌*◌, ◌<◌, length}
use Rattle.std.proofs.Common.{ap, ◌∙◌, inl, inr, ⊎_elim, arith}
use mathlib.Core.List.{List, [], ◌∷◌, Memᴰ}
use Rattle.std.proofs.Math.Logic.{dite}
use Rattle.std.proofs.Math.Decide.{dec_lt}
use Rattle.marks.specs.Marks.{Words, marked, with_mark}
use Rattle.marks.proofs.Marks.{marked_same, marked_keeps, marked_new, with_idle, with_past, with_length, with_words}
use Rattle.terms.specs.Message.{Message}
use Rattle.terms.specs.Number.{number_in}
use Rattle.sending.specs.Send.{marked_all}

-- every message has a number that has a place in a set of 8 words
abbrev pub Placed : List ℕ → List Message → Type 0
Placed xs ms = (m : Message) → Memᴰ m ms → number_in xs m < 512

-- number i is that of a message
pub record Numbered (xs : List ℕ) (ms : List Message) (i : ℕ) : Type 0 where
  pub message : Message
  pub among : Memᴰ message ms
  pub number : i ≡ number_in xs message

module _ (xs : List ℕ) where
  rest : (m : Message) (ms : List Message) → Placed xs (m ∷ ms) → Placed xs ms
  rest m ms p x i = p x (Memᴰ.tail i)

  here : (m : Message) (ms : List Message) → Placed xs (m ∷ ms) → number_in xs m < 512
  here m ms p = p m (Memᴰ.head refl)

  pub all_words : (ws : List ℕ) (ms : List Message) → Words 8 ws → Placed xs ms → Words 8 (marked_all ws xs ms)
  all_words ws [] w p = w
  all_words ws (m ∷ ms) w p =
      all_words (with_mark ws (number_in xs m)) ms (with_words ws (number_in xs m) w (omega (arith, here m ms p))) (rest m ms p)

  pub all_keeps : (ws : List ℕ) (ms : List Message) → length ws ≡ 8 → Placed xs ms → (i : ℕ) → marked ws i ≡ true → marked (marked_all ws xs ms) i ≡ true
  all_keeps ws [] w p i k = k
  all_keeps ws (m ∷ ms) w p i k =
      all_keeps (with_mark ws (number_in xs m)) ms (with_length ws (number_in xs m) ∙ w) (rest m ms p) i
      (marked_keeps ws (number_in xs m) (omega (arith, here m ms p)) i k)

  pub all_added : (ws : List ℕ) (ms : List Message) → length ws ≡ 8 → Placed xs ms → (m : Message) → Memᴰ m ms → marked (marked_all ws xs ms) (number_in xs m) ≡ true
  all_added ws [] w p x x4 = elim x4 [ ]
  all_added ws (m ∷ ms) w p x (Memᴰ.head e) =
      rw e
      (all_keeps (with_mark ws (number_in xs m)) ms (with_length ws (number_in xs m) ∙ w) (rest m ms p) (number_in xs m)
      (marked_same ws (number_in xs m) (omega (arith, here m ms p))))
  all_added ws (m ∷ ms) w p x (Memᴰ.tail i) =
      all_added (with_mark ws (number_in xs m)) ms (with_length ws (number_in xs m) ∙ w) (rest m ms p) x i

  pub all_new : (ws : List ℕ) (ms : List Message) → length ws ≡ 8 → Placed xs ms → (i : ℕ) → marked (marked_all ws xs ms) i ≡ true
      → (marked ws i ≡ true) ⊎ Numbered xs ms i
  all_new ws [] w p i k = inl k
  all_new ws (m ∷ ms) w p i k =
      ⊎_elim
      (λ k'.
      ⊎_elim (λ e. inr (record { message = m; among = Memᴰ.head refl; number = e })) (λ o. inl o)
      (marked_new ws (number_in xs m) (omega (arith, here m ms p)) i k'))
      (λ s. inr (record { message = s.message; among = Memᴰ.tail s.among; number = s.number }))
      (all_new (with_mark ws (number_in xs m)) ms (with_length ws (number_in xs m) ∙ w) (rest m ms p) i k)

-- a number marked twice
pub with_again : (ws : List ℕ) (i : ℕ) → with_mark (with_mark ws i) i ≡ with_mark ws i
with_again ws i =
    dite (dec_lt i (64 * length ws)) (λ h. with_idle (with_mark ws i) i (marked_same ws i h))
    (λ past. ap (λ (w : List ℕ). with_mark w i) (with_past ws i (omega arith)))
