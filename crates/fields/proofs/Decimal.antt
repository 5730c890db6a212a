-- Laws of decimal digits: one digit, and one more; they read as the number again, and there is no leading zero.
-- Assumes nothing.
use Rattle.std.specs.Prelude.{Bool, true, false, List, [], ◌∷◌, ◌++◌, ◌≡◌, refl, ℕ, zero, suc, ◌+◌, ◌-◌, ◌*◌, ◌/◌, ◌%◌, ◌^◌, ◌≤◌, ◌<◌, ltb, length, get_or}
use Rattle.std.proofs.Common.{ap, ◌∙◌, pow-suc, arith, lt-ltb, le-ltb, ltb-true, ltb-false, length-append}
use Rattle.std.proofs.Math.ListN.{get_or-append}
use Rattle.fields.specs.Fields.{decimal_by, decimal}

-- ---- one digit, and one more

module _ (most n : ℕ) where
  last_digit : n < 10 → decimal_by (suc most) n ≡ (48 + n) ∷ []
  unfolding decimal_by
  last_digit h = rw (lt-ltb n 10 h)

  more_digits : 10 ≤ n → decimal_by (suc most) n ≡ decimal_by most (n / 10) ++ ((48 + n % 10) ∷ [])
  unfolding decimal_by
  more_digits h = rw (le-ltb n 10 h)

-- What holds of one digit, and of one more behind those of which it holds, holds of all digits.
module _ (P : ℕ → List ℕ → Type 0)
    (one : (n : ℕ) → n < 10 → P n ((48 + n) ∷ []))
    (more : (n : ℕ) (ds : List ℕ) → 10 ≤ n → P (n / 10) ds → P n (ds ++ ((48 + n % 10) ∷ []))) where
  digits_by : (most n : ℕ) → n < most → P n (decimal_by most n)
  digits_by zero n h = absurd (omega (arith, h))
  digits_by (suc most) n h = on (ltb n 10) refl (digits_by most (n / 10))
    where
      on : (t : Bool) → ltb n 10 ≡ t → (n / 10 < most → P (n / 10) (decimal_by most (n / 10))) → P n (decimal_by (suc most) n)
      on true e next = rw (last_digit most n (ltb-true n 10 e)) (one n (ltb-true n 10 e))
      on false e next =
          let ten : 10 ≤ n = ltb-false n 10 e in
          rw (more_digits most n ten) (more n (decimal_by most (n / 10)) ten (next (omega (arith, ten, h))))

  by_digits : (n : ℕ) → P n (decimal n)
  unfolding decimal
  by_digits n = digits_by (suc n) n (omega arith)

-- ---- what the crate's functions and clients use

-- a number below ten is its digit
pub decimal_one : (n : ℕ) → n < 10 → decimal n ≡ (48 + n) ∷ []
unfolding decimal
decimal_one n h = last_digit n n h

-- another has one digit more than its tenth
pub decimal_more : (n : ℕ) → 10 ≤ n → decimal n ≡ decimal (n / 10) ++ ((48 + n % 10) ∷ [])
unfolding decimal
decimal_more n h = more_digits n n h ∙ ap (λ (ds : List ℕ). ds ++ ((48 + n % 10) ∷ [])) (by_digits (λ m ds. (most : ℕ) → m < most → decimal_by most m ≡ ds) one more (n / 10) n (omega (arith, h)))
  where
    one : (m : ℕ) → m < 10 → (most : ℕ) → m < most → decimal_by most m ≡ (48 + m) ∷ []
    one m l zero h = absurd (omega (arith, h))
    one m l (suc most) h = last_digit most m l

    more : (m : ℕ) (ds : List ℕ) → 10 ≤ m → ((most : ℕ) → m / 10 < most → decimal_by most (m / 10) ≡ ds) → (most : ℕ) → m < most → decimal_by most m ≡ ds ++ ((48 + m % 10) ∷ [])
    more m ds l next zero h = absurd (omega (arith, h))
    more m ds l next (suc most) h = more_digits most m l ∙ ap (λ (xs : List ℕ). xs ++ ((48 + m % 10) ∷ [])) (next most (omega (arith, l, h)))

pub length_one : (n : ℕ) → n < 10 → length (decimal n) ≡ 1
length_one n h = ap length (decimal_one n h)

pub length_more : (n : ℕ) → 10 ≤ n → length (decimal n) ≡ length (decimal (n / 10)) + 1
length_more n h = ap length (decimal_more n h) ∙ length-append (decimal (n / 10)) ((48 + n % 10) ∷ [])

-- a number below 10 ^ (k + 1) has at most k + 1 digits
pub decimal_short : (n k : ℕ) → n < 10 ^ suc k → length (decimal n) ≤ suc k
decimal_short n = by_digits (λ m ds. (k : ℕ) → m < 10 ^ suc k → length ds ≤ suc k) (λ m l k h. omega arith) more n
  where
    more : (m : ℕ) (ds : List ℕ) → 10 ≤ m → ((k : ℕ) → m / 10 < 10 ^ suc k → length ds ≤ suc k) → (k : ℕ) → m < 10 ^ suc k → length (ds ++ ((48 + m % 10) ∷ [])) ≤ suc k
    more m ds l next zero h = absurd (omega (arith, l, h))
    more m ds l next (suc k) h = rw (length-append ds ((48 + m % 10) ∷ [])) (omega (arith, next k (omega (arith, h, pow-suc 10 (suc k)))))

-- what digits read as, after those that read as n
abbrev pub value_from : (n : ℕ) → List ℕ → ℕ
value_from n [] = n
value_from n (d ∷ ds) = value_from (n * 10 + (d - 48)) ds

value_more : (n : ℕ) (ds : List ℕ) (d : ℕ) → value_from n (ds ++ (d ∷ [])) ≡ value_from n ds * 10 + (d - 48)
value_more n [] d = refl
value_more n (x ∷ ds) d = value_more (n * 10 + (x - 48)) ds d

-- reading the digits gives the number again, so no two numbers have the same digits
pub decimal_value : (n : ℕ) → value_from 0 (decimal n) ≡ n
decimal_value = by_digits (λ n ds. value_from 0 ds ≡ n) (λ n h. omega arith) (λ n ds h e. rw (value_more 0 ds (48 + n % 10), e) (omega arith))

-- the first digit of a number above 0 is above `0`
pub decimal_first : (n : ℕ) → 0 < n → 48 < get_or (decimal n) 0 0
decimal_first n = (by_digits (λ n ds. (0 < length ds) × (0 < n → 48 < get_or ds 0 0)) (λ n h. (omega arith, λ p. omega arith)) more n).1
  where
    more : (n : ℕ) (ds : List ℕ) → 10 ≤ n → (0 < length ds) × (0 < n / 10 → 48 < get_or ds 0 0) → (0 < length (ds ++ ((48 + n % 10) ∷ []))) × (0 < n → 48 < get_or (ds ++ ((48 + n % 10) ∷ [])) 0 0)
    more n ds h next = (
      rw (length-append ds ((48 + n % 10) ∷ [])) (omega arith),
      λ p. rw (get_or-append ds ((48 + n % 10) ∷ []) 0 0 next.0) (next.1 (omega (arith, h))),
    )
