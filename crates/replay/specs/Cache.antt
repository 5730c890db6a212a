-- The replay cache of document 01 ("Steps"): "the caller's own list of 16 entries with a count, shared by all parties".
-- A list of places and a count stand for the entries in the first `count` places. What a call does is said of that list of
-- entries (one is appended, or the list is filtered), and `written` says what becomes of the places. The same definitions
-- serve sixteen places by value and a lent list: both are a list of entries here.
use Rattle.std.specs.Prelude.{ℕ, ◌+◌, ◌-◌, Result, Ok, Err, Bool, false, not, ◌&&◌, ◌||◌, cond, List, [], ◌∷◌, ◌++◌, eqb, leb, length, take, drop, replicate}
use Rattle.refusals.specs.declared.Refusal.{Refusal}
use Rattle.refusals.specs.Numbers.{number}
use Rattle.replay.specs.declared.entry.Entry.{Entry}
use Rattle.replay.specs.declared.entry.Purge.{Purge}

-- ---- entries

-- "freed places become 0"
abbrev pub empty : Entry
empty = record { b = 0; k = 0; ta = 0 }

-- "entries hold b, K and Ta"
abbrev pub same : Entry → Entry → Bool
same x y = eqb x.b y.b && (eqb x.k y.k && eqb x.ta y.ta)

-- "b, K, Ta is in the cache"
unfoldable pub present : List Entry → Entry → Bool
present [] e = false
present (x ∷ xs) e = same x e || present xs e

-- "forgets b's entries whose Ta + La is at or below the clock"; all others stay
unfoldable pub stays : Purge → Entry → Bool
stays p x = not (eqb x.b p.b && leb (x.ta + p.la) p.clock)

-- the entries that pass a test: "the rest keep their order"
abbrev pub filter : (Entry → Bool) → List Entry → List Entry
filter q [] = []
filter q (x ∷ xs) = cond (q x) (x ∷ filter q xs) (filter q xs)

unfoldable pub kept : Purge → List Entry → List Entry
kept p xs = filter (stays p) xs

-- ---- places

-- the entries that a list of places and a count stand for: "places at or past a table's count are never read"
abbrev pub entries : List Entry → ℕ → List Entry
entries list count = take count list

-- `xs`, and 0 in what is left of `count` places: "the kept ones move to the front and the freed places become 0"
abbrev pub padded : ℕ → List Entry → List Entry
padded count xs = xs ++ replicate (count - length xs) empty

-- The list when its entries, `count` before, become `xs`: "places at or past a table's count .. keep their values until they
-- are filled".
unfoldable pub written : List Entry → ℕ → List Entry → List Entry
written list count xs = padded count xs ++ drop (length (padded count xs)) list

-- a cache by value: the places, and how many entries there are
pub record Swept : Type 0 where
  pub places : List Entry
  pub count : ℕ

abbrev pub swept : List Entry → ℕ → Swept
swept places count = record { places = places; count = count }

-- the places and their count, where the entries become `xs`
abbrev pub becomes : List Entry → ℕ → List Entry → Swept
becomes list count xs = swept (written list count xs) (length xs)

-- ---- the two calls, and steps 5 and 8

-- What a call comes to: "a refusal is its number alone"; an accepted call has the count of entries after it. Either has the list after it.
pub data CacheOutcome : Type 0 where
  refused : (number : ℕ) (list : List Entry) → CacheOutcome
  accepted : (count : ℕ) (list : List Entry) → CacheOutcome

-- a call after which the places and their count are these
abbrev pub done : Swept → CacheOutcome
done s = accepted s.count s.places

-- what an answer by value comes to, of places that a refused call leaves as they were
abbrev pub cache_outcome : Result Swept Refusal → List Entry → CacheOutcome
cache_outcome (Ok s) list = done s
cache_outcome (Err r) list = refused (number r) list

-- what an answer comes to, beside the list that the call leaves
abbrev pub list_outcome : Result ℕ Refusal → List Entry → CacheOutcome
list_outcome (Ok count) list = accepted count list
list_outcome (Err r) list = refused (number r) list

-- the number of its refusal, and 0 where it is accepted
abbrev pub number_of : CacheOutcome → ℕ
number_of (refused number list) = number
number_of (accepted count list) = 0

-- "10 for a list or count that does not fit": other than sixteen places, or a count above sixteen
unfoldable pub fits : List Entry → ℕ → Bool
fits list count = eqb (length list) 16 && leb count 16

-- 18: "b, K, Ta is in the cache", 19: "the cache holds 16 entries"; 0 for neither
abbrev pub cache_refusal : List Entry → ℕ → Entry → ℕ
cache_refusal list count e = cond (present (entries list count) e) 18 (cond (eqb count 16) 19 0)

-- step 5 "remembers b, K, Ta": behind the other entries
abbrev pub appending : List Entry → ℕ → Entry → Swept
appending list count e = becomes list count (entries list count ++ (e ∷ []))

-- step 8
abbrev pub sweeping : List Entry → ℕ → Purge → Swept
sweeping list count p = becomes list count (kept p (entries list count))

-- Step 8 on its way, `i` entries read. Document 02, change 4: "after each entry read the list is the kept ones of those read, in
-- their order, then places of 0, then those not yet read, unchanged".
unfoldable pub after_read : Purge → List Entry → ℕ → Swept
after_read p list i = let xs = kept p (entries list i) in swept (padded i xs ++ drop i list) (length xs)

-- "both give 10 for a list or count that does not fit, and remember then 18 or 19 as in step 5"
unfoldable pub remembered : List Entry → ℕ → Entry → CacheOutcome
remembered list count e =
    let number = cache_refusal list count e in
    cond (not (fits list count)) (refused 10 list)
    (cond (not (eqb number 0)) (refused number list) (done (appending list count e)))

unfoldable pub forgotten : List Entry → ℕ → Purge → CacheOutcome
forgotten list count p = cond (not (fits list count)) (refused 10 list) (done (sweeping list count p))
