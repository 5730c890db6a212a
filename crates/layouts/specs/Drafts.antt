-- The messages that steps send (document 01, "Steps"; 02, change 6), as drafts: a node for each term, in the order in which adding meets
-- them, "each after its parts, left before right". The key of an encryption stands in its node.
-- Assumes nothing.
use Rattle.std.specs.Prelude.{List, [], ◌∷◌, ℕ, zero, suc}
use Rattle.drafts.specs.declared.DraftKey.TheVariants.{LongTerm, Session}
use Rattle.drafts.specs.declared.Node.{Node}
use Rattle.drafts.specs.declared.Node.TheVariants.{Principal, Time, Nonce, Key, Pair, Encrypted, Stored}

-- the first m places of a draft; what stands in the places left is not looked at
abbrev pub places : ℕ → List Node → List Node
places zero xs = []
places (suc m) [] = Time 0 ∷ places m []
places (suc m) (x ∷ xs) = x ∷ places m xs

-- step 1 "sends [a, b, nonce r]"
abbrev pub REQUEST_ROOT : ℕ
REQUEST_ROOT = 4

unfoldable pub request_draft : (a b n : ℕ) → List Node
request_draft a b n = places 16 (Principal a ∷ Principal b ∷ Nonce n ∷ Pair 1 2 ∷ Pair 0 3 ∷ [])

-- step 3 "sends {K, b, Ts, N} under a's key, then {K, a, Ts} under b's key"
abbrev pub REPLY_ROOT : ℕ
REPLY_ROOT = 7

abbrev pub TICKET_ROOT : ℕ
TICKET_ROOT = 11

-- H5: "sends one pair of the panel's part and the ticket"
abbrev pub BESIDE_ROOT : ℕ
BESIDE_ROOT = 12

unfoldable pub issue_draft : (k a b ts n : ℕ) → List Node
issue_draft k a b ts n = places 16 (
    Key (Session k)
    ∷ Principal b
    ∷ Time ts
    ∷ Nonce n
    ∷ Pair 2 3
    ∷ Pair 1 4
    ∷ Pair 0 5
    ∷ Encrypted 6 (LongTerm a)
    ∷ Principal a
    ∷ Pair 8 2
    ∷ Pair 0 9
    ∷ Encrypted 10 (LongTerm b)
    ∷ Pair REPLY_ROOT TICKET_ROOT
    ∷ [])

-- H4: "the panel's part is {K, b, Ts, N, ticket} under a's key"
abbrev pub INSIDE_ROOT : ℕ
INSIDE_ROOT = 12

unfoldable pub inside_issue_draft : (k a b ts n : ℕ) → List Node
inside_issue_draft k a b ts n = places 16 (
    Key (Session k)
    ∷ Principal b
    ∷ Time ts
    ∷ Nonce n
    ∷ Principal a
    ∷ Pair 4 2
    ∷ Pair 0 5
    ∷ Encrypted 6 (LongTerm b)
    ∷ Pair 3 7
    ∷ Pair 2 8
    ∷ Pair 1 9
    ∷ Pair 0 10
    ∷ Encrypted 11 (LongTerm a)
    ∷ [])

-- step 4 "sends {a, Ta}K"
abbrev pub AUTHENTICATOR_ROOT : ℕ
AUTHENTICATOR_ROOT = 3

-- H5 and H4: "sends the pair of X and {a, Ta}K", X being term x
abbrev pub PRESENTED_ROOT : ℕ
PRESENTED_ROOT = 5

unfoldable pub presented_draft : (a ta k x : ℕ) → List Node
presented_draft a ta k x = places 16 (Principal a ∷ Time ta ∷ Pair 0 1 ∷ Encrypted 2 (Session k) ∷ Stored x ∷ Pair 4 AUTHENTICATOR_ROOT ∷ [])

-- step 5 "sends {Ta}K"
abbrev pub CONFIRMATION_ROOT : ℕ
CONFIRMATION_ROOT = 1

unfoldable pub confirmation_draft : (ta k : ℕ) → List Node
confirmation_draft ta k = places 16 (Time ta ∷ Encrypted 0 (Session k) ∷ [])

-- step 9 "leaks a server run's key"
abbrev pub KEY_ROOT : ℕ
KEY_ROOT = 0

unfoldable pub key_draft : ℕ → List Node
key_draft k = places 16 (Key (Session k) ∷ [])
