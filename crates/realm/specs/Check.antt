-- The check of refusal 10 as a test that computes. `Together` says what holds where it answers true.
-- Assumes nothing.
use Rattle.std.specs.Prelude.{ℕ, ◌^◌, ◌<◌, Bool, ◌&&◌, List, ltb, leb, eqb, length, get_or}
use Rattle.marks.specs.Within.{within}
use Rattle.terms.specs.Valid.{holds}
use Rattle.terms.specs.AllOf.{each}
use Rattle.runs.specs.Lent.{rows_hold}
use Rattle.replay.specs.declared.entry.Entry.{Entry}
use Rattle.replay.specs.Cache.{empty}
use Rattle.realm.specs.declared.header.Realm.{Realm}
use Rattle.realm.specs.Opening.{realm_fits}
use Rattle.realm.specs.Tables.{Tables}

-- "Times are 32 bits without sign"
pub record TimesFit (h : Realm) : Type 0 where
  pub ls : h.ls < 2 ^ 32
  pub la : h.la < 2 ^ 32
  pub clock : h.clock < 2 ^ 32

-- words of 64 bits
abbrev pub WordsFit : List ℕ → Type 0
WordsFit ws = (i : ℕ) → get_or ws i 0 < 2 ^ 64

-- "a table lent with other than its full number of places", "a wire mark past the last term"
unfoldable pub wire_holds : List ℕ → (count : ℕ) → Bool
wire_holds ws count = eqb (length ws) 8 && within ws count

-- "an entry with b at n or above or K above 95"
abbrev pub entry_fits : ℕ → Entry → Bool
entry_fits n e = ltb e.b n && leb e.k 95

-- "a count over its limit"
unfoldable pub entries_hold : (n : ℕ) → List Entry → (count : ℕ) → Bool
entries_hold n cache count = leb count 16 && each (λ i. entry_fits n (get_or cache i empty)) count

-- "tables handed in do not hold together" where this is false
unfoldable pub together : Tables → Bool
together t =
    let h = t.realm in
    realm_fits h
    && holds h.n t.terms h.terms
    && rows_hold h.n t.runs h.runs t.terms h.terms
    && wire_holds t.wire h.terms
    && entries_hold h.n t.cache h.entries
