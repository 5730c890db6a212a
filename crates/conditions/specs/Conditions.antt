-- The conditions that steps share (document 01, "What turns a record away, from the state"), as tests.
-- Assumes nothing.
use Rattle.std.specs.Prelude.{ℕ, ◌+◌, ◌<◌, Bool, not, cond, List, [], ◌∷◌, ltb, leb}
use Rattle.marks.specs.Marks.{Words}
use Rattle.marks.specs.Within.{Below}
use Rattle.terms.specs.Valid.{Valid}
use Rattle.synthesis.specs.Knowledge.{Kept}
use Rattle.synthesis.specs.declared.knowledge.Knowledge.{Knowledge}
use Rattle.synthesis.specs.Test.{derivable_of}
use Rattle.replay.specs.Cache.{cache_refusal}
use Rattle.replay.specs.declared.entry.Entry.{Entry}
use Rattle.realm.specs.declared.header.Realm.{Realm}

-- term m of these tables can be asked for
pub record Askable (h : Realm) (ts ws : List ℕ) (m : ℕ) : Type 0 where
  pub terms : Valid h.n ts h.terms
  pub wire : Words 8 ws
  pub marks : Below h.terms ws
  pub below : m < h.terms

-- what is kept of what the intruder was found to know is true of these terms
abbrev pub KeptBy : Realm → (ts : List ℕ) → Knowledge → Type 0
KeptBy h ts ks = Kept h.n h.flags ts h.terms ks

-- "the intruder can build m"
abbrev pub derivable_at : Realm → (ts ws : List ℕ) → ℕ → Bool
derivable_at h ts ws m = derivable_of h.flags ts h.terms ws m

-- not "clock is at or above Ts + Ls"
abbrev pub ticket_lives : Realm → ℕ → Bool
ticket_lives h ts = ltb h.clock (ts + h.ls)

-- not "clock is at or above Ta + La"
abbrev pub authenticator_lives : Realm → ℕ → Bool
authenticator_lives h ta = ltb h.clock (ta + h.la)

-- not "a Ta above clock + La" (02, change 5)
abbrev pub not_ahead : Realm → ℕ → Bool
not_ahead h ta = leb ta (h.clock + h.la)

-- 0, or the number of the first refusal that applies. Here alone the order is not that of the numbers: "22 for such a Ta, after 17
-- and before 18" (02, change 5)
unfoldable pub admission : Realm → List Entry → (ts : ℕ) → Entry → ℕ
admission h cache ts e =
    cond (not (ticket_lives h ts)) 16
    (cond (not (authenticator_lives h e.ta)) 17
    (cond (not (not_ahead h e.ta)) 22
    (cache_refusal cache h.entries e)))

-- the numbers that it can be
abbrev pub admission_refusals : List ℕ
admission_refusals = 16 ∷ 17 ∷ 22 ∷ 18 ∷ 19 ∷ []
