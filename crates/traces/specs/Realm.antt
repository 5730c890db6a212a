-- A realm: the header that a list of calls starts under (document 01, "The hall and its clock"; its "hall" is a realm here). A
-- principal ("party") is good if it is not marked bad. Numbers at n and above name no principal, and no run is opened for one.
-- Assumes nothing.
use Rattle.std.specs.Prelude.{ℕ, ◌^◌, ◌≤◌, ◌<◌, ◌≡◌}
use Rattle.marks.specs.Bits.{bit}
use Rattle.deduction.specs.Derives.{Bad}

-- the number of the rule set "named by header marks"; "n parties", "flags", "ticket life Ls and authenticator life La"
pub record Realm : Type 0 where
  pub rules : ℕ
  pub n : ℕ
  pub flags : ℕ
  pub ticket_life : ℕ
  pub auth_life : ℕ

-- "every A and B not bad": the principal's long-term key is not the intruder's
abbrev pub Good : Realm → ℕ → Type 0
Good R p = ¬ (Bad R.n R.flags p)

-- "any header that refusal 2 lets pass"
pub record HeaderPasses (R : Realm) : Type 0 where
  -- "n is 3 to 32" under the widest mark: what any realm can have
  pub least : 3 ≤ R.n
  pub most : R.n ≤ 32
  -- "a flag on party 0 or at n and above,"
  pub server_good : bit R.flags 0 ≡ 0
  pub none_above : (p : ℕ) → R.n ≤ p → bit R.flags p ≡ 0
  -- "or a life of 0": lives are "1 to 4,294,967,295"
  pub ticket_life_some : 1 ≤ R.ticket_life
  pub ticket_life_fits : R.ticket_life < 2 ^ 32
  pub auth_life_some : 1 ≤ R.auth_life
  pub auth_life_fits : R.auth_life < 2 ^ 32
