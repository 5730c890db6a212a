-- A row of the table of runs as seven words: role, stage, a, b, k, ts, ta (document 01, "Steps": "each with role, parties a
-- and b, stage, and once taken K, Ts, Ta"). Any seven words are read as a row; `is_row` says whether they are those of one.
-- Assumes nothing.
use Rattle.std.specs.Prelude.{Bool, ◌&&◌, List, [], ◌∷◌, ℕ, zero, suc, ◌<◌, ◌%◌, ltb, get_or}
use Rattle.exchange.specs.declared.run.Role.{Role}
use Rattle.exchange.specs.declared.run.Role.TheVariants.{Initiator, Responder, Server}
use Rattle.exchange.specs.declared.run.Stage.{Stage}
use Rattle.exchange.specs.declared.run.Stage.TheVariants.{Opened, Authenticated, Done}
use Rattle.exchange.specs.declared.run.Row.{Row}
use Rattle.exchange.specs.Needs.{role_number, stage_number, is_known}

-- ---- definitions

-- words in a row
abbrev pub width : ℕ
width = 7

-- the one of three that a number names; any other number names the third
abbrev pub by_number : {A : Type 0} → ℕ → A → A → A → A
by_number zero x y z = z
by_number (suc zero) x y z = x
by_number (suc (suc zero)) x y z = y
by_number (suc (suc (suc w))) x y z = z

abbrev pub role_of : ℕ → Role
role_of w = by_number w Initiator Responder Server

abbrev pub stage_of : ℕ → Stage
stage_of w = by_number w Opened Authenticated Done

-- the words of a row
abbrev pub words_of : Row → List ℕ
words_of x = role_number x.role ∷ stage_number x.stage ∷ x.a ∷ x.b ∷ x.k ∷ x.ts ∷ x.ta ∷ []

-- the row of seven words
abbrev pub row_of : List ℕ → Row
row_of ws =
    record {
      role = role_of (get_or ws 0 0);
      stage = stage_of (get_or ws 1 0);
      a = get_or ws 2 0 % 256;
      b = get_or ws 3 0 % 256;
      k = get_or ws 4 0 % 256;
      ts = get_or ws 5 0;
      ta = get_or ws 6 0;
    }

-- the words are those of a row
abbrev pub is_row : List ℕ → Bool
is_row ws = is_known (get_or ws 0 0) && is_known (get_or ws 1 0) && ltb (get_or ws 2 0) 256 && ltb (get_or ws 3 0) 256 && ltb (get_or ws 4 0) 256

-- a, b and k have the width of a row's fields
pub record Fits (x : Row) : Type 0 where
  pub a : x.a < 256
  pub b : x.b < 256
  pub k : x.k < 256
