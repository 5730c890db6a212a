-- A new realm, a call, its answer, a listing and a written walk as the numbers that cross to other languages.
-- Assumes nothing.
use Rattle.std.specs.Prelude.{ℕ, true, false, cond, List, Some, None, Result, Ok, Err}
use Rattle.exchange.specs.declared.call.Accepted.TheVariants.{Old, New, Taken}
use Rattle.exchange.specs.declared.call.Call.{Call}
use Rattle.exchange.specs.declared.call.Call.TheVariants.{Term, Step}
use Rattle.exchange.specs.Calls.{Answer, added_by}
use Rattle.realm.specs.declared.header.Realm.{Realm}
use Rattle.realm.specs.Tables.{Tables}
use Rattle.effects.specs.Apply.{Outcome}
use Rattle.walkfile.specs.Listing as listing
use Rattle.writer.specs.Write.{WriteOutcome}
use Rattle.exported.specs.declared.Filed.{Filed}
use Rattle.exported.specs.declared.Listed.{Listed}
use Rattle.exported.specs.declared.Opened.{Opened}
use Rattle.exported.specs.declared.Record.{Record}
use Rattle.exported.specs.declared.Reply.{Reply}

-- ---- a new realm

-- a realm of zeros
abbrev pub no_realm : Realm
no_realm = record { n = 0; rules = 0; flags = 0; ls = 0; la = 0; clock = 0; terms = 0; runs = 0; entries = 0 }

-- the realm and 0, or a realm of zeros and the refusal's number
abbrev pub opened_as : Result Realm ℕ → Opened
opened_as (Ok h) = record { realm = h; refusal = 0 }
opened_as (Err number) = record { realm = no_realm; refusal = number }

-- ---- a call

unfoldable pub call_of : Record → Call
call_of q = cond q.adds (Term q.kind q.l q.r) (Step q.step q.run q.a q.b q.m q.t)

-- ---- its answer

abbrev pub answer_kind : Answer → ℕ
answer_kind (Ok (Old i)) = 0
answer_kind (Ok (New i)) = 0
answer_kind (Ok (Taken (Some r) k)) = 1
answer_kind (Ok (Taken None k)) = 2
answer_kind (Err k) = 3

-- its number, or else 0
abbrev pub answer_number : Answer → ℕ
answer_number (Ok (Old i)) = i
answer_number (Ok (New i)) = i
answer_number (Ok (Taken (Some r) k)) = r
answer_number (Ok (Taken None k)) = 0
answer_number (Err k) = k

abbrev pub reply_of : Realm → Answer → Reply
reply_of h answer = record { realm = h; kind = answer_kind answer; number = answer_number answer; added = added_by answer }

-- what a call comes to: the reply, and the tables
abbrev pub replied : Outcome → Reply × Tables
replied o = (reply_of o.tables.realm o.answer, o.tables)

-- ---- a listing

-- whether it was written, its bytes' number or else 0, and the buffer
abbrev pub shown : listing.ListOutcome → Listed × List ℕ
shown (listing.written count buffer) = (record { fits = true; count = count }, buffer)
shown (listing.no_room buffer) = (record { fits = false; count = 0 }, buffer)

-- ---- a walk written

-- the refusal's number or 0, and the number of bytes or 0
abbrev pub filed_as : Result ℕ ℕ → Filed
filed_as (Ok count) = record { refusal = 0; count = count }
filed_as (Err number) = record { refusal = number; count = 0 }

-- and the buffer
abbrev pub filed : WriteOutcome → Filed × List ℕ
filed o = (filed_as o.answer, o.buffer)
