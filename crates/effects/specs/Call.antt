-- What a call comes to (document 01): the answer, and every table afterwards, place by place. One definition for the adding of
-- terms and for all steps; the code's promises are equations with it.
-- Assumes nothing.
use Rattle.std.specs.Prelude.{cond, ℕ, zero, suc, ◌-◌, List, Ok, Err}
use Rattle.words.specs.Word.{packed}
use Rattle.terms.specs.Add.{add_of}
use Rattle.terms.specs.Outcome as terms
use Rattle.exchange.specs.Calls.{Answer}
use Rattle.exchange.specs.declared.call.Accepted.TheVariants.{Old, New}
use Rattle.exchange.specs.declared.call.Call.{Call}
use Rattle.exchange.specs.declared.call.Call.TheVariants as calls
use Rattle.realm.specs.declared.header.Realm.{Realm}
use Rattle.realm.specs.declared.input.Step.{Step}
use Rattle.realm.specs.Check.{together}
use Rattle.realm.specs.Tables.{Tables, tables}
use Rattle.decisions.specs.Decision.{decision, Verdict}
use Rattle.effects.specs.Apply.{Outcome, refuse, applied}

-- ---- TM

abbrev pub with_count : Realm → ℕ → Realm
with_count h terms =
    record { n = h.n; rules = h.rules; flags = h.flags; ls = h.ls; la = h.la; clock = h.clock; terms = terms; runs = h.runs; entries = h.entries }

-- "Adding a term must tell whether the term is new or was present": whether the table has grown
abbrev pub numbered : terms.TermAnswer → (grown : ℕ) → Answer
numbered (terms.number i) zero = Ok (Old i)
numbered (terms.number i) (suc grown) = Ok (New i)
numbered (terms.refused k) grown = Err k

-- the answer, the realm and the table of terms after TM, which reads and writes nothing else
pub record Adding : Type 0 where
  pub answer : Answer
  pub realm : Realm
  pub table : List ℕ

abbrev pub adding : Realm → terms.TermOutcome → Adding
adding h o = record { answer = numbered o.answer (o.count - h.terms); realm = with_count h o.count; table = o.table }

abbrev pub with_adding : Tables → Adding → Outcome
with_adding t o = record { answer = o.answer; tables = tables o.realm o.table t.runs t.wire t.cache }

-- ---- ST

-- a step that is taken is written
abbrev pub by_verdict : Tables → Verdict → Outcome
by_verdict t (Err number) = refuse t number
by_verdict t (Ok x) = applied t x

unfoldable pub stepped : Tables → Step → Outcome
stepped t s = by_verdict t (decision t s)

-- ---- both

unfoldable pub called : Tables → Call → Outcome
called t (calls.Term kind l r) = with_adding t (adding t.realm (add_of t.realm.n t.terms t.realm.terms (packed kind l r)))
called t (calls.Step step run a b m time) = stepped t (record { step = step; run = run; a = a; b = b; m = m; t = time })

-- "10 | tables handed in do not hold together | any, before all else"
unfoldable pub checked : Tables → Call → Outcome
checked t c = cond (together t) (called t c) (refuse t 10)
