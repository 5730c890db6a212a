-- The tables read as values, as the exchange's reading has them: rows, messages, what is on the wire, entries.
-- Assumes nothing.
use Rattle.std.specs.Prelude.{map}
use Rattle.messages.specs.Meanings.{meanings}
use Rattle.deduction.specs.Known.{Known}
use Rattle.rows.specs.Rows.{rows_of}
use Rattle.replay.specs.Cache.{entries}
use Rattle.replay.specs.declared.entry.Entry as replay
use Rattle.traces.specs.Realm.{Realm}
use Rattle.traces.specs.RuleSets.{Entry, entry}
use Rattle.traces.specs.Engines.{Values}
use Rattle.kerberos.specs.Reading.{set_of}
use Rattle.realm.specs.Tables.{Tables}

-- "entries hold b, K and Ta"
abbrev pub logged : replay.Entry → Entry
logged x = entry x.b x.k x.ta

abbrev pub values_of : (R : Realm) → Tables → Values (set_of R)
values_of R t =
    record {
      now = t.realm.clock;
      rows = rows_of t.runs t.realm.runs;
      terms = meanings t.terms t.realm.terms;
      wire = Known t.terms t.realm.terms t.wire;
      entries = map logged (entries t.cache t.realm.entries);
    }
