-- What follows from the definitions of the same name in specs/.
-- Assumes nothing.
use Rattle.std.specs.Prelude.{ℕ, suc, ◌≡◌, List, ◌++◌, length}
use Rattle.kerberos.specs.Agreement.{Demand3, Secrecy}
use Rattle.kerberos.specs.Entries.{Entries}
use Rattle.exchange.specs.Forms.{form_of}
use Rattle.kerberos.specs.Reading.{set_of}
use Rattle.exchange.specs.Calls.{AllSized}
use Rattle.traces.specs.Engines.{Agrees, after, history}
use Rattle.traces.specs.RuleSets.{reading}
use Rattle.records.proofs.Fields.{drop_bytes}
use Rattle.records.specs.Headers.{header_width}
use Rattle.records.specs.Calls.{calls_of}
use Rattle.records.proofs.Promises.{calls_sized}
use Rattle.lines.specs.Lines.{listing}
use Rattle.realm.specs.declared.header.Realm.{Realm}
use Rattle.realm.specs.Opening.{header}
use Rattle.simulation.specs.Values.{values_of}
use Rattle.simulation.specs.Engine.{New}
use Rattle.simulation.proofs.Engine.{engine_of}
use Rattle.simulation.proofs.Promises.{demand3, secret_keys, entries, tables_follow}
use Rattle.walkfile.specs.Listing.{new_tables, last_lines, walk_lines, listing_of}
use Rattle.walkfile.proofs.Opened.{opened_new}
use Rattle.walkfile.proofs.Traced.{newest_sized, lines_traced}
use Rattle.walkfile.specs.Promises.{HeaderOpens, rest, calls}
-- ---- the buffer
-- a buffer that is too short stays as it is; otherwise the listing stands at its start, the bytes behind it are as they were, and
-- the count is within the buffer
pub use Rattle.walkfile.proofs.Buffer.{short_kept, start_is, rest_kept, counts}
-- ---- the listing
-- a file that refusal 1 or 2 turns away has one line, and case F has the paper's
pub use Rattle.walkfile.proofs.Ways.{header_refused, opening_refused}
pub use Rattle.walkfile.proofs.CaseF.{printed}
-- a file that begins with no other mark than HD has the listing of document 01, whose lines end as change 3 says and whose step 5 has the
-- refusal of change 5, whatever its bytes
pub use Rattle.walkfile.proofs.HdListing.{listed_as_before}

module _ (bytes : List ℕ) (h : Realm) (o : HeaderOpens bytes h) where
  -- its tables are those of a new realm
  pub new : New (header h) (new_tables h)
  new = opened_new bytes o.values h o.small o.read o.opened

  sized : AllSized (calls bytes h o)
  sized = newest_sized (calls_of (rest bytes h o)).calls (calls_sized (rest bytes h o) (drop_bytes o.small (header_width o.values.mark)))

  -- Demand 3 holds of its calls, under the rule set that its mark names,
  pub walk_demand3 : Demand3 (form_of h.rules) (header h) (history (set_of (header h)) (header h) (engine_of (header h) (new_tables h) new) (calls bytes h o))
  walk_demand3 = demand3 (header h) (new_tables h) new (calls bytes h o) sized

  -- the intruder cannot derive a key that was issued to two good principals and has not leaked,
  pub walk_secret_keys : Secrecy (form_of h.rules) (header h) (history (set_of (header h)) (header h) (engine_of (header h) (new_tables h) new) (calls bytes h o))
  walk_secret_keys = secret_keys (header h) (new_tables h) new (calls bytes h o) sized

  -- each entry of its replay cache is from an acceptance of a time near the clock, and the initiator's own unless the intruder has a key
  -- for it,
  pub walk_entries : Entries (form_of h.rules) (header h) (history (set_of (header h)) (header h) (engine_of (header h) (new_tables h) new) (calls bytes h o))
  walk_entries = entries (header h) (new_tables h) new (calls bytes h o) sized

  -- its tables agree with what is read of them,
  pub walk_agrees : Agrees (set_of (header h)) (header h) (values_of (header h) (after (set_of (header h)) (header h) (engine_of (header h) (new_tables h) new) (calls bytes h o)))
      (reading (set_of (header h)) (history (set_of (header h)) (header h) (engine_of (header h) (new_tables h) new) (calls bytes h o)))
  walk_agrees = tables_follow (header h) (new_tables h) new (calls bytes h o) sized

  -- and its listing is the lines of their history, the line of refusal 3 if a record gave it, and the last line.
  pub walk_listed : listing_of bytes
      ≡ listing o.values.mark (history (set_of (header h)) (header h) (engine_of (header h) (new_tables h) new) (calls bytes h o))
      ++ last_lines (suc (length (calls bytes h o))) (after (set_of (header h)) (header h) (engine_of (header h) (new_tables h) new) (calls bytes h o)) (calls_of (rest bytes h o)).ending
  unfolding listing_of walk_lines listing
  walk_listed = rw (o.read, o.opened) (lines_traced o.values.mark (header h) (new_tables h) new (calls_of (rest bytes h o)).calls (calls_of (rest bytes h o)).ending)
