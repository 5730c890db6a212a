-- The test of a header says exactly that refusals 1 and 2 let it pass, where its fields have the widths of the file.
-- Assumes nothing.
use Rattle.std.specs.Prelude.{◌≤◌, ◌≡◌, Some}
use Rattle.exchange.specs.declared.header.Format.{Format}
use Rattle.exchange.specs.declared.header.Header.{Header}
use Rattle.exchange.specs.Formats.{format_of}
use Rattle.traces.specs.Realm.{HeaderPasses}
use Rattle.realm.specs.Opening.{header, new_realm}

-- a header that opens a realm: its mark is known, n is within the mark's limit, and a realm can have its values
pub record HeaderTaken (g : Header) : Type 0 where
  pub format : Format
  pub known : format_of g.mark ≡ Some format
  pub within : g.n ≤ format.most
  pub passes : HeaderPasses (header (new_realm g))
