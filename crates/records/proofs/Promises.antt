-- What the crate promises beside the contracts of its functions, which say that `read_header` gives `header_of` and `read_record`
-- gives `record_at` of the lent bytes. Headers, Records and Calls have the definitions; clients use these laws and leave
-- `header_of`, `record_at` and `calls_of` shut. After a header the calls of a file are
-- `calls_of (drop (header_width mark) bytes)`.
-- Assumes nothing.
use Rattle.std.specs.Prelude.{◌≡◌, ◌↔◌, Some, None, Ok, Err, List, [], ℕ, ◌*◌, ◌≤◌, length, drop, Option}
use Rattle.exchange.specs.declared.call.Call.{Call}
use Rattle.exchange.specs.declared.header.Header.{Header}
use Rattle.exchange.specs.Calls.{AllSized}
use Rattle.exchange.specs.Formats.{wide, format_of}
use Rattle.records.specs.Fields.{Bytes, byte, number16, number32}
use Rattle.records.specs.Headers.{max_file, header_of, Headed}
use Rattle.records.proofs.Headers.{header_fields, header_refused}
use Rattle.records.specs.Headers as headers
use Rattle.records.proofs.Headers as headers_laws
use Rattle.records.specs.Records.{front_of, record_at}
use Rattle.records.proofs.Records.{front_finds}
use Rattle.records.specs.Records as records
use Rattle.records.specs.Calls.{ended, calls_of, onward, CallAt, Broken}
use Rattle.records.proofs.Calls.{calls_are, record_call, record_refused, end_decided, calls_bounded}
use Rattle.records.proofs.Calls as calls

module _ (bytes : List ℕ) where
  -- A header is read exactly from a file of at most 65,536 bytes that begins with a known mark and is as long as its header; any other
  -- gives 1.
  pub header_ways : headers.Finds bytes (header_of bytes)
  header_ways = headers_laws.header_finds bytes

  pub header_read : (g : Header) → header_of bytes ≡ Ok g → Headed bytes g
  header_read g e = header_fields bytes g e

  -- Under HD the fields are those of document 01, under HW, H5 and H4 those of change 2 of document 02.
  pub hd_read : length bytes ≤ max_file → number16 bytes 0 ≡ 0x4844 → 13 ≤ length bytes
      → header_of bytes ≡ Ok (record { mark = 0x4844; n = byte bytes 2; flags = number16 bytes 3; ls = number32 bytes 5; la = number32 bytes 9 })
  hd_read = headers_laws.hd_fields bytes

  pub wide_read : length bytes ≤ max_file → (mark rules : ℕ) → format_of mark ≡ Some (wide mark rules) → number16 bytes 0 ≡ mark → 15 ≤ length bytes
      → header_of bytes ≡ Ok (record { mark = mark; n = byte bytes 2; flags = number32 bytes 3; ls = number32 bytes 7; la = number32 bytes 11 })
  wide_read = headers_laws.wide_fields bytes

  pub header_gives_1 : (number : ℕ) → header_of bytes ≡ Err number → number ≡ 1
  header_gives_1 number e = header_refused bytes number e

  -- A rest of the file is empty, or begins with a whole TM record, or with a whole ST record, or with neither.
  pub record_ways : records.Finds bytes (front_of bytes)
  record_ways = front_finds bytes

  -- The calls of a rest are those of the record at its front and of the rest after it,
  pub calls_onward : calls_of bytes ≡ onward (front_of bytes) (λ width. calls_of (drop width bytes))
  calls_onward = calls_are bytes

  -- have the widths of the file's fields,
  pub calls_sized : Bytes bytes → AllSized (calls_of bytes).calls
  calls_sized b = (calls_bounded bytes).all_sized b

  -- and take at least 7 bytes each.
  pub calls_few : 7 * length (calls_of bytes).calls ≤ length bytes
  calls_few = (calls_bounded bytes).room

module _ (bytes : List ℕ) (at : ℕ) where
  -- A call read at a place is the first of those from there on, and the others are those from `next` on,
  pub step_on : (c : Call) (next : ℕ) → record_at bytes at ≡ Ok (Some (record { call = c; next = next })) → CallAt bytes at c next
  step_on c next e = record_call bytes at c next e

  -- reading ends at the end of the file and nowhere before, and there are no calls from there on,
  pub ends : (record_at bytes at ≡ Ok None) ↔ (length bytes ≤ at)
  ends = end_decided bytes at

  pub none_left : length bytes ≤ at → calls_of (drop at bytes) ≡ record { calls = []; ending = ended }
  none_left h = calls.calls_end bytes at h

  -- and a record that is refused gives 3 and ends the calls.
  pub breaks : (number : ℕ) → record_at bytes at ≡ Err number → Broken bytes at number
  breaks number e = record_refused bytes at number e
