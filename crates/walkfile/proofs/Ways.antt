-- The ways out of listing a file, over plain variables: the code's proofs cite them.
-- Assumes nothing.
use Rattle.std.specs.Prelude.{Ok, Err, ◌≡◌, List, ℕ, ◌<◌, ◌≤◌, length}
use Rattle.std.proofs.Math.Path.{sym, ap}
use Rattle.std.proofs.Common.{◌∙◌, lt-ltb, le-ltb}
use Rattle.std.proofs.Math.Nat.{zero-add}
use Rattle.exchange.specs.declared.header.Header.{Header}
use Rattle.records.specs.Headers.{header_of}
use Rattle.lines.specs.Lines.{file_line}
use Rattle.fields.specs.Placed.{Wrote}
use Rattle.realm.specs.declared.header.Realm.{Realm}
use Rattle.realm.specs.Opening.{opening_of}
use Rattle.walkfile.specs.Listing.{walk_lines, opening_lines, header_lines, listing_of, listing_bytes, written, no_room, listed}

module _ (bytes : List ℕ) where
  pub header_refused : (refusal : ℕ) → header_of bytes ≡ Err refusal → file_line 0 refusal ≡ listing_of bytes
  unfolding listing_of
  header_refused refusal e = sym (ap (header_lines bytes) e)

  module _ (g : Header) (e : header_of bytes ≡ Ok g) where
    pub opening_refused : (refusal : ℕ) → opening_of g ≡ Err refusal → file_line 0 refusal ≡ listing_of bytes
    unfolding listing_of
    opening_refused refusal o = sym (ap (header_lines bytes) e ∙ ap (opening_lines g.mark bytes) o)

    pub opened : (h : Realm) → opening_of g ≡ Ok h → walk_lines h g.mark bytes ≡ listing_of bytes
    unfolding listing_of
    opened h o = sym (ap (header_lines bytes) e ∙ ap (opening_lines g.mark bytes) o)

module _ (file buffer : List ℕ) where
  pub not_listed : length buffer < listing_bytes → no_room buffer ≡ listed file buffer
  unfolding listed
  not_listed h = rw (lt-ltb (length buffer) listing_bytes h)

  pub is_listed : listing_bytes ≤ length buffer → (lines : List ℕ) → lines ≡ listing_of file → {after : List ℕ} {r : ℕ} → Wrote buffer 0 lines after r
      → written r after ≡ listed file buffer
  unfolding listed
  is_listed h lines e w = rw (le-ltb (length buffer) listing_bytes h, ← e, w.contents, w.offset, zero-add (length lines))
