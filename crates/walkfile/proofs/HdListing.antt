-- What follows from the definitions of the same name in specs/.
-- Assumes nothing.
use Rattle.std.specs.Prelude.{Result, Err, ℕ, ◌<◌, ◌≤◌, Bool, true, false, cond, ◌≡◌, refl, List, length, Some, None}
use Rattle.std.proofs.Common.{sym, ap, subst, ◌∙◌, arith, lt-ltb, le-ltb}
use Rattle.terms.proofs.Choice.{is_false}
use Rattle.exchange.specs.declared.header.Format.{Format}
use Rattle.exchange.specs.declared.header.Header.{Header}
use Rattle.exchange.specs.Formats.{hd, formats, format_of}
use Rattle.exchange.proofs.Laws.Formats.{format_found, hd_known}
use Rattle.realm.specs.Opening.{header_fits, rules_by, opening_by, opening_of}
use Rattle.realm.proofs.Promises.{hd_refusal}
use Rattle.records.specs.Fields.{byte, number16, number32, begins}
use Rattle.records.proofs.Fields.{begins_not, begins_here, begins_mark}
use Rattle.records.specs.Headers.{max_file, format_bytes, header_width, header_of, Finds, too_long, no_mark, cut_short, a_header}
use Rattle.records.proofs.Headers.{header_finds}
use Rattle.records.proofs.Promises.{hd_read}
use Rattle.lines.specs.Lines.{header_line, file_line}
use Rattle.walkfile.specs.Listing.{walk_lines, opening_lines, header_lines, listing_of}
use Rattle.walkfile.proofs.Ways.{header_refused}
use Rattle.walkfile.specs.HdListing.{header_at, whole01, listing01}

-- ---- laws

by_fit : (fits : Bool) (bytes : List ℕ) → opening_lines 0x4844 bytes (opening_by (cond fits 0 2) (rules_by (format_of 0x4844)) (header_at bytes)) ≡ whole01 fits bytes
unfolding walk_lines header_line header_width formats
by_fit true bytes = refl
by_fit false bytes = refl

hd_listed : (bytes : List ℕ) → length bytes ≤ max_file → number16 bytes 0 ≡ 0x4844 → 13 ≤ length bytes
    → listing_of bytes ≡ whole01 (header_fits 16 (byte bytes 2) (number16 bytes 3) (number32 bytes 5) (number32 bytes 9)) bytes
unfolding listing_of opening_of
hd_listed bytes short mark whole =
    ap (header_lines bytes) (hd_read bytes short mark whole)
    ∙ ap (λ (k : ℕ). opening_lines 0x4844 bytes (opening_by k (rules_by (format_of 0x4844)) (header_at bytes))) (hd_refusal (byte bytes 2) (number16 bytes 3) (number32 bytes 5) (number32 bytes 9))
    ∙ by_fit (header_fits 16 (byte bytes 2) (number16 bytes 3) (number32 bytes 5) (number32 bytes 9)) bytes

missing : {A : Type 0} {f : Format} → None ≡ Some f → A
missing e = let z : ◌≡◌ {A = ℕ} 0 1 = cc in absurd (omega arith)

module _ (bytes : List ℕ) (no_other : (f : Format) → format_of (number16 bytes 0) ≡ Some f → f ≡ hd) where
  refused : header_of bytes ≡ Err 1 → listing_of bytes ≡ file_line 0 1
  refused e = sym (header_refused bytes 1 e)

  by_finds : (h : Result Header ℕ) → Finds bytes h → header_of bytes ≡ h → listing_of bytes ≡ listing01 bytes
  by_finds h (too_long l) e = rw (lt-ltb max_file (length bytes) l) (refused e)
  by_finds h (no_mark s m) e = rw (le-ltb max_file (length bytes) s, ← not_hd) (refused e)
    where
      not_hd : false ≡ begins 0x4844 13 bytes
      not_hd = is_false (begins 0x4844 13 bytes) (λ b. missing (sym m ∙ ap format_of (begins_mark 0x4844 13 bytes b) ∙ hd_known))
  by_finds h (cut_short s f m l) e = rw (le-ltb max_file (length bytes) s, ← begins_not 0x4844 13 bytes short) (refused e)
    where
      short : length bytes < 13
      short = subst (λ (x : Format). length bytes < format_bytes (Some x)) (no_other f m) l
  by_finds h (a_header s f m l) e = rw (le-ltb max_file (length bytes) s, begins_here 0x4844 13 bytes whole mark) (hd_listed bytes s mark whole)
    where
      whole : 13 ≤ length bytes
      whole = subst (λ (x : Format). format_bytes (Some x) ≤ length bytes) (no_other f m) l

      mark : number16 bytes 0 ≡ 0x4844
      mark = sym (format_found (number16 bytes 0) f m).0 ∙ ap (λ (x : Format). x.mark) (no_other f m)

  -- A file that begins with no other mark than HD has the listing of document 01, whatever its bytes.
  pub listed_as_before : listing_of bytes ≡ listing01 bytes
  listed_as_before = by_finds (header_of bytes) (header_finds bytes) refl
