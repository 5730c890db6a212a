-- What follows from the definitions of the same name in specs/.
-- Assumes nothing.
use Rattle.std.specs.Prelude.{◌≡◌, refl, Result, Ok, Err, List, ℕ, ◌+◌, ◌^◌, ◌<◌, ◌≤◌, ltb, length, Option, Some, None}
use Rattle.std.proofs.Common.{sym, ap, subst, ◌∙◌, arith, lt-ltb, le-ltb, ltb-true, ltb-false}
use Rattle.terms.proofs.Choice.{cond_elim}
use Rattle.exchange.specs.declared.header.Flags.{Flags}
use Rattle.exchange.specs.declared.header.Flags.TheVariants.{Bits16, Bits32}
use Rattle.exchange.specs.declared.header.Format.{Format}
use Rattle.exchange.specs.declared.header.Header.{Header}
use Rattle.exchange.specs.Formats.{hd, wide, format_of}
use Rattle.exchange.proofs.Laws.Formats.{format_found, hd_known}
use Rattle.records.specs.Fields.{Bytes, byte, number16, number32}
use Rattle.records.proofs.Fields.{small16, small32}
use Rattle.records.specs.Headers.{max_file, lives_at, format_bytes, header_width, flags_in, fields_of, header_by, heading_by, header_of, Finds, too_long, no_mark, cut_short, a_header, Headed}

-- ---- one law for each way out

by_short : (l : Option Format) (bytes : List ℕ) → length bytes < 2 → Err 1 ≡ heading_by l bytes
by_short (Some f) bytes h = rw (lt-ltb (length bytes) (lives_at f.flags + 8) (omega arith))
by_short None bytes h = refl

module _ (f : Format) (bytes : List ℕ) {lives : ℕ} (e : lives ≡ lives_at f.flags) where
  pub header_cut : length bytes < lives + 8 → Err 1 ≡ header_by f bytes
  header_cut h = rw (← e, lt-ltb (length bytes) (lives + 8) h)

  pub header_whole : lives + 8 ≤ length bytes → {flags ls la : ℕ} → flags ≡ flags_in f.flags bytes → ls ≡ number32 bytes lives → la ≡ number32 bytes (lives + 4)
      → Ok (record { mark = f.mark; n = byte bytes 2; flags = flags; ls = ls; la = la }) ≡ header_by f bytes
  header_whole h ef es ea = rw (ef, es, ea, ← e, le-ltb (length bytes) (lives + 8) h)

module _ (bytes : List ℕ) where
  pub header_long : max_file < length bytes → Err 1 ≡ header_of bytes
  unfolding header_of
  header_long h = rw (lt-ltb max_file (length bytes) h)

  pub header_short : length bytes < 2 → Err 1 ≡ header_of bytes
  unfolding header_of
  header_short h = rw (le-ltb max_file (length bytes) (omega arith)) (by_short (format_of (number16 bytes 0)) bytes h)

  pub by_mark : length bytes ≤ max_file → (l : Option Format) → format_of (number16 bytes 0) ≡ l → heading_by l bytes ≡ header_of bytes
  unfolding header_of
  by_mark h l e = rw (le-ltb max_file (length bytes) h, e)

lookup_finds : (bytes : List ℕ) → length bytes ≤ max_file → (l : Option Format) → format_of (number16 bytes 0) ≡ l → Finds bytes (heading_by l bytes)
lookup_finds bytes short None e = no_mark short e
lookup_finds bytes short (Some f) e =
    cond_elim (Finds bytes) (ltb (length bytes) (format_bytes (Some f))) (Err 1) (Ok (fields_of f bytes))
    (λ h. cut_short short f e (ltb-true (length bytes) (format_bytes (Some f)) h))
    (λ h. a_header short f e (ltb-false (length bytes) (format_bytes (Some f)) h))

pub header_finds : (bytes : List ℕ) → Finds bytes (header_of bytes)
unfolding header_of
header_finds bytes =
    cond_elim (Finds bytes) (ltb max_file (length bytes)) (Err 1) (heading_by (format_of (number16 bytes 0)) bytes)
    (λ h. too_long (ltb-true max_file (length bytes) h))
    (λ h. lookup_finds bytes (ltb-false max_file (length bytes) h) (format_of (number16 bytes 0)) refl)

-- the flags take 2 or 4 bytes
pub lives_near : (x : Flags) → (5 ≤ lives_at x) × (lives_at x ≤ 7)
lives_near Bits16 = (omega arith, omega arith)
lives_near Bits32 = (omega arith, omega arith)

small_flags : {bytes : List ℕ} → Bytes bytes → (x : Flags) → flags_in x bytes < 2 ^ 32
small_flags b Bits16 = omega (arith, small16 b 3)
small_flags b Bits32 = omega (arith, small16 b 3, small32 b 3)

-- the width of a header, by what its mark says
pub width_is : (mark : ℕ) (l : Option Format) → format_of mark ≡ l → header_width mark ≡ format_bytes l
unfolding header_width
width_is mark l e = ap format_bytes e

pub width_short : (mark : ℕ) → header_width mark ≤ 15
unfolding header_width
width_short mark = by (format_of mark)
  where
    by : (l : Option Format) → format_bytes l ≤ 15
    by (Some f) = omega (arith, (lives_near f.flags).1)
    by None = omega arith

own_width : (mark : ℕ) (f : Format) → format_of mark ≡ Some f → header_width f.mark ≡ format_bytes (Some f)
own_width mark f e = ap header_width (format_found mark f e).0 ∙ width_is mark (Some f) e

module _ (bytes : List ℕ) where
  found_fields : (h : Result Header ℕ) → Finds bytes h → (g : Header) → h ≡ Ok g → Headed bytes g
  found_fields h (too_long l) g e = let z : ◌≡◌ {A = ℕ} 0 1 = cc in absurd (omega arith)
  found_fields h (no_mark s m) g e = let z : ◌≡◌ {A = ℕ} 0 1 = cc in absurd (omega arith)
  found_fields h (cut_short s f m l) g e = let z : ◌≡◌ {A = ℕ} 0 1 = cc in absurd (omega arith)
  found_fields h (a_header s f m l) g e =
      let same : fields_of f bytes ≡ g = cc in
      subst (Headed bytes) same (
      record {
        least = omega (arith, own_width (number16 bytes 0) f m, (lives_near f.flags).0);
        whole = omega (arith, own_width (number16 bytes 0) f m, l);
        most = s;
        sized = λ b. (b.small 2, small_flags b f.flags, small32 b (lives_at f.flags), small32 b (lives_at f.flags + 4));
      }
      )

  pub header_fields : (g : Header) → header_of bytes ≡ Ok g → Headed bytes g
  header_fields g e = found_fields (header_of bytes) (header_finds bytes) g e

  found_refused : (h : Result Header ℕ) → Finds bytes h → (number : ℕ) → h ≡ Err number → number ≡ 1
  found_refused h (too_long l) number e = cc
  found_refused h (no_mark s m) number e = cc
  found_refused h (cut_short s f m l) number e = cc
  found_refused h (a_header s f m l) number e = let z : ◌≡◌ {A = ℕ} 0 1 = cc in absurd (omega arith)

  pub header_refused : (number : ℕ) → header_of bytes ≡ Err number → number ≡ 1
  header_refused number e = found_refused (header_of bytes) (header_finds bytes) number e

-- ---- by the mark

module _ (bytes : List ℕ) (short : length bytes ≤ max_file) where
  -- a header that is whole has the fields of its mark's row
  pub fields_by : (f : Format) → format_of (number16 bytes 0) ≡ Some f → format_bytes (Some f) ≤ length bytes → header_of bytes ≡ Ok (fields_of f bytes)
  fields_by f e h = sym (header_whole f bytes refl h refl refl refl ∙ by_mark bytes short (Some f) e)

  -- "HD, n (1 byte), flags (2), Ls (4), La (4)"
  pub hd_fields : number16 bytes 0 ≡ 0x4844 → 13 ≤ length bytes
      → header_of bytes ≡ Ok (record { mark = 0x4844; n = byte bytes 2; flags = number16 bytes 3; ls = number32 bytes 5; la = number32 bytes 9 })
  hd_fields e h = fields_by hd (ap format_of e ∙ hd_known) h

  -- "laid out as HD but with 32 bits of flags", and so each mark "with the layout .. of HW"
  pub wide_fields : (mark rules : ℕ) → format_of mark ≡ Some (wide mark rules) → number16 bytes 0 ≡ mark → 15 ≤ length bytes
      → header_of bytes ≡ Ok (record { mark = mark; n = byte bytes 2; flags = number32 bytes 3; ls = number32 bytes 7; la = number32 bytes 11 })
  wide_fields mark rules k e h = fields_by (wide mark rules) (ap format_of e ∙ k) h
