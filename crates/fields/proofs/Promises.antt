-- What the crate promises beside the contracts of its functions. A contract says `Wrote before at BYTES after next`: the bytes
-- were written into the buffer from offset `at` on, `next` is the offset after them, and no other place changed. Fields has
-- the bytes of the fields themselves.
-- Assumes nothing.
use Rattle.std.specs.Prelude.{List, ◌++◌, ◌≡◌, ℕ, ◌≤◌, ◌<◌, length, take, drop, get_or}
use Rattle.std.proofs.Common.{sym, ap, ◌∙◌}
use Rattle.fields.proofs.Decimal as decimals
use Rattle.fields.specs.Fields.{decimal}
use Rattle.fields.proofs.Placed as placing
use Rattle.fields.specs.Placed.{Wrote}

-- ---- the buffer

-- what stood before the bytes stands there still, the bytes after it;
pub written : {before : List ℕ} {at : ℕ} {bytes after : List ℕ} {next : ℕ} → at ≤ length before → Wrote before at bytes after next
    → take next after ≡ take at before ++ bytes
written h w = placing.written h w

-- what stands past the bytes is as it was;
pub kept : {before : List ℕ} {at : ℕ} {bytes after : List ℕ} {next : ℕ} → at ≤ length before → Wrote before at bytes after next
    → drop next after ≡ drop next before
kept h w = placing.kept h w

-- two texts, one after the other, are one text.
pub joined : {before : List ℕ} {at : ℕ} {mid after : List ℕ} {next last : ℕ} {u v : List ℕ} → at ≤ length before
    → Wrote before at u mid next → Wrote mid next v after last → Wrote before at (u ++ v) after last
joined h a b = placing.joined h a b

-- ---- numbers

-- different numbers have different digits,
pub told_apart : (m n : ℕ) → decimal m ≡ decimal n → m ≡ n
told_apart m n e = sym (decimals.decimal_value m) ∙ ap (decimals.value_from 0) e ∙ decimals.decimal_value n

-- and there is no leading zero.
pub no_leading_zero : (n : ℕ) → 0 < n → 48 < get_or (decimal n) 0 0
no_leading_zero n h = decimals.decimal_first n h
