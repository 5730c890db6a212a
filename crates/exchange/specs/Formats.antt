-- The header marks (document 02, changes 2 and 6): "a header mark HW, laid out as HD but with 32 bits of flags; under it n is 3 to
-- 32"; "two rule sets, named by header marks H5 and H4 with the layout and limits of HW, and keep the old one under HD and HW".
-- A constant table, a row for each mark: its two letters, the bits of its flags, the most principals, and its rule set's number.
-- Assumes nothing.
use Rattle.std.specs.Prelude.{ℕ, ◌^◌, ◌<◌, List, [], ◌∷◌, find, eqb, Option}
use Rattle.exchange.specs.declared.header.Flags.TheVariants.{Bits16, Bits32}
use Rattle.exchange.specs.declared.header.Format.{Format}
use Rattle.exchange.specs.declared.header.Header.{Header}

abbrev pub hd : Format
hd = record { mark = 0x4844; flags = Bits16; most = 16; rules = 0 }

-- "the layout and limits of HW"
abbrev pub wide : (mark rules : ℕ) → Format
wide mark rules = record { mark = mark; flags = Bits32; most = 32; rules = rules }

abbrev pub hw : Format
hw = wide 0x4857 0

abbrev pub h5 : Format
h5 = wide 0x4835 1

abbrev pub h4 : Format
h4 = wide 0x4834 2

unfoldable pub formats : List Format
formats = hd ∷ hw ∷ h5 ∷ h4 ∷ []

-- the first row of a mark
abbrev pub format_of : (mark : ℕ) → Option Format
format_of mark = find (λ (f : Format). eqb f.mark mark) formats

-- the widths of a header's values behind its mark
abbrev pub HeaderSized : Header → Type 0
HeaderSized g = (g.n < 2 ^ 8) × (g.flags < 2 ^ 32) × (g.ls < 2 ^ 32) × (g.la < 2 ^ 32)
