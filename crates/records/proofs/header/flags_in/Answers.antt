-- `records::header::flags_in` meets its contract: by their width. Assumes nothing.
use mathlib.Core.Path.{sym, ap, ◌∙◌}
use native.Mathlib.Omega.{arith}
use Rattle.exchange.specs.declared.header.Flags.{Flags}
use Rattle.records.specs.Headers.{lives_at, flags_in}
use Rattle.records.proofs.header.flags_in.Goals as goal

pub u16_at-requires : goal.u16_at-requires
u16_at-requires c = omega (arith, c.requires, ap lives_at c.in-Bits16.is)

pub u32_at-requires : goal.u32_at-requires
u32_at-requires c = omega (arith, c.requires, ap lives_at c.in-Bits32.is)

pub returns-in-Bits16 : goal.returns-in-Bits16
returns-in-Bits16 c =
    c.u16_at.ensures ∙ ap (λ (x : Flags). flags_in x c.args.file.now) (sym c.in-Bits16.is)

pub returns-in-Bits32 : goal.returns-in-Bits32
returns-in-Bits32 c =
    c.u32_at.ensures ∙ ap (λ (x : Flags). flags_in x c.args.file.now) (sym c.in-Bits32.is)
