-- What follows from the definitions of the same name in specs/.
-- Assumes nothing.
use Rattle.std.specs.Prelude.{ℕ, ◌≡◌, Option, Ok}
use Rattle.std.proofs.Common.{sym}
use Rattle.std.proofs.Math.Path.{ap}
use Rattle.exchange.specs.declared.header.Format.{Format}
use Rattle.exchange.specs.declared.header.Header.{Header}
use Rattle.exchange.specs.Formats.{format_of}
use Rattle.realm.specs.Opening.{refusal_by, header_refusal, new_under, opening_by}

module _ (g : Header) where
  pub by_lookup : (l : Option Format) → format_of g.mark ≡ l → refusal_by l g ≡ header_refusal g
  unfolding header_refusal
  by_lookup l e = ap (λ (x : Option Format). refusal_by x g) (sym e)

  pub opened : (rules : ℕ) {k : ℕ} → k ≡ 0 → Ok (new_under rules g) ≡ opening_by k rules g
  opened rules z = ap (λ (k : ℕ). opening_by k rules g) (sym z)
