-- The forms of the messages that steps 3 and 6 take (document 01, "Steps"), each a chain of layers in the order in which the
-- code takes it apart, and the answer. "Lists in braces are nested pairs as in brackets. K is always of kind 4, Ts and Ta of
-- kind 1." Values that a step compares with its run's own are answered as they are, and so are the a and b of a request,
-- which step 3 itself finds "unequal and not 0".
-- Assumes nothing.
use Rattle.std.specs.Prelude.{ℕ, Option, option_map}
use Rattle.terms.specs.Message.{Message}
use Rattle.layers.specs.Layers.{PRINCIPAL, TIME, NONCE, SESSION_KEY, atom, first, under, ◌▸◌}
use Rattle.forms.specs.declared.Confirmation.{Confirmation}
use Rattle.forms.specs.declared.Request.{Request}

-- step 3: "m is [a, b, any nonce N]"
abbrev pub request_form : Message → Option (ℕ × (ℕ × ℕ))
request_form = first PRINCIPAL ▸ first PRINCIPAL ▸ atom NONCE

abbrev pub request_of : ℕ × (ℕ × ℕ) → Request
request_of (a, (b, n)) = record { a = a; b = b; n = n }

unfoldable pub request_in : Message → Option Request
request_in m = option_map request_of (request_form m)

-- step 6: "m is {Ta}K"
abbrev pub confirmation_form : Message → Option (ℕ × ℕ)
confirmation_form = under SESSION_KEY ▸ atom TIME

abbrev pub confirmation_of : ℕ × ℕ → Confirmation
confirmation_of (k, ta) = record { ta = ta; k = k }

unfoldable pub confirmation_in : Message → Option Confirmation
confirmation_in m = option_map confirmation_of (confirmation_form m)
