-- The form of the message that step 5 takes (document 01, "Steps"): a ticket and an authenticator, each a chain of layers in the
-- order in which the code takes it apart, and the answer. "Lists in braces are nested pairs as in brackets. K is always of
-- kind 4, Ts and Ta of kind 1." Values that the step compares with its run's own are answered as they are.
-- Assumes nothing.
use Rattle.std.specs.Prelude.{◌&&◌, cond, ℕ, eqb, Option, None, Some, option_and_then, option_map}
use Rattle.terms.specs.Message.{Message}
use Rattle.layers.specs.Layers.{PRINCIPAL, TIME, LONG_TERM_KEY, SESSION_KEY, PAIR, of_kind, operands, atom, first, under, ◌▸◌}
use Rattle.forms.specs.declared.Authenticator.{Authenticator}
use Rattle.forms.specs.declared.Delivery.{Delivery}
use Rattle.forms.specs.declared.Ticket.{Ticket}

-- step 5: "{K, a, Ts} under b's key"
abbrev pub ticket_form : Message → Option (ℕ × (ℕ × (ℕ × ℕ)))
ticket_form = under LONG_TERM_KEY ▸ first SESSION_KEY ▸ first PRINCIPAL ▸ atom TIME

abbrev pub ticket_of : ℕ × (ℕ × (ℕ × ℕ)) → Ticket
ticket_of (b, (k, (a, ts))) = record { k = k; a = a; ts = ts; b = b }

unfoldable pub ticket_in : Message → Option Ticket
ticket_in m = option_map ticket_of (ticket_form m)

-- step 5: "{a, Ta}K"
abbrev pub authenticator_form : Message → Option (ℕ × (ℕ × ℕ))
authenticator_form = under SESSION_KEY ▸ first PRINCIPAL ▸ atom TIME

abbrev pub authenticator_of : ℕ × (ℕ × ℕ) → Authenticator
authenticator_of (k, (a, ta)) = record { a = a; ta = ta; k = k }

unfoldable pub authenticator_in : Message → Option Authenticator
authenticator_in m = option_map authenticator_of (authenticator_form m)

-- step 5: "m is the pair of {K, a, Ts} under b's key and {a, Ta}K", one K and one a
abbrev pub delivery_of : Ticket → Authenticator → Option Delivery
delivery_of t u = cond (eqb u.a t.a && eqb u.k t.k) (Some (record { k = t.k; a = t.a; ts = t.ts; b = t.b; ta = u.ta })) None

abbrev pub both_in : Message → Message → Option Delivery
both_in x y = option_and_then (λ t. option_and_then (delivery_of t) (authenticator_in y)) (ticket_in x)

unfoldable pub delivery_in : Message → Option Delivery
delivery_in m = option_and_then (λ p. both_in p.0 p.1) (of_kind PAIR operands m)
