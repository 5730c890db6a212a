-- Opening a realm (document 01, "The hall and its clock"), or refusal 1 or 2.
-- Assumes nothing.
use Rattle.std.specs.Prelude.{ℕ, zero, suc, ◌/◌, ◌^◌, Bool, not, ◌&&◌, cond, ltb, leb, eqb, Option, Some, None, Result, Ok, Err}
use Rattle.marks.specs.Marks.{is_set}
use Rattle.exchange.specs.declared.header.Format.{Format}
use Rattle.exchange.specs.declared.header.Header.{Header}
use Rattle.exchange.specs.Formats.{format_of}
use Rattle.exchange.specs.Forms.{RULE_SETS}
use Rattle.traces.specs.Realm as exchange
use Rattle.realm.specs.declared.header.Realm.{Realm}

-- the header of a realm, as the exchange has it
abbrev pub header : Realm → exchange.Realm
header h = record { rules = h.rules; n = h.n; flags = h.flags; ticket_life = h.ls; auth_life = h.la }

-- not: "n outside 3 to 16, a flag on party 0 or at n and above, or a life of 0", with the mark's limit in place of 16
unfoldable pub header_fits : (most n flags ls la : ℕ) → Bool
header_fits most n flags ls la =
    (leb 3 n && leb n most) && (not (is_set flags 0) && eqb (flags / 2 ^ n) 0 && ltb 0 ls && ltb 0 la)

-- what 10 asks of a realm: not "a header value as in 2", n being 3 to 32 "in every hall", and not "naming no such set"
unfoldable pub realm_fits : Realm → Bool
realm_fits h = header_fits 32 h.n h.flags h.ls h.la && ltb h.rules RULE_SETS

-- 0, or the number of the refusal: 1 for a mark that is not known, then 2, which reads the mark's limit
abbrev pub limit_refusal : (most : ℕ) → Header → ℕ
limit_refusal most g = cond (header_fits most g.n g.flags g.ls g.la) 0 2

abbrev pub refusal_by : Option Format → Header → ℕ
refusal_by (Some f) g = limit_refusal f.most g
refusal_by None g = 1

unfoldable pub header_refusal : Header → ℕ
header_refusal g = refusal_by (format_of g.mark) g

-- "rule sets, named by header marks"
abbrev pub rules_by : Option Format → ℕ
rules_by (Some f) = f.rules
rules_by None = 0

-- "A new hall has clock 0 and empty tables."
abbrev pub new_under : (rules : ℕ) → Header → Realm
new_under rules g =
    record { n = g.n; rules = rules; flags = g.flags; ls = g.ls; la = g.la; clock = 0; terms = 0; runs = 0; entries = 0 }

abbrev pub new_realm : Header → Realm
new_realm g = new_under (rules_by (format_of g.mark)) g

abbrev pub opening_by : (refusal rules : ℕ) → Header → Result Realm ℕ
opening_by zero rules g = Ok (new_under rules g)
opening_by (suc k) rules g = Err (suc k)

unfoldable pub opening_of : Header → Result Realm ℕ
opening_of g = opening_by (header_refusal g) (rules_by (format_of g.mark)) g
