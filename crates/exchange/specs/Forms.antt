-- The forms of the Kerberos exchange (document 02, change 6; document 003, sections 3.6 to 3.8) by the numbers of their rule sets. A
-- constant table.
-- Assumes nothing.
use Rattle.std.specs.Prelude.{ℕ, List, [], ◌∷◌, get_or}
use Rattle.exchange.specs.declared.form.Form.{Form}
use Rattle.exchange.specs.declared.form.Form.TheVariants.{Parallel, Kerberos5, Kerberos4}

-- "the old one under HD and HW", then those of H5 and H4; a number past them names "no such set"
unfoldable pub forms : List Form
forms = Parallel ∷ Kerberos5 ∷ Kerberos4 ∷ []

-- how many rule sets there are
abbrev pub RULE_SETS : ℕ
RULE_SETS = 3

-- a number past the table reads as the first form; that 10 keeps it from being met is said of the realm
abbrev pub form_of : (rules : ℕ) → Form
form_of rules = get_or forms rules Parallel
