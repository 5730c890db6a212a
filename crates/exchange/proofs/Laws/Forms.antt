-- Which form each header mark names.
-- Assumes nothing.
use Rattle.std.specs.Prelude.{◌≡◌, refl}
use Rattle.exchange.specs.declared.form.Form.TheVariants.{Parallel, Kerberos5, Kerberos4}
use Rattle.exchange.specs.Forms.{forms, form_of}
use Rattle.exchange.specs.Formats.{hd, hw, h5, h4}

pub mark_forms : (form_of hd.rules ≡ Parallel) × (form_of hw.rules ≡ Parallel) × (form_of h5.rules ≡ Kerberos5) × (form_of h4.rules ≡ Kerberos4)
unfolding forms
mark_forms = (refl, refl, refl, refl)
