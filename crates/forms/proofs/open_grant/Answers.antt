-- `forms::open_grant` meets its contract: by the form. Assumes nothing.
use Rattle.forms.specs.Grant.{grant_in}
use Rattle.forms.proofs.open_grant.Goals as goal

pub returns-in-Parallel : goal.returns-in-Parallel
unfolding grant_in
returns-in-Parallel c = rw c.in-Parallel.is c.open_beside.ensures

pub returns-in-Kerberos5 : goal.returns-in-Kerberos5
unfolding grant_in
returns-in-Kerberos5 c = rw c.in-Kerberos5.is c.open_pair.ensures

pub returns-in-Kerberos4 : goal.returns-in-Kerberos4
unfolding grant_in
returns-in-Kerberos4 c = rw c.in-Kerberos4.is c.open_inside.ensures
