-- `call`: a cache lent with other than its sixteen places is refused, else the call by value, and its cache stored back.
use Rattle.std.proofs.Common.{List, ap, ◌∙◌}
use Rattle.replay.specs.declared.entry.Entry.{Entry}
use Rattle.realm.specs.Tables.{tables}
use Rattle.effects.specs.Call.{checked}
use Rattle.calls.specs.Lent.{lent_outcome}
use Rattle.calls.proofs.Lent.{lent_10, lent_checked}
use Rattle.calls.proofs.call.Goals as goal

pub returns-then-list-ne-PLACES : goal.returns-then-list-ne-PLACES
returns-then-list-ne-PLACES c = let a = c.args in lent_10 (tables a.h a.terms.now a.runs.now a.wire.now a.list.now) a.c c.if-list-ne-PLACES.true

pub returns : goal.returns
returns c =
    let a = c.args in
    let r = c.checked_call-after.result in
    let s = c.checked_call-after.new in
    let back = λ (list : List Entry). lent_outcome (record { realm = r.realm; answer = r.answer }) s.terms s.runs s.wire list in
    let lent = λ (list : List Entry). checked (tables a.h a.terms.now a.runs.now a.wire.now list) a.c in
    ap back c.store.ensures
    ∙ c.checked_call-after.ensures
    ∙ ap lent c.load.ensures
    ∙ lent_checked (tables a.h a.terms.now a.runs.now a.wire.now a.list.now) a.c c.if-list-ne-PLACES.false
