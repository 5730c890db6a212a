-- Each way out of a whole step, 20 among them.
-- Assumes nothing.
use Rattle.std.specs.Prelude.{ℕ, ◌+◌, ◌<◌, ◌≤◌, ◌≡◌, List, Ok, Err}
use Rattle.std.proofs.Math.Path.{sym}
use Rattle.std.proofs.Common.{ap, arith}
use borrow.Author.Tests.{lt-leb, le-leb}
use Rattle.sending.specs.declared.Prepared.{Prepared}
use Rattle.sending.proofs.Promises.{room_known}
use Rattle.sending.specs.Send.{PlanFor}
use Rattle.realm.specs.declared.input.Step.{Step}
use Rattle.realm.specs.Tables.{Tables, Together}
use Rattle.decisions.specs.declared.Effect.{Effect}
use Rattle.decisions.specs.Decision.{decided, roomed, decision}
use Rattle.decisions.specs.Effects.{messages_of}
use Rattle.decisions.proofs.Promises.{taken_fits}
use Rattle.deciding.specs.Layout.{CanSend}

module _ (t : Tables) (s : Step) where
  pub decision_refused : {k : ℕ} → decided t s ≡ Err k → Err k ≡ decision t s
  unfolding decision
  decision_refused e = sym (ap (roomed t) e)

  module _ {x : Effect} (e : decided t s ≡ Ok x) where
    -- its messages can be planned
    pub can_send : Together t → CanSend t.terms t.realm.terms x.sends
    can_send w =
        let f = taken_fits t s w e in
        record { n = t.realm.n; small = omega (arith, w.header_fits.most); table = w.terms_hold; writes = f.writes; carries = f.carries }

    module _ {words : List ℕ} {r : Prepared} (p : PlanFor t.terms t.realm.terms (messages_of t.terms x.sends) words r) where
      pub decision_full : 512 < t.realm.terms + r.count → Err 20 ≡ decision t s
      unfolding decision
      decision_full lt = rw (e, ← room_known p, lt-leb (t.realm.terms + r.count) 512 lt)

      pub decision_taken : t.realm.terms + r.count ≤ 512 → Ok x ≡ decision t s
      unfolding decision
      decision_taken le = rw (e, ← room_known p, le-leb (t.realm.terms + r.count) 512 le)
