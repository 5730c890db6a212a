-- What follows from the definitions of the same name in specs/.
-- Assumes nothing.
use Rattle.std.specs.Prelude.{ℕ, ◌^◌, ◌<◌, ◌≤◌, ◌≡◌, refl, true, List}
use Rattle.std.proofs.Common.{arith}
use Rattle.drafts.specs.Writes.{Writes}
use Rattle.terms.specs.Meaning.{message_at}
use Rattle.terms.specs.Message.{Message}
use Rattle.layers.proofs.Promises.{in_range_lem}
use Rattle.runs.specs.Lent.{has_stage, PrincipalsFit}
use Rattle.exchange.specs.declared.call.Call.{Call}
use Rattle.exchange.specs.declared.run.Role.{Role}
use Rattle.exchange.specs.declared.run.Role.TheVariants.{Initiator, Responder, Server}
use Rattle.exchange.specs.declared.run.Row.{Row}
use Rattle.exchange.specs.declared.run.Stage.{Stage}
use Rattle.exchange.specs.Calls.{Sized}
use Rattle.kerberos.specs.Log.{Event}
use Rattle.kerberos.specs.Messages.{request}
use Rattle.realm.specs.Tables.{Tables, Together}
use Rattle.decisions.specs.declared.Effect.{Effect}
use Rattle.decisions.proofs.Laws.Forms.{issue_shows, issue_writes, grant_key, presented_writes}
use Rattle.decisions.specs.Laws.Took.{row_at, form_at, Meets, Brings, Took, took1, took2, took3, took4, took5, took6, took7, took8, took9, took10}
use Rattle.decisions.specs.Laws.Fits.{RowFits, EffectFits}

-- ---- what a step met

not_initiator : ¬ (Initiator ≡ Server)
not_initiator e = let z : ◌≡◌ {A = ℕ} 0 1 = cc in absurd (omega arith)

not_responder : ¬ (Responder ≡ Server)
not_responder e = let z : ◌≡◌ {A = ℕ} 0 1 = cc in absurd (omega arith)

module _ (t : Tables) (fits : Together t) where
  brought : {m : ℕ} {x : Message} → Brings t m x → Writes t.realm.n x
  brought d = in_range_lem fits.terms_hold d.below d.is

  -- a run that is no server's
  party : {ms : List Message} {r : ℕ} {x : Row} → has_stage x.role x.stage ≡ true → PrincipalsFit t.realm.n x.a x.b → x.k ≤ 95 → ¬ (x.role ≡ Server)
      → RowFits t.realm.n ms r x
  party s p k other = record { stage = s; principals = p; key = k; server = λ e. absurd (other e) }

  principals : {r : ℕ} {role : Role} {stage : Stage} → Meets t r role stage → PrincipalsFit t.realm.n (row_at t r).a (row_at t r).b
  principals {r} v = (fits.rows_hold.holds r v.below).principals

  now : t.realm.clock < 2 ^ 32
  now = fits.clock_fits

  pub took_fits : {c : Call} {e : Event} {x : Effect} → Took t c e x → EffectFits t x
  took_fits (took1 p room) =
      record { row = (room, party refl p (omega arith) not_initiator); entry = tt; writes = ((p.a_below, (p.b_below, omega (arith, room))), tt); carries = tt }
  took_fits (took2 p room) = record { row = (room, party refl p (omega arith) not_responder); entry = tt; writes = tt; carries = tt }
  took_fits (took3 {a = a} {b = b} {n = n} d p room) =
      let w : Writes t.realm.n (request a b n) = brought d in
      let own : t.realm.runs ≤ 95 = omega (arith, room) in
      record {
        row = (
          room,
          record {
            stage = refl;
            principals = record { a_below = w.0; b_below = w.1.0; apart = p };
            key = own;
            server = λ e. (refl, issue_shows (form_at t) _ _ _ _ _);
          },
        );
        entry = tt;
        writes = issue_writes t.realm.n (form_at t) own w.0 w.1.0 now w.1.1;
        carries = tt;
      }
  took_fits (took4 {r} {k = k} {ts = ts} {x = x} v d c i) =
      let p = principals v in
      let most = grant_key t.realm.n (form_at t) k (row_at t r).b ts r (row_at t r).a (message_at t.terms x) (brought d) in
      record {
        row = (v.below, party refl p most not_initiator);
        entry = tt;
        writes = presented_writes t.realm.n (form_at t) (message_at t.terms x) p.a_below now most (in_range_lem fits.terms_hold c.below refl);
        carries = c.below;
      }
  took_fits (took5 v d i) =
      let w = brought d in
      let p = principals v in
      record {
        row = (v.below, party refl p w.0.0.0 not_responder);
        entry = (i.room, record { b_below = p.b_below; k_most = w.0.0.0 });
        writes = ((w.1.0.1, w.0.0.0), tt);
        carries = tt;
      }
  took_fits (took6 {r} v d i) =
      record { row = (v.below, party refl (principals v) (fits.rows_hold.holds r v.below).key not_initiator); entry = tt; writes = tt; carries = tt }
  took_fits (took7 h) = record { row = tt; entry = tt; writes = tt; carries = tt }
  took_fits (took8 h) = record { row = tt; entry = tt; writes = tt; carries = tt }
  took_fits (took9 v) = record { row = tt; entry = tt; writes = (omega (arith, v.below, fits.rows_hold.room), tt); carries = tt }
  took_fits (took10 d) = record { row = tt; entry = tt; writes = tt; carries = tt }

  -- the clock stays a time: the t of step 7 is one
  pub took_clock : {c : Call} {e : Event} {x : Effect} → Took t c e x → Sized c → x.clock < 2 ^ 32
  took_clock (took1 p l) s = now
  took_clock (took2 p l) s = now
  took_clock (took3 b a l) s = now
  took_clock (took4 m b c l) s = now
  took_clock (took5 m b a) s = now
  took_clock (took6 m b l) s = now
  took_clock (took7 l) s = s.5
  took_clock (took8 l) s = now
  took_clock (took9 m) s = now
  took_clock (took10 b) s = now
