-- From histories to logs, for any rule set: a lawful history reads as a trace, and its points as points of the log. An engine's
-- histories are lawful, and its tables fit their readings.
-- Assumes nothing.
use Rattle.std.specs.Prelude.{◌≡◌, refl, Bool, true, false, List, [], ◌∷◌, ◌⊎◌}
use Rattle.std.proofs.Common.{inl, inr, ⊎_elim}
use Rattle.exchange.specs.declared.call.Call.{Call}
use Rattle.exchange.specs.Calls.{Answer, accepts, AllSized}
use Rattle.traces.specs.Engines.{Engine, after, history}
use Rattle.traces.specs.Lists.{◌⊑◌, now, before}
use Rattle.traces.specs.Logs.{Log, Trace, start, add}
use Rattle.traces.specs.Realm.{Realm, HeaderPasses}
use Rattle.traces.specs.RuleSets.{History, Reading, RuleSet, read, reading, log, Taken, Lawful, new, call, Adds, refused, taken}

module _ (S : RuleSet) where
  point_read : (t : Bool) (c : Call) (ρ : Reading S.Event) {p : Log S.Event} → p ⊑ ρ.log → p ⊑ (read S t c ρ).log
  point_read true c ρ s = before s
  point_read false c ρ s = before s

  pub log_point : {p h : History} → p ⊑ h → log S p ⊑ log S h
  log_point now = now
  log_point (before {l = h} {x = (c, a)} s) = point_read (accepts a) c (reading S h) (log_point s)

  -- and each point of the log is one of the history
  pub record PointOf (h : History) (p : Log S.Event) : Type 0 where
    pub at : History
    pub point : at ⊑ h
    pub is : log S at ≡ p

  point_later : {h : History} {x : Call × Answer} {p : Log S.Event} → PointOf h p → PointOf (x ∷ h) p
  point_later q = record { at = q.at; point = before q.point; is = q.is }

  point_split : (t : Bool) (c : Call) (ρ : Reading S.Event) {p : Log S.Event} → p ⊑ (read S t c ρ).log → ((read S t c ρ).log ≡ p) ⊎ (p ⊑ ρ.log)
  point_split true c ρ now = inl refl
  point_split true c ρ (before s) = inr s
  point_split false c ρ now = inl refl
  point_split false c ρ (before s) = inr s

  pub point_of : (h : History) {p : Log S.Event} → p ⊑ log S h → PointOf h p
  point_of [] now = record { at = []; point = now; is = refl }
  point_of ((c, a) ∷ h) s = ⊎_elim (λ e. record { at = (c, a) ∷ h; point = now; is = e }) (λ z. point_later (point_of h z)) (point_split (accepts a) c (reading S h) s)

  trace_read : {R : Realm} (t : Bool) (c : Call) (ρ : Reading S.Event)
      → Trace (Adds S R) ρ.log → (t ≡ true → Taken S R ρ c) → Trace (Adds S R) (read S t c ρ).log
  trace_read true c ρ w f = add w (taken (f refl))
  trace_read false c ρ w f = add w refused

  pub trace_of : {R : Realm} {h : History} → Lawful S R h → Trace (Adds S R) (log S h)
  trace_of (new header) = start
  trace_of (call {h = h} {c = c} {a = a} w f) = trace_read (accepts a) c (reading S h) (trace_of w) f

  module _ (R : Realm) (E : Engine S R) where
    pub fits : (cs : List Call) → AllSized cs → E.Fits (after S R E cs) (reading S (history S R E cs))
    fits [] z = E.fits_start
    fits (c ∷ cs) z = E.fits_next (after S R E cs) (reading S (history S R E cs)) c z.0 (fits cs z.1)

    pub lawful : HeaderPasses R → (cs : List Call) → AllSized cs → Lawful S R (history S R E cs)
    lawful header [] z = new header
    lawful header (c ∷ cs) z = call (lawful header cs z.1) (E.takes (after S R E cs) (reading S (history S R E cs)) c z.0 (fits cs z.1))
