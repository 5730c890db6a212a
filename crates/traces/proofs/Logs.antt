-- What follows from the definitions of the same name in specs/.
-- Assumes nothing.
use Rattle.std.specs.Prelude.{List, ◌∷◌, ◌⊎◌, ◌↔◌}
use Rattle.std.proofs.Common.{inl, inr}
use Rattle.terms.specs.Message.{Message}
use Rattle.traces.specs.Lists.{◌∈◌, here, there, ◌⊑◌, now, before}
use Rattle.traces.proofs.Lists.{in_later}
use Rattle.traces.specs.Logs.{Act, Log, Did, did, OnWire, sent, Trace, add}

-- Each point of a trace ends a trace of its own.
pub trace_at : {A : Type 0} {Adds : List A → A → Type 0} {p l : List A} → Trace Adds l → p ⊑ l → Trace Adds p
trace_at w now = w
trace_at (add w t) (before s) = trace_at w s

-- An event of the log, the point at which it was added, and what was sent with it.
pub record Past {Event : Type 0} (Adds : Log Event → Act Event → Type 0) (l : Log Event) (e : Event) : Type 0 where
  pub then : Log Event
  pub point : then ⊑ l
  pub sent : List Message
  pub adds : Adds then (e, sent)

past_at : {Event : Type 0} {Adds : Log Event → Act Event → Type 0} {l : Log Event} {e : Event} {ms : List Message}
    → Trace Adds l → (e, ms) ∈ l → Past Adds l e
past_at {Event = Event} {Adds = Adds} {e = e} {ms = ms} Rattle.traces.specs.Logs.start x3 = elim x3 [ ]
past_at (add w t) here = record { then = _; point = before now; sent = _; adds = t }
past_at (add w t) (there i) = let p = past_at w i in record { then = p.then; point = before p.point; sent = p.sent; adds = p.adds }

pub past : {Event : Type 0} {Adds : Log Event → Act Event → Type 0} {l : Log Event} {e : Event}
    → Trace Adds l → Did l e → Past Adds l e
past w (did i) = past_at w i

-- ---- points

pub did_later : {Event : Type 0} {p l : Log Event} {e : Event} → p ⊑ l → Did p e → Did l e
did_later s (did i) = did (in_later s i)

-- Nothing ever leaves the wire;
pub wire_later : {Event : Type 0} {p l : Log Event} → p ⊑ l → (m : Message) → OnWire p m → OnWire l m
wire_later s m (sent i h) = sent (in_later s i) h

-- after a call it is what the call sent and what was there.
wire_from : {Event : Type 0} {l : Log Event} {e : Event} {ms : List Message} {m : Message} → OnWire ((e, ms) ∷ l) m → (m ∈ ms) ⊎ OnWire l m
wire_from (sent here h) = inl h
wire_from (sent (there i) h) = inr (sent i h)

wire_to : {Event : Type 0} {l : Log Event} {e : Event} {ms : List Message} {m : Message} → (m ∈ ms) ⊎ OnWire l m → OnWire ((e, ms) ∷ l) m
wire_to (inl h) = sent here h
wire_to (inr (sent i h)) = sent (there i) h

pub wire_after : {Event : Type 0} {l : Log Event} {e : Event} {ms : List Message} {m : Message} → OnWire ((e, ms) ∷ l) m ↔ ((m ∈ ms) ⊎ OnWire l m)
wire_after = (wire_from, wire_to)
