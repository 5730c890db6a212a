-- The wire after a call: what was there, and what the call sends.
-- Assumes nothing.
use Rattle.std.specs.Prelude.{refl, ◌↔◌, ◌⊎◌}
use Rattle.std.proofs.Common.{subst, inl, inr, ⊎_elim}
use mathlib.Core.List.{List, ◌∷◌, Memᴰ}
use Rattle.terms.specs.Message.{Message}
use Rattle.traces.specs.Lists.{◌∈◌, here, there}
use Rattle.traces.specs.Logs.{OnWire}
use Rattle.traces.proofs.Logs.{wire_after}
use Rattle.kerberos.specs.Log.{Event, Log}

-- the two ways to say that a list has a member

member_in : {m : Message} (l : List Message) → Memᴰ m l → m ∈ l
member_in mathlib.Core.List.[] x' = elim x' [ ]
member_in {m} (x ∷ l) (Memᴰ.head e) = subst (λ (y : Message). m ∈ (y ∷ l)) e here
member_in (x ∷ l) (Memᴰ.tail i) = there (member_in l i)

in_member : {m : Message} {l : List Message} → m ∈ l → Memᴰ m l
in_member here = Memᴰ.head refl
in_member (there i) = Memᴰ.tail (in_member i)

module _ (Old New : Message → Type 0) (l : Log) (e : Event) (ms : List Message) (same : (m : Message) → Old m ↔ OnWire l m) where
  pub wire_follows : ((m : Message) → New m ↔ (Old m ⊎ Memᴰ m ms)) → (m : Message) → New m ↔ OnWire ((e, ms) ∷ l) m
  wire_follows grown m = (
    λ k. wire_after.1 (⊎_elim (λ o. inr ((same m).0 o)) (λ i. inl (member_in ms i)) ((grown m).0 k)),
    λ k. (grown m).1 (⊎_elim (λ i. inr (in_member i)) (λ o. inl ((same m).1 o)) (wire_after.0 k)),
  )
