-- What follows from the definitions of the same name in specs/.
-- Assumes nothing.
use Rattle.std.specs.Prelude.{ℕ, ◌<◌, ◌≡◌, List, ◌∷◌}
use Rattle.std.proofs.Math.Decide.{ℕ_discrete}
use Rattle.std.proofs.Common.{arith}
use Rattle.terms.specs.Message.{long_term, session, Message, key, encrypted}
use Rattle.deduction.proofs.Secrecy.{guarded, was_issued, is_secret}
use Rattle.traces.specs.Conditions.{Derivable}
use Rattle.traces.specs.Lists.{here, there, ◌⊑◌, now, before}
use Rattle.traces.proofs.Lists.{in_later}
use Rattle.traces.specs.Logs.{Act, Log, did, OnWire, sent, Trace, start, add}
use Rattle.traces.proofs.Logs.{did_later, past}
use Rattle.traces.specs.Origins.{Origins, Some, by, Made, Leaked, Issued, Safe, Fine, Sound}
use Rattle.traces.specs.Realm.{Realm, Good}
use Rattle.traces.specs.Secrets.{Secret}
use Rattle.traces.specs.Laws.Secrecy.{Shows, itself, in_left, in_right}

some_later : {Event : Type 0} {P : Event → Type 0} {p l : Log Event} → p ⊑ l → Some p P → Some l P
some_later s (by i h) = by (did_later s i) h

-- The point before a call.
earlier : {A : Type 0} {x : A} {p l : List A} → (x ∷ p) ⊑ l → p ⊑ l
earlier now = before now
earlier (before s) = before (earlier s)

module _ {Event : Type 0} {O : Origins Event} {R : Realm} {Adds : Log Event → Act Event → Type 0} (S : Sound O R Adds) where
  -- ---- all that can be derived is guarded

  module _ {l : Log Event} {X : ℕ → Type 0} (safe : Safe O R l X) where
    derived_fine : {p : Log Event} → ((m : Message) → OnWire p m → Fine O R l X m) → (m : Message) → Derivable R p m → Fine O R l X m
    derived_fine {p} wire m d = guarded R.n R.flags (OnWire p) (Secret R X) (Made O l) wire safe.not_own (λ p b g. g b) d

    wire_fine : {p : Log Event} → Trace Adds p → p ⊑ l → (m : Message) → OnWire p m → Fine O R l X m
    wire_fine start s m (sent i h) = elim i [ ]
    wire_fine (add w t) s m (sent here h) = S.guards safe (did (in_later s here)) (derived_fine (wire_fine w (earlier s))) t h
    wire_fine (add w t) s m (sent (there i) h) = wire_fine w (earlier s) m (sent i h)

    fine : Trace Adds l → (m : Message) → Derivable R l m → Fine O R l X m
    fine w m d = derived_fine (wire_fine w now) m d

  -- ---- which keys may be secret

  none_safe : (l : Log Event) → Safe O R l (λ i. ⊥)
  none_safe l = record { decide = λ i. no (λ x. x); not_own = λ i o x. x; not_leaked = λ i h x. x; issued_to_good = λ i a b h x. absurd x }

  low : {l : Log Event} {k a b : ℕ} → Trace Adds l → Issued O l k a b → k < 64
  low w (by i h) = S.issues_low (past w i).adds h

  -- A key that is ever issued to two good principals, at every point at which it has not leaked.
  module _ {l p : Log Event} {A B k : ℕ} (w : Trace Adds l) (goodA : Good R A) (goodB : Good R B) (issued : Issued O l k A B) (s : p ⊑ l) where
    same : (i a b : ℕ) → Issued O p i a b → i ≡ k → (A ≡ a) × (B ≡ b)
    same i a b h e = S.issues_once w issued (some_later s (rw e at h))

    pub issued_safe : ¬ (Leaked O p k) → Safe O R p (λ i. i ≡ k)
    issued_safe unleaked = record {
      decide = λ i. ℕ_discrete i k;
      not_own = λ i o e. omega (arith, low w issued);
      not_leaked = λ i h e. unleaked (rw e at h);
      issued_to_good = λ i a b h e. let g = same i a b h e in (rw g.0 at goodA, rw g.1 at goodB);
    }

  -- ---- what can be derived

  module _ {l : Log Event} (w : Trace Adds l) where
    -- An encryption under a good principal's key was made.
    pub made_long_term : {q : ℕ} {m : Message} → Good R q → Derivable R l (encrypted m (long_term q)) → Made O l (encrypted m (long_term q))
    made_long_term g d = was_issued g (fine (none_safe l) w _ d)

    -- Of a secret session key: it cannot be derived,
    module _ {X : ℕ → Type 0} (safe : Safe O R l X) {k : ℕ} (x : X k) where
      pub key_secret : ¬ (Derivable R l (key (session k)))
      key_secret d = fine safe w _ d x

      -- an encryption under it was made,
      pub made_session : {m : Message} → Derivable R l (encrypted m (session k)) → Made O l (encrypted m (session k))
      made_session d = was_issued x (fine safe w _ d)

      shown : {m : Message} → Shows k m → ¬ (Fine O R l X m)
      shown itself f = f x
      shown (in_left h) f = shown h f.0
      shown (in_right h) f = shown h f.1

      -- and so was an encryption under anybody's key that shows it.
      pub made_showing : {q : ℕ} {m : Message} → Shows k m → Derivable R l (encrypted m (long_term q)) → Made O l (encrypted m (long_term q))
      made_showing h d = let f = fine safe w _ d in was_issued (is_secret (shown h) f) f
