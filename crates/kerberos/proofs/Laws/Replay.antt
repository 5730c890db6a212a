-- No two runs accept one authenticator: the replay cache holds it for as long as it lives, since it is forgotten exactly when
-- its life is over.
-- Assumes nothing.
use Rattle.std.specs.Prelude.{ℕ, ◌+◌, ◌≤◌, ◌≡◌, refl, ◌⊎◌, Bool, true, false, ◌&&◌, cond, List, [], ◌∷◌, ◌++◌, leb, eqb}
use Rattle.std.proofs.Common.{inl, inr, ⊎_elim, arith, leb-true}
use Rattle.std.proofs.Math.Bool.{and-eq-true_iff}
use Rattle.terms.specs.Message.{Message}
use Rattle.traces.specs.Realm.{Realm}
use Rattle.traces.specs.Lists.{◌∈◌, here, there}
use Rattle.traces.specs.Logs.{start, Did, did, add}
use Rattle.traces.specs.RuleSets.{Entry, entry, refused, taken}
use Rattle.exchange.specs.declared.form.Form.{Form}
use Rattle.kerberos.specs.Log.{Event, Accept, Log, forget, cache, clock}
use Rattle.kerberos.specs.Rules.{takes_term, takes1, takes2, takes3, takes4, takes5, takes6, takes7, takes8, takes9, takes10}
use Rattle.kerberos.proofs.Laws.Trace.{Adds, Trace}

-- ---- step 5 remembers

in_last : {x : Entry} (c : List Entry) → x ∈ (c ++ (x ∷ []))
in_last [] = here
in_last (y ∷ c) = there (in_last c)

accept_remembers : (R : Realm) (l : Log) (ms : List Message) (r a b k ts ta : ℕ) → entry b k ta ∈ cache R ((Accept r a b k ts ta, ms) ∷ l)
accept_remembers R l ms r a b k ts ta = in_last (cache R l)

in_append : {x : Entry} {c : List Entry} (d : List Entry) → x ∈ c → x ∈ (c ++ d)
in_append d here = here
in_append d (there i) = there (in_append d i)

-- ---- step 8 forgets only what is dead

pass_on : (t : Bool) {x : Entry} (y : Entry) {c : List Entry} {D : Type 0} → (x ∈ c) ⊎ D → (x ∈ cond t c (y ∷ c)) ⊎ D
pass_on true y h = h
pass_on false y (inl i) = inl (there i)
pass_on false y (inr d) = inr d

test : (t : Bool) (x : Entry) (c : List Entry) {D : Type 0} → (t ≡ true → D) → (x ∈ cond t c (x ∷ c)) ⊎ D
test true x c f = inr (f refl)
test false x c f = inl here

forgets : {b k ta : ℕ} (b' t life : ℕ) {c : List Entry} → entry b k ta ∈ c → (entry b k ta ∈ forget b' t life c) ⊎ (ta + life ≤ t)
forgets {b} {k} {ta} b' t life here = test (eqb b b' && leb (ta + life) t) _ _ (λ e. leb-true _ _ ((and-eq-true_iff (eqb b b') _).0 e).1)
forgets b' t life (there {y = entry b₂ k₂ ta₂} i) = pass_on (eqb b₂ b' && leb (ta₂ + life) t) (entry b₂ k₂ ta₂) (forgets b' t life i)

-- ---- an accepted authenticator is in the cache or dead

Remembered : Realm → Log → (b k ta : ℕ) → Type 0
Remembered R l b k ta = (entry b k ta ∈ cache R l) ⊎ (ta + R.auth_life ≤ clock l)

stays : {f : Form} {R : Realm} {l : Log} {e : Event} {ms : List Message} (b k ta : ℕ) → Adds f R l (e, ms) → Remembered R l b k ta → Remembered R ((e, ms) ∷ l) b k ta
unfolding Remembered
stays b k ta refused h = h
stays b k ta (taken (takes_term i m f)) h = h
stays b k ta (taken (takes1 i p s f)) h = h
stays b k ta (taken (takes2 i p s)) h = h
stays b k ta (taken (takes3 d p s f)) h = h
stays b k ta (taken (takes4 x e d o t f)) h = h
stays b k ta (taken (takes5 e d t u v n s f)) (inl i) = inl (in_append _ i)
stays b k ta (taken (takes5 e d t u v n s f)) (inr o) = inr o
stays b k ta (taken (takes6 e d t)) h = h
stays b k ta (taken (takes7 t)) (inl i) = inl i
stays b k ta (taken (takes7 t)) (inr o) = inr (omega arith)
stays {R = R} {l = l} b k ta (taken (takes8 {b = b'} p)) (inl i) = forgets b' (clock l) R.auth_life i
stays b k ta (taken (takes8 p)) (inr o) = inr o
stays b k ta (taken (takes9 e)) h = h
stays b k ta (taken (takes10 d)) h = h

remembered : {f : Form} {R : Realm} {l : Log} {r a b k ts ta : ℕ} {ms : List Message} → Trace f R l → (Accept r a b k ts ta, ms) ∈ l → Remembered R l b k ta
unfolding Remembered
remembered start i = elim i [ ]
remembered {R = R} {r = r} {a = a} {b = b} {k = k} {ts = ts} {ta = ta} {ms = ms} (add {l = l} w t) here = inl (accept_remembers R l ms r a b k ts ta)
remembered (add {a = (e, ms)} w t) (there i) = stays _ _ _ t (remembered w i)

-- ---- so step 5 takes none that was accepted before

fresh : {f : Form} {R : Realm} {l : Log} {r a b k ts ta r' a' ts' : ℕ} {ms ms' : List Message}
    → Trace f R l
    → Adds f R l (Accept r a b k ts ta, ms)
    → (Accept r' a' b k ts' ta, ms') ∈ l
    → ⊥
unfolding Remembered
fresh w (taken (takes5 e d t u v n s f)) i = ⊎_elim n (λ o. omega arith) (remembered w i)

once : {f : Form} {R : Realm} {l : Log} {r a b k ts ta r' a' b' k' ts' ta' : ℕ} {ms ms' : List Message}
    → Trace f R l
    → (Accept r a b k ts ta, ms) ∈ l
    → (Accept r' a' b' k' ts' ta', ms') ∈ l
    → b ≡ b'
    → k ≡ k'
    → ta ≡ ta'
    → r ≡ r'
once w here here p q s = refl
once (add w t) here (there j) p q s = absurd (fresh w t (rw (← p, ← q, ← s) at j))
once (add w t) (there i) here p q s = absurd (fresh w t (rw (p, q, s) at i))
once (add w t) (there i) (there j) p q s = once w i j p q s

pub accept_once : {f : Form} {R : Realm} {l : Log} {r a b k ts ta r' a' ts' : ℕ} → Trace f R l → Did l (Accept r a b k ts ta) → Did l (Accept r' a' b k ts' ta) → r ≡ r'
accept_once w (did i) (did j) = once w i j refl refl refl
