-- What follows from the definitions of the same name in specs/.
-- Assumes nothing.
use Prim.Native.Nat.{ℕ, ◌^◌, ◌<◌}
use Rattle.std.specs.Prelude.{◌≡◌, refl, true, false, ◌↔◌, length, get_or}
use Rattle.std.proofs.Math.Path.{sym, ap}
use Rattle.std.proofs.Common.{subst, ◌∙◌, arith}
use mathlib.Core.List.{List}
use Rattle.marks.specs.Marks.{marked}
use Rattle.terms.specs.Meaning.{message_at}
use Rattle.terms.specs.Message.{Message}
use Rattle.deduction.specs.Derives.{Derives}
use Rattle.deduction.specs.Known.{Known, Derivable}
use Rattle.synthesis.specs.Lent.{derived_of}
use Rattle.synthesis.proofs.LentLaws.{are_held, derived_all, cond_answered}
use Rattle.synthesis.proofs.Promises.{derived_exact}
use Rattle.exchange.specs.declared.call.Call.TheVariants.{Step}
use Rattle.exchange.specs.Calls.{accepts}
use Rattle.traces.specs.Conditions.{Delivers}
use Rattle.traces.specs.Realm as exchange
use Rattle.traces.specs.RuleSets.{Reading}
use Rattle.kerberos.specs.Log.{Event, Act, idle}
use Rattle.exchange.specs.Forms.{form_of}
use Rattle.kerberos.specs.Rules.{Takes, takes10}
use Rattle.realm.specs.declared.header.Realm.{Realm}
use Rattle.realm.proofs.HeaderLaws.{is_realm}
use Rattle.realm.specs.Opening.{realm_fits}
use Rattle.realm.specs.Tables.{Tables, Together}
use Rattle.simulation.proofs.Back.{brings}
use Rattle.simulation.specs.Engine.{Follows}
use Rattle.simulation.proofs.Exact.{own}
use Rattle.simulation.proofs.Rules.{delivers}
use Rattle.calls.proofs.Kept.{accepted_exact}
use Rattle.calls.specs.Lent.{lent_call}
use Rattle.calls.specs.Known.{known_of, known_in}

-- ---- by the way out

module _ (h : Realm) (ts ws out : List ℕ) where
  pub realm_misfit : realm_fits h ≡ false → (10, out) ≡ known_of h ts ws out
  unfolding known_of
  realm_misfit e = rw e

  pub realm_fit : realm_fits h ≡ true → derived_of h.n h.flags ts h.terms ws out ≡ known_of h ts ws out
  unfolding known_of
  realm_fit e = rw e

-- ---- what the set says

-- where the answer is 0, the set has a term exactly where its message can be derived
module _ (h : Realm) (ts ws out : List ℕ) (given : (known_of h ts ws out).0 ≡ 0) where
  pub known_exact : ((j : ℕ) → get_or ws j 0 < 2 ^ 64) → (i : ℕ)
      → (marked (known_of h ts ws out).1 i ≡ true) ↔ ((i < h.terms) × Derivable h.n h.flags ts h.terms ws i)
  unfolding known_of
  known_exact fit i =
      let f = cond_answered (realm_fits h) (derived_of h.n h.flags ts h.terms ws out) (10, out) (λ e. omega arith) given in
      let same = ap (λ (x : ℕ × List ℕ). marked x.1 i) (realm_fit h ts ws out f.0) in
      let exact = derived_exact h.n h.flags ts h.terms ws out f.1 fit i in
      (λ e. exact.0 (same ∙ e), λ p. sym same ∙ exact.1 p)

-- it is, on tables that hold together
pub known_given : (t : Tables) → Together t → (out : List ℕ) → length out ≡ 8 → (known_in t out).0 ≡ 0
known_given t w out eight =
    let h = t.realm in
    ap (λ (x : ℕ × List ℕ). x.0)
    (sym (realm_fit h t.terms t.wire out (is_realm h w.header_fits w.rules_known))
    ∙ derived_all h.n h.flags t.terms h.terms t.wire out
    (are_held h.n t.terms h.terms t.wire w.terms_hold w.wire_words.len w.wire_within) eight)

-- ---- tables that follow a reading

-- a query that is taken is of a term that the intruder can deliver
query_delivers : {R : exchange.Realm} {ρ : Reading Event} {i : ℕ} {act : Act} → Takes (form_of R.rules) R ρ.terms ρ.log (Step 10 0 0 0 i 0) act
    → (x : Message) × Delivers R ρ.terms ρ.log i x
query_delivers (takes10 {x = x} d) = (x, d)

module _ {R : exchange.Realm} {t : Tables} {ρ : Reading Event} (f : Follows R t ρ) (out : List ℕ) (eight : length out ≡ 8) (i : ℕ) where
  pub known_delivers : (marked (known_in t out).1 i ≡ true) ↔ ((x : Message) × Delivers R ρ.terms ρ.log i x)
  known_delivers =
      let w = f.together in
      let exact = known_exact t.realm t.terms t.wire out (known_given t w out eight) w.wire_words.fit i in (
        λ e. let p = exact.0 e in (
          message_at t.terms i,
          subst (λ (R : exchange.Realm). Delivers R ρ.terms ρ.log i (message_at t.terms i)) f.header_is
              (delivers t ρ w (own t ρ f) (record { below = p.0; is = refl; derivable = p.1 })),
        ),
        λ p.
            let b = brings t ρ w (own t ρ f) (subst (λ (R : exchange.Realm). Delivers R ρ.terms ρ.log i p.0) (sym f.header_is) p.1) in
            exact.1 (b.below, subst (Derives t.realm.n t.realm.flags (Known t.terms t.realm.terms t.wire)) (sym b.is) b.derivable),
      )

  pub known_query : i < 2 ^ 16 → (marked (known_in t out).1 i ≡ true) ↔ (accepts (lent_call t (Step 10 0 0 0 i 0)).answer ≡ true)
  known_query h =
      let taken = accepted_exact f (Step 10 0 0 0 i 0) (omega arith, omega arith, omega arith, omega arith, h, omega arith) in (
        λ e. let d = known_delivers.0 e in taken.1 (record { act = idle; takes = takes10 d.1 }),
        λ a. known_delivers.1 (query_delivers (taken.0 a).takes),
      )
