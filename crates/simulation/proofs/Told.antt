-- What follows from the definitions of the same name in specs/.
-- Assumes nothing.
use Rattle.std.specs.Prelude.{ℕ, zero, suc, ◌+◌, ◌-◌, ◌<◌, ◌≡◌, refl, true, List, [], ◌∷◌, length, Ok}
use Rattle.std.proofs.Common.{sym, ap, ◌∙◌, arith}
use Rattle.std.proofs.Math.Option.{some, some-injective}
use Rattle.std.proofs.Math.Decide.{ℕ_discrete}
use Rattle.words.specs.Word.{packed}
use Rattle.terms.specs.Add.{add_of}
use Rattle.terms.proofs.Choice.{no_true, ite_holds, ite_fails}
use Rattle.terms.specs.Meaning.{message_at}
use Rattle.terms.specs.Message.{Message}
use Rattle.terms.proofs.Number.{messages_once}
use Rattle.terms.specs.Outcome.{TermAnswer, number, refused}
use Rattle.terms.specs.Valid.{Valid}
use Rattle.messages.specs.Listed.{term_at, same}
use Rattle.messages.specs.Meanings.{meanings}
use Rattle.messages.proofs.Meanings.{meanings_length, meanings_at, at_meanings}
use Rattle.exchange.specs.declared.call.Accepted.TheVariants.{Old, New}
use Rattle.exchange.specs.declared.call.Call.{Call}
use Rattle.exchange.specs.declared.call.Call.TheVariants as calls
use Rattle.exchange.specs.Calls.{accepts, Sized}
use Rattle.traces.specs.Engines.{Agrees}
use Rattle.traces.specs.Realm.{Realm}
use Rattle.traces.specs.RuleSets.{Reading, read}
use Rattle.traces.specs.Terms.{message_from}
use Rattle.kerberos.specs.Log.{Event}
use Rattle.kerberos.specs.Reading.{set_of}
use Rattle.realm.specs.Tables.{Tables}
use Rattle.effects.specs.Call.{numbered, called}
use Rattle.effects.proofs.Kept.{same_old, more_new}
use Rattle.effects.proofs.Promises.{added_counted}
use Rattle.simulation.specs.Engine.{Follows}
use Rattle.simulation.proofs.Engine.{Matches, call_matches, step_matches}
use Rattle.simulation.proofs.Terms.{is, way, older, term_made, term_fresh}
use Rattle.simulation.specs.Values.{values_of}
use Rattle.simulation.specs.Told.{term_told, GrowsBy}

-- ---- the reading's table

module _ {R : Realm} {t : Tables} {ρ : Reading Event} (f : Follows R t ρ) where
  counted : (u : Tables) (σ : Reading Event) → Agrees (set_of R) R (values_of R u) σ → u.realm.terms ≡ length σ.terms
  counted u σ a = sym (meanings_length u.terms u.realm.terms) ∙ ap length a.terms_are

  grown : (c : Call) → let o = called t c in Matches R o.tables (read (set_of R) (accepts o.answer) c ρ) → GrowsBy R ρ c o.answer
  grown c m = omega (arith, counted (called t c).tables _ m.agrees, counted t ρ f.agrees, added_counted t f.together c)

  pub terms_grow : (c : Call) → Sized c → GrowsBy R ρ c (called t c).answer
  terms_grow c size = grown c (call_matches t ρ c size f)

  -- whatever the fields of a step
  pub step_grows : (step r a b m now : ℕ) → let c = calls.Step step r a b m now in GrowsBy R ρ c (called t c).answer
  unfolding called
  step_grows step r a b m now = grown (calls.Step step r a b m now) (step_matches f (record { step = step; run = r; a = a; b = b; m = m; t = now }))

-- ---- a term

-- a term that is present once is told old,
present_told : (at : ℕ) (terms : List Message) (m : Message) (i : ℕ) → term_at terms i ≡ some m → ((k : ℕ) → term_at terms k ≡ some m → k ≡ i) → term_told at terms m ≡ Ok (Old (at + i))
present_told at [] m i e once = cc
present_told at (x ∷ terms) m zero e once = ite_holds (same m x) _ _ (sym (some-injective _ _ e)) ∙ ap (λ (k : ℕ). Ok (Old k)) (omega arith)
present_told at (x ∷ terms) m (suc i) e once =
    ite_fails (same m x) _ _ (λ q. let z : 0 ≡ suc i = once 0 (ap some (sym q)) in absurd (omega arith))
    ∙ present_told (suc at) terms m i e (λ k q. let z : suc k ≡ suc i = once (suc k) q in omega arith)
    ∙ ap (λ (k : ℕ). Ok (Old k)) (omega arith)

-- and one that is not is told new, behind the others
absent_told : (at : ℕ) (terms : List Message) (m : Message) → ((k : ℕ) → ¬ (term_at terms k ≡ some m)) → term_told at terms m ≡ Ok (New (at + length terms))
absent_told at [] m none = ap (λ (k : ℕ). Ok (New k)) (omega arith)
absent_told at (x ∷ terms) m none =
    ite_fails (same m x) _ _ (λ q. none 0 (ap some (sym q))) ∙ absent_told (suc at) terms m (λ k. none (suc k)) ∙ ap (λ (k : ℕ). Ok (New k)) (omega arith)

module _ {n : ℕ} {ts : List ℕ} {count : ℕ} (v : Valid n ts count) (kind x y : ℕ) (size : Sized (calls.Term kind x y)) {m : Message}
    (made : message_from (meanings ts count) kind x y ≡ some m) where
  by_answer : (a : TermAnswer) (count' : ℕ) (ts' : List ℕ) → add_of n ts count (packed kind x y) ≡ record { answer = a; count = count'; table = ts' }
      → accepts (numbered a (count' - count)) ≡ true → numbered a (count' - count) ≡ term_told 0 (meanings ts count) m
  by_answer (refused k) count' ts' e q = no_true q
  by_answer (number i) count' ts' e q = by_eq (ℕ_discrete count' count)
    where
      means : message_at ts' i ≡ m
      means = some-injective _ _ (sym (term_made v kind x y size e) ∙ made)

      by_eq : Dec (count' ≡ count) → numbered (number i) (count' - count) ≡ term_told 0 (meanings ts count) m
      by_eq (yes z) =
          let below : i < count = omega (arith, (is v kind x y size e).0) in
          let here : message_at ts i ≡ m = older v kind x y size e i below ∙ means in
          rw z
          (same_old i count ∙ sym (present_told 0 (meanings ts count) m i (meanings_at ts count i below ∙ ap some here)
          (λ k w. let p = at_meanings ts count k m w in messages_once v k i p.0 below (p.1 ∙ sym here)) ∙ ap (λ (k : ℕ). Ok (Old k)) (omega arith)))
      by_eq (no ne) =
          let more : count < count' = omega (arith, (is v kind x y size e).2.more) in
          let one : count' ≡ suc count = omega (arith, (way v kind x y size e).1) in
          rw one
          (more_new i count ∙ sym (absent_told 0 (meanings ts count) m (λ k w. term_fresh v kind x y size e more k (w ∙ ap some (sym means)))
          ∙ ap (λ (k : ℕ). Ok (New k)) (omega (arith, meanings_length ts count, (way v kind x y size e).2 more))))

  pub term_told_lem : let o = add_of n ts count (packed kind x y) in let answer = numbered o.answer (o.count - count) in
      accepts answer ≡ true → answer ≡ term_told 0 (meanings ts count) m
  term_told_lem q = by_answer _ _ _ refl q
