-- Adding a term: the rules take the call, and the tables with the term, new or there before, stay together and in agreement with
-- the reading.
-- Assumes nothing.
use Rattle.std.specs.Prelude.{ℕ, zero, suc, ◌^◌, ◌<◌, ◌≤◌, ◌≡◌, refl, true, ◌↔◌, ◌⊎◌, length, get_or}
use Rattle.std.proofs.Common.{sym, ap, ap₂, ◌∙◌, subst, inl, ⊎_elim, arith}
use mathlib.Core.List.Memᴰ
use mathlib.Core.List.{List, [], ◌∷◌, ◌++◌, Memᴰ}
use Rattle.std.proofs.Math.Option.{some}
use Rattle.std.proofs.Math.Decide.{ℕ_discrete}
use Rattle.words.specs.Word as words
use Rattle.words.specs.Word.{packed, term_by}
use Rattle.terms.specs.Add.{add_of, Extends, AddedIs}
use Rattle.terms.proofs.Add.{adds, add_elim}
use Rattle.terms.specs.Meaning.{key_of, message_of, message_at}
use Rattle.terms.proofs.Meaning.{message_at_lem, messages_same, key_at}
use Rattle.terms.specs.Message.{Message, key}
use Rattle.terms.proofs.Number.{messages_once}
use Rattle.terms.specs.Outcome.{TermAnswer, number, refused, TermOutcome, accept}
use Rattle.terms.specs.Rules.{is_key, spare, refusal_of}
use Rattle.terms.proofs.RulesLaws.{Fields, passed, fields}
use Rattle.terms.specs.Rules as rules
use Rattle.terms.specs.Valid.{Valid}
use Rattle.messages.specs.Listed.{term_at, insert}
use Rattle.messages.proofs.Listed.{insert_present, insert_new}
use Rattle.messages.specs.Meanings.{meanings}
use Rattle.messages.proofs.Meanings.{meanings_length, meanings_at, at_meanings, meanings_same}
use Rattle.deduction.specs.Known.{Known}
use Rattle.exchange.specs.declared.call.Call.TheVariants.{Term}
use Rattle.exchange.specs.Forms.{form_of}
use Rattle.kerberos.specs.Log.{Event, Nothing, idle}
use Rattle.kerberos.specs.Reading.{set_of}
use Rattle.traces.specs.Engines.{Agrees}
use Rattle.exchange.specs.Calls.{Sized}
use Rattle.traces.specs.RuleSets.{Reading, read}
use Rattle.traces.specs.Realm.{Realm}
use Rattle.kerberos.specs.Rules.{Takes, takes_term}
use Rattle.traces.specs.Terms.{message_from, encrypted_under, given, FieldsFit}
use Rattle.realm.specs.Opening.{header}
use Rattle.realm.specs.Tables.{Tables, Together}
use Rattle.simulation.specs.Values.{values_of}
use Rattle.decisions.specs.Effects.{nothing}
use Rattle.simulation.proofs.Mirrors.{nothing_mirrors}
use Rattle.simulation.proofs.Follows.{next_tables, Grows, next_together, next_agrees}

-- ---- the word

pub word_term : (kind x y : ℕ) → x < 2 ^ 16 → y < 2 ^ 16 → words.term_of (packed kind x y) ≡ term_by kind x y
unfolding words.term_of
word_term kind x y hx hy =
    let w = packed kind x y in
    let k : words.kind_of w ≡ kind = omega arith in
    let l : words.left_of w ≡ x = omega arith in
    let r : words.right_of w ≡ y = omega arith in
    rw (k, l, r)

-- ---- the answer

-- an accepted word passed the rules, and stands behind all terms if it is new
abbrev Accepted : (n : ℕ) (ts : List ℕ) (count w : ℕ) → TermAnswer → ℕ → Type 0
Accepted n ts count w (number i) count' = (refusal_of n ts count w ≡ 0) × (count' ≤ suc count) × (count < count' → i ≡ count)
Accepted n ts count w (refused r) count' = Unit {0}

accepted : (n : ℕ) (ts : List ℕ) (count w : ℕ) → let o = add_of n ts count w in Accepted n ts count w o.answer o.count
accepted n ts count w =
    add_elim (λ (o : TermOutcome). Accepted n ts count w o.answer o.count) n ts count w tt tt
    (λ r i _. (r, omega arith, λ h. absurd (omega arith))) (λ r _ _. (r, omega arith, λ h. refl))

-- ---- the message of a kind and its operands

-- where the terms before `at` have the messages of sub
pub by_kind : (n : ℕ) (ts : List ℕ) (at : ℕ) (terms : List Message) (sub : ℕ → Message) → ((k : ℕ) → k < at → term_at terms k ≡ some (sub k))
    → ((k : ℕ) → k < at → is_key (rules.term_at ts k) ≡ true → sub k ≡ key (key_of (sub k)))
    → (kind x y : ℕ) → Fields n ts at (term_by kind x y) → message_from terms kind x y ≡ some (message_of sub (term_by kind x y))
by_kind n ts at terms sub s g zero x y f = refl
by_kind n ts at terms sub s g (suc zero) x y f = refl
by_kind n ts at terms sub s g (suc (suc zero)) x y f = refl
by_kind n ts at terms sub s g (suc (suc (suc zero))) x y f = refl
by_kind n ts at terms sub s g (suc (suc (suc (suc zero)))) x y f = refl
by_kind n ts at terms sub s g (suc (suc (suc (suc (suc zero))))) x y f = rw (s x f.0, s y f.1)
by_kind n ts at terms sub s g (suc (suc (suc (suc (suc (suc zero)))))) x y f = rw (s x f.0, s y f.1) (ap (encrypted_under (sub x)) (g y f.1 f.2))
by_kind n ts at terms sub s g (suc (suc (suc (suc (suc (suc (suc kind))))))) x y f = absurd f

-- what the rules ask of the fields, where the word passed
by_fields : (n : ℕ) (ts : List ℕ) (at kind x y : ℕ) → spare (term_by kind x y) y ≡ 0 → Fields n ts at (term_by kind x y) → FieldsFit n kind x y
by_fields n ts at zero x y e f = (f, e)
by_fields n ts at (suc zero) x y e f = tt
by_fields n ts at (suc (suc zero)) x y e f = (f, e)
by_fields n ts at (suc (suc (suc zero))) x y e f = (f, e)
by_fields n ts at (suc (suc (suc (suc zero)))) x y e f = (f, e)
by_fields n ts at (suc (suc (suc (suc (suc kind))))) x y e f = tt

-- ---- the table after it

-- the word w of a term is accepted as number i of ts', which has `count'` terms
module _ {n : ℕ} {ts : List ℕ} {count : ℕ} (v : Valid n ts count) (kind x y : ℕ) (size : Sized (Term kind x y)) {i count' : ℕ} {ts' : List ℕ}
    (e : add_of n ts count (packed kind x y) ≡ accept i count' ts') where
  valid : Valid n ts' count'
  valid = subst (λ (o : TermOutcome). Valid n o.table o.count) e (adds v (packed kind x y)).valid

  pub is : (i < count') × (get_or ts' i 0 ≡ packed kind x y) × Extends n ts count ts' count'
  is = subst (λ (o : TermOutcome). AddedIs n ts count (packed kind x y) o.answer o.count o.table) e (adds v (packed kind x y)).is

  pub way : (refusal_of n ts count (packed kind x y) ≡ 0) × (count' ≤ suc count) × (count < count' → i ≡ count)
  way = subst (λ (o : TermOutcome). Accepted n ts count (packed kind x y) o.answer o.count) e (accepted n ts count (packed kind x y))

  pub older : (k : ℕ) → k < count → message_at ts k ≡ message_at ts' k
  older = messages_same v.terms ts' is.2.agree

  by_term : words.term_of (packed kind x y) ≡ term_by kind x y
  by_term = word_term kind x y size.1 size.2

  fine : Fields n ts count (term_by kind x y)
  fine = subst (Fields n ts count) by_term (fields n ts count (words.term_of (packed kind x y)) (passed n ts count (packed kind x y) way.0).fields)

  pub term_fields : FieldsFit n kind x y
  term_fields =
      let right : words.right_of (packed kind x y) ≡ y = omega (arith, size.2) in
      by_fields n ts count kind x y (ap₂ spare (sym by_term) (sym right) ∙ (passed n ts count (packed kind x y) way.0).unused) fine

  -- the message that the term stands for is that of its kind and operands
  pub term_made : message_from (meanings ts count) kind x y ≡ some (message_at ts' i)
  term_made =
      by_kind n ts count (meanings ts count) (message_at ts') (λ k h. meanings_at ts count k h ∙ ap some (older k h))
      (λ k h q. sym (older k h) ∙ key_at v.terms k h q ∙ ap (λ (m : Message). key (key_of m)) (older k h)) kind x y fine
      ∙ ap some (sym (message_at_lem valid.terms i is.0 ∙ ap (λ (w : ℕ). message_of (message_at ts') (words.term_of w)) is.1 ∙ ap (message_of (message_at ts')) by_term))

  -- where the table has grown, no term before stands for it
  pub term_fresh : count < count' → (k : ℕ) → ¬ (term_at (meanings ts count) k ≡ some (message_at ts' i))
  term_fresh more k q =
      let p = at_meanings ts count k (message_at ts' i) q in
      let z : k ≡ i = messages_once valid k i (omega (arith, p.0)) is.0 (sym (older k p.0) ∙ p.1) in
      absurd (omega (arith, p.0, way.2 more))

  -- it was there, or is the one behind the others
  pub term_inserted : meanings ts' count' ≡ insert (message_at ts' i) (meanings ts count)
  unfolding meanings
  term_inserted = by_eq (ℕ_discrete count' count)
    where
      m : Message
      m = message_at ts' i

      old : meanings ts count ≡ meanings ts' count
      old = meanings_same ts ts' count older

      by_eq : Dec (count' ≡ count) → meanings ts' count' ≡ insert (message_at ts' i) (meanings ts count)
      by_eq (yes q) =
          sym (insert_present m (meanings ts' count') i (meanings_at ts' count' i is.0)) ∙ ap (insert m) (ap (meanings ts') q ∙ sym old)
      by_eq (no ne) =
          let more : count < count' = omega (arith, is.2.more) in
          let q : count' ≡ suc count = omega (arith, way.1) in
          ap (meanings ts') q ∙ ap (λ (k : ℕ). meanings ts' count ++ (message_at ts' k ∷ [])) (sym (way.2 more)) ∙ ap (λ (l : List Message). l ++ (m ∷ [])) (sym old)
          ∙ sym (insert_new m (meanings ts count) (term_fresh more))

  pub term_room : length (insert (message_at ts' i) (meanings ts count)) ≤ 512
  term_room = subst (λ (l : List Message). length l ≤ 512) term_inserted (omega (arith, meanings_length ts' count', valid.room))

-- ---- the call

-- the tables with more terms; all else stays
abbrev pub with_terms : Tables → (count : ℕ) (ts : List ℕ) → Tables
with_terms t count ts = next_tables t (nothing t.realm.clock) count ts t.wire

module _ {t : Tables} (w : Together t) (kind x y : ℕ) (size : Sized (Term kind x y)) {i count : ℕ} {ts : List ℕ}
    (e : add_of t.realm.n t.terms t.realm.terms (packed kind x y) ≡ accept i count ts) where
  grows : Grows t count ts t.wire
  grows =
      let longer = (is w.terms_hold kind x y size e).2 in
      record {
        valid = valid w.terms_hold kind x y size e;
        more = longer.more;
        older = longer.agree;
        words = w.wire_words;
        within = λ j h. omega (arith, w.wire_within j h, longer.more);
      }

  -- no message comes onto the wire or leaves it
  wire_stays : (m : Message) → Known ts count t.wire m ↔ (Known t.terms t.realm.terms t.wire m ⊎ Memᴰ m [])
  wire_stays m = (
    λ k. let below = w.wire_within k.at k.mark in
        inl (record { at = k.at; below = below; mark = k.mark; is = older w.terms_hold kind x y size e k.at below ∙ k.is }),
    λ k. ⊎_elim
        (λ o. record {
          at = o.at;
          below = omega (arith, o.below, grows.more);
          mark = o.mark;
          is = sym (older w.terms_hold kind x y size e o.at o.below) ∙ o.is;
        }) (λ i. absurd (Memᴰ.not-nil i)) k,
  )

  pub term_together : Together (with_terms t count ts)
  term_together = next_together w grows (nothing t.realm.clock) tt tt w.clock_fits

  module _ {R : Realm} (ρ : Reading Event) (a : Agrees (set_of R) R (values_of R t) ρ) where
    made : message_from ρ.terms kind x y ≡ some (message_at ts i)
    made = subst (λ (l : List Message). message_from l kind x y ≡ some (message_at ts i)) a.terms_are (term_made w.terms_hold kind x y size e)

    pub term_takes : header t.realm ≡ R → Takes (form_of R.rules) R ρ.terms ρ.log (Term kind x y) idle
    term_takes same =
        takes_term (subst (λ (R : Realm). FieldsFit R.n kind x y) same (term_fields w.terms_hold kind x y size e)) made
        (subst (λ (l : List Message). length (insert (message_at ts i) l) ≤ 512) a.terms_are (term_room w.terms_hold kind x y size e))

    pub term_agrees : header t.realm ≡ R → Agrees (set_of R) R (values_of R (with_terms t count ts)) (read (set_of R) true (Term kind x y) ρ)
    term_agrees same =
        next_agrees w grows (nothing t.realm.clock) tt tt same ρ a Nothing nothing_mirrors
        (term_inserted w.terms_hold kind x y size e ∙ ap (insert (message_at ts i)) a.terms_are ∙ sym (ap (λ o. given o ρ.terms (λ m. insert m ρ.terms)) made))
        wire_stays
