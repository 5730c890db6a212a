-- A TM that the rules take is accepted: its word passes 4, 5 and 6, and 20 is not given, since a term that is not there is a message
-- that is not there.
-- Assumes nothing.
use Rattle.std.specs.Prelude.{ℕ, zero, suc, ◌<◌, ◌≤◌, ◌≡◌, refl, Bool, true, false, cond, List, [], ◌∷◌, eqb, length, set, Some, None}
use Rattle.std.proofs.Common.{sym, ap, ap₂, ◌∙◌, arith, eq-eqb, eqb-true, length-append}
use Rattle.std.specs.Prelude as found
use Rattle.std.proofs.Math.Option.{Option, none, some, some-injective}
use Rattle.words.specs.Word as words
use Rattle.words.specs.Word.{packed, term_by, word_of}
use Rattle.terms.specs.Add.{add_by, add_of}
use Rattle.terms.specs.Meaning.{message_of, message_at}
use Rattle.terms.proofs.Meaning.{message_at_lem, key_at, key_inv}
use Rattle.terms.specs.Message.{Key, Message, principal, time, nonce, key, pair, encrypted}
use Rattle.terms.specs.Number.{word_in, number_in, terms_of}
use Rattle.terms.proofs.Number.{word_of_lem, word_at, number_at, terms_length, terms_agree, terms_list, terms_message}
use Rattle.terms.specs.Outcome as terms
use Rattle.terms.specs.Rules as rules
use Rattle.terms.specs.Rules.{is_key, spare, fields_ok, refusal_of}
use Rattle.terms.proofs.RulesLaws.{fields_ok_lem, Fields, Passed, passes, word_back}
use Rattle.terms.specs.Table.{find_of}
use Rattle.terms.proofs.TableLaws.{Absent, FoundIs, found_is}
use Rattle.terms.specs.Valid.{Valid}
use Rattle.messages.specs.Listed.{term_at, insert}
use Rattle.messages.proofs.Listed.{insert_new}
use Rattle.messages.specs.Meanings.{meanings}
use Rattle.messages.proofs.Meanings.{meanings_length, meanings_at, at_meanings}
use Rattle.exchange.specs.declared.call.Call.TheVariants.{Term}
use Rattle.exchange.specs.Calls.{accepts, Sized}
use Rattle.traces.specs.Terms.{message_from, encrypted_under, given, FieldsFit}
use Rattle.effects.specs.Call.{numbered}
use Rattle.effects.proofs.Kept.{number_accepts}
use Rattle.simulation.proofs.Terms.{word_term, by_kind}

-- ---- a message that was made has its operands

no_message : {A : Type 0} {m : Message} → none ≡ some m → A
no_message e = let z : ◌≡◌ {A = ℕ} 0 1 = cc in absurd (omega arith)

-- a value that is there
record There (o : Option Message) (f : Message → Option Message) (m : Message) : Type 0 where
  value : Message
  is : o ≡ some value
  gives : f value ≡ some m

there : (o : Option Message) (f : Message → Option Message) {m : Message} → given o none f ≡ some m → There o f m
there none f e = no_message e
there (some x) f e = record { value = x; is = refl; gives = e }

key_under : (x y : Message) {m : Message} → encrypted_under x y ≡ some m → (k : Key) × (y ≡ key k)
key_under x (principal p) e = no_message e
key_under x (time t) e = no_message e
key_under x (nonce i) e = no_message e
key_under x (key k) e = (k, refl)
key_under x (pair a b) e = no_message e
key_under x (encrypted a k) e = no_message e

module _ {n : ℕ} {ts : List ℕ} {count : ℕ} (v : Valid n ts count) where
  -- ---- the fields pass

  record Passing (kind x y : ℕ) : Type 0 where
    low : kind ≤ 6
    unused : spare (term_by kind x y) y ≡ 0
    fine : Fields n ts count (term_by kind x y)

  is_key_lem : (k : ℕ) → k < count → {κ : Key} → message_at ts k ≡ key κ → is_key (rules.term_at ts k) ≡ true
  is_key_lem k h e = key_inv (message_at ts) (rules.term_at ts k) (sym (message_at_lem v.terms k h) ∙ e)

  passing : (kind x y : ℕ) {m : Message} → FieldsFit n kind x y → message_from (meanings ts count) kind x y ≡ some m → Passing kind x y
  passing zero x y f e = record { low = omega arith; unused = f.1; fine = f.0 }
  passing (suc zero) x y f e = record { low = omega arith; unused = refl; fine = tt }
  passing (suc (suc zero)) x y f e = record { low = omega arith; unused = f.1; fine = f.0 }
  passing (suc (suc (suc zero))) x y f e = record { low = omega arith; unused = f.1; fine = f.0 }
  passing (suc (suc (suc (suc zero)))) x y f e = record { low = omega arith; unused = f.1; fine = f.0 }
  passing (suc (suc (suc (suc (suc zero))))) x y f e =
      let p = there (term_at (meanings ts count) x) _ e in
      let q = there (term_at (meanings ts count) y) _ p.gives in
      record { low = omega arith; unused = refl; fine = ((at_meanings ts count x p.value p.is).0, (at_meanings ts count y q.value q.is).0) }
  passing (suc (suc (suc (suc (suc (suc zero)))))) x y f e =
      let p = there (term_at (meanings ts count) x) _ e in
      let q = there (term_at (meanings ts count) y) _ p.gives in
      let k = key_under p.value q.value q.gives in
      let a = at_meanings ts count y q.value q.is in
      record { low = omega arith; unused = refl; fine = ((at_meanings ts count x p.value p.is).0, a.0, is_key_lem y a.0 (a.1 ∙ k.1)) }
  passing (suc (suc (suc (suc (suc (suc (suc kind))))))) x y f e = no_message e

  module _ (kind x y : ℕ) (size : Sized (Term kind x y)) {m : Message} (fit : FieldsFit n kind x y) (made : message_from (meanings ts count) kind x y ≡ some m) where
    abbrev w : ℕ
    w = packed kind x y

    p : Passing kind x y
    p = passing kind x y fit made

    by_term : words.term_of w ≡ term_by kind x y
    by_term = word_term kind x y size.1 size.2

    word_passes : Passed n ts count w
    word_passes =
        let right : words.right_of (packed kind x y) ≡ y = omega (arith, size.2) in
        record {
          kind = omega (arith, size.1, size.2, p.low);
          unused = ap₂ spare by_term right ∙ p.unused;
          fields = ap (fields_ok n ts count) by_term ∙ fields_ok_lem n ts count (term_by kind x y) p.fine;
        }

    -- ---- 20 is not given

    -- the message is that of the term's word, which no term of the table has if it is absent
    means : m ≡ message_of (message_at ts) (term_by kind x y)
    means =
        some-injective _ _ (sym made ∙ by_kind n ts count (meanings ts count) (message_at ts) (λ k h. meanings_at ts count k h) (λ k h q. key_at v.terms k h q) kind x y p.fine)

    own : (k : ℕ) → k < count → number_in (terms_of ts count) (message_at ts k) ≡ k
    own k h = ap (number_in (terms_of ts count)) (terms_message v k h) ∙ number_at (terms_of ts count) (terms_list v) k (omega (arith, terms_length v))

    word_is : word_in (terms_of ts count) m ≡ w
    word_is =
        ap (word_in (terms_of ts count)) means
        ∙ word_of_lem n ts (terms_of ts count) count (message_at ts) own (λ k h q. key_at v.terms k h q) (term_by kind x y) p.fine
        ∙ ap word_of (sym by_term) ∙ word_back word_passes

    not_there : Absent ts count w → (k : ℕ) → ¬ (term_at (meanings ts count) k ≡ some m)
    not_there a k e =
        let at = at_meanings ts count k m e in
        let here : k < length (terms_of ts count) = omega (arith, at.0, terms_length v) in
        a k at.0
        (terms_agree v k at.0 ∙ sym (word_at (terms_of ts count) (terms_list v) k here) ∙ ap (word_in (terms_of ts count)) (sym (terms_message v k at.0) ∙ at.1) ∙ word_is)

    some_room : length (insert m (meanings ts count)) ≤ 512 → Absent ts count w → count < 512
    some_room room a =
        let e = ap length (insert_new m (meanings ts count) (not_there a)) ∙ length-append (meanings ts count) (m ∷ []) in
        omega (arith, e, room, meanings_length ts count)

    by_found : (grown : ℕ) → length (insert m (meanings ts count)) ≤ 512 → (f : found.Option ℕ) → FoundIs ts count w f → accepts (numbered (add_by ts count w f).answer grown) ≡ true
    by_found grown room (Some i) h = number_accepts i grown
    by_found grown room None h = by (eqb count 512) refl
      where
        by : (b : Bool) → eqb count 512 ≡ b → accepts (numbered (cond b (terms.refuse 20 count ts) (terms.accept count (suc count) (set ts count w))).answer grown) ≡ true
        by true e = absurd (omega (arith, some_room room h, eqb-true count 512 e))
        by false e = number_accepts count grown

    pub term_accepted : (grown : ℕ) → length (insert m (meanings ts count)) ≤ 512 → accepts (numbered (add_of n ts count w).answer grown) ≡ true
    unfolding add_of
    term_accepted grown room = rw (eq-eqb (refusal_of n ts count w) 0 (passes n ts count w word_passes)) (by_found grown room (find_of ts count w) (found_is ts count w))
