-- A call adds terms behind those that are there, and changes none of these.
-- Assumes nothing.
use Rattle.std.specs.Prelude.{ℕ, ◌≤◌, ◌≡◌, List, length, drop, Ok, Err}
use Rattle.std.proofs.Math.Path.{refl, sym}
use Rattle.std.proofs.Common.{◌∙◌, arith, get_or-set_other}
use Rattle.std.proofs.Math.ListN.{get_or-append}
use Rattle.words.specs.Word.{packed}
use Rattle.terms.specs.Add.{add_of}
use Rattle.terms.proofs.Add.{add_elim}
use Rattle.terms.specs.Number.{terms_of}
use Rattle.terms.proofs.Number.{terms_length, terms_agree}
use Rattle.terms.specs.Outcome.{TermOutcome}
use Rattle.terms.specs.Rules.{Agree}
use Rattle.sending.proofs.Entering.{longer_all}
use Rattle.sending.specs.Send.{entered_all}
use Rattle.exchange.specs.declared.call.Call.{Call}
use Rattle.exchange.specs.declared.call.Call.TheVariants as calls
use Rattle.realm.specs.declared.input.Step.{Step}
use Rattle.realm.specs.Tables.{Tables, Together}
use Rattle.decisions.specs.Decision.{decision, Verdict}
use Rattle.decisions.specs.Effects.{messages_of}
use Rattle.effects.specs.Apply.{applied}
use Rattle.effects.specs.Call.{by_verdict, stepped, called}

-- the realm's n and flags stay, and so do the terms of t
pub record Older (t t' : Tables) : Type 0 where
  pub n : t'.realm.n ≡ t.realm.n
  pub flags : t'.realm.flags ≡ t.realm.flags
  pub more : t.realm.terms ≤ t'.realm.terms
  pub agree : Agree t.terms t'.terms t.realm.terms

-- ---- TM

term_older : (n : ℕ) (ts : List ℕ) (count w : ℕ) → (count ≤ (add_of n ts count w).count) × Agree ts (add_of n ts count w).table count
term_older n ts count w =
    add_elim (λ (o : TermOutcome). (count ≤ o.count) × Agree ts o.table count) n ts count w
    (omega arith, λ k h. refl) (omega arith, λ k h. refl) (λ _ i _. (omega arith, λ k h. refl))
    (λ _ _ _. (omega arith, λ k h. sym (get_or-set_other ts count k w 0 (λ e. omega arith))))

-- ---- any call

module _ (t : Tables) (w : Together t) where
  by_verdict_lem : (v : Verdict) → Older t (by_verdict t v).tables
  unfolding applied
  by_verdict_lem (Err k) = record { n = refl; flags = refl; more = omega arith; agree = λ k h. refl }
  by_verdict_lem (Ok x) =
      let old = terms_of t.terms t.realm.terms in
      let xs = entered_all old (messages_of t.terms x.sends) in
      let longer = longer_all old (messages_of t.terms x.sends) in
      let size = terms_length w.terms_hold in
      record {
        n = refl;
        flags = refl;
        more = omega (arith, longer.more, size);
        agree = λ k h.
            terms_agree w.terms_hold k h ∙ longer.agree k (omega (arith, size))
            ∙ sym (get_or-append xs (drop (length xs) t.terms) 0 k (omega (arith, longer.more, size)));
      }

  pub stepped_older : (s : Step) → Older t (stepped t s).tables
  unfolding stepped
  stepped_older s = by_verdict_lem (decision t s)

  pub called_older : (c : Call) → Older t (called t c).tables
  unfolding called
  called_older (calls.Term kind l r) =
      let o = term_older t.realm.n t.terms t.realm.terms (packed kind l r) in
      record { n = refl; flags = refl; more = o.0; agree = o.1 }
  called_older (calls.Step step run a b m time) = stepped_older (record { step = step; run = run; a = a; b = b; m = m; t = time })
