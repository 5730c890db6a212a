-- What follows from the definitions of the same name in specs/.
-- Assumes nothing.
use Rattle.std.specs.Prelude.{◌≡◌, refl, ◌&&◌, List, ℕ, ◌≤◌, ltb, leb, length, drop}
use Rattle.std.proofs.Common.{sym, ap, ◌∙◌, arith, leb-true, ltb-true, length-append, length-drop}
use Rattle.std.proofs.Math.Bool.{and-eq-true_iff}
use Rattle.std.proofs.Math.ListN.{get_or-append}
use Rattle.std.proofs.Math.Seq.{drop-append_seam}
use Rattle.drafts.specs.declared.Node.{Node}
use Rattle.drafts.specs.Draft.{draft_message, draft_fits}
use Rattle.drafts.specs.Writes.{Writes}
use Rattle.drafts.proofs.Writes.{draft_writes}
use Rattle.terms.proofs.Choice.{cond_first}
use Rattle.terms.specs.Meaning.{message_at}
use Rattle.terms.proofs.Meaning.{messages_same}
use Rattle.terms.specs.Message.{Message}
use Rattle.terms.specs.Number.{number_in, terms_of}
use Rattle.terms.proofs.Number.{terms_length, terms_agree, terms_list}
use Rattle.terms.specs.Outcome.{TermOutcome, accept, refuse}
use Rattle.terms.specs.Rules.{Agree}
use Rattle.terms.specs.Valid.{Terms, Valid, holds}
use Rattle.terms.proofs.Valid.{holds_valid, terms_same}
use Rattle.messages.specs.Entered.{entered}
use Rattle.messages.specs.Lent.{over, add_message_of}
use Rattle.messages.specs.Listed.{add}
use Rattle.messages.specs.Meanings.{meanings}
use Rattle.messages.proofs.Meanings.{meanings_entered}
use Rattle.messages.proofs.Standing.{entered_is, standing_number}
use Rattle.messages.specs.Promises.{MessageAdded}

-- ---- what an accepted outcome says

never : {r k i m : ℕ} {ts vs : List ℕ} → refuse r k ts ≡ accept i m vs → ⊥
never e =
    let q = ap (λ (o : TermOutcome). o.answer) e in
    let z : ◌≡◌ {A = ℕ} 0 1 = cc in
    omega arith

-- ---- the terms laid over the table

module _ {n : ℕ} (ts : List ℕ) {xs : List ℕ} (v : Terms n xs (length xs)) (size : length ts ≡ 512) (room : length xs ≤ 512) where
  pub over_agree : Agree xs (over xs ts) (length xs)
  over_agree k h = sym (get_or-append xs (drop (length xs) ts) 0 k h)

  pub over_valid : Valid n (over xs ts) (length xs)
  over_valid =
      record {
        size = length-append xs (drop (length xs) ts) ∙ omega (arith, length-drop (length xs) ts);
        room = room;
        terms = terms_same v (over xs ts) over_agree;
      }

-- ---- the theorem

pub message_added : (n : ℕ) → n ≤ 65536 → (ts : List ℕ) (count : ℕ) (draft : List Node) (root : ℕ) {i m : ℕ} {ts' : List ℕ}
    → add_message_of n ts count draft root ≡ accept i m ts' → MessageAdded n ts count (draft_message (message_at ts) draft root) i m ts'
unfolding add_message_of
message_added n small ts count draft root {i} {m} {ts'} e =
    let message = draft_message (message_at ts) draft root in
    let old = terms_of ts count in
    let xs = entered old message in
    let p = cond_first (holds n ts count) never e in
    let q = cond_first (ltb root 16 && draft_fits n count draft) never p.1 in
    let r = cond_first (leb (length xs) 512) never q.1 in
    let number_is : i ≡ number_in xs message = let a = ap (λ (o : TermOutcome). o.answer) r.1 in cc in
    let v = holds_valid n ts count p.0 in
    let b = (and-eq-true_iff (ltb root 16) (draft_fits n count draft)).0 q.0 in
    let room : length xs ≤ 512 = leb-true (length xs) 512 r.0 in
    let E = entered_is small message (draft_writes v draft b.1 root (ltb-true root 16 b.0)) old (terms_list v) (omega arith) in
    let at : i ≡ E.number = number_is ∙ standing_number E.extends.terms E.stands in
    let agree = over_agree ts E.extends.terms v.size room in
    let same : Agree ts (over xs ts) count = λ k h.
    terms_agree v k h ∙ E.extends.agree k (omega (arith, terms_length v)) ∙ agree k (omega (arith, terms_length v, E.extends.more)) in
    rw (sym (ap (λ (o : TermOutcome). o.table) r.1), sym (ap (λ (o : TermOutcome). o.count) r.1))
    (record {
      valid = over_valid ts E.extends.terms v.size room;
      below = omega (arith, at, E.stands.below);
      means = rw at (sym (messages_same E.extends.terms (over xs ts) agree E.number E.stands.below) ∙ E.stands.means);
      more = omega (arith, E.extends.more, terms_length v);
      older = same;
      meaning = messages_same v.terms (over xs ts) same;
      added = refl;
      past = drop-append_seam xs (drop (length xs) ts);
    })

-- In the messages that the words stand for, entering a message is adding it.
pub entering_adds : {n : ℕ} → n ≤ 65536 → (m : Message) → Writes n m → (xs : List ℕ) → Terms n xs (length xs) → length (entered xs m) ≤ 65536
    → meanings (entered xs m) (length (entered xs m)) ≡ add m (meanings xs (length xs))
entering_adds small m w xs v room = meanings_entered small m w xs v room
