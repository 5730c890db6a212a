-- The plan of two nodes, one after the other, and what comes of it: the law by which `plan_messages` meets its contract.
-- Assumes nothing.
use Rattle.std.specs.Prelude.{◌≡◌, refl, Option, Some, None, Bool, true, false, cond, ℕ, ◌+◌, ◌<◌, ◌≤◌, leb, length}
use Rattle.std.proofs.Common.{sym, ap, ap₂, ◌∙◌, add-zero, arith, le-leb, take-append-drop}
use Rattle.std.proofs.Math.Path.{subst}
use mathlib.Core.List.{List, [], ◌∷◌, append-nil}
use Rattle.drafts.proofs.Writes.{draft_writes}
use Rattle.terms.specs.Message.{Message}
use Rattle.terms.specs.Number.{number_in, terms_of}
use Rattle.terms.proofs.Number.{terms_list}
use Rattle.terms.proofs.Valid.{valid_holds}
use Rattle.drafts.specs.declared.Node.{Node}
use Rattle.messages.specs.Entered.{entered}
use Rattle.messages.specs.Lent.{over}
use Rattle.messages.proofs.LentLaws.{start_ready, start_planned}
use Rattle.messages.specs.declared.plan.Plan.{Plan}
use Rattle.messages.specs.Plan.{empty_plan, known, drafted, Ready, NodePlanned, with_plan}
use Rattle.messages.proofs.Planning.{few, known_length}
use Rattle.messages.proofs.Standing.{entered_is, longer_entered, standing_here, standing_longer}
use Rattle.marks.specs.Marks.{with_mark}
use Rattle.sending.specs.declared.Marks.{Marks}
use Rattle.sending.specs.declared.Prepared.{Prepared}
use Rattle.sending.proofs.Entering.{number_longer}
use Rattle.sending.specs.Send.{entered_all, marked_all, fits_in, MarksFit, marked_by, comes, Plannable, PlanFor, sent, refused, sending, send_of}
use Rattle.sending.proofs.Accepted.{send_nothing}

module _ {ts : List ℕ} {count : ℕ} {draft : List Node} {first last : ℕ} (s : Plannable ts count draft first last) where
  pub ready : Ready ts count draft empty_plan
  ready = start_ready s.small (valid_holds s.table) s.fits

  module _ {i : ℕ} {q : Plan} (one : NodePlanned ts count draft first empty_plan i q) {j : ℕ} {r : Plan} (two : NodePlanned ts count draft last q j r) where
    half : known ts count q ≡ entered (terms_of ts count) (drafted ts draft first)
    half = start_planned one

    all : known ts count r ≡ entered (entered (terms_of ts count) (drafted ts draft first)) (drafted ts draft last)
    all = two.terms ∙ ap (λ (xs : List ℕ). entered xs (drafted ts draft last)) half

    length_all : length (known ts count r) ≡ count + r.count
    length_all = known_length two.again

    -- both messages stand among the terms, each at the number that was planned for it
    record Numbers : Type 0 where
      first_is : i ≡ number_in (known ts count r) (drafted ts draft first)
      last_is : j ≡ number_in (known ts count r) (drafted ts draft last)
      first_below : i < count + r.count
      last_below : j < count + r.count

    numbers : Numbers
    numbers =
        let m = drafted ts draft first in
        let m' = drafted ts draft last in
        let xs = entered (terms_of ts count) m in
        let ys = entered xs m' in
        let more = longer_entered xs m' in
        let size : length ys ≡ count + r.count = ap length (sym all) ∙ length_all in
        let short : length ys ≤ 544 = omega (arith, few two.again, s.table.room) in
        let E = entered_is s.small m (draft_writes s.table draft s.fits first s.first_node) (terms_of ts count) (terms_list s.table) (omega (arith, more.more)) in
        let F = entered_is s.small m' (draft_writes s.table draft s.fits last s.last_node) xs E.extends.terms (omega arith) in
        let a : i ≡ number_in ys m =
        one.number_is ∙ ap (λ (l : List ℕ). number_in l m) half ∙ sym (number_longer E.extends.terms F.extends.terms more E.stands) in
        let b : j ≡ number_in ys m' = two.number_is ∙ ap (λ (l : List ℕ). number_in l m') all in
        let A = standing_here F.extends.terms (standing_longer E.extends.terms more E.stands) in
        let B = standing_here F.extends.terms F.stands in
        record {
          first_is = a ∙ ap (λ (l : List ℕ). number_in l m) (sym all);
          last_is = b ∙ ap (λ (l : List ℕ). number_in l m') (sym all);
          first_below = omega (arith, A.below);
          last_below = omega (arith, B.below);
        }

    pub both_planned : PlanFor ts count (drafted ts draft first ∷ drafted ts draft last ∷ []) r.words (record { count = r.count; marks = Some (record { first = i; last = j }) })
    unfolding send_of
    both_planned =
        record {
          places = two.again.places;
          few = few two.again;
          marks = λ le. (omega (arith, numbers.first_below), omega (arith, numbers.last_below));
          sends = λ ws.
              subst
              (λ (xs : List ℕ). comes ts ws count r.words (record { count = r.count; marks = Some (record { first = i; last = j }) })
              ≡ sending ts ws xs (drafted ts draft first ∷ drafted ts draft last ∷ [])) all
              (rw length_all
              (ap₂ (λ (x y : ℕ). comes ts ws count r.words (record { count = r.count; marks = Some (record { first = x; last = y }) })) numbers.first_is numbers.last_is));
        }

-- ---- the marks of a plan

module _ {m : Option Marks} {x : Marks} (e : m ≡ Some x) where
  pub two_fit : MarksFit m → (x.first < 512) × (x.last < 512)
  two_fit fits = subst MarksFit e fits

  pub two_marked : (ws : List ℕ) {xs ys : List ℕ} → xs ≡ with_mark ws x.first → ys ≡ with_mark xs x.last → ys ≡ marked_by m ws
  two_marked ws p q = rw e (q ∙ ap (λ (w : List ℕ). with_mark w x.last) p)

pub none_marked : {m : Option Marks} → m ≡ None → (ws : List ℕ) → ws ≡ marked_by m ws
none_marked e ws = rw e

-- where nothing is sent nothing is planned
module _ (ts : List ℕ) (count : ℕ) (size : length ts ≡ 512) (room : count ≤ 512) where
  pub nothing_planned : {words : List ℕ} → length words ≡ 32 → PlanFor ts count [] words (record { count = 0; marks = None })
  nothing_planned places =
      record {
        places = places;
        few = omega arith;
        marks = λ le. tt;
        sends = λ ws. rw (add-zero, append-nil, take-append-drop, le-leb count 512 room) (sym (send_nothing ts ws count size room));
      }

-- ---- a plan that is for messages

pub send_room : (ts ws : List ℕ) (count : ℕ) (ms : List Message) → fits_in ts count ms ≡ true
    → let xs = entered_all (terms_of ts count) ms in send_of ts ws count ms ≡ sent (length xs) (over xs ts) (marked_all ws xs ms)
unfolding send_of
send_room ts ws count ms e = rw e

same_room : (a b : Bool) (k : ℕ) (us vs : List ℕ) (k' : ℕ) (us' vs' ts ws : List ℕ)
    → cond a (sent k us vs) (refused 20 ts ws) ≡ cond b (sent k' us' vs') (refused 20 ts ws) → a ≡ b
same_room true true k us vs k' us' vs' ts ws e = refl
same_room true false k us vs k' us' vs' ts ws e = let z : ◌≡◌ {A = ℕ} 0 1 = cc in absurd (omega arith)
same_room false true k us vs k' us' vs' ts ws e = let z : ◌≡◌ {A = ℕ} 0 1 = cc in absurd (omega arith)
same_room false false k us vs k' us' vs' ts ws e = refl

module _ {ts : List ℕ} {count : ℕ} {ms : List Message} {words : List ℕ} {r : Prepared} (p : PlanFor ts count ms words r) where
  -- it is too long exactly where the new terms do not all fit
  pub room_known : leb (count + r.count) 512 ≡ fits_in ts count ms
  unfolding send_of
  room_known =
      let xs = entered_all (terms_of ts count) ms in
      same_room (leb (count + r.count) 512) (fits_in ts count ms) (count + r.count) (with_plan ts count words r.count) (marked_by r.marks []) (length xs)
      (over xs ts) (marked_all [] xs ms) ts [] (p.sends [])

  pub plan_sent : count + r.count ≤ 512 → (ws : List ℕ)
      → sent (count + r.count) (with_plan ts count words r.count) (marked_by r.marks ws) ≡ send_of ts ws count ms
  plan_sent le ws = subst (λ (b : Bool). cond b (sent (count + r.count) (with_plan ts count words r.count) (marked_by r.marks ws)) (refused 20 ts ws) ≡ send_of ts ws count ms)
      (le-leb (count + r.count) 512 le) (p.sends ws)
