-- What follows from the definitions of the same name in specs/.
-- Assumes nothing.
use Rattle.std.specs.Prelude.{◌≡◌, refl, true, false, ℕ, ◌+◌, ◌<◌, ◌≤◌, length, take}
use Rattle.std.proofs.Common.{sym, ap₂, ◌∙◌, arith}
use Rattle.std.proofs.Math.Path.{ap}
use mathlib.Core.List.{List, ◌++◌, append-nil}
use borrow.Author.Tests.{le-leb, lt-leb, lt-ltb, le-ltb}
use Rattle.std.proofs.Math.ListN.{drop}
use Rattle.std.proofs.lemmas.List.{get_or-replicate}
use Rattle.drafts.specs.declared.Node.{Node}
use Rattle.drafts.specs.Draft.{draft_fits}
use Rattle.terms.specs.Number.{number_in, terms_of}
use Rattle.terms.proofs.Number.{terms_list}
use Rattle.terms.specs.Outcome.{accept, refuse}
use Rattle.terms.specs.Valid.{holds}
use Rattle.terms.proofs.Valid.{holds_valid}
use Rattle.messages.specs.Entered.{entered}
use Rattle.messages.specs.declared.plan.Plan.{Plan}
use Rattle.messages.specs.Plan.{empty_plan, known, drafted, Ready, NodePlanned, with_plan}
use Rattle.messages.proofs.Planning.{known_length}
use Rattle.messages.specs.Lent.{add_message_of}

-- ---- the start of a plan

pub start_ready : {n : ℕ} {ts : List ℕ} {count : ℕ} {draft : List Node} → n ≤ 65536 → holds n ts count ≡ true → draft_fits n count draft ≡ true
    → Ready ts count draft empty_plan
start_ready {n} {ts} {count} small h fits =
    let v = holds_valid n ts count h in
    record {
      n = n;
      small = small;
      table = v;
      fits = fits;
      terms = rw append-nil (terms_list v);
      places = refl;
      size = refl;
      room = omega arith;
      notes = λ j lt. rw (get_or-replicate {A = ℕ} 16 j 0 0) tt;
    }

-- planning a node then is entering its message into the terms of the table
pub start_planned : {ts : List ℕ} {count : ℕ} {draft : List Node} {k : ℕ} {number : ℕ} {q : Plan} → NodePlanned ts count draft k empty_plan number q
    → known ts count q ≡ entered (terms_of ts count) (drafted ts draft k)
start_planned {ts} {count} {draft} {k} planned = planned.terms ∙ ap (λ (xs : List ℕ). entered xs (drafted ts draft k)) (append-nil (take count ts))

-- ---- by the way out

module _ (n : ℕ) (ts : List ℕ) (count : ℕ) (draft : List Node) (root : ℕ) where
  pub bad_tables : holds n ts count ≡ false → refuse 10 count ts ≡ add_message_of n ts count draft root
  unfolding add_message_of
  bad_tables e = rw e

  module _ (held : holds n ts count ≡ true) where
    pub bad_root : 16 ≤ root → refuse 6 count ts ≡ add_message_of n ts count draft root
    unfolding add_message_of
    bad_root h = rw (held, le-ltb root 16 h)

    pub bad_draft : root < 16 → draft_fits n count draft ≡ false → refuse 6 count ts ≡ add_message_of n ts count draft root
    unfolding add_message_of
    bad_draft h e = rw (held, lt-ltb root 16 h, e)

    module _ (h : root < 16) (fits : draft_fits n count draft ≡ true) {number : ℕ} {q : Plan}
        (planned : NodePlanned ts count draft root empty_plan number q) where
      all : known ts count q ≡ entered (terms_of ts count) (drafted ts draft root)
      all = start_planned planned

      length_all : length (entered (terms_of ts count) (drafted ts draft root)) ≡ count + q.count
      length_all = ap length (sym all) ∙ known_length planned.again

      pub too_many : 512 < count + q.count → refuse 20 count ts ≡ add_message_of n ts count draft root
      unfolding add_message_of
      too_many lt = rw (held, lt-ltb root 16 h, fits, length_all, lt-leb (count + q.count) 512 lt)

      pub all_fit : count + q.count ≤ 512 → accept number (count + q.count) (with_plan ts count q.words q.count) ≡ add_message_of n ts count draft root
      unfolding add_message_of
      all_fit le =
          rw (held, lt-ltb root 16 h, fits, length_all, le-leb (count + q.count) 512 le)
          (ap₂ (λ (i : ℕ) (xs : List ℕ). accept i (count + q.count) (xs ++ drop (count + q.count) ts))
          (planned.number_is ∙ ap (λ (xs : List ℕ). number_in xs (drafted ts draft root)) all) all)
