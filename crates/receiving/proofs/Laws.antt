-- Each way out of the steps that take a message, and that what they narrow fits a byte.
-- Assumes nothing.
use Rattle.std.specs.Prelude.{ℕ, ◌<◌, ◌≤◌, true, false, not, ◌&&◌, List, ◌≡◌, eqb, Ok, Err, None, Some}
use Rattle.std.proofs.Common.{sym, ap, arith}
use borrow.Author.Tests.{lt-ltb, le-ltb, eq-eqb, ne_eqb}
use Rattle.terms.specs.Meaning.{message_at}
use Rattle.terms.specs.Number.{number_in, terms_of}
use Rattle.terms.specs.Valid.{Valid}
use Rattle.decisions.specs.Effects.{issuing, authenticating, accepting, finishing}
use Rattle.exchange.specs.declared.form.Form.{Form}
use Rattle.exchange.specs.declared.run.Row.{Row}
use Rattle.exchange.specs.Forms.{form_of}
use Rattle.layers.proofs.Promises.{in_range_lem}
use Rattle.forms.specs.Forms.{request_in, confirmation_in}
use Rattle.forms.specs.Grant.{Granted, grant_in, Grants}
use Rattle.forms.proofs.Promises.{is_request, is_grant}
use Rattle.forms.specs.declared.Confirmation.{Confirmation}
use Rattle.forms.specs.declared.Grant.{Grant}
use Rattle.forms.specs.declared.Request.{Request}
use Rattle.forms.specs.Delivery.{delivery_in}
use Rattle.forms.proofs.Promises.{is_delivery}
use Rattle.forms.specs.declared.Delivery.{Delivery}
use Rattle.replay.specs.declared.entry.Entry.{Entry}
use Rattle.realm.specs.declared.header.Realm.{Realm}
use Rattle.conditions.specs.Conditions.{derivable_at, ticket_lives, admission}
use Rattle.decisions.proofs.Laws.Forms.{grant_key}
use Rattle.messages.proofs.Parts.{number_here}
use Rattle.decisions.specs.Decision.{need, issues, authenticates, takes, finishes}

-- ---- step 3

module _ (h : Realm) (ts ws : List ℕ) (m : ℕ) where
  pub no_room_to_issue : 64 ≤ h.runs → Err 13 ≡ issues h ts ws m
  unfolding issues
  no_room_to_issue p = rw (le-ltb h.runs 64 p)

  module _ (room : h.runs < 64) where
    pub no_request : request_in (message_at ts m) ≡ None → Err 14 ≡ issues h ts ws m
    unfolding issues
    no_request e = rw (lt-ltb h.runs 64 room, e)

    module _ (q : Request) (is : request_in (message_at ts m) ≡ Some q) where
      pub request_barred : (not (eqb q.a 0) && not (eqb q.b 0) && not (eqb q.a q.b)) ≡ false → Err 14 ≡ issues h ts ws m
      unfolding issues
      request_barred p = rw (lt-ltb h.runs 64 room, is, p)

      module _ (apart : (not (eqb q.a 0) && not (eqb q.b 0) && not (eqb q.a q.b)) ≡ true) where
        pub request_asked : (f : Form) → f ≡ form_of h.rules → need (derivable_at h ts ws m) 15 (Ok (issuing h.clock f h.runs q.a q.b q.n)) ≡ issues h ts ws m
        unfolding issues
        request_asked f g = rw (g, lt-ltb h.runs 64 room, is, apart)

-- ---- step 4

module _ (h : Realm) (ts ws : List ℕ) (r : ℕ) (own : Row) (m : ℕ) where
  pub no_grant : grant_in (form_of h.rules) (message_at ts m) ≡ None → Err 14 ≡ authenticates h ts ws r own m
  unfolding authenticates
  no_grant e = rw e

  module _ (q : Granted) (is : grant_in (form_of h.rules) (message_at ts m) ≡ Some q) where
    pub grant_to_another : (eqb q.b own.b && eqb q.n r && eqb q.a own.a) ≡ false → Err 14 ≡ authenticates h ts ws r own m
    unfolding authenticates
    grant_to_another p = rw (is, p)

    module _ (mine : (eqb q.b own.b && eqb q.n r && eqb q.a own.a) ≡ true) where
      pub grant_over : ticket_lives h q.ts ≡ false → need (derivable_at h ts ws m) 15 (Err 16) ≡ authenticates h ts ws r own m
      unfolding authenticates
      grant_over p = rw (is, mine, p)

      pub grant_asked : (f : Form) → f ≡ form_of h.rules → (i : ℕ) → i ≡ number_in (terms_of ts h.terms) q.x → ticket_lives h q.ts ≡ true
          → need (derivable_at h ts ws m) 15 (Ok (authenticating h.clock f r own.a own.b q.k q.ts i)) ≡ authenticates h ts ws r own m
      unfolding authenticates
      grant_asked f g i e p = rw (g, is, mine, p) (ap (λ (j : ℕ). need (derivable_at h ts ws m) 15 (Ok (authenticating h.clock (form_of h.rules) r own.a own.b q.k q.ts j))) e)

-- ---- step 5

module _ (h : Realm) (ts ws : List ℕ) (cache : List Entry) (r : ℕ) (own : Row) (m : ℕ) where
  pub no_delivery : delivery_in (message_at ts m) ≡ None → Err 14 ≡ takes h ts ws cache r own m
  unfolding takes
  no_delivery e = rw e

  module _ (q : Delivery) (is : delivery_in (message_at ts m) ≡ Some q) where
    pub delivery_to_another : (eqb q.a own.a && eqb q.b own.b) ≡ false → Err 14 ≡ takes h ts ws cache r own m
    unfolding takes
    delivery_to_another p = rw (is, p)

    module _ (mine : (eqb q.a own.a && eqb q.b own.b) ≡ true) where
      module _ (number : ℕ) (admits : number ≡ admission h cache q.ts (record { b = q.b; k = q.k; ta = q.ta })) where
        pub delivery_barred : (number ≡ 0 → ⊥) → need (derivable_at h ts ws m) 15 (Err number) ≡ takes h ts ws cache r own m
        unfolding takes
        delivery_barred p = rw (is, mine, ← admits, ne_eqb number 0 p)

        pub delivery_asked : number ≡ 0
            → need (derivable_at h ts ws m) 15 (Ok (accepting h.clock r own.a own.b q.k q.ts q.ta)) ≡ takes h ts ws cache r own m
        unfolding takes
        delivery_asked p = rw (is, mine, ← admits, eq-eqb number 0 p)

-- ---- step 6

module _ (h : Realm) (ts ws : List ℕ) (r : ℕ) (own : Row) (m : ℕ) where
  pub no_confirmation : confirmation_in (message_at ts m) ≡ None → Err 14 ≡ finishes h ts ws r own m
  unfolding finishes
  no_confirmation e = rw e

  module _ (q : Confirmation) (is : confirmation_in (message_at ts m) ≡ Some q) where
    pub confirmation_to_another : (eqb q.ta own.ta && eqb q.k own.k) ≡ false → Err 14 ≡ finishes h ts ws r own m
    unfolding finishes
    confirmation_to_another p = rw (is, p)

    module _ (mine : (eqb q.ta own.ta && eqb q.k own.k) ≡ true) where
      pub confirmation_over : ticket_lives h own.ts ≡ false → need (derivable_at h ts ws m) 15 (Err 16) ≡ finishes h ts ws r own m
      unfolding finishes
      confirmation_over p = rw (is, mine, p)

      pub confirmation_asked : ticket_lives h own.ts ≡ true
          → need (derivable_at h ts ws m) 15 (Ok (finishing h.clock r own.a own.b own.k own.ts own.ta)) ≡ finishes h ts ws r own m
      unfolding finishes
      confirmation_asked p = rw (is, mine, p)

-- ---- what is read fits

module _ (h : Realm) {ts : List ℕ} {m : ℕ} (valid : Valid h.n ts h.terms) (below : m < h.terms) where
  pub request_in_range : (q : Request) → request_in (message_at ts m) ≡ Some q → (q.a < h.n) × (q.b < h.n)
  request_in_range q e = let w = in_range_lem valid below ((is_request (message_at ts m) q).0 e) in (w.0, w.1.0)

  module _ (f : Form) (g : Grant) (is : Grants ts m (Some g) (grant_in f (message_at ts m))) where
    pub grant_key_most : g.k ≤ 95
    grant_key_most =
        grant_key h.n f g.k g.b g.ts g.n g.a (message_at ts g.x)
        (in_range_lem valid below ((is_grant (message_at ts m) f _).0 is.0).0)

    -- and x is the number of the X
    pub grant_number : g.x ≡ number_in (terms_of ts h.terms) (message_at ts g.x)
    grant_number = sym (number_here valid g.x (omega (arith, is.1, below)))

  pub delivery_key_most : (q : Delivery) → delivery_in (message_at ts m) ≡ Some q → q.k ≤ 95
  delivery_key_most q e = (in_range_lem valid below ((is_delivery (message_at ts m) q).0 e)).0.0.0
