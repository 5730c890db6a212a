-- A message is read as a form exactly if it is the exchange's message of that name with the values read. Then what the code
-- answers of two halves.
-- Assumes nothing.
use Rattle.std.specs.Prelude.{◌&&◌, ◌⊎◌, ◌↔◌, ◌≡◌, refl, ℕ, eqb, None, Some}
use Rattle.std.proofs.Math.Bool.{and-eq-true_iff}
use Rattle.std.proofs.lemmas.Bool.{and_left, and_right}
use Rattle.std.proofs.lemmas.Option.{cond_some}
use Rattle.std.proofs.Common.{inl, inr, ap, ap₂, ◌∙◌, arith, eqb-true, eq-eqb, ne_eqb}
use Rattle.kerberos.specs.Messages.{ticket, authenticator}
use Rattle.terms.specs.Message.{Message, pair}
use Rattle.layers.specs.Layers.{TIME, PAIR, of_kind, operands}
use Rattle.layers.proofs.Laws.Layers.{and_then_back, of_kind_lem, kind_is, pair_back, reads_atom, reads_▸, principal_first, key_first, under_key, under_session, exactly}
use Rattle.forms.specs.declared.Authenticator.{Authenticator}
use Rattle.forms.specs.declared.Delivery.{Delivery}
use Rattle.forms.specs.declared.Ticket.{Ticket}
use Rattle.forms.specs.Delivery.{ticket_of, ticket_in, authenticator_of, authenticator_in, delivery_of, both_in, delivery_in}

-- step 5: "{K, a, Ts} under b's key"
pub ticket_form_lem : (m : Message) (q : Ticket) → (ticket_in m ≡ Some q) ↔ (m ≡ ticket q.k q.a q.ts q.b)
unfolding ticket_in
ticket_form_lem =
    exactly (reads_▸ under_key (reads_▸ key_first (reads_▸ principal_first (reads_atom TIME (omega arith)))))
    ticket_of (λ q. (q.b, (q.k, (q.a, q.ts)))) (λ x. refl) (λ q. refl)

-- step 5: "{a, Ta}K"
pub authenticator_form_lem : (m : Message) (q : Authenticator) → (authenticator_in m ≡ Some q) ↔ (m ≡ authenticator q.a q.ta q.k)
unfolding authenticator_in
authenticator_form_lem =
    exactly (reads_▸ under_session (reads_▸ principal_first (reads_atom TIME (omega arith))))
    authenticator_of (λ q. (q.k, (q.a, q.ta))) (λ x. refl) (λ q. refl)

-- ---- "the pair of {K, a, Ts} under b's key and {a, Ta}K"

-- the ticket and the authenticator of a delivery
abbrev ticket_part : Delivery → Ticket
ticket_part q = record { k = q.k; a = q.a; ts = q.ts; b = q.b }

abbrev authenticator_part : Delivery → Authenticator
authenticator_part q = record { a = q.a; ta = q.ta; k = q.k }

parts_back : (q : Delivery) (t : Ticket) (u : Authenticator) → delivery_of t u ≡ Some q → (t ≡ ticket_part q) × (u ≡ authenticator_part q)
parts_back q t u e =
    let p = cond_some (eqb u.a t.a && eqb u.k t.k) _ q e in
    let both = (and-eq-true_iff (eqb u.a t.a) (eqb u.k t.k)).0 p.0 in
    let a : u.a ≡ t.a = eqb-true u.a t.a both.0 in
    let k : u.k ≡ t.k = eqb-true u.k t.k both.1 in (
      ap ticket_part p.1,
      ap₂ (λ (a k : ℕ). record { a = a; ta = u.ta; k = k }) a k ∙ ap authenticator_part p.1,
    )

delivery_back : (m : Message) (q : Delivery) → delivery_in m ≡ Some q → m ≡ pair (ticket q.k q.a q.ts q.b) (authenticator q.a q.ta q.k)
unfolding delivery_in
delivery_back m q e =
    let p = and_then_back (λ p. both_in p.0 p.1) (of_kind PAIR operands m) q e in
    let t = and_then_back _ (ticket_in p.0.0) q p.2 in
    let u = and_then_back (delivery_of t.0) (authenticator_in p.0.1) q t.2 in
    let i = kind_is operands PAIR m p.0 p.1 in
    let r = parts_back q t.0 u.0 u.2 in
    let halves : ((operands m).0 ≡ p.0.0) × ((operands m).1 ≡ p.0.1) = (ap (λ (x : Message × Message). x.0) i.1, ap (λ (x : Message × Message). x.1) i.1) in
    pair_back m i.0
    ∙ ap₂ pair
    (halves.0 ∙ (ticket_form_lem p.0.0 (ticket_part q)).0 (t.1 ∙ ap Some r.0))
    (halves.1 ∙ (authenticator_form_lem p.0.1 (authenticator_part q)).0 (u.1 ∙ ap Some r.1))

delivery_forth : (q : Delivery) → delivery_in (pair (ticket q.k q.a q.ts q.b) (authenticator q.a q.ta q.k)) ≡ Some q
unfolding delivery_in
delivery_forth q =
    rw (
      of_kind_lem operands PAIR (pair (ticket q.k q.a q.ts q.b) (authenticator q.a q.ta q.k)) refl,
      (ticket_form_lem (ticket q.k q.a q.ts q.b) (ticket_part q)).1 refl,
      (authenticator_form_lem (authenticator q.a q.ta q.k) (authenticator_part q)).1 refl,
      eq-eqb q.a q.a refl,
      eq-eqb q.k q.k refl,
    )

pub delivery_form : (m : Message) (q : Delivery) → (delivery_in m ≡ Some q) ↔ (m ≡ pair (ticket q.k q.a q.ts q.b) (authenticator q.a q.ta q.k))
delivery_form m q = (delivery_back m q, λ e. ap delivery_in e ∙ delivery_forth q)

-- ---- one K and one a, by the code's test

pub differ : (t : Ticket) (u : Authenticator) → (u.a ≡ t.a → ⊥) ⊎ ((u.a ≡ t.a) × (u.k ≡ t.k → ⊥)) → delivery_of t u ≡ None
differ t u (inl h) = rw (and_left (eqb u.a t.a) (eqb u.k t.k) (ne_eqb u.a t.a h))
differ t u (inr (_, h)) = rw (and_right (eqb u.a t.a) (eqb u.k t.k) (ne_eqb u.k t.k h))
