-- A message is read as a grant exactly if it is the exchange's grant of that form with the values read, X being the one that the
-- exchange reads. Then what the code answers of a pair.
-- Assumes nothing.
use Rattle.std.specs.Prelude.{ℕ, ◌<◌, ◌↔◌, List, ◌≡◌, refl, Option, None, Some}
use Rattle.std.proofs.Common.{sym, ap, ap₂, ◌∙◌, arith}
use Rattle.std.proofs.lemmas.Option.{none-some}
use Rattle.terms.specs.Meaning.{message_at}
use Rattle.terms.specs.Message.{Message, nonce, pair}
use Rattle.exchange.specs.declared.form.Form.{Form}
use Rattle.exchange.specs.declared.form.Form.TheVariants.{Parallel, Kerberos5, Kerberos4}
use Rattle.kerberos.specs.Messages.{reply, grant}
use Rattle.kerberos.specs.Reading.{parts}
use Rattle.layers.specs.Layers.{NONCE, PAIR, of_kind, operands, atom, first}
use Rattle.layers.proofs.Laws.Layers.{Reads, and_then_back, map_back, of_kind_lem, kind_is, pair_back, reads_atom, reads_rest, reads_▸, principal_first, nonce_first, time_first, key_first, under_key}
use Rattle.forms.specs.declared.Grant.{Grant}
use Rattle.forms.specs.Grant.{reply_form, Granted, alone, granted_of, grant_of, pair_in, grant_in, Grants}

-- ---- which messages have the form

reads_reply : Reads reply_form (λ v. reply v.1.0 v.1.1.0 v.1.1.1.0 v.1.1.1.1 v.0)
reads_reply = reads_▸ under_key (reads_▸ key_first (reads_▸ principal_first (reads_rest time_first)))

module _ (q : Granted) (s : Message → Option (ℕ × Message)) where
  of_back : (o : Option (ℕ × (ℕ × (ℕ × (ℕ × Message))))) → grant_of o s ≡ Some q
      → (rest : Message) × (o ≡ Some (q.a, (q.k, (q.b, (q.ts, rest))))) × (s rest ≡ Some (q.n, q.x))
  of_back None e = absurd (none-some q e)
  of_back (Some (a, (k, (b, (ts, rest))))) e =
      let p = map_back (granted_of a k b ts) (s rest) q e in
      (rest, ap (λ (g : Granted). Some (g.a, (g.k, (g.b, (g.ts, rest))))) p.2, p.1 ∙ ap (λ (g : Granted). Some (g.n, g.x)) p.2)

  reply_back : (m : Message) → grant_of (reply_form m) s ≡ Some q → (rest : Message) × (m ≡ reply q.k q.b q.ts rest q.a) × (s rest ≡ Some (q.n, q.x))
  reply_back m e =
      let p = of_back (reply_form m) e in
      (p.0, reads_reply.back m (q.a, (q.k, (q.b, (q.ts, p.0)))) p.1, p.2)

  reply_forth : (rest : Message) → s rest ≡ Some (q.n, q.x) → grant_of (reply_form (reply q.k q.b q.ts rest q.a)) s ≡ Some q
  reply_forth rest e = rw (reads_reply.forth (q.a, (q.k, (q.b, (q.ts, rest)))), e)

-- N, and X from elsewhere
alone_back : (n : ℕ) (x y rest : Message) → alone y rest ≡ Some (n, x) → (rest ≡ nonce n) × (x ≡ y)
alone_back n x y rest e =
    let p = map_back (λ n. (n, y)) (atom NONCE rest) (n, x) e in
    ((reads_atom NONCE (omega arith)).back rest p.0 p.1 ∙ ap nonce (ap (λ (z : ℕ × Message). z.0) p.2), sym (ap (λ (z : ℕ × Message). z.1) p.2))

alone_forth : (n : ℕ) (y : Message) → alone y (nonce n) ≡ Some (n, y)
alone_forth n y = rw ((reads_atom NONCE (omega arith)).forth n)

module _ (q : Granted) where
  beside_form : (m y : Message) → (grant_of (reply_form m) (alone y) ≡ Some q) ↔ ((m ≡ reply q.k q.b q.ts (nonce q.n) q.a) × (q.x ≡ y))
  beside_form m y = (
    λ e. let p = reply_back q (alone y) m e in
        let r = alone_back q.n q.x y p.0 p.2 in
        (p.1 ∙ ap (λ (z : Message). reply q.k q.b q.ts z q.a) r.0, r.1),
    λ h. rw (h.0, ← h.1) (reply_forth q (alone q.x) (nonce q.n) (alone_forth q.n q.x)),
  )

  inside_form : (m : Message) → (grant_of (reply_form m) (first NONCE) ≡ Some q) ↔ (m ≡ reply q.k q.b q.ts (pair (nonce q.n) q.x) q.a)
  inside_form m = (
    λ e. let p = reply_back q (first NONCE) m e in
        p.1 ∙ ap (λ (z : Message). reply q.k q.b q.ts z q.a) (nonce_first.back p.0 q.n q.x p.2),
    λ h. rw h (reply_forth q (first NONCE) (pair (nonce q.n) q.x) (nonce_first.forth q.n q.x)),
  )

  pair_form : (m : Message) → (pair_in m ≡ Some q) ↔ (m ≡ pair (reply q.k q.b q.ts (nonce q.n) q.a) q.x)
  pair_form m = (back, λ h. rw (h, of_kind_lem operands PAIR (pair (reply q.k q.b q.ts (nonce q.n) q.a) q.x) refl) ((beside_form (reply q.k q.b q.ts (nonce q.n) q.a) q.x).1 (refl, refl)))
    where
      back : pair_in m ≡ Some q → m ≡ pair (reply q.k q.b q.ts (nonce q.n) q.a) q.x
      back e =
          let p = and_then_back (λ p. grant_of (reply_form p.0) (alone p.1)) (of_kind PAIR operands m) q e in
          let i = kind_is operands PAIR m p.0 p.1 in
          let r = (beside_form p.0.0 p.0.1).0 p.2 in
          pair_back m i.0 ∙ ap (λ (z : Message × Message). pair z.0 z.1) i.1 ∙ ap₂ pair r.0 (sym r.1)

pub grant_form : (f : Form) (m : Message) (q : Granted) → (grant_in f m ≡ Some q) ↔ ((m ≡ grant f q.k q.b q.ts q.n q.a q.x) × (q.x ≡ (parts f m).1))
unfolding grant_in
grant_form Parallel m q = beside_form q m m
grant_form Kerberos5 m q = (λ e. let h = (pair_form q m).0 e in (h, rw h), λ h. (pair_form q m).1 h.0)
grant_form Kerberos4 m q = (λ e. let h = (inside_form q m).0 e in (h, rw h), λ h. (inside_form q m).1 h.0)

-- ---- what is read of the left half of the pair m, beside its right half x

in_pair : (m : Message) {l r : Message} → of_kind PAIR operands m ≡ Some (l, r) → pair_in m ≡ grant_of (reply_form l) (alone r)
in_pair m e = rw e

pub of_pair : (ts : List ℕ) (m l x : ℕ) → of_kind PAIR operands (message_at ts m) ≡ Some (message_at ts l, message_at ts x) → x < m → (r : Option Grant)
    → Grants ts x r (grant_of (reply_form (message_at ts l)) (alone (message_at ts x)))
    → Grants ts m r (pair_in (message_at ts m))
of_pair ts m l x e h None g = in_pair (message_at ts m) e ∙ g
of_pair ts m l x e h (Some r) g = (in_pair (message_at ts m) e ∙ g.0, omega (arith, g.1, h))
