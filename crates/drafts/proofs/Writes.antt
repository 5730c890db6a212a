-- What follows from the definitions of the same name in specs/.
-- Assumes nothing.
use Rattle.std.specs.Prelude.{◌≡◌, true, List, ℕ, zero, suc, ◌<◌, ◌≤◌, ltb, get_or}
use Rattle.std.proofs.Common.{sym, subst, arith, ltb-true, leb-true}
use Rattle.std.proofs.Math.Bool.{and-eq-true_iff}
use Rattle.drafts.specs.declared.DraftKey.{DraftKey}
use Rattle.drafts.specs.declared.DraftKey.TheVariants.{LongTerm, Session}
use Rattle.drafts.specs.declared.Node.{Node}
use Rattle.drafts.specs.declared.Node.TheVariants as node
use Rattle.words.specs.declared.Term.{Term}
use Rattle.words.specs.declared.Term.TheVariants.{Principal, Time, Nonce, LongTermKey, SessionKey, Pair, Encrypted, Unknown}
use Rattle.terms.specs.Meaning.{key_of, message_of, message_at}
use Rattle.terms.proofs.Meaning.{message_at_lem, key_at}
use Rattle.terms.specs.Message.{Message}
use Rattle.terms.specs.Rules.{term_at, is_key}
use Rattle.terms.proofs.RulesLaws.{Fields}
use Rattle.terms.specs.Valid.{Terms, Valid}
use Rattle.terms.proofs.Valid.{fields_at}
use Rattle.words.proofs.Word.{TimeFits, time_fits}
use Rattle.drafts.specs.Draft.{key_name, key_fits, node_message, node_at, node_fits, draft_message, draft_fits}
use Rattle.drafts.proofs.Draft.{fits_at, draft_at}
use Rattle.drafts.specs.Writes.{KeyFits, Writes}

-- ---- of a table

term_writes : (n : ℕ) (ts : List ℕ) (at : ℕ) (sub : ℕ → Message) → ((k : ℕ) → k < at → Writes n (sub k))
    → ((k : ℕ) → k < at → is_key (term_at ts k) ≡ true → KeyFits n (key_of (sub k))) → (t : Term) → Fields n ts at t → TimeFits t → Writes n (message_of sub t)
term_writes n ts at sub w kf (Principal p) f t = f
term_writes n ts at sub w kf (Time x) f t = t
term_writes n ts at sub w kf (Nonce i) f t = f
term_writes n ts at sub w kf (LongTermKey p) f t = f
term_writes n ts at sub w kf (SessionKey i) f t = f
term_writes n ts at sub w kf (Pair l r) f t = (w l f.0, w r f.1)
term_writes n ts at sub w kf (Encrypted b k) f t = (w b f.0, kf k f.1 f.2)
term_writes n ts at sub w kf Unknown f t = absurd f

module _ {n : ℕ} {ts : List ℕ} {count : ℕ} (v : Terms n ts count) where
  table_below : (m i : ℕ) → i < m → i < count → Writes n (message_at ts i)
  table_below zero i h hi = absurd (omega arith)
  table_below (suc m) i h hi =
      subst (Writes n) (sym (message_at_lem v i hi))
      (term_writes n ts i (message_at ts) (λ k lt. table_below m k (omega arith) (omega arith))
      (λ k lt e. subst (Writes n) (key_at v k (omega arith) e) (table_below m k (omega arith) (omega arith))) (term_at ts i) (fields_at v i hi)
      (time_fits (get_or ts i 0)))

  pub table_writes : (i : ℕ) → i < count → Writes n (message_at ts i)
  table_writes i h = table_below (suc i) i (omega arith) h

-- ---- of a draft

key_writes : (n : ℕ) (k : DraftKey) → key_fits n k ≡ true → KeyFits n (key_name k)
key_writes n (LongTerm p) e = ltb-true p n e
key_writes n (Session i) e = leb-true i 95 e

node_writes : (n count k : ℕ) (stored sub : ℕ → Message) → ((i : ℕ) → i < count → Writes n (stored i)) → ((j : ℕ) → j < k → Writes n (sub j))
    → (x : Node) → node_fits n count k x ≡ true → Writes n (node_message stored sub x)
node_writes n count k stored sub ws w (node.Principal p) e = ltb-true p n e
node_writes n count k stored sub ws w (node.Time t) e = let h : t ≤ 4294967295 = leb-true t 4294967295 e in omega arith
node_writes n count k stored sub ws w (node.Nonce i) e = leb-true i 95 e
node_writes n count k stored sub ws w (node.Key x) e = key_writes n x e
node_writes n count k stored sub ws w (node.Pair l r) e =
    let b = (and-eq-true_iff (ltb l k) (ltb r k)).0 e in
    (w l (ltb-true l k b.0), w r (ltb-true r k b.1))
node_writes n count k stored sub ws w (node.Encrypted b x) e =
    let c = (and-eq-true_iff (ltb b k) (key_fits n x)).0 e in
    (w b (ltb-true b k c.0), key_writes n x c.1)
node_writes n count k stored sub ws w (node.Stored i) e = ws i (ltb-true i count e)

module _ {n : ℕ} {ts : List ℕ} {count : ℕ} (v : Valid n ts count) (draft : List Node) (fits : draft_fits n count draft ≡ true) where
  draft_below : (m k : ℕ) → k < m → k < 16 → Writes n (draft_message (message_at ts) draft k)
  draft_below zero k h hk = absurd (omega arith)
  draft_below (suc m) k h hk =
      subst (Writes n) (sym (draft_at (message_at ts) n count draft fits k hk))
      (node_writes n count k (message_at ts) (draft_message (message_at ts) draft) (table_writes v.terms)
      (λ j lt. draft_below m j (omega arith) (omega arith)) (node_at draft k) (fits_at n count draft fits k hk))

  pub draft_writes : (k : ℕ) → k < 16 → Writes n (draft_message (message_at ts) draft k)
  draft_writes k h = draft_below (suc k) k (omega arith) h
