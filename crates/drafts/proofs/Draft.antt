-- What follows from the definitions of the same name in specs/.
-- Assumes nothing.
use Rattle.std.specs.Prelude.{◌≡◌, refl, true, List, ℕ, ◌<◌, ltb}
use Rattle.std.proofs.Common.{ap, ap₂, ltb-true}
use Rattle.std.proofs.Math.Bool.{and-eq-true_iff}
use Rattle.drafts.specs.declared.Node.{Node}
use Rattle.drafts.specs.declared.Node.TheVariants as node
use Rattle.terms.proofs.AllOf.{each_true, true_each}
use Rattle.terms.proofs.Descend.{descend_at}
use Rattle.terms.specs.Message.{Message, principal, pair, encrypted}
use Rattle.drafts.specs.Draft.{key_name, node_message, node_at, read_node, draft_message, key_fits, node_fits, draft_fits}

-- ---- laws

module _ (n count : ℕ) (draft : List Node) where
  pub fits_at : draft_fits n count draft ≡ true → (k : ℕ) → k < 16 → node_fits n count k (node_at draft k) ≡ true
  unfolding draft_fits
  fits_at = each_true (λ k. node_fits n count k (node_at draft k)) 16

  pub all_fit : ((k : ℕ) → k < 16 → node_fits n count k (node_at draft k) ≡ true) → draft_fits n count draft ≡ true
  unfolding draft_fits
  all_fit = true_each (λ k. node_fits n count k (node_at draft k)) 16

-- operands are earlier nodes, so a node's message is that of its operands' messages
node_same : (stored : ℕ → Message) (n count k : ℕ) (x : Node) → node_fits n count k x ≡ true → (f g : ℕ → Message) → ((j : ℕ) → j < k → f j ≡ g j)
    → node_message stored f x ≡ node_message stored g x
node_same stored n count k (node.Principal p) e f g h = refl
node_same stored n count k (node.Time t) e f g h = refl
node_same stored n count k (node.Nonce i) e f g h = refl
node_same stored n count k (node.Key x) e f g h = refl
node_same stored n count k (node.Pair l r) e f g h =
    let b = (and-eq-true_iff (ltb l k) (ltb r k)).0 e in
    ap₂ pair (h l (ltb-true l k b.0)) (h r (ltb-true r k b.1))
node_same stored n count k (node.Encrypted b x) e f g h =
    ap (λ (m : Message). encrypted m (key_name x)) (h b (ltb-true b k ((and-eq-true_iff (ltb b k) (key_fits n x)).0 e).0))
node_same stored n count k (node.Stored i) e f g h = refl

pub draft_at : (stored : ℕ → Message) (n count : ℕ) (draft : List Node) → draft_fits n count draft ≡ true → (k : ℕ) → k < 16
    → draft_message stored draft k ≡ node_message stored (draft_message stored draft) (node_at draft k)
unfolding draft_message
draft_at stored n count draft e =
    descend_at (principal 0) (read_node stored draft) 16
    (λ k h f g same. node_same stored n count k (node_at draft k) (fits_at n count draft e k h) f g same)
