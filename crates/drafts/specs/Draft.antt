-- A draft: the message that a node of it stands for, and which drafts can be added in a realm of n principals to a table
-- of `count` terms.
-- Assumes nothing.
use Rattle.std.specs.Prelude.{Bool, ◌&&◌, List, ℕ, ltb, leb, get_or}
use Rattle.drafts.specs.declared.DraftKey.{DraftKey}
use Rattle.drafts.specs.declared.DraftKey.TheVariants.{LongTerm, Session}
use Rattle.drafts.specs.declared.Layer.{Layer}
use Rattle.drafts.specs.declared.Layer.TheVariants as layer
use Rattle.drafts.specs.declared.Node.{Node}
use Rattle.drafts.specs.declared.Node.TheVariants as node
use Rattle.words.specs.declared.Term.TheVariants.{Principal, Time, Nonce, LongTermKey, SessionKey}
use Rattle.terms.specs.AllOf.{each}
use Rattle.terms.specs.Descend.{descend}
use Rattle.terms.specs.Message.{Key, long_term, session, Message, principal, time, nonce, key, pair, encrypted}
use Rattle.words.specs.Word.{word_of}

-- ---- the message

abbrev pub key_name : DraftKey → Key
key_name (LongTerm p) = long_term p
key_name (Session i) = session i

-- a node's message, given those of the terms and of the draft's nodes
abbrev pub node_message : (stored sub : ℕ → Message) → Node → Message
node_message stored sub (node.Principal p) = principal p
node_message stored sub (node.Time t) = time t
node_message stored sub (node.Nonce i) = nonce i
node_message stored sub (node.Key k) = key (key_name k)
node_message stored sub (node.Pair l r) = pair (sub l) (sub r)
node_message stored sub (node.Encrypted b k) = encrypted (sub b) (key_name k)
node_message stored sub (node.Stored i) = stored i

abbrev pub node_at : List Node → ℕ → Node
node_at draft k = get_or draft k (node.Principal 0)

abbrev pub read_node : (ℕ → Message) → List Node → ℕ → (ℕ → Message) → Message
read_node stored draft k sub = node_message stored sub (node_at draft k)

-- the message of node k
unfoldable pub draft_message : (stored : ℕ → Message) → List Node → ℕ → Message
draft_message stored draft = descend (principal 0) (read_node stored draft)

-- ---- which drafts fit

abbrev pub key_fits : ℕ → DraftKey → Bool
key_fits n (LongTerm p) = ltb p n
key_fits n (Session i) = leb i 95

abbrev pub node_fits : (n count k : ℕ) → Node → Bool
node_fits n count k (node.Principal p) = ltb p n
node_fits n count k (node.Time t) = leb t 4294967295
node_fits n count k (node.Nonce i) = leb i 95
node_fits n count k (node.Key x) = key_fits n x
node_fits n count k (node.Pair l r) = ltb l k && ltb r k
node_fits n count k (node.Encrypted b x) = ltb b k && key_fits n x
node_fits n count k (node.Stored i) = ltb i count

unfoldable pub draft_fits : (n count : ℕ) → List Node → Bool
draft_fits n count draft = each (λ k. node_fits n count k (node_at draft k)) 16

-- ---- a node as adding needs it

abbrev pub word_of_key : DraftKey → ℕ
word_of_key (LongTerm p) = word_of (LongTermKey p)
word_of_key (Session i) = word_of (SessionKey i)

abbrev pub layer_of : Node → Layer
layer_of (node.Principal p) = layer.Atom (word_of (Principal p))
layer_of (node.Time t) = layer.Atom (word_of (Time t))
layer_of (node.Nonce i) = layer.Atom (word_of (Nonce i))
layer_of (node.Key k) = layer.Atom (word_of_key k)
layer_of (node.Pair l r) = layer.Pair l r
layer_of (node.Encrypted b k) = layer.Encrypted b (word_of_key k)
layer_of (node.Stored i) = layer.Stored i
