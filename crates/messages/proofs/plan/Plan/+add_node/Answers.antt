-- The proof of the cycle of calls {add_node}: each way out cites its law. The measure is the node's number. Assumes nothing.
use Rattle.std.proofs.Common.{sym, ◌∙◌, arith}
use Rattle.messages.proofs.Planning.{node_seen, node_stored, node_atom, node_pair, node_encrypted, pair_below, pair_room, body_below, body_room, room_left}
use Rattle.messages.proofs.plan.Plan.+add_node.Goals as goal

pub returns-then-seen-ne0 : goal.returns-then-seen-ne0
returns-then-seen-ne0 t c = node_seen c.requires.0 c.args.k c.requires.1 c.if-seen-ne0.true

pub add_own-requires : goal.add_own-requires
add_own-requires t c =
    let R = c.requires.0 in
    (R.table.size, R.table.room, omega (arith, room_left R c.args.k c.requires.1 c.if-seen-ne0.false), c.requires.1)

pub add_node-left-requires : goal.add_node-left-requires
add_node-left-requires t c =
    let h = pair_below c.requires.0 c.args.k c.requires.1 c.if-seen-ne0.false (sym c.layer_of.ensures ∙ c.in-Pair.is) in
    (omega (arith, h.0, c.decreases), (c.requires.0, omega (arith, h.0, c.requires.1)))

pub add_node-right-requires : goal.add_node-right-requires
add_node-right-requires t c =
    let h = pair_below c.requires.0 c.args.k c.requires.1 c.if-seen-ne0.false (sym c.layer_of.ensures ∙ c.in-Pair.is) in
    (omega (arith, h.1, c.decreases), (c.add_node-left.ensures.again, omega (arith, h.1, c.requires.1)))

-- once the operands are planned there is room for two words more
pub add_own-requires-in-Pair : goal.add_own-requires-in-Pair
add_own-requires-in-Pair t c =
    let R = c.add_node-right.ensures.again in
    let room = pair_room c.requires.0 c.args.k c.requires.1 c.if-seen-ne0.false (sym c.layer_of.ensures ∙ c.in-Pair.is) c.add_node-left.ensures c.add_node-right.ensures in
    (R.table.size, R.table.room, omega (arith, room), c.requires.1)

pub add_node-body-requires : goal.add_node-body-requires
add_node-body-requires t c =
    let h = body_below c.requires.0 c.args.k c.requires.1 c.if-seen-ne0.false (sym c.layer_of.ensures ∙ c.in-Encrypted.is) in
    (omega (arith, h, c.decreases), (c.requires.0, omega (arith, h, c.requires.1)))

pub add_word-under-requires : goal.add_word-under-requires
add_word-under-requires t c =
    let R = c.add_node-body.ensures.again in
    let room = body_room c.requires.0 c.args.k c.requires.1 c.if-seen-ne0.false (sym c.layer_of.ensures ∙ c.in-Encrypted.is) c.add_node-body.ensures in
    (R.table.size, R.table.room, omega (arith, room))

pub add_own-requires-in-Encrypted : goal.add_own-requires-in-Encrypted
add_own-requires-in-Encrypted t c =
    let R = c.add_node-body.ensures.again in
    let word = c.add_word-under.ensures.0 in
    let room = body_room c.requires.0 c.args.k c.requires.1 c.if-seen-ne0.false (sym c.layer_of.ensures ∙ c.in-Encrypted.is) c.add_node-body.ensures in
    (R.table.size, R.table.room, omega (arith, word.most, room), c.requires.1)

pub returns-in-Stored : goal.returns-in-Stored
returns-in-Stored t c = node_stored c.requires.0 c.args.k c.requires.1 (sym c.layer_of.ensures ∙ c.in-Stored.is)

pub returns-in-Atom : goal.returns-in-Atom
returns-in-Atom t c =
    rw c.add_own.ensures.1
    (node_atom c.requires.0 c.args.k c.requires.1 (sym c.layer_of.ensures ∙ c.in-Atom.is) c.if-seen-ne0.false c.add_own.ensures.0)

pub returns-in-Pair : goal.returns-in-Pair
returns-in-Pair t c =
    rw c.add_own-in-Pair.ensures.1
    (node_pair c.requires.0 c.args.k c.requires.1 c.if-seen-ne0.false (sym c.layer_of.ensures ∙ c.in-Pair.is)
    c.add_node-left.ensures c.add_node-right.ensures c.from-word.ensures c.add_own-in-Pair.ensures.0)

pub returns-in-Encrypted : goal.returns-in-Encrypted
returns-in-Encrypted t c =
    rw (c.add_own-in-Encrypted.ensures.1, c.add_word-under.ensures.1)
    (node_encrypted c.requires.0 c.args.k c.requires.1 c.if-seen-ne0.false (sym c.layer_of.ensures ∙ c.in-Encrypted.is)
    c.add_node-body.ensures c.add_word-under.ensures.0 c.from-word-in-Encrypted.ensures c.add_own-in-Encrypted.ensures.0)
