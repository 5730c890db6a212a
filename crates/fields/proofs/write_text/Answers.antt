-- `write_text` meets its contract: the copy, into the part from the offset on.
use Rattle.std.proofs.Common.{◌≡◌, ℕ, ◌+◌, ◌-◌, List, length, take, drop, sym, refl, arith, append_assoc, drop-drop}
use borrow.Rule.Slice.PartMut.{put_mid}
use Rattle.fields.specs.Placed.{placed}
use Rattle.fields.proofs.write_text.Goals as goal

copied : (xs text part : List ℕ) (at size : ℕ) → size ≡ length text → part ≡ text → put_mid at size xs part ≡ placed xs at text
unfolding placed
copied xs text part at size e p =
    rw (p, e, drop-drop (length text) at xs) (sym (append_assoc (take at xs) text (drop (at + length text) xs)))

pub returns : goal.returns
returns c =
    let n = length c.args.text.now in
    let size : (c.args.at + n) - c.args.at ≡ n = omega arith in
    record { contents = copied _ _ _ _ _ size c.copy_from_slice.ensures.after; offset = refl }
