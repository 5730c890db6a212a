-- A turn of the pass, of a list and a count that stand as the pass over the entries before it left them.
-- Assumes nothing.
use Rattle.std.specs.Prelude.{◌≡◌, true, false, get_or, set}
use Rattle.std.proofs.Math.Path.{sym, ap}
use Rattle.std.proofs.Common.{◌∙◌}
use Prim.Native.Nat.{ℕ, ◌+◌, ◌<◌, ◌≤◌}
use native.Mathlib.Omega.{arith}
use mathlib.Core.List.{List}
use Rattle.std.proofs.Math.ListN.{length}
use Rattle.replay.specs.declared.entry.Entry.{Entry}
use Rattle.replay.specs.declared.entry.Purge.{Purge}
use Rattle.replay.specs.Cache.{Swept, empty, stays, swept, after_read}
use Rattle.replay.proofs.CacheLaws.Pass.{at_length, at_below, at_next, at_goes, at_stays}

-- the same of a list and a count that stand so
module _ (p : Purge) (list : List Entry) (i : ℕ) {zs : List Entry} {left : ℕ} (s : swept zs left ≡ after_read p list i) (l : i < length list) where
  is_places : zs ≡ (after_read p list i).places
  is_places = ap (λ (w : Swept). w.places) s

  is_count : left ≡ (after_read p list i).count
  is_count = ap (λ (w : Swept). w.count) s

  pub turn_length : length zs ≡ length list
  turn_length = ap length is_places ∙ at_length p list i (omega arith)

  pub turn_below : left ≤ i
  turn_below = omega (arith, is_count, at_below p list i (omega arith))

  next_is : get_or zs i empty ≡ get_or list i empty
  next_is = ap (λ (r : List Entry). get_or r i empty) is_places ∙ at_next p list i l

  pub turn_goes : stays p (get_or zs i empty) ≡ false → swept (set zs i empty) left ≡ after_read p list (i + 1)
  turn_goes h = rw (is_places, is_count) (at_goes p list i l (sym (ap (stays p) next_is) ∙ h))

  pub turn_stays : stays p (get_or zs i empty) ≡ true → swept (set (set zs i empty) left (get_or zs i empty)) (left + 1) ≡ after_read p list (i + 1)
  turn_stays h = rw (next_is, is_places, is_count) (at_stays p list i l (sym (ap (stays p) next_is) ∙ h))
