-- What follows from the definitions of the same name in specs/.
-- Assumes nothing.
use Rattle.std.specs.Prelude.{ℕ, suc, ◌≡◌, length}
use Rattle.std.proofs.Math.Path.{refl, sym, ap}
use Rattle.std.proofs.Common.{◌∙◌}
use mathlib.Core.List.{List, [], ◌∷◌, ◌++◌, append_assoc}
use Rattle.exchange.specs.declared.call.Call.{Call}
use Rattle.exchange.specs.Calls.{AllSized}
use Rattle.traces.specs.Engines.{Engine, after, history}
use Rattle.traces.specs.Realm.{Realm}
use Rattle.kerberos.specs.Reading.{set_of}
use Rattle.records.specs.Calls.{Ending}
use Rattle.lines.specs.Lines.{call_line, listing}
use Rattle.realm.specs.Tables.{Tables}
use Rattle.effects.specs.Call.{called}
use Rattle.simulation.specs.Engine.{New}
use Rattle.simulation.proofs.Engine.{engine_of}
use Rattle.walkfile.specs.Listing.{last_lines, call_lines}
use Rattle.walkfile.specs.Traced.{onto, newest_first}

onto_sized : (cs earlier : List Call) → AllSized cs → AllSized earlier → AllSized (onto cs earlier)
onto_sized [] earlier s t = t
onto_sized (c ∷ cs) earlier s t = onto_sized cs (c ∷ earlier) s.1 (s.0, t)

pub newest_sized : (cs : List Call) → AllSized cs → AllSized (newest_first cs)
newest_sized cs s = onto_sized cs [] s tt

-- ---- the lines of a history

module _ (mark : ℕ) (R : Realm) (t : Tables) (new : New R t) where
  abbrev E : Engine (set_of R) R
  E = engine_of R t new

  history_length : (cs : List Call) → length (history (set_of R) R E cs) ≡ length cs
  history_length [] = refl
  history_length (c ∷ cs) = ap suc (history_length cs)

  lines_onto : (cs earlier : List Call) (e : Ending)
      → listing mark (history (set_of R) R E earlier) ++ call_lines (suc (length earlier)) (after (set_of R) R E earlier) cs e
      ≡ listing mark (history (set_of R) R E (onto cs earlier)) ++ last_lines (suc (length (onto cs earlier))) (after (set_of R) R E (onto cs earlier)) e
  unfolding call_lines listing
  lines_onto [] earlier e = refl
  lines_onto (c ∷ cs) earlier e =
      sym (append_assoc (listing mark (history (set_of R) R E earlier)) (call_line (suc (length earlier)) c (called (after (set_of R) R E earlier) c).answer) _)
      ∙ ap (λ (n : ℕ). (listing mark (history (set_of R) R E earlier) ++ call_line (suc n) c (called (after (set_of R) R E earlier) c).answer)
      ++ call_lines (suc (suc (length earlier))) (called (after (set_of R) R E earlier) c).tables cs e) (sym (history_length earlier))
      ∙ lines_onto cs (c ∷ earlier) e

  pub lines_traced : (cs : List Call) (e : Ending)
      → listing mark [] ++ call_lines 1 t cs e
      ≡ listing mark (history (set_of R) R E (newest_first cs)) ++ last_lines (suc (length (newest_first cs))) (after (set_of R) R E (newest_first cs)) e
  lines_traced cs e = lines_onto cs [] e
