-- What the intruder was found to know stays true over a call: it speaks of the terms that were there, and these stay.
-- Assumes nothing.
use Rattle.std.specs.Prelude.{ℕ, List, ◌≡◌}
use Rattle.exchange.specs.declared.call.Call.{Call}
use Rattle.realm.specs.declared.input.Step.{Step}
use Rattle.realm.specs.Tables.{Tables, Together}
use Rattle.synthesis.proofs.Promises as intruder
use Rattle.synthesis.specs.declared.knowledge.Knowledge.{Knowledge}
use Rattle.conditions.specs.Conditions.{KeptBy}
use Rattle.effects.specs.Apply.{Outcome}
use Rattle.effects.specs.Call.{stepped, called}
use Rattle.effects.proofs.Older.{Older, stepped_older, called_older}

module _ {t : Tables} (w : Together t) {ks : Knowledge} (known : KeptBy t.realm t.terms ks) where
  kept_later : {t' : Tables} → Older t t' → KeptBy t'.realm t'.terms ks
  kept_later {t'} o = rw (o.n, o.flags) (intruder.kept_later w.terms_hold t'.terms t'.realm.terms o.agree o.more known)

  pub kept_stepped : (s : Step) {o : Outcome} → o ≡ stepped t s → KeptBy o.tables.realm o.tables.terms ks
  kept_stepped s e = rw e (kept_later (stepped_older t w s))

  pub kept_called : (c : Call) {o : Outcome} → o ≡ called t c → KeptBy o.tables.realm o.tables.terms ks
  kept_called c e = rw e (kept_later (called_older t w c))
