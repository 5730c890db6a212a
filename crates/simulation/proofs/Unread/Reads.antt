-- What is read of each table, below its count: tables that are alike there read alike. What can be derived depends on the messages and
-- the wire alone.
-- Assumes nothing.
use Rattle.std.specs.Prelude.{ℕ, ◌<◌, ◌≡◌, not, cond, List, eqb, get_or}
use Rattle.std.proofs.Common.{sym, ap, subst, ◌∙◌}
use Rattle.std.proofs.Math.Option.{some-injective}
use Rattle.std.proofs.Math.ListN.{get_elem?}
use Rattle.terms.specs.Choice.{Decides}
use Rattle.terms.specs.Meaning.{message_at}
use Rattle.terms.proofs.Meaning.{messages_same}
use Rattle.terms.specs.Message.{Message}
use Rattle.terms.specs.Number.{terms_of}
use Rattle.terms.proofs.Number.{terms_agree}
use Rattle.terms.specs.Rules.{Agree}
use Rattle.terms.specs.Valid.{Valid}
use Rattle.marks.specs.Marks.{Words}
use Rattle.deduction.specs.Derives.{Derives}
use Rattle.deduction.specs.Known.{Known, Derivable}
use Rattle.deduction.proofs.Promises.{monotone}
use Rattle.synthesis.proofs.Promises.{function_exact, function_unique}
use Rattle.synthesis.specs.Test.{derivable_of}
use Rattle.exchange.specs.declared.run.Row.{Row}
use Rattle.replay.specs.Cache.{present, entries}
use Rattle.replay.specs.declared.entry.Entry.{Entry}
use Rattle.rows.specs.Rows.{rows_of}
use Rattle.rows.proofs.Promises.{rows_at}
use Rattle.rows.specs.Runs.{run_at}
use Rattle.realm.specs.declared.header.Realm.{Realm}
use Rattle.conditions.specs.Conditions.{ticket_lives, authenticator_lives, not_ahead, admission}

-- ---- what is read of the terms

module _ {n : ℕ} {ts ts' : List ℕ} {count : ℕ} (v : Valid n ts count) (v' : Valid n ts' count) (same : terms_of ts count ≡ terms_of ts' count) where
  pub words_same : Agree ts ts' count
  words_same k h = terms_agree v k h ∙ ap (λ (xs : List ℕ). get_or xs k 0) same ∙ sym (terms_agree v' k h)

  pub message_same : (i : ℕ) → i < count → message_at ts i ≡ message_at ts' i
  message_same i h = messages_same v.terms ts' words_same i h

  known_same : (ws : List ℕ) (m : Message) → Known ts count ws m → Known ts' count ws m
  known_same ws m k = record { at = k.at; below = k.below; mark = k.mark; is = sym (message_same k.at k.below) ∙ k.is }

pub derivable_same : (flags : ℕ) {n : ℕ} {ts ts' : List ℕ} {count : ℕ} (v : Valid n ts count) (v' : Valid n ts' count) → terms_of ts count ≡ terms_of ts' count
    → {ws : List ℕ} → Words 8 ws → (m : ℕ) → m < count → derivable_of flags ts count ws m ≡ derivable_of flags ts' count ws m
derivable_same flags {n} {ts} {ts'} {count} v v' same {ws} words m h =
    let d : Decides (derivable_of flags ts count ws m) (Derivable n flags ts count ws m) = function_exact flags v words m h in
    let e = message_same v v' same m h in
    function_unique flags v' words m h (derivable_of flags ts count ws m)
    (record {
      yes = λ q. subst (Derives n flags (Known ts' count ws)) e (monotone (known_same v v' same ws) (d.yes q));
      no = λ q x. d.no q (subst (Derives n flags (Known ts count ws)) (sym e) (monotone (known_same v' v (sym same) ws) x));
    })

-- ---- what is read of a row, and of the cache

pub run_same : (rs rs' : List ℕ) (count : ℕ) → rows_of rs count ≡ rows_of rs' count → (r : ℕ) → r < count → run_at rs r ≡ run_at rs' r
run_same rs rs' count same r h = some-injective _ _ (sym (rows_at rs count r h) ∙ ap (λ (l : List Row). get_elem? l r) same ∙ rows_at rs' count r h)

pub admission_same : (h : Realm) (c c' : List Entry) → entries c h.entries ≡ entries c' h.entries → (ts : ℕ) (e : Entry) → admission h c ts e ≡ admission h c' ts e
unfolding admission
admission_same h c c' same ts e =
    ap (λ (l : List Entry). cond (not (ticket_lives h ts)) 16 (cond (not (authenticator_lives h e.ta)) 17 (cond (not (not_ahead h e.ta)) 22 (cond (present l e) 18 (cond (eqb h.entries 16) 19 0))))) same
