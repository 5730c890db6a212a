-- What follows from the definitions of the same name in specs/.
-- Assumes nothing.
pub mod Added
pub mod Decided
pub mod Reads
use Rattle.std.specs.Prelude.{ℕ, ◌-◌, ◌<◌, ◌≤◌, ◌≡◌, length, set, drop, Ok, Err}
use Rattle.std.proofs.Math.Path.{refl, sym, ap, ap₂, subst}
use Rattle.std.proofs.Common.{◌∙◌, add-one, arith}
use mathlib.Core.List.{List, [], ◌∷◌, ◌++◌}
use Rattle.std.proofs.Math.Seq.{take-append_seam}
use Rattle.words.specs.Word.{packed}
use Rattle.terms.specs.Add.{add_of}
use Rattle.terms.specs.Message.{Message}
use Rattle.terms.specs.Number.{terms_of}
use Rattle.terms.specs.Outcome.{TermAnswer}
use Rattle.sending.specs.Send.{entered_all, marked_all}
use Rattle.exchange.specs.declared.run.Row.{Row}
use Rattle.exchange.specs.declared.call.Accepted.TheVariants.{Taken}
use Rattle.exchange.specs.declared.call.Call.{Call}
use Rattle.exchange.specs.declared.call.Call.TheVariants as calls
use Rattle.replay.specs.Cache.{kept, entries}
use Rattle.replay.proofs.CacheLaws.Places.{written_entries}
use Rattle.replay.specs.declared.entry.Entry.{Entry}
use Rattle.replay.specs.declared.entry.Purge.{Purge}
use Rattle.rows.specs.Rows.{rows_of}
use Rattle.rows.proofs.Promises.{writes}
use Rattle.rows.specs.Row.{Fits}
use Rattle.realm.specs.declared.header.Realm.{Realm}
use Rattle.realm.specs.declared.input.Step.{Step}
use Rattle.realm.specs.Tables.{Tables, tables, Together}
use Rattle.decisions.specs.declared.Change.{Change}
use Rattle.decisions.specs.declared.Change.TheVariants as changes
use Rattle.decisions.specs.declared.Effect.{Effect}
use Rattle.decisions.specs.declared.Keeping.{Keeping}
use Rattle.decisions.specs.declared.Keeping.TheVariants.{Same, Remember, Forget}
use Rattle.decisions.specs.Decision.{decision, Verdict}
use Rattle.decisions.specs.Effects.{messages_of}
use Rattle.decisions.specs.Laws.Fits.{RowFits, RowReady, Carries, EffectFits}
use Rattle.decisions.proofs.Laws.Verdict.{decision_takes}
use Rattle.decisions.proofs.Promises.{taken_fits}
use Rattle.effects.specs.Apply.{realm_after, applied}
use Rattle.effects.specs.Cache.{cache_of}
use Rattle.effects.specs.Call.{with_count, numbered, by_verdict, stepped, called}
use Rattle.effects.specs.Row.{changed, run_count}
use Rattle.simulation.proofs.Unread.Decided.{sends_same, decision_same}
use Rattle.simulation.proofs.Unread.Added.{AddsSame, adds_same}
use Rattle.simulation.specs.Unread.{Alike}

-- ---- two tables with one realm and one wire

module _ (h : Realm) {ts ts' rs rs' : List ℕ} (ws : List ℕ) {c c' : List Entry} (w : Together (tables h ts rs ws c)) (w' : Together (tables h ts' rs' ws c'))
    (same_terms : terms_of ts h.terms ≡ terms_of ts' h.terms) (same_rows : rows_of rs h.runs ≡ rows_of rs' h.runs)
    (same_entries : entries c h.entries ≡ entries c' h.entries) where
  abbrev one : Tables
  one = tables h ts rs ws c

  abbrev other : Tables
  other = tables h ts' rs' ws c'

  -- the terms with these messages entered
  abbrev xs : List Message → List ℕ
  xs ms = entered_all (terms_of ts h.terms) ms

  abbrev xs' : List Message → List ℕ
  xs' ms = entered_all (terms_of ts' h.terms) ms

  entered_same : (ms : List Message) → xs ms ≡ xs' ms
  entered_same ms = ap (λ (l : List ℕ). entered_all l ms) same_terms

  -- ---- the answer

  -- what is sent, and the terms with that entered
  sent_same : (x : Effect) → Carries h.terms x.sends → messages_of ts x.sends ≡ messages_of ts' x.sends
  sent_same x l = sends_same h ws w w' same_terms same_rows same_entries x.sends l

  sent_entered : (x : Effect) → Carries h.terms x.sends → xs (messages_of ts x.sends) ≡ xs' (messages_of ts' x.sends)
  sent_entered x l = ap xs (sent_same x l) ∙ entered_same (messages_of ts' x.sends)

  verdict_answer : (s : Step) (v : Verdict) → decision other s ≡ v → (by_verdict one v).answer ≡ (by_verdict other v).answer
  unfolding applied
  verdict_answer s (Err k) d = refl
  verdict_answer s (Ok x) d =
      ap (λ (l : List ℕ). Ok (Taken x.names (length l - h.terms))) (sent_entered x (taken_fits other s w' (decision_takes other s d).0).carries)

  step_answer : (s : Step) → (stepped one s).answer ≡ (stepped other s).answer
  unfolding stepped
  step_answer s = ap (λ (v : Verdict). (by_verdict one v).answer) (decision_same h ws w w' same_terms same_rows same_entries s) ∙ verdict_answer s (decision other s) refl

  -- ---- the tables after a step

  -- a row that is written has the widths of a row's fields
  byte_row : {ms : List Message} {r : ℕ} {x : Row} → RowFits h.n ms r x → Fits x
  byte_row f =
      let p = f.principals in
      let small : h.n ≤ 256 = omega (arith, w.header_fits.most) in
      record { a = omega (arith, p.a_below); b = omega (arith, p.b_below); k = omega (arith, f.key) }

  changed_same : (ms : List Message) (x : Change) → RowReady one ms x
      → rows_of (changed h.runs x rs) (run_count h.runs x) ≡ rows_of (changed h.runs x rs') (run_count h.runs x)
  changed_same ms (changes.Open x) f =
      rw (add-one h.runs)
      ((writes rs w.rows_hold.size h.runs f.0 x (byte_row f.1)).opened
      ∙ ap (λ (l : List Row). l ++ (x ∷ [])) same_rows
      ∙ sym (writes rs' w'.rows_hold.size h.runs f.0 x (byte_row f.1)).opened)
  changed_same ms (changes.Set r x) f =
      let l : r < 64 = omega (arith, f.0, w.rows_hold.room) in
      (writes rs w.rows_hold.size r l x (byte_row f.1)).replaced h.runs f.0
      ∙ ap (λ (l : List Row). set l r x) same_rows
      ∙ sym ((writes rs' w'.rows_hold.size r l x (byte_row f.1)).replaced h.runs f.0)
  changed_same ms changes.Nothing f = same_rows

  kept_count : (x : Keeping) → (cache_of h c x).count ≡ (cache_of h c' x).count
  kept_count Same = refl
  kept_count (Remember e) = ap (λ (l : List Entry). length (l ++ (e ∷ []))) same_entries
  kept_count (Forget b) = ap (λ (l : List Entry). length (kept (record { b = b; clock = h.clock; la = h.la }) l)) same_entries

  kept_entries : (x : Keeping) → let p = cache_of h c x in let q = cache_of h c' x in entries p.places p.count ≡ entries q.places q.count
  kept_entries Same = same_entries
  kept_entries (Remember e) =
      written_entries c h.entries (entries c h.entries ++ (e ∷ []))
      ∙ ap (λ (l : List Entry). l ++ (e ∷ [])) same_entries
      ∙ sym (written_entries c' h.entries (entries c' h.entries ++ (e ∷ [])))
  kept_entries (Forget b) =
      let p : Purge = record { b = b; clock = h.clock; la = h.la } in
      written_entries c h.entries (kept p (entries c h.entries))
      ∙ ap (kept p) same_entries
      ∙ sym (written_entries c' h.entries (kept p (entries c' h.entries)))

  effect_alike : (x : Effect) → EffectFits one x → Alike (applied one x).tables (applied other x).tables
  unfolding applied
  effect_alike x f =
      let ms = messages_of ts x.sends in
      let ms' = messages_of ts' x.sends in
      let e = sent_entered x f.carries in
      record {
        realm = ap₂ (λ (l : List ℕ) (k : ℕ). realm_after h x.clock (length l) (run_count h.runs x.change) k) e (kept_count x.keeping);
        terms = take-append_seam (xs ms) (drop (length (xs ms)) ts) ∙ e ∙ sym (take-append_seam (xs' ms') (drop (length (xs' ms')) ts'));
        rows = changed_same ms x.change f.row;
        wire = ap₂ (marked_all ws) e (sent_same x f.carries);
        entries = kept_entries x.keeping;
      }

  verdict_alike : (s : Step) (v : Verdict) → decision one s ≡ v → Alike (by_verdict one v).tables (by_verdict other v).tables
  verdict_alike s (Err k) d = record { realm = refl; terms = same_terms; rows = same_rows; wire = refl; entries = same_entries }
  verdict_alike s (Ok x) d = effect_alike x (taken_fits one s w (decision_takes one s d).0)

  step_alike : (s : Step) → Alike (stepped one s).tables (stepped other s).tables
  unfolding stepped
  step_alike s =
      subst (λ (v : Verdict). Alike (by_verdict one (decision one s)).tables (by_verdict other v).tables) (decision_same h ws w w' same_terms same_rows same_entries s) (verdict_alike s (decision one s) refl)

  -- ---- a term

  adding_same : (word : ℕ) → AddsSame (add_of h.n ts h.terms word) (add_of h.n ts' h.terms word)
  adding_same word = adds_same w.terms_hold w'.terms_hold same_terms word

  -- ---- any call

  one_answer : (x : Call) → (called one x).answer ≡ (called other x).answer
  unfolding called
  one_answer (calls.Term kind l r) = let o = adding_same (packed kind l r) in ap₂ (λ (a : TermAnswer) (k : ℕ). numbered a (k - h.terms)) o.answer o.count
  one_answer (calls.Step step r a b m now) = step_answer (record { step = step; run = r; a = a; b = b; m = m; t = now })

  one_alike : (x : Call) → Alike (called one x).tables (called other x).tables
  unfolding called
  one_alike (calls.Term kind l r) =
      let o = adding_same (packed kind l r) in
      record { realm = ap (with_count h) o.count; terms = o.terms; rows = same_rows; wire = refl; entries = same_entries }
  one_alike (calls.Step step r a b m now) = step_alike (record { step = step; run = r; a = a; b = b; m = m; t = now })

-- ---- the two tables as they are

module _ (t u : Tables) (a : Alike t u) where
  -- the second with the realm and the wire of the first
  abbrev moved : Tables
  moved = tables t.realm u.terms u.runs t.wire u.cache

  moved_is : moved ≡ u
  moved_is = λ j. tables (a.realm j) u.terms u.runs (a.wire j) u.cache

  moved_together : Together u → Together moved
  moved_together w = subst Together (sym moved_is) w

  moved_terms : terms_of t.terms t.realm.terms ≡ terms_of u.terms t.realm.terms
  moved_terms = a.terms ∙ ap (λ (h : Realm). terms_of u.terms h.terms) (sym a.realm)

  moved_rows : rows_of t.runs t.realm.runs ≡ rows_of u.runs t.realm.runs
  moved_rows = a.rows ∙ ap (λ (h : Realm). rows_of u.runs h.runs) (sym a.realm)

  moved_entries : entries t.cache t.realm.entries ≡ entries u.cache t.realm.entries
  moved_entries = a.entries ∙ ap (λ (h : Realm). entries u.cache h.entries) (sym a.realm)

pub answers_alike : (t u : Tables) → Together t → Together u → Alike t u → (c : Call) → (called t c).answer ≡ (called u c).answer
answers_alike t u w w' a c =
    one_answer t.realm t.wire w (moved_together t u a w') (moved_terms t u a) (moved_rows t u a) (moved_entries t u a) c
    ∙ ap (λ (x : Tables). (called x c).answer) (moved_is t u a)

pub tables_alike : (t u : Tables) → Together t → Together u → Alike t u → (c : Call) → Alike (called t c).tables (called u c).tables
tables_alike t u w w' a c =
    subst (λ (x : Tables). Alike (called t c).tables (called x c).tables) (moved_is t u a)
    (one_alike t.realm t.wire w (moved_together t u a w') (moved_terms t u a) (moved_rows t u a) (moved_entries t u a) c)
