-- What follows from the definitions of the same name in specs/.
-- Assumes nothing.
use Rattle.std.specs.Prelude.{ℕ, zero, suc, ◌^◌, ◌<◌, ◌≡◌, refl, List, length, Ok}
use Rattle.std.proofs.Common.{sym, ap, subst, ◌∙◌, arith}
use Rattle.marks.proofs.Empty.{empty_words, empty_marked}
use Rattle.marks.specs.Marks.{Words, marked}
use Rattle.terms.proofs.Choice.{no_true}
use Rattle.terms.specs.Valid.{Valid}
use Rattle.exchange.specs.declared.header.Header.{Header}
use Rattle.exchange.specs.Formats.{format_of}
use Rattle.traces.specs.Realm.{HeaderPasses}
use Rattle.runs.proofs.Promises.{hold_none}
use Rattle.realm.specs.declared.header.Realm.{Realm}
use Rattle.realm.proofs.HeaderLaws.{taken, new_known}
use Rattle.realm.specs.Opening.{header, header_refusal, rules_by, new_under, new_realm, opening_by, opening_of}
use Rattle.realm.specs.Tables.{Tables, Together}
use Rattle.realm.specs.New.{Lends}

-- a realm is opened where its header gives no refusal, and is then the new realm
pub opened_is : (g : Header) (h : Realm) → opening_of g ≡ Ok h → (header_refusal g ≡ 0) × (new_realm g ≡ h)
unfolding opening_of
opened_is g h o = by (header_refusal g) o
  where
    by : (k : ℕ) → opening_by k (rules_by (format_of g.mark)) g ≡ Ok h → (k ≡ 0) × (new_realm g ≡ h)
    by zero e = (refl, cc)
    by (suc k) e = let z : ◌≡◌ {A = ℕ} 0 1 = cc in absurd (omega arith)

-- of the mark the rule set is kept: realms that are opened with the same values under marks of one rule set are the same
pub same_realm : (g : Header) (mark : ℕ) (h i : Realm) → rules_by (format_of mark) ≡ rules_by (format_of g.mark) → opening_of g ≡ Ok h
    → opening_of (record { mark = mark; n = g.n; flags = g.flags; ls = g.ls; la = g.la }) ≡ Ok i → h ≡ i
same_realm g mark h i e o p = sym (opened_is g h o).1 ∙ ap (λ (r : ℕ). new_under r g) (sym e) ∙ (opened_is _ i p).1

no_terms : (n : ℕ) {ts : List ℕ} → length ts ≡ 512 → Valid n ts 0
no_terms n size = record { size = size; room = omega arith; terms = record { fine = λ i h. absurd (omega (arith, h)); once = λ i j h. absurd (omega (arith, h)) } }

-- with the counts of the new realm
new_holds : (g : Header) (t : Tables) → HeaderPasses (header (new_realm g)) → Lends (new_realm g) t
    → Together (record { realm = new_realm g; terms = t.terms; runs = t.runs; wire = t.wire; cache = t.cache })
new_holds g t passes l =
    record {
      header_fits = passes;
      rules_known = new_known g.mark;
      clock_fits = omega arith;
      terms_hold = no_terms g.n l.terms;
      rows_hold = hold_none g.n l.runs (omega arith);
      wire_words = subst (Words 8) (sym l.wire) (empty_words 8);
      wire_within = λ i e. no_true (sym (ap (λ (ws : List ℕ). marked ws i) l.wire ∙ empty_marked 8 i) ∙ e);
      places = l.cache;
      entries_most = omega arith;
      entries_fit = λ i h. absurd (omega (arith, h));
    }

pub new_together : (g : Header) (h : Realm) (t : Tables) → g.ls < 2 ^ 32 → g.la < 2 ^ 32 → opening_of g ≡ Ok h → Lends h t → Together t
new_together g h t hs ha o l =
    let p = opened_is g h o in
    let m : Lends (new_realm g) t = subst (λ (x : Realm). Lends x t) (sym p.1) l in
    subst Together (λ j. record { realm = sym m.realm_is j; terms = t.terms; runs = t.runs; wire = t.wire; cache = t.cache })
    (new_holds g t (taken g hs ha p.0).passes m)
