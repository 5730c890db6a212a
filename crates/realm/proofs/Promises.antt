-- What the crate promises beside the contracts of its functions. Reading order of the definitions: Opening (a realm is opened, or
-- refusal 1 or 2), Input (refusals 4, 5 and 6 of a step), Tables and Check (what refusal 10 looks at).
-- Assumes nothing.
use Rattle.std.specs.Prelude.{ℕ, ◌^◌, ◌<◌, ◌≡◌, true, ◌↔◌, length, Some, Ok}
use Rattle.std.proofs.Common.{sym, ap, ◌∙◌}
use Rattle.exchange.specs.declared.header.Format.{Format}
use Rattle.exchange.specs.declared.header.Header.{Header}
use Rattle.exchange.specs.Formats.{format_of}
use Rattle.realm.specs.declared.header.Realm.{Realm}
use Rattle.realm.specs.declared.input.Step.{Step}
use Rattle.realm.proofs.Check as checks
use Rattle.realm.specs.Check.{TimesFit, WordsFit, together}
use Rattle.realm.specs.Header.{HeaderTaken}
use Rattle.realm.proofs.HeaderLaws.{taken, taken_back}
use Rattle.realm.specs.Input.{input_refusal, InputPassed}
use Rattle.realm.proofs.InputLaws.{passed, passed_back}
use Rattle.realm.proofs.New as new
use Rattle.realm.specs.New.{Lends}
use Rattle.realm.specs.Opening.{header_refusal, rules_by, opening_of}
use Rattle.realm.specs.Tables.{Tables, Together}
-- 2 reads "3 to 16" under HD and "3 to 32" under each mark of HW's layout.
pub use Rattle.realm.proofs.HeaderLaws.{hd_refusal, wide_refusal_lem}
-- HW, H5 and H4 are such marks: the rows of the table, with the rule set that each names, and its form.
pub use Rattle.exchange.proofs.Laws.Formats.{hd_known, hw_known, h5_known, h4_known}
pub use Rattle.exchange.proofs.Laws.Forms.{mark_forms}

-- A new realm has the rule set of its mark.
pub opened_rules : (g : Header) (f : Format) (h : Realm) → format_of g.mark ≡ Some f → opening_of g ≡ Ok h → h.rules ≡ f.rules
opened_rules g f h e o = ap (λ (x : Realm). x.rules) (sym (new.opened_is g h o).1) ∙ ap rules_by e

-- A header of the file's widths opens a realm exactly where its mark is known, n is within the mark's limit, and the exchange's
-- `HeaderPasses` holds of its values.
pub header_exact : (g : Header) → g.ls < 2 ^ 32 → g.la < 2 ^ 32 → (header_refusal g ≡ 0) ↔ HeaderTaken g
header_exact g hs ha = (taken g hs ha, taken_back g)

-- Of its mark a realm keeps the rule set: with the same values, marks of one rule set open the same.
pub same_realm : (g : Header) (mark : ℕ) (h i : Realm) → rules_by (format_of mark) ≡ rules_by (format_of g.mark) → opening_of g ≡ Ok h
    → opening_of (record { mark = mark; n = g.n; flags = g.flags; ls = g.ls; la = g.la }) ≡ Ok i → h ≡ i
same_realm = new.same_realm

-- A step's fields pass exactly where the step is one of ten, unused fields are 0, and used ones are in range.
pub input_exact : (h : Realm) (s : Step) → (input_refusal h s ≡ 0) ↔ InputPassed h s
input_exact h s = (passed h s, passed_back h s)

-- The check of tables says exactly that they hold together, where their words and fields have their widths.
pub check_exact : (t : Tables) → TimesFit t.realm → WordsFit t.wire → length t.cache ≡ 16 → (together t ≡ true) ↔ Together t
check_exact t z w places = (checks.together_is t z w places, checks.is_together t)

-- The tables that a caller lends for a realm that `open_realm` gave hold together, whatever stands in their places.
pub new_together : (g : Header) (h : Realm) (t : Tables) → g.ls < 2 ^ 32 → g.la < 2 ^ 32 → opening_of g ≡ Ok h → Lends h t → Together t
new_together = new.new_together
