-- The refusals of a call's fields are the writer's, which look at the fields alone, and behind them 6 for what depends on the walk:
-- a run or a term that is not present, or a key of another kind.
-- Assumes nothing.
use Rattle.std.specs.Prelude.{Bool, not, ◌&&◌, ◌||◌, List, eqb}
use Rattle.std.proofs.Math.Bool.{true, cond}
use Prim.Native.Nat.{ℕ}
use Rattle.std.proofs.Math.Dec.{ltb}
use Rattle.words.specs.Word.{packed}
use Rattle.terms.specs.Rules.{is_key, term_at, refusal_of}
use Rattle.exchange.specs.declared.call.Call.{Call}
use Rattle.exchange.specs.declared.call.Call.TheVariants.{Term, Step}
use Rattle.realm.specs.declared.header.Realm.{Realm}
use Rattle.realm.specs.declared.input.Uses.{Uses}
use Rattle.realm.specs.Input.{uses_of, input_refusal}
use Rattle.raw_records.specs.Refusals.{step_fields}

-- ---- definitions

-- what a realm and its terms say of the fields of a call: 0, or 4, 5 or 6
abbrev pub fields_refusal : Realm → List ℕ → Call → ℕ
fields_refusal h ts (Term kind l r) = refusal_of h.n ts h.terms (packed kind l r)
fields_refusal h ts (Step step run a b m t) = input_refusal h (step_fields step run a b m t)

-- not: "term not present, .. lock key of another kind"; only pairs and encryptions name terms
abbrev pub has_terms : Realm → List ℕ → (kind l r : ℕ) → Bool
has_terms h ts kind l r =
    cond (eqb kind 5) (ltb l h.terms && ltb r h.terms)
    (cond (eqb kind 6) (ltb l h.terms && (ltb r h.terms && is_key (term_at ts r))) true)

-- not: "run or term not present"
abbrev pub has_used : Realm → Uses → (run m : ℕ) → Bool
has_used h u run m = (not u.run || ltb run h.runs) && (not u.m || ltb m h.terms)

-- "what depends on the walk's runs and terms"
unfoldable pub walk_has : Realm → List ℕ → Call → Bool
walk_has h ts (Term kind l r) = has_terms h ts kind l r
walk_has h ts (Step step run a b m t) = has_used h (uses_of step) run m
