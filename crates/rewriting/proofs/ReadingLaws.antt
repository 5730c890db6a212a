-- What follows from the definitions of the same name in specs/.
-- Assumes nothing.
use Rattle.std.specs.Prelude.{Ok, Err, List, [], ◌∷◌, ◌≡◌, refl, ℕ, ◌+◌, ◌*◌, ◌≤◌, take, drop}
use Rattle.std.proofs.Math.Path.{ap}
use Rattle.std.proofs.Common.{arith, length-drop, take_at}
use Rattle.std.proofs.Math.ListN.{length}
use Rattle.exchange.specs.declared.call.Call.{Call}
use Rattle.exchange.specs.declared.call.Call.TheVariants.{Term, Step}
use Rattle.records.specs.Headers.{max_file}
use Rattle.records.specs.Calls.{Ending, ended, broken, calls_of}
use Rattle.records.proofs.Promises.{calls_few}
use Rattle.raw_records.specs.Calls.{words_for}
use Rattle.fields.specs.Placed.{placed}
use Rattle.rewriting.specs.Reading.{ReadOutcome, read_outcome, answer_by, file_words, read_of}

-- ---- laws: what an answer says

words_long : (calls : List Call) → length (words_for calls) ≡ 7 * length calls
words_long [] = refl
words_long (Term kind l r ∷ calls) = omega (arith, words_long calls)
words_long (Step step run a b m t ∷ calls) = omega (arith, words_long calls)

-- a file of 65,536 bytes has at most 9,360 records after its header
pub words_few : (from : ℕ) (file : List ℕ) → 13 ≤ from → length file ≤ max_file → length (file_words from file) ≤ 65520
words_few from file least most =
    omega (arith, words_long (calls_of (drop from file)).calls, calls_few (drop from file), length-drop from file)

-- the file reads to its end, and its words stand at the front
pub record ReadWhole (from : ℕ) (file after : List ℕ) (count : ℕ) : Type 0 where
  pub ending : (calls_of (drop from file)).ending ≡ ended
  pub count_is : count ≡ length (file_words from file)
  pub front_is : take count after ≡ file_words from file

by_count : (e : Ending) (count long : ℕ) → Ok count ≡ answer_by e long → (e ≡ ended) × (count ≡ long)
by_count ended count long h = (refl, cc)
by_count broken count long h = let z : ◌≡◌ {A = ℕ} 0 1 = cc in absurd (omega arith)

by_broken : (e : Ending) (number long : ℕ) → Err number ≡ answer_by e long → e ≡ broken
by_broken ended number long h = let z : ◌≡◌ {A = ℕ} 0 1 = cc in absurd (omega arith)
by_broken broken number long h = refl

module _ (from : ℕ) (file words after : List ℕ) where
  pub counted : (count : ℕ) → read_outcome (Ok count) after ≡ read_of from file words → ReadWhole from file after count
  unfolding read_of placed
  counted count e =
      let b = by_count (calls_of (drop from file)).ending count (length (file_words from file)) (ap (λ (o : ReadOutcome). o.answer) e) in
      record {
        ending = b.0;
        count_is = b.1;
        front_is = rw (b.1, ap (λ (o : ReadOutcome). o.words) e) (take_at (file_words from file) (drop (0 + length (file_words from file)) words) (length (file_words from file)) refl);
      }

  pub broken_off : (number : ℕ) → read_outcome (Err number) after ≡ read_of from file words → (calls_of (drop from file)).ending ≡ broken
  unfolding read_of
  broken_off number e = by_broken (calls_of (drop from file)).ending number (length (file_words from file)) (ap (λ (o : ReadOutcome). o.answer) e)
