-- The term of a word meets its contract, kind by kind. Assumes nothing.
use mathlib.Core.Path.{◌≡◌, ap, sym}
use Prim.Native.Nat.{ℕ}
use Rattle.words.specs.Word.{kind_of, left_of, right_of, term_by, term_of}
use Rattle.words.proofs.Word.{word_unknown}
use Rattle.words.proofs.TermFromU64.from.Goals as goal

-- the term of a word whose kind is known
known : (w k : ℕ) → k ≡ kind_of w → term_by k (left_of w) (right_of w) ≡ term_of w
unfolding term_of
known w k e = ap (λ (n : ℕ). term_by n (left_of w) (right_of w)) e

pub returns-in-Ok-Principal : goal.returns-in-Ok-Principal
returns-in-Ok-Principal c = known c.args.word 0 (rw c.in-Ok-Principal.field-0-is at c.in-Ok-Principal.ensures)

pub returns-in-Ok-Time : goal.returns-in-Ok-Time
returns-in-Ok-Time c = known c.args.word 1 (rw c.in-Ok-Time.field-0-is at c.in-Ok-Time.ensures)

pub returns-in-Ok-Nonce : goal.returns-in-Ok-Nonce
returns-in-Ok-Nonce c = known c.args.word 2 (rw c.in-Ok-Nonce.field-0-is at c.in-Ok-Nonce.ensures)

pub returns-in-Ok-LongTermKey : goal.returns-in-Ok-LongTermKey
returns-in-Ok-LongTermKey c = known c.args.word 3 (rw c.in-Ok-LongTermKey.field-0-is at c.in-Ok-LongTermKey.ensures)

pub returns-in-Ok-SessionKey : goal.returns-in-Ok-SessionKey
returns-in-Ok-SessionKey c = known c.args.word 4 (rw c.in-Ok-SessionKey.field-0-is at c.in-Ok-SessionKey.ensures)

pub returns-in-Ok-Pair : goal.returns-in-Ok-Pair
returns-in-Ok-Pair c = known c.args.word 5 (rw c.in-Ok-Pair.field-0-is at c.in-Ok-Pair.ensures)

pub returns-in-Ok-Encrypted : goal.returns-in-Ok-Encrypted
returns-in-Ok-Encrypted c = known c.args.word 6 (rw c.in-Ok-Encrypted.field-0-is at c.in-Ok-Encrypted.ensures)

pub returns-in-Err : goal.returns-in-Err
returns-in-Err c = sym (word_unknown c.args.word c.in-Err.ensures.1)
