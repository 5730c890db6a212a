-- The word of a term meets its contract, term by term. Assumes nothing.
use native.Mathlib.Omega.{arith}
use Rattle.words.specs.Word.{word_of}
use Rattle.words.proofs.U64FromTerm.from.Goals as goal

pub returns-in-Principal : goal.returns-in-Principal
unfolding word_of
returns-in-Principal c = rw c.in-Principal.is (omega (arith, c.pack.ensures))

pub returns-in-Time : goal.returns-in-Time
unfolding word_of
returns-in-Time c = rw c.in-Time.is

pub returns-in-Nonce : goal.returns-in-Nonce
unfolding word_of
returns-in-Nonce c = rw c.in-Nonce.is (omega (arith, c.pack-in-Nonce.ensures))

pub returns-in-LongTermKey : goal.returns-in-LongTermKey
unfolding word_of
returns-in-LongTermKey c = rw c.in-LongTermKey.is (omega (arith, c.pack-in-LongTermKey.ensures))

pub returns-in-SessionKey : goal.returns-in-SessionKey
unfolding word_of
returns-in-SessionKey c = rw c.in-SessionKey.is (omega (arith, c.pack-in-SessionKey.ensures))

pub returns-in-Pair : goal.returns-in-Pair
unfolding word_of
returns-in-Pair c = rw c.in-Pair.is (omega (arith, c.pack-in-Pair.ensures))

pub returns-in-Encrypted : goal.returns-in-Encrypted
unfolding word_of
returns-in-Encrypted c = rw c.in-Encrypted.is (omega (arith, c.pack-in-Encrypted.ensures))

pub returns-in-Unknown : goal.returns-in-Unknown
unfolding word_of
returns-in-Unknown c = rw c.in-Unknown.is (omega (arith, c.pack-in-Unknown.ensures))
