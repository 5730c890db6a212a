-- What follows from the definitions of the same name in specs/.
-- Assumes nothing.
use Rattle.std.specs.Prelude.{◌≡◌, refl, true, List, [], ◌∷◌, ℕ, zero, suc, ◌<◌, ◌%◌, leb, ltb, length}
use Rattle.std.proofs.Common.{sym, arith, leb-true, ltb-true, lt-ltb}
use Rattle.terms.proofs.Choice.{no_true}
use Rattle.exchange.specs.declared.run.Role.{Role}
use Rattle.exchange.specs.declared.run.Role.TheVariants.{Initiator, Responder, Server}
use Rattle.exchange.specs.declared.run.Stage.{Stage}
use Rattle.exchange.specs.declared.run.Stage.TheVariants.{Opened, Authenticated, Done}
use Rattle.exchange.specs.declared.run.Row.{Row}
use Rattle.exchange.specs.Needs.{role_number, stage_number, is_known}
use Rattle.terms.proofs.AllOf.{five, all_five}
use Rattle.rows.specs.Row.{width, by_number, role_of, stage_of, words_of, row_of, is_row, Fits}

-- ---- laws

pub row_fits : (ws : List ℕ) → Fits (row_of ws)
row_fits ws = record { a = omega arith; b = omega arith; k = omega arith }

role_back : (role : Role) → role_of (role_number role) ≡ role
role_back Initiator = refl
role_back Responder = refl
role_back Server = refl

stage_back : (stage : Stage) → stage_of (stage_number stage) ≡ stage
stage_back Opened = refl
stage_back Authenticated = refl
stage_back Done = refl

byte : (w : ℕ) → w < 256 → w % 256 ≡ w
byte w h = omega arith

pub row_back : {x : Row} → Fits x → row_of (words_of x) ≡ x
row_back {x} f = λ i.
    record {
      role = role_back x.role i;
      stage = stage_back x.stage i;
      a = byte x.a f.a i;
      b = byte x.b f.b i;
      k = byte x.k f.k i;
      ts = x.ts;
      ta = x.ta;
    }

-- ---- words that are those of a row

numbered : {A : Type 0} (number : A → ℕ) (x y z : A) → number x ≡ 1 → number y ≡ 2 → number z ≡ 3 → (w : ℕ) → is_known w ≡ true → w ≡ number (by_number w x y z)
numbered number x y z p q r zero h = no_true h
numbered number x y z p q r (suc zero) h = sym p
numbered number x y z p q r (suc (suc zero)) h = sym q
numbered number x y z p q r (suc (suc (suc zero))) h = sym r
numbered number x y z p q r (suc (suc (suc (suc w)))) h =
    let t = five true true true (leb 1 (suc (suc (suc (suc w))))) (leb (suc (suc (suc (suc w)))) 3) h in
    absurd (omega (arith, leb-true (suc (suc (suc (suc w)))) 3 t.fifth))

pub is_row_words : (ws : List ℕ) → length ws ≡ width → is_row ws ≡ true → ws ≡ words_of (row_of ws)
is_row_words [] size h = absurd (omega arith)
is_row_words (p ∷ []) size h = absurd (omega arith)
is_row_words (p ∷ q ∷ []) size h = absurd (omega arith)
is_row_words (p ∷ q ∷ a ∷ []) size h = absurd (omega arith)
is_row_words (p ∷ q ∷ a ∷ b ∷ []) size h = absurd (omega arith)
is_row_words (p ∷ q ∷ a ∷ b ∷ k ∷ []) size h = absurd (omega arith)
is_row_words (p ∷ q ∷ a ∷ b ∷ k ∷ ts ∷ []) size h = absurd (omega arith)
is_row_words (p ∷ q ∷ a ∷ b ∷ k ∷ ts ∷ ta ∷ w ∷ ws) size h = absurd (omega arith)
is_row_words (p ∷ q ∷ a ∷ b ∷ k ∷ ts ∷ ta ∷ []) size h =
    let t = five (is_known p) (is_known q) (ltb a 256) (ltb b 256) (ltb k 256) h in
    let role = numbered role_number Initiator Responder Server refl refl refl p t.first in
    let stage = numbered stage_number Opened Authenticated Done refl refl refl q t.second in
    let as_byte : (w : ℕ) → ltb w 256 ≡ true → w ≡ w % 256 = λ w e. sym (byte w (ltb-true w 256 e)) in
    λ i. role i ∷ stage i ∷ as_byte a t.third i ∷ as_byte b t.fourth i ∷ as_byte k t.fifth i ∷ ts ∷ ta ∷ []

role_known : (role : Role) → is_known (role_number role) ≡ true
role_known Initiator = refl
role_known Responder = refl
role_known Server = refl

stage_known : (stage : Stage) → is_known (stage_number stage) ≡ true
stage_known Opened = refl
stage_known Authenticated = refl
stage_known Done = refl

pub words_is_row : {x : Row} → Fits x → is_row (words_of x) ≡ true
words_is_row {x} f =
    all_five
    (record {
      first = role_known x.role;
      second = stage_known x.stage;
      third = lt-ltb x.a 256 f.a;
      fourth = lt-ltb x.b 256 f.b;
      fifth = lt-ltb x.k 256 f.k;
    })
