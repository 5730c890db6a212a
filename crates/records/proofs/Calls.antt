-- What follows from the definitions of the same name in specs/.
-- Assumes nothing.
use Rattle.std.specs.Prelude.{◌≡◌, ◌↔◌, Some, None, Ok, Err, List, [], ℕ, zero, suc, ◌+◌, ◌*◌, ◌≤◌, length, drop}
use Rattle.std.proofs.Math.Path.{refl, sym}
use Rattle.std.proofs.Common.{ap, ◌∙◌, arith, length-drop, drop-drop}
use Rattle.exchange.specs.declared.call.Call.{Call}
use Rattle.exchange.specs.Calls.{Sized, AllSized}
use Rattle.records.specs.declared.record.Record.{Record}
use Rattle.records.specs.Fields.{Bytes}
use Rattle.records.proofs.Fields.{begins_whole, small16, small32, drop_bytes}
use Rattle.records.specs.Records.{term_mark, step_mark, term_bytes, step_bytes, term_call, step_call, Front, whole, none, unreadable, front_of, told, record_at, Finds, at_end, at_term, at_step, at_fault}
use Rattle.records.proofs.Records.{front_none, record_end, front_finds}
use Rattle.records.specs.Calls.{ended, Calls, then, onward, calls_within, calls_of, CallAt, Broken}

-- ---- a whole record

-- c is a whole record of so many bytes
pub record Whole (bytes : List ℕ) (c : Call) (width : ℕ) : Type 0 where
  pub least : term_bytes ≤ width
  pub fits : width ≤ length bytes
  pub sized : Bytes bytes → Sized c

module _ (bytes : List ℕ) where
  term_sized : Bytes bytes → Sized (term_call bytes)
  term_sized b = (b.small 2, small16 b 3, small16 b 5)

  step_sized : Bytes bytes → Sized (step_call bytes)
  step_sized b = (b.small 2, b.small 3, b.small 4, b.small 5, small16 b 6, small32 b 8)

  is_whole : (d : Call) (w : ℕ) (c : Call) (width : ℕ) → whole d w ≡ whole c width → term_bytes ≤ w → w ≤ length bytes → (Bytes bytes → Sized d) → Whole bytes c width
  is_whole d w c width e l h s =
      let same : d ≡ c = cc in
      let wide : w ≡ width = cc in
      record { least = omega arith; fits = omega arith; sized = λ b. rw same at (s b) }

  found_whole : (f : Front) → Finds bytes f → (c : Call) (width : ℕ) → f ≡ whole c width → Whole bytes c width
  found_whole f (at_end z) c width e = let z : ◌≡◌ {A = ℕ} 0 1 = cc in absurd (omega arith)
  found_whole f (at_fault l m n) c width e = let z : ◌≡◌ {A = ℕ} 0 1 = cc in absurd (omega arith)
  found_whole f (at_term h) c width e = is_whole (term_call bytes) term_bytes c width e (omega arith) (begins_whole term_mark term_bytes bytes h) term_sized
  found_whole f (at_step h) c width e = is_whole (step_call bytes) step_bytes c width e (omega arith) (begins_whole step_mark step_bytes bytes h) step_sized

  pub front_whole : (c : Call) (width : ℕ) → front_of bytes ≡ whole c width → Whole bytes c width
  front_whole c width e = found_whole (front_of bytes) (front_finds bytes) c width e

-- ---- the equation of the calls

-- more records than there are bytes make no difference
enough : (f g : ℕ) (bytes : List ℕ) → length bytes ≤ f → length bytes ≤ g → calls_within f bytes ≡ calls_within g bytes
unfolding calls_within
enough zero zero bytes p q = refl
enough zero (suc g) bytes p q = ap (λ (o : Front). onward o (λ width. calls_within g (drop width bytes))) (front_none bytes (omega arith))
enough (suc f) zero bytes p q = ap (λ (o : Front). onward o (λ width. calls_within f (drop width bytes))) (sym (front_none bytes (omega arith)))
enough (suc f) (suc g) bytes p q = by_front (front_of bytes) refl (enough f g)
  where
    by_front : (o : Front) → front_of bytes ≡ o
        → ((later : List ℕ) → length later ≤ f → length later ≤ g → calls_within f later ≡ calls_within g later)
        → onward o (λ width. calls_within f (drop width bytes)) ≡ onward o (λ width. calls_within g (drop width bytes))
    by_front (whole c width) e same =
        let w = front_whole bytes c width e in
        let shorter = length-drop width bytes in
        ap (then c) (same (drop width bytes) (omega (arith, shorter, w.least, w.fits)) (omega (arith, shorter, w.least, w.fits)))
    by_front none e same = refl
    by_front unreadable e same = refl

-- the equation by which everybody uses the calls
pub calls_are : (bytes : List ℕ) → calls_of bytes ≡ onward (front_of bytes) (λ width. calls_of (drop width bytes))
unfolding calls_of calls_within
calls_are bytes =
    enough (length bytes) (suc (length bytes)) bytes (omega arith) (omega arith)
    ∙ ap (onward (front_of bytes)) (λ i width. enough (length bytes) (length (drop width bytes)) (drop width bytes) (shorter width) (omega arith) i)
  where
    shorter : (width : ℕ) → length (drop width bytes) ≤ length bytes
    shorter width = omega (arith, length-drop width bytes)

calls_as : (bytes : List ℕ) (f : Front) → front_of bytes ≡ f → calls_of bytes ≡ onward f (λ width. calls_of (drop width bytes))
calls_as bytes f e = calls_are bytes ∙ ap (λ (o : Front). onward o (λ width. calls_of (drop width bytes))) e

module _ (bytes : List ℕ) (at : ℕ) where
  by_call : (c : Call) (next : ℕ) (f : Front) → front_of (drop at bytes) ≡ f → told at f ≡ Ok (Some (record { call = c; next = next })) → CallAt bytes at c next
  by_call c next (whole d width) e t =
      let read : ◌≡◌ {A = Record} (record { call = d; next = at + width }) (record { call = c; next = next }) = cc in
      let same : d ≡ c = ap (λ (r : Record). r.call) read in
      let place : at + width ≡ next = ap (λ (r : Record). r.next) read in
      let w = front_whole (drop at bytes) d width e in
      record {
        later = omega (arith, w.least);
        inside = omega (arith, w.least, w.fits, length-drop at bytes);
        first = calls_as (drop at bytes) (whole d width) e ∙ rw (drop-drop width at bytes, place, same);
        sized = λ b. rw same at (w.sized (drop_bytes b at));
      }
  by_call c next none e t = let z : ◌≡◌ {A = ℕ} 0 1 = cc in absurd (omega arith)
  by_call c next unreadable e t = let z : ◌≡◌ {A = ℕ} 0 1 = cc in absurd (omega arith)

  pub record_call : (c : Call) (next : ℕ) → record_at bytes at ≡ Ok (Some (record { call = c; next = next })) → CallAt bytes at c next
  unfolding record_at
  record_call c next e = by_call c next (front_of (drop at bytes)) refl e

  by_end : (f : Front) → Finds (drop at bytes) f → told at f ≡ Ok None → length bytes ≤ at
  by_end f (at_end z) t = omega (arith, length-drop at bytes)
  by_end f (at_term h) t = let z : ◌≡◌ {A = ℕ} 0 1 = cc in absurd (omega arith)
  by_end f (at_step h) t = let z : ◌≡◌ {A = ℕ} 0 1 = cc in absurd (omega arith)
  by_end f (at_fault l m n) t = let z : ◌≡◌ {A = ℕ} 0 1 = cc in absurd (omega arith)

  -- reading ends at the end of the file and nowhere before
  pub end_decided : (record_at bytes at ≡ Ok None) ↔ (length bytes ≤ at)
  unfolding record_at
  end_decided = (by_end (front_of (drop at bytes)) (front_finds (drop at bytes)), λ h. sym (record_end bytes at h))

  pub calls_end : length bytes ≤ at → calls_of (drop at bytes) ≡ record { calls = []; ending = ended }
  calls_end h = calls_as (drop at bytes) none (sym (front_none (drop at bytes) (simp length-drop (omega arith))))

  by_fault : (n : ℕ) (f : Front) → front_of (drop at bytes) ≡ f → told at f ≡ Err n → Broken bytes at n
  by_fault n (whole c width) e t = let z : ◌≡◌ {A = ℕ} 0 1 = cc in absurd (omega arith)
  by_fault n none e t = let z : ◌≡◌ {A = ℕ} 0 1 = cc in absurd (omega arith)
  by_fault n unreadable e t = record { number_is = cc; last = calls_as (drop at bytes) unreadable e }

  pub record_refused : (n : ℕ) → record_at bytes at ≡ Err n → Broken bytes at n
  unfolding record_at
  record_refused n e = by_fault n (front_of (drop at bytes)) refl e

-- ---- all calls of a file

-- each has the widths of the file's fields, and they are at least 7 bytes each
pub record Bounded (bytes : List ℕ) (cs : Calls) : Type 0 where
  pub all_sized : Bytes bytes → AllSized cs.calls
  pub room : term_bytes * length cs.calls ≤ length bytes

bounded_within : (fuel : ℕ) (bytes : List ℕ) → Bounded bytes (calls_within fuel bytes)
unfolding calls_within
bounded_within zero bytes = record { all_sized = λ b. tt; room = omega arith }
bounded_within (suc fuel) bytes = by_front (front_of bytes) refl (bounded_within fuel)
  where
    by_front : (o : Front) → front_of bytes ≡ o → ((later : List ℕ) → Bounded later (calls_within fuel later))
        → Bounded bytes (onward o (λ width. calls_within fuel (drop width bytes)))
    by_front (whole c width) e after =
        let w = front_whole bytes c width e in
        let l = after (drop width bytes) in
        record {
          all_sized = λ b. (w.sized b, l.all_sized (drop_bytes b width));
          room = omega (arith, w.least, w.fits, l.room, length-drop width bytes);
        }
    by_front none e after = record { all_sized = λ b. tt; room = omega arith }
    by_front unreadable e after = record { all_sized = λ b. tt; room = omega arith }

pub calls_bounded : (bytes : List ℕ) → Bounded bytes (calls_of bytes)
unfolding calls_of
calls_bounded bytes = bounded_within (length bytes) bytes
