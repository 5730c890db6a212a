-- What holds after messages were sent, which are, and where sending changes no term.
-- Assumes nothing.
use Rattle.std.proofs.Math.Path.{◌≡◌, sym, ap}
use Rattle.std.proofs.Common.{◌∙◌, subst, inl, inr, arith, take-append-drop, length-take-le}
use Rattle.std.specs.Prelude.{true, ◌⊎◌, ℕ, ◌<◌, ◌≤◌, leb, drop}
use Rattle.std.proofs.Math.Bool.{cond}
use mathlib.Core.List.Memᴰ
use mathlib.Core.List.{List, [], ◌∷◌, Memᴰ}
use Rattle.std.proofs.Math.Logic.{dite}
use Rattle.std.proofs.Math.Decide.{dec_le}
use borrow.Author.Tests.{le-leb, lt-leb, leb-true}
use Rattle.std.proofs.Math.ListN.{length}
use Rattle.std.proofs.Math.Seq.{drop-append_seam, take-append_seam}
use Rattle.drafts.specs.Writes.{Writes}
use Rattle.marks.specs.Marks.{Words, marked, with_mark}
use Rattle.terms.proofs.Choice.{cond_first}
use Rattle.terms.specs.Meaning.{message_at}
use Rattle.terms.proofs.Meaning.{messages_same}
use Rattle.terms.specs.Message.{Message}
use Rattle.terms.specs.Number.{number_in, terms_of}
use Rattle.terms.proofs.Number.{terms_length, terms_agree, terms_list, terms_message}
use Rattle.terms.specs.Rules.{Agree}
use Rattle.terms.specs.Valid.{Valid}
use Rattle.messages.specs.Entered.{entered}
use Rattle.messages.specs.Lent.{over}
use Rattle.messages.specs.Listed.{add_all}
use Rattle.messages.specs.Meanings.{meanings}
use Rattle.messages.proofs.Meanings.{meanings_length, meanings_same}
use Rattle.messages.proofs.Promises.{over_agree, over_valid}
use Rattle.messages.specs.Standing.{Standing}
use Rattle.messages.proofs.Standing.{longer_entered, standing_number, entered_present}
use Rattle.deduction.specs.Known.{Known}
use Rattle.sending.specs.Send.{entered_all, marked_all, fits_in, sent, refused, sending, send_of, AllWrites, SentIs}
use Rattle.sending.proofs.Entering.{AllEntered, all_entered, entered_again}
use Rattle.sending.proofs.Marking.{Placed, Numbered, all_words, all_keeps, all_added, all_new, with_again}
use Rattle.sending.proofs.Full.{all_too_long}

-- ---- the terms of a table

old_meanings : {n : ℕ} {ts : List ℕ} {count : ℕ} → Valid n ts count → meanings (terms_of ts count) (length (terms_of ts count)) ≡ meanings ts count
old_meanings {ts = ts} {count} v =
    ap (meanings (terms_of ts count)) (terms_length v) ∙ sym (meanings_same ts (terms_of ts count) count (terms_message v))

-- ---- messages that fit

module _ (n : ℕ) (small : n ≤ 65536) {ts : List ℕ} {count : ℕ} (v : Valid n ts count) (ws : List ℕ) (ms : List Message) (writes : AllWrites n ms) where
  module _ (words : Words 8 ws) (within : (i : ℕ) → marked ws i ≡ true → i < count) (xs : List ℕ) (room : length xs ≤ 512)
      (A : AllEntered n (terms_of ts count) xs ms) where
    agree : Agree xs (over xs ts) (length xs)
    agree = over_agree ts A.extends.terms v.size room

    longer : count ≤ length xs
    longer = omega (arith, A.extends.more, terms_length v)

    same : Agree ts (over xs ts) count
    same k h =
        terms_agree v k h ∙ A.extends.agree k (omega (arith, terms_length v)) ∙ agree k (omega (arith, longer))

    kept : (i : ℕ) → i < count → message_at ts i ≡ message_at (over xs ts) i
    kept = messages_same v.terms (over xs ts) same

    means : (i : ℕ) → i < length xs → message_at xs i ≡ message_at (over xs ts) i
    means = messages_same A.extends.terms (over xs ts) agree

    placed : Placed xs ms
    placed m i = omega (arith, (A.stands m i).below)

    all_added_up : meanings (over xs ts) (length xs) ≡ add_all ms (meanings ts count)
    all_added_up = sym (meanings_same xs (over xs ts) (length xs) means) ∙ A.added ∙ ap (add_all ms) (old_meanings v)

    below : (i : ℕ) → (marked ws i ≡ true) ⊎ Numbered xs ms i → i < length xs
    below i (inl k) = omega (arith, within i k, longer)
    below i (inr s) = omega (arith, s.number, (A.stands s.message s.among).below)

    was : (m : Message) (k : Known (over xs ts) (length xs) (marked_all ws xs ms) m) → (marked ws k.at ≡ true) ⊎ Numbered xs ms k.at
        → Known ts count ws m ⊎ Memᴰ m ms
    was m k (inl old) =
        let h = within k.at old in
        inl (record { at = k.at; below = h; mark = old; is = kept k.at h ∙ k.is })
    was m k (inr s) =
        let S = A.stands s.message s.among in
        inr (Memᴰ.cast (sym k.is ∙ sym (means k.at k.below) ∙ ap (message_at xs) s.number ∙ S.means) s.among)

    stays : (m : Message) → Known ts count ws m ⊎ Memᴰ m ms → Known (over xs ts) (length xs) (marked_all ws xs ms) m
    stays m (inl k) =
        record {
          at = k.at;
          below = omega (arith, k.below, longer);
          mark = all_keeps xs ws ms words.len placed k.at k.mark;
          is = sym (kept k.at k.below) ∙ k.is;
        }
    stays m (inr i) =
        let S = A.stands m i in
        record {
          at = number_in xs m;
          below = S.below;
          mark = all_added xs ws ms words.len placed m i;
          is = sym (means (number_in xs m) S.below) ∙ S.means;
        }

    sent_is : SentIs n ts ws count ms (over xs ts) (marked_all ws xs ms) (length xs)
    sent_is =
        record {
          valid = over_valid ts A.extends.terms v.size room;
          more = longer;
          older = same;
          meaning = kept;
          past = drop-append_seam xs (drop (length xs) ts);
          added = all_added_up;
          fits = omega (arith, ap length all_added_up, meanings_length (over xs ts) (length xs));
          each = λ m i. subst (λ (ys : List ℕ). Standing ys m (number_in ys m)) (sym (take-append_seam xs (drop (length xs) ts))) (A.stands m i);
          words = all_words xs ws ms words placed;
          within = λ i k. below i (all_new xs ws ms words.len placed i k);
          wire = λ m. (λ k. was m k (all_new xs ws ms words.len placed k.at k.mark), stays m);
        }

  pub sent_accepted : Words 8 ws → ((i : ℕ) → marked ws i ≡ true → i < count) → {ts' ws' : List ℕ} {count' : ℕ}
      → send_of ts ws count ms ≡ sent count' ts' ws' → SentIs n ts ws count ms ts' ws' count'
  unfolding send_of
  sent_accepted words within {ts'} {ws'} {count'} e =
      let old = terms_of ts count in
      let xs = entered_all old ms in
      let a = cond_first (leb (length xs) 512) (λ f. let z : ◌≡◌ {A = ℕ} 0 1 = cc in omega arith) e in
      let room : length xs ≤ 512 = leb-true (length xs) 512 a.0 in
      let same : (count' ≡ length xs) × (ts' ≡ over xs ts) × (ws' ≡ marked_all ws xs ms) = let f = a.1 in ((cc), (cc), (cc)) in
      rw (same.0, same.1, same.2) (sent_is words within xs room (all_entered small ms writes old (terms_list v) room))

  -- as many terms as messages, where either fit
  fits_exact : fits_in ts count ms ≡ leb (length (add_all ms (meanings ts count))) 512
  fits_exact =
      let xs = entered_all (terms_of ts count) ms in
      dite (dec_le (length xs) 512)
      (λ le.
      let A = all_entered small ms writes (terms_of ts count) (terms_list v) le in
      let e = ap length (A.added ∙ ap (add_all ms) (old_meanings v)) in
      le-leb (length xs) 512 le ∙ sym (le-leb (length (add_all ms (meanings ts count))) 512 (omega (arith, e, meanings_length xs (length xs)))))
      (λ gt.
      let long = all_too_long small ms writes (terms_of ts count) (terms_list v) (omega (arith, terms_length v, v.room)) (omega arith) in
      lt-leb (length xs) 512 (omega arith) ∙ sym (lt-leb _ 512 (subst (λ (l : List Message). 512 < length (add_all ms l)) (old_meanings v) long)))

  pub sent_fits : length (add_all ms (meanings ts count)) ≤ 512
      → let xs = entered_all (terms_of ts count) ms in send_of ts ws count ms ≡ sent (length xs) (over xs ts) (marked_all ws xs ms)
  unfolding send_of
  sent_fits room = rw (fits_exact, le-leb (length (add_all ms (meanings ts count))) 512 room)

  pub sent_full : 512 < length (add_all ms (meanings ts count)) → send_of ts ws count ms ≡ refused 20 ts ws
  unfolding send_of
  sent_full long = rw (fits_exact, lt-leb (length (add_all ms (meanings ts count))) 512 long)

-- ---- messages that change no term

-- terms laid over the table that they are
same_terms : {ts : List ℕ} {count : ℕ} (ws : List ℕ) (ms : List Message) → length (terms_of ts count) ≡ count → count ≤ 512
    → sending ts ws (terms_of ts count) ms ≡ sent count ts (marked_all ws (terms_of ts count) ms)
same_terms {ts} {count} ws ms e room = rw (e, le-leb count 512 room, take-append-drop count ts)

pub send_nothing : (ts ws : List ℕ) (count : ℕ) → length ts ≡ 512 → count ≤ 512 → send_of ts ws count [] ≡ sent count ts ws
unfolding send_of
send_nothing ts ws count size room = same_terms ws [] (length-take-le count ts (omega arith)) room

module _ {n : ℕ} {ts : List ℕ} {count : ℕ} (v : Valid n ts count) (ws : List ℕ) where
  pub send_standing : (m : Message) (i : ℕ) → i < count → message_at ts i ≡ m → send_of ts ws count (m ∷ []) ≡ sent count ts (with_mark ws i)
  unfolding send_of
  send_standing m i h e =
      let old = terms_of ts count in
      let S : Standing old m i = record { below = omega (arith, terms_length v); means = sym (terms_message v i h) ∙ e } in
      ap (λ (xs : List ℕ). sending ts ws xs (m ∷ [])) (entered_present (terms_list v) m S) ∙ same_terms ws (m ∷ []) (terms_length v) v.room
      ∙ ap (λ (j : ℕ). sent count ts (with_mark ws j)) (standing_number (terms_list v) S)

  pub send_twice : n ≤ 65536 → (m : Message) → Writes n m → send_of ts ws count (m ∷ m ∷ []) ≡ send_of ts ws count (m ∷ [])
  unfolding send_of
  send_twice small m w =
      let xs = entered (terms_of ts count) m in
      dite (dec_le (length xs) 512)
      (λ le.
      ap (λ (ys : List ℕ). sending ts ws ys (m ∷ m ∷ [])) (entered_again small m w (terms_of ts count) (terms_list v) le)
      ∙ ap (λ (us : List ℕ). cond (leb (length xs) 512) (sent (length xs) (over xs ts) us) (refused 20 ts ws)) (with_again ws (number_in xs m)))
      (λ gt. rw (lt-leb (length xs) 512 (omega arith), lt-leb (length (entered xs m)) 512 (omega (arith, (longer_entered xs m).more))))
