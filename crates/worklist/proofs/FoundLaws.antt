-- What follows from the definitions of the same name in specs/.
-- Assumes nothing.
use Rattle.std.specs.Prelude.{◌≡◌, refl, ◌⊎◌, List, ℕ, suc, ◌+◌, ◌*◌, ◌<◌, ◌≤◌, get_or, set}
use Rattle.std.proofs.Math.Path.{sym}
use Rattle.std.proofs.Common.{◌∙◌, le_refl, get_or-set_same}
use Rattle.std.proofs.Math.Logic.{inr, ⊎_elim, dite}
use Rattle.std.proofs.Math.Bool.{true, false}
use Rattle.std.proofs.Math.Decide.{ℕ_discrete}
use native.Mathlib.Omega.{arith}
use Rattle.std.proofs.Math.ListN.{length, length-set}
use Rattle.std.proofs.Math.Seq.{get_or-set_other}
use Rattle.marks.specs.Marks.{Words, marked, with_mark, size}
use Rattle.marks.proofs.Marks.{marked_same, marked_keeps, marked_new, with_words}
use Rattle.marks.proofs.Size.{size_with, size_le}
use Rattle.marks.proofs.Empty.{empty_words, empty_marked, empty_size}
use Rattle.std.proofs.lemmas.List.{length-replicate}
use Rattle.terms.proofs.Choice.{cond_elim, no_true}
use Rattle.worklist.specs.Found.{Found, as_found, blank, learn_of, Room, Listed, notice_of, start_of}

-- nothing is lost, and what was in the list keeps its place
pub record More (f g : Found) : Type 0 where
  pub keeps : (i : ℕ) → marked f.known i ≡ true → marked g.known i ≡ true
  pub longer : f.count ≤ g.count
  pub same : (j : ℕ) → j < f.count → get_or g.list j 0 ≡ get_or f.list j 0

-- ---- laws

pub more_refl : (f : Found) → More f f
more_refl f = record { keeps = λ i m. m; longer = le_refl f.count; same = λ j h. refl }

pub more_trans : {f g h : Found} → More f g → More g h → More f h
more_trans a b =
    record {
      keeps = λ i m. b.keeps i (a.keeps i m);
      longer = omega (arith, a.longer, b.longer);
      same = λ j lt. b.same j (omega (arith, a.longer)) ∙ a.same j lt;
    }

-- all that has been found has a place
pub room_most : (f : Found) → Room f → f.count ≤ 512
room_most f r = omega (arith, r.counted, size_le r.words)

-- a term that is new has a place
pub new_place : (f : Found) → Room f → (t : ℕ) → t < 512 → marked f.known t ≡ false → f.count < 512
new_place f r t h e =
    omega (arith, r.counted, size_with r.words t h e, size_le (with_words f.known t r.words h))

-- a term that is there, and one that is new
pub learn_again : (f : Found) (t : ℕ) → marked f.known t ≡ true → f ≡ learn_of f t
unfolding learn_of
learn_again f t e = rw e

pub learn_fresh : (f : Found) (t : ℕ) → marked f.known t ≡ false → {known : List ℕ} → known ≡ with_mark f.known t
    → as_found known (set f.list f.count t) (f.count + 1) ≡ learn_of f t
unfolding learn_of
learn_fresh f t e k = rw (e, k)

module _ (f : Found) (t : ℕ) (h : t < 512) where
  next : Found
  next = as_found (with_mark f.known t) (set f.list f.count t) (f.count + 1)

  room_next : Room f → marked f.known t ≡ false → Room next
  unfolding next
  room_next r e =
      record {
        words = with_words f.known t r.words h;
        places = length-set f.list f.count t ∙ r.places;
        counted = omega (arith, r.counted, size_with r.words t h e);
      }

  pub learn_room : Room f → Room (learn_of f t)
  unfolding learn_of next
  learn_room r = cond_elim Room (marked f.known t) f next (λ _. r) (room_next r)

  pub learn_marks : Room f → marked (learn_of f t).known t ≡ true
  unfolding learn_of next
  learn_marks r =
      cond_elim (λ (g : Found). marked g.known t ≡ true) (marked f.known t) f next (λ m. m)
      (λ _. marked_same f.known t (omega (arith, r.words.len)))

  pub learn_more : Room f → More f (learn_of f t)
  unfolding learn_of next
  learn_more r =
      cond_elim (More f) (marked f.known t) f next (λ _. more_refl f)
      (λ _.
      record {
        keeps = marked_keeps f.known t (omega (arith, r.words.len));
        longer = omega arith;
        same = λ j lt. get_or-set_other f.list f.count j t 0 (λ e. omega arith);
      })

  -- only t is new
  pub learn_new : Room f → (i : ℕ) → marked (learn_of f t).known i ≡ true → (i ≡ t) ⊎ (marked f.known i ≡ true)
  unfolding learn_of next
  learn_new r i =
      cond_elim (λ (g : Found). marked g.known i ≡ true → (i ≡ t) ⊎ (marked f.known i ≡ true)) (marked f.known t) f next (λ _ m. inr m)
      (λ _ m. marked_new f.known t (omega (arith, r.words.len)) i m)

  pub learn_listed : {count : ℕ} → t < count → Listed count f → Listed count (learn_of f t)
  unfolding learn_of next
  learn_listed {count} lt l = cond_elim (Listed count) (marked f.known t) f next (λ _. l) new
    where
      new : marked f.known t ≡ false → Listed count next
      new e =
          record {
            room = room_next l.room e;
            place = λ i m. ⊎_elim (λ q. (f.count, omega arith, here ∙ sym q)) (λ m'. moved i (l.place i m')) (marked_new f.known t wide i m);
            member = λ j below.
                dite (ℕ_discrete j f.count) (λ q. rw (q, here) (marked_same f.known t wide))
                (λ ne. rw (get_or-set_other f.list f.count j t 0 ne) (marked_keeps f.known t wide (get_or f.list j 0) (l.member j (omega arith))));
            below = λ i m. ⊎_elim (λ q. rw q lt) (λ m'. l.below i m') (marked_new f.known t wide i m);
          }
        where
          wide : t < 64 * length f.known
          wide = omega (arith, l.room.words.len)

          here : get_or (set f.list f.count t) f.count 0 ≡ t
          here = get_or-set_same f.list f.count t 0 (omega (arith, l.room.places, new_place f l.room t h e))

          moved : (i : ℕ) → (j : ℕ) × (j < f.count) × (get_or f.list j 0 ≡ i) → (j : ℕ) × (j < f.count + 1) × (get_or (set f.list f.count t) j 0 ≡ i)
          moved i x = (x.0, omega (arith, x.1), get_or-set_other f.list f.count x.0 t 0 (λ q. omega (arith, x.1)) ∙ x.2)

-- ---- nothing is found

pub listed_none : (count : ℕ) {known list : List ℕ} → Words 8 known → ((i : ℕ) → marked known i ≡ false) → size known ≡ 0 → length list ≡ 512
    → Listed count (as_found known list 0)
listed_none count w none empty places =
    record {
      room = record { words = w; places = places; counted = sym empty };
      place = λ i m. no_true (sym (none i) ∙ m);
      member = λ j h. absurd (omega arith);
      below = λ i m. no_true (sym (none i) ∙ m);
    }

pub blank_listed : (count : ℕ) → Listed count blank
blank_listed count = listed_none count (empty_words 8) (empty_marked 8) (empty_size 8) (length-replicate {A = ℕ} 512 0)

pub notice_room : (ws : List ℕ) (f : Found) (i : ℕ) → i < 512 → Room f → Room (notice_of ws f i)
notice_room ws f i h r = cond_elim Room (marked ws i) (learn_of f i) f (λ _. learn_room f i h r) (λ _. r)

pub start_zero : (ws : List ℕ) (f : Found) → f ≡ start_of ws 0 f
unfolding start_of
start_zero ws f = refl

pub start_next : (ws : List ℕ) (m : ℕ) (f : Found) → notice_of ws (start_of ws m f) m ≡ start_of ws (m + 1) f
unfolding start_of
start_next ws m f =
    let s : m + 1 ≡ suc m = omega arith in
    rw s

pub notice_new : (ws : List ℕ) (f : Found) (i : ℕ) → marked ws i ≡ true → learn_of f i ≡ notice_of ws f i
notice_new ws f i e = rw e

pub notice_not : (ws : List ℕ) (f : Found) (i : ℕ) → marked ws i ≡ false → f ≡ notice_of ws f i
notice_not ws f i e = rw e
