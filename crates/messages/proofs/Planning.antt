-- Planning a node, by what its layer is: each way out of the recursion keeps the plan ready, and what it plans is the
-- node's message, entered.
-- Assumes nothing.
use Rattle.std.specs.Prelude.{◌≡◌, refl, ℕ, zero, suc, ◌+◌, ◌-◌, ◌<◌, ◌≤◌, length, get_or, take, Option, Some, None}
use Rattle.std.proofs.Common.{sym, ◌∙◌, add-one, arith, length-append, length-set, length-take-le, get_or-take, get_or-set_same, get_or-set_other}
use Rattle.std.proofs.Math.Path.{ap, subst}
use Rattle.std.proofs.Math.Logic.{dite}
use mathlib.Core.List.{List}
use Rattle.std.proofs.Math.Decide.{ℕ_discrete}
use Rattle.std.proofs.Math.ListN.{get_or-append}
use Rattle.drafts.specs.declared.Layer.{Layer}
use Rattle.drafts.specs.declared.Layer.TheVariants as layer
use Rattle.drafts.specs.declared.Node.{Node}
use Rattle.words.specs.declared.Term.TheVariants.{Pair, Encrypted}
use Rattle.drafts.specs.Draft.{node_at, layer_of}
use Rattle.drafts.proofs.Draft.{fits_at, draft_at}
use Rattle.drafts.specs.Writes.{KeyFits, Writes}
use Rattle.drafts.proofs.Writes.{draft_writes}
use Rattle.terms.specs.Meaning.{message_at}
use Rattle.terms.proofs.Meaning.{messages_same}
use Rattle.terms.specs.Message.{Key, Message, key, pair, encrypted}
use Rattle.terms.specs.Number.{place, place_by, key_word, word_in, number_in}
use Rattle.terms.specs.Table.{find_of}
use Rattle.terms.proofs.TableLaws.{FoundIs, found_is}
use Rattle.terms.specs.Valid.{Terms}
use Rattle.words.specs.Word.{word_of}
use Rattle.messages.specs.Entered.{with_word, with_term, entered}
use Rattle.messages.proofs.Layers.{noted_le, noted_room, noted_set, note_longer, joined_small, at_number, Atomic, LayerIs, layer_is, pair_word, encrypted_word}
use Rattle.messages.specs.declared.plan.Plan.{Plan}
use Rattle.messages.specs.Plan.{as_plan, joined, known, drafted, NoteIs, Ready, WordPlanned, NodePlanned, note_in}
use Rattle.messages.proofs.PlanLaws.{joined_length}
use Rattle.messages.specs.Standing.{Standing}
use Rattle.messages.proofs.Standing.{EnteredIs, Longer, longer_trans, longer_with, longer_entered, standing_longer, standing_number, key_entered, entered_is, entered_present}

-- ---- a plan that is ready

module _ {ts : List ℕ} {count : ℕ} {draft : List Node} {p : Plan} (R : Ready ts count draft p) (k : ℕ) (hk : k < 16) where
  -- the words, the message of node k among them, with the node noted; they were planned after p₁, a later plan than p
  noting : (p₁ : Plan) (words : List ℕ) (planned number : ℕ) → Ready ts count draft p₁ → get_or p₁.numbers k 0 ≡ 0
      → ((j : ℕ) → k < j → get_or p₁.numbers j 0 ≡ get_or p.numbers j 0) → length words ≡ length p₁.words → planned ≤ p₁.count + 2
      → let ys = joined ts count words planned in
      Longer (known ts count p₁) ys → Standing ys (drafted ts draft k) number → Terms R.n ys (length ys)
      → ys ≡ entered (known ts count p) (drafted ts draft k) → NodePlanned ts count draft k p number (as_plan words planned (note_in p₁.numbers k number))
  noting p₁ words planned number R₁ unseen later places few longer stands v terms =
      record {
        again =
            record {
              n = R.n;
              small = R.small;
              table = R.table;
              fits = R.fits;
              terms = v;
              places = places ∙ R₁.places;
              size = length-set p₁.numbers k (number + 1) ∙ R₁.size;
              room = rw (add-one, noted_set p₁.numbers k number (omega (arith, R₁.size)) unseen) (omega (arith, R₁.room));
              notes = λ j h.
                  dite (ℕ_discrete j k)
                  (λ e. rw (e, get_or-set_same p₁.numbers k (number + 1) 0 (omega (arith, R₁.size)), add-one) stands)
                  (λ ne.
                  rw (get_or-set_other p₁.numbers k j (number + 1) 0 ne)
                  (note_longer R₁.terms longer (drafted ts draft j) (get_or p₁.numbers j 0) (R₁.notes j h)));
            };
        terms = terms;
        number_is = sym (standing_number v stands);
        later = λ j h. get_or-set_other p₁.numbers k j (number + 1) 0 (λ e. omega arith) ∙ later j h;
      }

  layered : {L : Layer} → layer_of (node_at draft k) ≡ L → LayerIs count k (message_at ts) (drafted ts draft) L (drafted ts draft k)
  layered e =
      subst (λ (l : Layer). LayerIs count k (message_at ts) (drafted ts draft) l (drafted ts draft k)) e
      (subst (LayerIs count k (message_at ts) (drafted ts draft) (layer_of (node_at draft k))) (sym (draft_at (message_at ts) R.n count draft R.fits k hk))
      (layer_is R.n count k (message_at ts) (drafted ts draft) (node_at draft k) (fits_at R.n count draft R.fits k hk)))

  -- what holds once the message of node k is entered into terms that keep the rules
  entry : (xs : List ℕ) → Terms R.n xs (length xs) → (words : List ℕ) (planned : ℕ) → planned ≤ 64 → joined ts count words planned ≡ entered xs (drafted ts draft k)
      → EnteredIs R.n xs (joined ts count words planned) (drafted ts draft k)
  entry xs v words planned h e =
      subst (λ (l : List ℕ). EnteredIs R.n xs l (drafted ts draft k)) (sym e)
      (entered_is R.small (drafted ts draft k) (draft_writes R.table draft R.fits k hk) xs v
      (omega (arith, ap length e, joined_small ts count words planned, R.table.room)))

  -- a node that was looked at before
  seen_by : (v : ℕ) → NoteIs (known ts count p) (drafted ts draft k) v → (v ≡ 0 → ⊥) → NodePlanned ts count draft k p (v - 1) p
  seen_by zero s ne = absurd (ne refl)
  seen_by (suc i) s ne =
      let e : suc i - 1 ≡ i = omega arith in
      record {
        again = R;
        terms = sym (entered_present R.terms (drafted ts draft k) s);
        number_is = e ∙ sym (standing_number R.terms s);
        later = λ j h. refl;
      }

  pub node_seen : (get_or p.numbers k 0 ≡ 0 → ⊥) → NodePlanned ts count draft k p (get_or p.numbers k 0 - 1) p
  node_seen ne = seen_by (get_or p.numbers k 0) (R.notes k hk) ne

  -- a term of the table
  in_known : (i : ℕ) → i < count → Standing (known ts count p) (message_at ts i) i
  in_known i h =
      let size : length (take count ts) ≡ count = length-take-le count ts (omega (arith, R.table.size, R.table.room)) in
      record {
        below = omega (arith, size, length-append (take count ts) (take p.count p.words));
        means =
            sym
            (messages_same R.table.terms (known ts count p)
            (λ j lt. sym (get_or-append (take count ts) (take p.count p.words) 0 j (omega (arith, size)) ∙ get_or-take count ts j 0 lt)) i h);
      }

  pub node_stored : {i : ℕ} → layer_of (node_at draft k) ≡ layer.Stored i → NodePlanned ts count draft k p i p
  node_stored {i} e =
      let l : (i < count) × (drafted ts draft k ≡ message_at ts i) = layered e in
      let s : Standing (known ts count p) (drafted ts draft k) i = subst (λ (m : Message). Standing (known ts count p) m i) (sym l.1) (in_known i l.0) in
      record { again = R; terms = sym (entered_present R.terms (drafted ts draft k) s); number_is = sym (standing_number R.terms s); later = λ j h. refl }

  -- a term without operands
  pub node_atom : {w : ℕ} → layer_of (node_at draft k) ≡ layer.Atom w → get_or p.numbers k 0 ≡ 0 → {number planned : ℕ} {words : List ℕ}
      → WordPlanned ts count p.words p.count w number words planned → NodePlanned ts count draft k p number (as_plan words planned (note_in p.numbers k number))
  node_atom {w} e unseen {number} {planned} {words} wp =
      let m = drafted ts draft k in
      let xs = known ts count p in
      let all = joined ts count words planned in
      let l : Atomic m w = layered e in
      let terms : all ≡ entered xs m = wp.terms ∙ sym (l.enters xs) in
      let E = entry xs R.terms words planned (omega (arith, wp.most, R.room, R.size, noted_le p.numbers)) terms in
      noting p words planned number R unseen (λ j h. refl) wp.places (omega (arith, wp.most)) (subst (Longer xs) (sym wp.terms) (longer_with xs w))
      (at_number E number (wp.number_is ∙ ap (place all) (sym (l.word all)))) E.extends.terms terms

-- ---- there is room for two words more, and numbers are small

pub few : {ts : List ℕ} {count : ℕ} {draft : List Node} {p : Plan} → Ready ts count draft p → p.count ≤ 32
few {p = p} R = omega (arith, R.room, R.size, noted_le p.numbers)

pub room_left : {ts : List ℕ} {count : ℕ} {draft : List Node} {p : Plan} → Ready ts count draft p → (k : ℕ) → k < 16 → get_or p.numbers k 0 ≡ 0 → p.count ≤ 30
room_left {p = p} R k hk e = omega (arith, R.room, R.size, noted_room p.numbers k (omega (arith, R.size)) e)

pub known_length : {ts : List ℕ} {count : ℕ} {draft : List Node} {p : Plan} → Ready ts count draft p → length (known ts count p) ≡ count + p.count
known_length {ts} {count} {p = p} R = joined_length ts count p.words p.count 0 (omega (arith, R.table.size, R.table.room)) (omega (arith, few R, R.places))

place_le : (xs : List ℕ) (w : ℕ) (f : Option ℕ) → FoundIs xs (length xs) w f → place_by f ≤ length xs
place_le xs w (Some i) h = omega (arith, h.0)
place_le xs w None h = omega arith

pub number_small : {ts : List ℕ} {count : ℕ} {words : List ℕ} {planned w number : ℕ} {words' : List ℕ} {planned' : ℕ}
    → WordPlanned ts count words planned w number words' planned' → count ≤ 512 → planned < 32 → number < 65535
unfolding place
number_small {ts} {count} {w = w} {words' = words'} {planned'} wp h few =
    let xs = joined ts count words' planned' in
    omega (arith, wp.number_is, wp.most, place_le xs w (find_of xs (length xs) w) (found_is xs (length xs) w), joined_small ts count words' planned')

-- ---- a node with operands

-- a node l before k was planned: its message stands in the terms that are known then
module _ {ts : List ℕ} {count : ℕ} {draft : List Node} {p p₁ : Plan} {l i : ℕ} (R : Ready ts count draft p) (hl : l < 16)
    (xs : List ℕ) (v : Terms R.n xs (length xs)) (e : known ts count p₁ ≡ entered xs (drafted ts draft l))
    (R₁ : Ready ts count draft p₁) (at : i ≡ number_in (known ts count p₁) (drafted ts draft l)) where
  operand : EnteredIs R.n xs (known ts count p₁) (drafted ts draft l)
  operand = entry R l hl xs v p₁.words p₁.count (omega (arith, few R₁)) e

  operand_at : Standing (known ts count p₁) (drafted ts draft l) i
  operand_at = at_number operand i at

module _ {ts : List ℕ} {count : ℕ} {draft : List Node} {p : Plan} (R : Ready ts count draft p) (k : ℕ) (hk : k < 16)
    (unseen : get_or p.numbers k 0 ≡ 0) where
  pub pair_below : {l r : ℕ} → layer_of (node_at draft k) ≡ layer.Pair l r → (l < k) × (r < k)
  pair_below {l} {r} e =
      let L : (l < k) × (r < k) × (drafted ts draft k ≡ pair (drafted ts draft l) (drafted ts draft r)) = layered R k hk e in
      (L.0, L.1)

  pub pair_room : {l r : ℕ} → layer_of (node_at draft k) ≡ layer.Pair l r
      → {i : ℕ} {p₁ : Plan} → NodePlanned ts count draft l p i p₁ → {j : ℕ} {p₂ : Plan} → NodePlanned ts count draft r p₁ j p₂ → p₂.count ≤ 30
  pair_room e first second =
      let h = pair_below e in
      room_left second.again k hk (second.later k h.1 ∙ first.later k h.0 ∙ unseen)

  pub body_below : {b w : ℕ} → layer_of (node_at draft k) ≡ layer.Encrypted b w → b < k
  body_below {b} {w} e =
      let L : (b < k) × ((x : Key) × (drafted ts draft k ≡ encrypted (drafted ts draft b) x) × (w ≡ key_word x)) = layered R k hk e in
      L.0

  pub body_room : {b w : ℕ} → layer_of (node_at draft k) ≡ layer.Encrypted b w → {i : ℕ} {p₁ : Plan} → NodePlanned ts count draft b p i p₁ → p₁.count ≤ 30
  body_room e first = room_left first.again k hk (first.later k (body_below e) ∙ unseen)

  pub node_pair : {l r : ℕ} → layer_of (node_at draft k) ≡ layer.Pair l r
      → {i : ℕ} {p₁ : Plan} → NodePlanned ts count draft l p i p₁ → {j : ℕ} {p₂ : Plan} → NodePlanned ts count draft r p₁ j p₂
      → {w : ℕ} → w ≡ word_of (Pair i j) → {number planned : ℕ} {words : List ℕ} → WordPlanned ts count p₂.words p₂.count w number words planned
      → NodePlanned ts count draft k p number (as_plan words planned (note_in p₂.numbers k number))
  unfolding entered
  node_pair {l} {r} e {i} {p₁} first {j} {p₂} second is {number} {planned} {words} own =
      let wp : WordPlanned ts count p₂.words p₂.count (word_of (Pair i j)) number words planned =
      subst (λ (w : ℕ). WordPlanned ts count p₂.words p₂.count w number words planned) is own in
      let xs = known ts count p in
      let ys = known ts count p₁ in
      let zs = known ts count p₂ in
      let all = joined ts count words planned in
      let a = drafted ts draft l in
      let b = drafted ts draft r in
      let L : (l < k) × (r < k) × (drafted ts draft k ≡ pair a b) = layered R k hk e in
      let hl : l < 16 = omega (arith, L.0) in
      let hr : r < 16 = omega (arith, L.1) in
      let A = operand R hl xs R.terms first.terms first.again first.number_is in
      let B = operand R hr ys A.extends.terms second.terms second.again second.number_is in
      let sa : Standing zs a i =
      standing_longer A.extends.terms (subst (Longer ys) (sym second.terms) (longer_entered ys b))
      (operand_at R hl xs R.terms first.terms first.again first.number_is) in
      let sb : Standing zs b j = operand_at R hr ys A.extends.terms second.terms second.again second.number_is in
      let whole : zs ≡ entered (entered xs a) b = second.terms ∙ ap (λ (x : List ℕ). entered x b) first.terms in
      let terms : all ≡ entered xs (drafted ts draft k) =
      wp.terms ∙ ap (with_word zs) (sym (pair_word B.extends.terms sa sb)) ∙ ap (λ (x : List ℕ). with_term x (pair a b)) whole
      ∙ ap (entered xs) (sym L.2) in
      let longer : Longer zs all = subst (Longer zs) (sym wp.terms) (longer_with zs (word_of (Pair i j))) in
      let E = entry R k hk xs R.terms words planned (omega (arith, wp.most, few second.again)) terms in
      let v = E.extends.terms in
      noting R k hk p₂ words planned number second.again (second.later k L.1 ∙ first.later k L.0 ∙ unseen)
      (λ x h. second.later x (omega (arith, L.1)) ∙ first.later x (omega (arith, L.0))) wp.places (omega (arith, wp.most)) longer
      (at_number E number
      (wp.number_is
      ∙ ap (place all) (sym (pair_word v (standing_longer B.extends.terms longer sa) (standing_longer B.extends.terms longer sb)))
      ∙ ap (number_in all) (sym L.2))) v terms

  pub node_encrypted : {b w : ℕ} → layer_of (node_at draft k) ≡ layer.Encrypted b w
      → {i : ℕ} {p₁ : Plan} → NodePlanned ts count draft b p i p₁ → {j half : ℕ} {words₁ : List ℕ} → WordPlanned ts count p₁.words p₁.count w j words₁ half
      → {v : ℕ} → v ≡ word_of (Encrypted i j) → {number planned : ℕ} {words : List ℕ} → WordPlanned ts count words₁ half v number words planned
      → NodePlanned ts count draft k p number (as_plan words planned (note_in p₁.numbers k number))
  unfolding entered word_in
  node_encrypted {b} {w} e {i} {p₁} first {j} {half} {words₁} second is {number} {planned} {words} own =
      let wp : WordPlanned ts count words₁ half (word_of (Encrypted i j)) number words planned =
      subst (λ (w : ℕ). WordPlanned ts count words₁ half w number words planned) is own in
      let xs = known ts count p in
      let ys = known ts count p₁ in
      let zs = joined ts count words₁ half in
      let all = joined ts count words planned in
      let m = drafted ts draft b in
      let L : (b < k) × ((x : Key) × (drafted ts draft k ≡ encrypted m x) × (w ≡ key_word x)) = layered R k hk e in
      let x : Key = L.1.0 in
      let hb : b < 16 = omega (arith, L.0) in
      let fits : KeyFits R.n x = (subst (Writes R.n) L.1.1 (draft_writes R.table draft R.fits k hk)).1 in
      let A = operand R hb xs R.terms first.terms first.again first.number_is in
      let by_key : zs ≡ with_term ys (key x) = second.terms ∙ ap (with_word ys) L.1.2 in
      let B : EnteredIs R.n ys zs (key x) = subst (λ (l : List ℕ). EnteredIs R.n ys l (key x)) (sym by_key) (key_entered R.small ys A.extends.terms x fits) in
      let near : Longer ys zs = subst (Longer ys) (sym second.terms) (longer_with ys w) in
      let sm : Standing zs m i =
      standing_longer A.extends.terms near (operand_at R hb xs R.terms first.terms first.again first.number_is) in
      let sk : Standing zs (key x) j = at_number B j (second.number_is ∙ ap (place zs) L.1.2) in
      let whole : zs ≡ with_term (entered xs m) (key x) = by_key ∙ ap (λ (l : List ℕ). with_term l (key x)) first.terms in
      let terms : all ≡ entered xs (drafted ts draft k) =
      wp.terms ∙ ap (with_word zs) (sym (encrypted_word B.extends.terms sm sk)) ∙ ap (λ (l : List ℕ). with_term l (encrypted m x)) whole
      ∙ ap (entered xs) (sym L.1.1) in
      let far : Longer zs all = subst (Longer zs) (sym wp.terms) (longer_with zs (word_of (Encrypted i j))) in
      let E = entry R k hk xs R.terms words planned (omega (arith, wp.most, second.most, few first.again)) terms in
      let v = E.extends.terms in
      noting R k hk p₁ words planned number first.again (first.later k L.0 ∙ unseen) (λ x h. first.later x (omega (arith, L.0)))
      (wp.places ∙ second.places) (omega (arith, wp.most, second.most)) (longer_trans near far)
      (at_number E number
      (wp.number_is
      ∙ ap (place all) (sym (encrypted_word v (standing_longer B.extends.terms far sm) (standing_longer B.extends.terms far sk)))
      ∙ ap (number_in all) (sym L.1.1))) v terms
