-- What follows from the definitions of the same name in specs/.
-- Assumes nothing.
use Rattle.std.specs.Prelude.{◌≡◌, Result, Ok, refl, true, length, Option, Some, None}
use Rattle.std.proofs.Common.{sym, ◌∙◌, arith, length-drop, pow_mono, drop-cons}
use Rattle.std.proofs.Math.Path.{ap}
use mathlib.Core.List.{List, [], ◌∷◌, ◌++◌, map}
use Prim.Native.Nat.{ℕ, zero, suc, ◌+◌, ◌*◌, ◌/◌, ◌^◌, ◌<◌, ◌≤◌}
use Rattle.std.proofs.Math.ListN.{drop}
use Rattle.std.proofs.Math.Seq.{drop-append_seam}
use Rattle.exchange.specs.declared.call.Call.{Call}
use Rattle.exchange.specs.declared.call.Call.TheVariants as call
use Rattle.exchange.specs.declared.header.Flags.{Flags}
use Rattle.exchange.specs.declared.header.Flags.TheVariants.{Bits16, Bits32}
use Rattle.exchange.specs.declared.header.Format.{Format}
use Rattle.exchange.specs.declared.header.Header.{Header}
use Rattle.exchange.specs.Formats.{format_of}
use Rattle.exchange.proofs.Laws.Formats.{bits, Sound, format_found}
use Rattle.realm.specs.Header.{HeaderTaken}
use Rattle.realm.proofs.HeaderLaws.{flags_small}
use Rattle.realm.specs.Opening.{header_refusal}
use Rattle.records.specs.Fields.{Bytes, byte, number16, number32, begins}
use Rattle.records.proofs.Fields.{begins_here, begins_other, begins_mark, begins_whole, drop_bytes}
use Rattle.records.specs.Headers.{max_file, lives_at, format_bytes, header_width, fields_of, header_of}
use Rattle.records.proofs.Headers.{width_is}
use Rattle.records.specs.Headers as headers
use Rattle.records.proofs.Headers as headers_laws
use Rattle.records.specs.Records.{term_mark, step_mark, term_bytes, step_bytes, term_call, step_call, Front, whole, front_of, Finds, at_end, at_term, at_step, at_fault}
use Rattle.records.proofs.Records.{front_term, front_step, front_finds}
use Rattle.records.specs.Calls.{Calls, ended, broken, then, onward}
use Rattle.records.proofs.Calls.{calls_are, calls_end}
use Rattle.records.specs.Calls as reading
use Rattle.raw_records.specs.declared.raw.RawRecord.{RawRecord}
use Rattle.raw_records.specs.declared.raw.RawRecord.TheVariants.{Term, Step}
use Rattle.raw_records.specs.Calls.{calls_from, raw_for, words_for, RawSized, AllRawSized}
use Rattle.raw_records.proofs.Calls.{records_for}
use Rattle.raw_records.specs.Refusals.{records_refusal}
use Rattle.fields.specs.Placed.{placed}
use Rattle.fields.specs.Bytes.{low, high, bytes16, bytes32}
use Rattle.writer.specs.File.{header_as, header_in_bytes, record_in_bytes, records_in_bytes, file_of}
use Rattle.writer.proofs.Progress.{header_is, header_long}
use Rattle.writer.specs.Write.{write_outcome, by_refusal, write_refusal, write_of, WalkPasses}
use Rattle.writer.proofs.Write.{file_length, passes_zero}
use Rattle.written_walks.specs.ReadBack.{ReadsAs}

-- ---- numbers

back16 : (x : ℕ) → x < 2 ^ 16 → high x * 256 + low x ≡ x
back16 x h = omega arith

back32 : (x : ℕ) → x < 2 ^ 32 → (high (x / 65536) * 256 + low (x / 65536)) * 65536 + (high x * 256 + low x) ≡ x
back32 x h = omega arith

back8 : (x : ℕ) → x < 2 ^ 8 → low x ≡ x
back8 x h = omega arith

-- ---- read back

-- what a whole record at the front is to a reader
first_call : (bytes : List ℕ) (c : Call) (width : ℕ) → whole c width ≡ front_of bytes → reading.calls_of bytes ≡ then c (reading.calls_of (drop width bytes))
first_call bytes c width e = calls_are bytes ∙ ap (λ (f : Front). onward f (λ w. reading.calls_of (drop w bytes))) (sym e)

term_back : (kind l r : ℕ) (rest : List ℕ) → RawSized (Some (Term kind l r))
    → reading.calls_of (record_in_bytes (Some (Term kind l r)) ++ rest) ≡ then (call.Term kind l r) (reading.calls_of rest)
unfolding record_in_bytes
term_back kind l r rest f =
    let bytes : List ℕ = record_in_bytes (Some (Term kind l r)) ++ rest in
    first_call bytes (call.Term kind l r) 7
    (front_term bytes (omega arith) (begins_here term_mark 7 bytes (omega arith) refl) (rw (back8 kind f.0, back16 l f.1, back16 r f.2)))

step_back : (step run a b m t : ℕ) (rest : List ℕ) → RawSized (Some (Step step run a b m t))
    → reading.calls_of (record_in_bytes (Some (Step step run a b m t)) ++ rest) ≡ then (call.Step step run a b m t) (reading.calls_of rest)
unfolding record_in_bytes
step_back step run a b m t rest f =
    let bytes : List ℕ = record_in_bytes (Some (Step step run a b m t)) ++ rest in
    first_call bytes (call.Step step run a b m t) 12
    (front_step bytes (omega arith) (begins_other term_mark 7 bytes (omega arith) (λ z. omega arith)) (begins_here step_mark 12 bytes (omega arith) refl)
    (rw (back8 step f.0, back8 run f.1, back8 a f.2, back8 b f.3, back16 m f.4, back32 t f.5)))

body_back : (raws : List (Option RawRecord)) → AllRawSized raws → reading.calls_of (records_in_bytes raws) ≡ record { calls = calls_from raws; ending = ended }
body_back [] f = calls_end [] 0 (omega arith)
body_back (Some (Term kind l r) ∷ raws) f = term_back kind l r (records_in_bytes raws) f.0 ∙ ap (then (call.Term kind l r)) (body_back raws f.1)
body_back (Some (Step step run a b m t) ∷ raws) f = step_back step run a b m t (records_in_bytes raws) f.0 ∙ ap (then (call.Step step run a b m t)) (body_back raws f.1)
body_back (None ∷ raws) f = absurd f.0

-- the values are read from where they were written
fields_back : (width : Flags) (mark most rules : ℕ) (g : Header) (rest : List ℕ) → mark ≡ g.mark → g.flags < 2 ^ bits width → g.ls < 2 ^ 32 → g.la < 2 ^ 32
    → let f : Format = record { mark = mark; flags = width; most = most; rules = rules } in
    fields_of f (header_as (Some f) g ++ rest) ≡ g
fields_back Bits16 mark most rules g rest e hf hs ha = rw (e, back16 g.flags hf, back32 g.ls hs, back32 g.la ha)
fields_back Bits32 mark most rules g rest e hf hs ha = rw (e, back32 g.flags hf, back32 g.ls hs, back32 g.la ha)

module _ (g : Header) (raws : List (Option RawRecord)) (t : HeaderTaken g) where
  abbrev f : Format
  f = t.format

  row : (f.mark ≡ g.mark) × Sound f
  row = format_found g.mark f t.known

  -- the file, in the layout of its mark
  laid : file_of g raws ≡ header_as (Some f) g ++ records_in_bytes raws
  unfolding file_of
  laid = ap (λ (front : List ℕ). front ++ records_in_bytes raws) (sym (header_is g (Some f) t.known))

  file_long : length (file_of g raws) ≡ format_bytes (Some f) + length (records_in_bytes raws)
  file_long = file_length g raws ∙ ap (λ (k : ℕ). k + length (records_in_bytes raws)) (width_is g.mark (Some f) t.known)

  mark_first : number16 (file_of g raws) 0 ≡ g.mark
  mark_first = ap (λ (bytes : List ℕ). number16 bytes 0) laid ∙ back16 g.mark (omega (arith, row.0, row.1.mark_fits))

  flags_fit : g.flags < 2 ^ bits f.flags
  flags_fit =
      let within : g.n ≤ bits f.flags = omega (arith, t.within, row.1.flag_each) in
      omega (arith, flags_small g t, pow_mono within)

  header_back : g.ls < 2 ^ 32 → g.la < 2 ^ 32 → length (file_of g raws) ≤ max_file → header_of (file_of g raws) ≡ Ok g
  header_back hs ha short =
      headers_laws.fields_by (file_of g raws) short f (ap format_of mark_first ∙ t.known) (omega (arith, file_long))
      ∙ ap Ok (ap (fields_of f) laid ∙ fields_back f.flags f.mark f.most f.rules g (records_in_bytes raws) row.0 flags_fit hs ha)

  calls_back : AllRawSized raws → reading.calls_of (drop (header_width g.mark) (file_of g raws)) ≡ record { calls = calls_from raws; ending = ended }
  unfolding file_of
  calls_back sized =
      ap (λ (k : ℕ). reading.calls_of (drop k (file_of g raws))) (sym (header_long g))
      ∙ ap reading.calls_of (drop-append_seam (header_in_bytes g) (records_in_bytes raws))
      ∙ body_back raws sized

  pub file_back : g.ls < 2 ^ 32 → g.la < 2 ^ 32 → length (file_of g raws) ≤ max_file → AllRawSized raws → ReadsAs (file_of g raws) g (calls_from raws)
  file_back hs ha short sized = record { header = header_back hs ha short; records = calls_back sized }

-- ---- written back

-- the bytes of a number that was read from bytes
high_back : (x y : ℕ) → x < 2 ^ 8 → y < 2 ^ 8 → high (x * 256 + y) ≡ x
high_back x y p q = omega arith

low_back : (x y : ℕ) → x < 2 ^ 8 → y < 2 ^ 8 → low (x * 256 + y) ≡ y
low_back x y p q = omega arith

bytes16_back : (x y : ℕ) → x < 2 ^ 8 → y < 2 ^ 8 → bytes16 (x * 256 + y) ≡ x ∷ y ∷ []
bytes16_back x y p q = rw (high_back x y p q, low_back x y p q)

upper : (u v : ℕ) → v < 2 ^ 16 → (u * 65536 + v) / 65536 ≡ u
upper u v h = omega arith

lower : (u v : ℕ) → v < 2 ^ 16 → bytes16 (u * 65536 + v) ≡ bytes16 v
lower u v h = pairs (high_of u v h) (low_of u v)
  where
    pairs : {x y z w : ℕ} → x ≡ z → y ≡ w → x ∷ y ∷ [] ≡ z ∷ w ∷ []
    pairs p q = rw (p, q)

    high_of : (u v : ℕ) → v < 2 ^ 16 → high (u * 65536 + v) ≡ high v
    high_of u v h = omega arith

    low_of : (u v : ℕ) → low (u * 65536 + v) ≡ low v
    low_of u v = omega arith

bytes32_back : (x y z w : ℕ) → x < 2 ^ 8 → y < 2 ^ 8 → z < 2 ^ 8 → w < 2 ^ 8
    → bytes32 ((x * 256 + y) * 65536 + (z * 256 + w)) ≡ x ∷ y ∷ z ∷ w ∷ []
bytes32_back x y z w p q r s =
    ap (λ (k : ℕ). bytes16 k ++ bytes16 ((x * 256 + y) * 65536 + (z * 256 + w))) (upper (x * 256 + y) (z * 256 + w) (omega arith))
    ∙ ap (λ (b : List ℕ). bytes16 (x * 256 + y) ++ b) (lower (x * 256 + y) (z * 256 + w) (omega arith) ∙ bytes16_back z w r s)
    ∙ ap (λ (b : List ℕ). b ++ z ∷ w ∷ []) (bytes16_back x y p q)

mark_high : (x y mark : ℕ) → x < 2 ^ 8 → y < 2 ^ 8 → x * 256 + y ≡ mark → x ∷ y ∷ [] ≡ bytes16 mark
mark_high x y mark p q e = sym (bytes16_back x y p q) ∙ ap bytes16 e

-- so many bytes from a place on
abbrev span : List ℕ → (at k : ℕ) → List ℕ
span bytes at zero = []
span bytes at (suc k) = byte bytes at ∷ span bytes (suc at) k

spanned : (bytes : List ℕ) (at k : ℕ) → at + k ≤ length bytes → span bytes at k ++ drop (at + k) bytes ≡ drop at bytes
spanned bytes at zero h = ap (λ (j : ℕ). drop j bytes) (here at)
  where
    here : (at : ℕ) → at + 0 ≡ at
    here at = omega arith
spanned bytes at (suc k) h =
    ap (λ (j : ℕ). byte bytes at ∷ (span bytes (suc at) k ++ drop j bytes)) (on at k)
    ∙ ap (λ (rest : List ℕ). byte bytes at ∷ rest) (spanned bytes (suc at) k (omega arith))
    ∙ sym (drop-cons bytes at 0 (omega arith))
  where
    on : (at k : ℕ) → at + suc k ≡ suc at + k
    on at k = omega arith

-- the parts of a header
parts : {m m' f f' s s' a a' : List ℕ} (n : ℕ) → m ≡ m' → f ≡ f' → s ≡ s' → a ≡ a' → (m ++ n ∷ f) ++ s ++ a ≡ (m' ++ n ∷ f') ++ s' ++ a'
parts n p q r s = rw (p, q, r, s)

module _ (bytes : List ℕ) (b : Bytes bytes) where
  small : (k : ℕ) → byte bytes k < 2 ^ 8
  small k = b.small k

  mark_back : (mark : ℕ) → number16 bytes 0 ≡ mark → bytes16 mark ≡ span bytes 0 2
  mark_back mark e = sym (mark_high (byte bytes 0) (byte bytes 1) mark (small 0) (small 1) e)

  field16 : (at : ℕ) → bytes16 (number16 bytes at) ≡ byte bytes at ∷ byte bytes (at + 1) ∷ []
  field16 at = bytes16_back (byte bytes at) (byte bytes (at + 1)) (small at) (small (at + 1))

  field32 : (at : ℕ) → bytes32 (number32 bytes at) ≡ byte bytes at ∷ byte bytes (at + 1) ∷ byte bytes (at + 2) ∷ byte bytes (at + 2 + 1) ∷ []
  field32 at = bytes32_back (byte bytes at) (byte bytes (at + 1)) (byte bytes (at + 2)) (byte bytes (at + 2 + 1)) (small at) (small (at + 1)) (small (at + 2)) (small (at + 2 + 1))

  field8 : (at : ℕ) → low (byte bytes at) ≡ byte bytes at
  field8 at = back8 (byte bytes at) (small at)

  term_again : begins term_mark term_bytes bytes ≡ true → record_in_bytes (raw_for (term_call bytes)) ++ drop term_bytes bytes ≡ bytes
  unfolding record_in_bytes
  term_again h =
      ap (λ (front : List ℕ). front ++ drop 7 bytes) (parts (mark_back term_mark (begins_mark term_mark 7 bytes h)) (field8 2) (field16 3) (field16 5))
      ∙ spanned bytes 0 7 (begins_whole term_mark 7 bytes h)
    where
      parts : {m m' l l' r r' : List ℕ} {k k' : ℕ} → m ≡ m' → k ≡ k' → l ≡ l' → r ≡ r' → m ++ k ∷ l ++ r ≡ m' ++ k' ∷ l' ++ r'
      parts p q r s = rw (p, q, r, s)

  step_again : begins step_mark step_bytes bytes ≡ true → record_in_bytes (raw_for (step_call bytes)) ++ drop step_bytes bytes ≡ bytes
  unfolding record_in_bytes
  step_again h =
      ap (λ (front : List ℕ). front ++ drop 12 bytes) (parts (mark_back step_mark (begins_mark step_mark 12 bytes h)) (field8 2) (field8 3) (field8 4) (field8 5) (field16 6) (field32 8))
      ∙ spanned bytes 0 12 (begins_whole step_mark 12 bytes h)
    where
      parts : {m m' u u' v v' : List ℕ} {s s' r r' x x' y y' : ℕ} → m ≡ m' → s ≡ s' → r ≡ r' → x ≡ x' → y ≡ y' → u ≡ u' → v ≡ v'
          → m ++ s ∷ r ∷ x ∷ y ∷ u ++ v ≡ m' ++ s' ∷ r' ∷ x' ∷ y' ∷ u' ++ v'
      parts p q r s t u v = rw (p, q, r, s, t, u, v)

  header_again : (width : Flags) (mark most rules : ℕ) → number16 bytes 0 ≡ mark → lives_at width + 8 ≤ length bytes
      → let f : Format = record { mark = mark; flags = width; most = most; rules = rules } in
      header_as (Some f) (fields_of f bytes) ++ drop (lives_at width + 8) bytes ≡ bytes
  header_again Bits16 mark most rules e h =
      ap (λ (front : List ℕ). front ++ drop 13 bytes) (parts (byte bytes 2) (mark_back mark e) (field16 3) (field32 5) (field32 9)) ∙ spanned bytes 0 13 h
  header_again Bits32 mark most rules e h =
      ap (λ (front : List ℕ). front ++ drop 15 bytes) (parts (byte bytes 2) (mark_back mark e) (field32 3) (field32 7) (field32 11)) ∙ spanned bytes 0 15 h

-- a file that was read to its end is the bytes of its records
again_within : (fuel : ℕ) (bytes : List ℕ) → length bytes ≤ fuel → Bytes bytes → (reading.calls_of bytes).ending ≡ ended
    → records_in_bytes (map raw_for (reading.calls_of bytes).calls) ≡ bytes
again_within zero [] h b e = ap (λ (cs : Calls). records_in_bytes (map raw_for cs.calls)) (calls_end [] 0 (omega arith))
again_within zero (x ∷ xs) h b e = absurd (omega arith)
again_within (suc fuel) bytes h b e = by_front (front_of bytes) (front_finds bytes) (calls_are bytes) (again_within fuel)
  where
    empty : (xs : List ℕ) → length xs ≡ 0 → ◌≡◌ {A = List ℕ} [] xs
    empty [] z = refl
    empty (x ∷ xs) z = absurd (omega arith)

    on : (c : Call) (width : ℕ) → 0 < width → width ≤ length bytes → reading.calls_of bytes ≡ then c (reading.calls_of (drop width bytes))
        → record_in_bytes (raw_for c) ++ drop width bytes ≡ bytes
        → ((later : List ℕ) → length later ≤ fuel → Bytes later → (reading.calls_of later).ending ≡ ended → records_in_bytes (map raw_for (reading.calls_of later).calls) ≡ later)
        → records_in_bytes (map raw_for (reading.calls_of bytes).calls) ≡ bytes
    on c width some fits s again next =
        ap (λ (cs : Calls). records_in_bytes (map raw_for cs.calls)) s
        ∙ ap (λ (rest : List ℕ). record_in_bytes (raw_for c) ++ rest)
        (next (drop width bytes) (omega (arith, length-drop width bytes)) (drop_bytes b width) (sym (ap (λ (cs : Calls). cs.ending) s) ∙ e))
        ∙ again

    by_front : (f : Front) → Finds bytes f → reading.calls_of bytes ≡ onward f (λ width. reading.calls_of (drop width bytes))
        → ((later : List ℕ) → length later ≤ fuel → Bytes later → (reading.calls_of later).ending ≡ ended → records_in_bytes (map raw_for (reading.calls_of later).calls) ≡ later)
        → records_in_bytes (map raw_for (reading.calls_of bytes).calls) ≡ bytes
    by_front f (at_end z) s next = ap (λ (cs : Calls). records_in_bytes (map raw_for cs.calls)) s ∙ empty bytes z
    by_front f (at_term t) s next = on (term_call bytes) term_bytes (omega arith) (begins_whole term_mark term_bytes bytes t) s (term_again bytes b t) next
    by_front f (at_step t) s next = on (step_call bytes) step_bytes (omega arith) (begins_whole step_mark step_bytes bytes t) s (step_again bytes b t) next
    by_front f (at_fault l t u) s next = not_ended (sym (ap (λ (cs : Calls). cs.ending) s) ∙ e)
      where
        not_ended : {A : Type 0} → broken ≡ ended → A
        not_ended q = let z : ◌≡◌ {A = ℕ} 0 1 = cc in absurd (omega arith)

body_again : (bytes : List ℕ) → Bytes bytes → (reading.calls_of bytes).ending ≡ ended → records_in_bytes (map raw_for (reading.calls_of bytes).calls) ≡ bytes
body_again bytes b e = again_within (length bytes) bytes (omega arith) b e

-- so is a whole file
module _ (bytes : List ℕ) (b : Bytes bytes) (g : Header) where
  found_again : (h : Result Header ℕ) → headers.Finds bytes h → h ≡ Ok g → header_in_bytes g ++ drop (header_width g.mark) bytes ≡ bytes
  found_again h (headers.too_long l) e = let z : ◌≡◌ {A = ℕ} 0 1 = cc in absurd (omega arith)
  found_again h (headers.no_mark s m) e = let z : ◌≡◌ {A = ℕ} 0 1 = cc in absurd (omega arith)
  found_again h (headers.cut_short s f m l) e = let z : ◌≡◌ {A = ℕ} 0 1 = cc in absurd (omega arith)
  found_again h (headers.a_header s f m l) e =
      let same : fields_of f bytes ≡ g = cc in
      let mark : f.mark ≡ number16 bytes 0 = (format_found (number16 bytes 0) f m).0 in
      let known : format_of f.mark ≡ Some f = ap format_of mark ∙ m in
      ap (λ (x : Header). header_in_bytes x ++ drop (header_width x.mark) bytes) (sym same)
      ∙ ap (λ (front : List ℕ). front ++ drop (header_width f.mark) bytes) (sym (header_is (fields_of f bytes) (Some f) known))
      ∙ ap (λ (k : ℕ). header_as (Some f) (fields_of f bytes) ++ drop k bytes) (width_is f.mark (Some f) known)
      ∙ header_again bytes b f.flags f.mark f.most f.rules (sym mark) l

  pub file_again : {calls : List Call} → ReadsAs bytes g calls → file_of g (map raw_for calls) ≡ bytes
  unfolding file_of
  file_again r =
      let rest : List ℕ = drop (header_width g.mark) bytes in
      ap (λ (cs : Calls). header_in_bytes g ++ records_in_bytes (map raw_for cs.calls)) (sym r.records)
      ∙ ap (λ (body : List ℕ). header_in_bytes g ++ body) (body_again rest (drop_bytes b (header_width g.mark)) (ap (λ (cs : Calls). cs.ending) r.records))
      ∙ found_again (header_of bytes) (headers_laws.header_finds bytes) r.header

-- and the writer puts it there again
module _ (bytes : List ℕ) (b : Bytes bytes) (g : Header) (calls : List Call) (r : ReadsAs bytes g calls) (buffer : List ℕ) (at : ℕ) where
  passes : header_refusal g ≡ 0 → records_refusal g.n (map raw_for calls) ≡ 0 → at + length bytes ≤ length buffer
      → WalkPasses g (map raw_for calls) (length buffer) at
  passes fits own room =
      let is = file_again bytes b g r in
      record { short = rw is (headers_laws.header_fields bytes g r.header).most; header = fits; records = own; room = rw is room }

  pub written_again : header_refusal g ≡ 0 → records_refusal g.n (map raw_for calls) ≡ 0 → at + length bytes ≤ length buffer
      → write_of g (words_for calls) buffer at ≡ write_outcome (Ok (length bytes)) (placed buffer at bytes)
  unfolding write_of
  written_again fits own room =
      ap (λ (raws : List (Option RawRecord)). by_refusal (write_refusal g raws (length buffer) at) buffer at (file_of g raws)) (records_for calls)
      ∙ ap (λ (k : ℕ). by_refusal k buffer at (file_of g (map raw_for calls))) (passes_zero g (map raw_for calls) (length buffer) at (passes fits own room))
      ∙ ap (λ (file : List ℕ). write_outcome (Ok (length file)) (placed buffer at file)) (file_again bytes b g r)
