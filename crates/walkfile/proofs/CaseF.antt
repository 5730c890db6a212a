-- Case F of document 01 ("File and listing"), byte for byte: what the definition of the listing gives for its file. It is restated by
-- document 02, change 3: "its accepted steps add 5, 11, 1, 0, 1, 0 and 0 terms in turn".
-- Assumes nothing.
use Rattle.std.specs.Prelude.{ℕ, ◌≡◌, refl, List, [], ◌∷◌, ◌++◌}
use Rattle.marks.specs.Bits.{bit, set_bit}
use Rattle.marks.specs.Marks.{is_set, mark, marked, with_mark, sum, size}
use Rattle.words.specs.Word.{term_of, word_of}
use Rattle.terms.specs.Add.{add_of}
use Rattle.terms.specs.Descend.{layers, descend}
use Rattle.terms.specs.Meaning.{message_at}
use Rattle.terms.specs.Number.{place, word_in}
use Rattle.terms.specs.Rules.{refusal_of}
use Rattle.terms.specs.Table.{find_of}
use Rattle.messages.specs.Entered.{with_word, entered}
use Rattle.synthesis.specs.Sweep.{visit_of, sweep_of}
use Rattle.synthesis.specs.Test.{saturate_of, composes_of, derivable_of}
use Rattle.sending.specs.Send.{send_of}
use Rattle.exchange.specs.Needs.{need_table}
use Rattle.layers.specs.Layers.{◌▸◌, of_kind, layer}
use Rattle.forms.specs.Forms.{request_in, confirmation_in}
use Rattle.forms.specs.Grant.{grant_in}
use Rattle.forms.specs.Delivery.{ticket_in, authenticator_in, delivery_in}
use Rattle.rows.specs.Runs.{run_at, set_run}
use Rattle.replay.specs.Cache.{present, stays, kept, written}
use Rattle.realm.specs.Input.{uses_table, in_range, input_refusal}
use Rattle.realm.specs.Opening.{header_fits, header_refusal, opening_of}
use Rattle.conditions.specs.Conditions.{admission}
use Rattle.decisions.specs.Decision.{issues, authenticates, takes, finishes, opens_run, ticks, queries, step_of, decided, decision}
use Rattle.effects.specs.Apply.{applied}
use Rattle.effects.specs.Call.{stepped, called}
use Rattle.records.specs.Calls.{calls_within, calls_of}
use Rattle.records.specs.Fields.{begins}
use Rattle.exchange.specs.Forms.{forms}
use Rattle.exchange.specs.Formats.{formats}
use Rattle.records.specs.Headers.{header_width, header_of}
use Rattle.records.specs.Records.{front_of}
use Rattle.fields.specs.Fields.{ascii, decimal_by, decimal, mark_text, names_text, answer_text}
use Rattle.lines.specs.Lines.{header_line, call_line, file_line, end_line}
use Rattle.walkfile.specs.Listing.{new_tables, tables_line, last_lines, call_lines, walk_lines, listing_of}

-- HD with n, flags, Ls and La; TM with kind, L and R; ST with step, run, a, b, m and t. All of them are below 256 here.
abbrev hd : (n flags ls la : ℕ) → List ℕ
hd n flags ls la = ascii "HD" ++ (n ∷ 0 ∷ flags ∷ 0 ∷ 0 ∷ 0 ∷ ls ∷ 0 ∷ 0 ∷ 0 ∷ la ∷ [])

abbrev tm : (kind l r : ℕ) → List ℕ
tm kind l r = ascii "TM" ++ (kind ∷ 0 ∷ l ∷ 0 ∷ r ∷ [])

abbrev pub st : (step run a b m t : ℕ) → List ℕ
st step run a b m t = ascii "ST" ++ (step ∷ run ∷ a ∷ b ∷ 0 ∷ m ∷ 0 ∷ 0 ∷ 0 ∷ t ∷ [])

-- "Case F, n 3, flags 0, Ls 100, La 10: ST 1 (a 1, b 2); ST 3 (m 4); ST 4 (run 0, m 11); ST 2 (a 1, b 2); TM 5 (15, 16); ST 5 (run 2,
-- m 17); ST 6 (run 0, m 18); ST 2 (a 1, b 2); ST 5 (run 3, m 17). `walk` prints:"
abbrev first7 : List ℕ
first7 = hd 3 0 100 10 ++ st 1 0 1 2 0 0 ++ st 3 0 0 0 4 0 ++ st 4 0 0 0 11 0 ++ st 2 0 1 2 0 0 ++ tm 5 15 16 ++ st 5 2 0 0 17 0

abbrev pub file : List ℕ
file = first7 ++ st 6 0 0 0 18 0 ++ st 2 0 1 2 0 0 ++ st 5 3 0 0 17 0

pub printed : listing_of file
    ≡ ascii "0 HD ok\n1 ST ok 0 +5\n2 ST ok 1 +11\n3 ST ok 0 +1\n4 ST ok 2 +0\n5 TM 17 new\n6 ST ok 2 +1\n7 ST ok 0 +0\n8 ST ok 3 +0\n9 ST refused 18\nend runs 4 wire 5 cache 1 clock 0\n"
unfolding listing_of header_of formats header_width begins opening_of header_refusal header_fits walk_lines new_tables calls_of calls_within front_of call_lines last_lines tables_line header_line call_line mark_text names_text answer_text end_line decimal decimal_by called stepped decision decided step_of opens_run issues authenticates takes finishes ticks queries admission input_refusal uses_table in_range need_table run_at set_run derivable_of composes_of saturate_of descend layers sweep_of visit_of marked mark with_mark size sum is_set bit set_bit term_of word_of message_at refusal_of find_of add_of place word_in with_word entered send_of applied present stays kept written request_in forms grant_in ticket_in authenticator_in delivery_in confirmation_in of_kind layer ◌▸◌
printed = refl

-- the same file cut off within its record 7: "After 1, 2 or 3 reading ends"
pub cut_short : listing_of (first7 ++ ascii "ST")
    ≡ ascii "0 HD ok\n1 ST ok 0 +5\n2 ST ok 1 +11\n3 ST ok 0 +1\n4 ST ok 2 +0\n5 TM 17 new\n6 ST ok 2 +1\n7 file refused 3\nend runs 3 wire 5 cache 1 clock 0\n"
unfolding listing_of header_of formats header_width begins opening_of header_refusal header_fits walk_lines new_tables calls_of calls_within front_of call_lines last_lines tables_line header_line call_line mark_text names_text answer_text file_line end_line decimal decimal_by called stepped decision decided step_of opens_run issues authenticates takes finishes ticks queries admission input_refusal uses_table in_range need_table run_at set_run derivable_of composes_of saturate_of descend layers sweep_of visit_of marked mark with_mark size sum is_set bit set_bit term_of word_of message_at refusal_of find_of add_of place word_in with_word entered send_of applied present stays kept written request_in forms grant_in ticket_in authenticator_in delivery_in confirmation_in of_kind layer ◌▸◌
cut_short = refl
