-- Files under HD and HW (document 02, change 2), byte for byte: 32 principals, and each mark's limit.
-- Assumes nothing.
use Rattle.std.specs.Prelude.{ℕ, ◌≡◌, refl, List, [], ◌∷◌, ◌++◌}
use Rattle.marks.specs.Bits.{bit, set_bit}
use Rattle.marks.specs.Marks.{is_set, mark, marked, with_mark, sum, size}
use Rattle.words.specs.Word.{term_of, word_of}
use Rattle.terms.specs.Add.{add_of}
use Rattle.terms.specs.Descend.{layers, descend}
use Rattle.terms.specs.Meaning.{message_at}
use Rattle.terms.specs.Number.{place, word_in}
use Rattle.terms.specs.Rules.{refusal_of}
use Rattle.terms.specs.Table.{find_of}
use Rattle.messages.specs.Entered.{with_word, entered}
use Rattle.synthesis.specs.Sweep.{visit_of, sweep_of}
use Rattle.synthesis.specs.Test.{saturate_of, composes_of, derivable_of}
use Rattle.sending.specs.Send.{send_of}
use Rattle.exchange.specs.Needs.{need_table}
use Rattle.layers.specs.Layers.{◌▸◌, of_kind, layer}
use Rattle.forms.specs.Forms.{request_in, confirmation_in}
use Rattle.forms.specs.Grant.{grant_in}
use Rattle.forms.specs.Delivery.{ticket_in, authenticator_in, delivery_in}
use Rattle.rows.specs.Runs.{run_at, set_run}
use Rattle.replay.specs.Cache.{present, stays, kept, written}
use Rattle.realm.specs.Input.{uses_table, in_range, input_refusal}
use Rattle.realm.specs.Opening.{header_fits, header_refusal, opening_of}
use Rattle.conditions.specs.Conditions.{admission}
use Rattle.decisions.specs.Decision.{issues, authenticates, takes, finishes, opens_run, ticks, queries, step_of, decided, decision}
use Rattle.effects.specs.Apply.{applied}
use Rattle.effects.specs.Call.{stepped, called}
use Rattle.records.specs.Calls.{calls_within, calls_of}
use Rattle.records.specs.Fields.{begins}
use Rattle.exchange.specs.Forms.{forms}
use Rattle.exchange.specs.Formats.{formats}
use Rattle.records.specs.Headers.{header_width, header_of}
use Rattle.records.specs.Records.{front_of}
use Rattle.fields.specs.Fields.{ascii, decimal_by, decimal, mark_text, names_text, answer_text}
use Rattle.lines.specs.Lines.{header_line, call_line, file_line, end_line}
use Rattle.walkfile.specs.Listing.{new_tables, tables_line, last_lines, call_lines, walk_lines, listing_of}
use Rattle.walkfile.proofs.CaseF.{st}

-- the letters of a mark, n, the flags by their bytes, Ls 100, La 10
abbrev headed : (letters : List ℕ) (n : ℕ) (flags : List ℕ) → List ℕ
headed letters n flags = letters ++ n ∷ flags ++ 0 ∷ 0 ∷ 0 ∷ 100 ∷ 0 ∷ 0 ∷ 0 ∷ 10 ∷ []

-- 32 principals, the last of them bad, and a run of 30 for 31
pub wide_printed : listing_of (headed (ascii "HW") 32 (0x80 ∷ 0 ∷ 0 ∷ 0 ∷ []) ++ st 1 0 30 31 0 0)
    ≡ ascii "0 HW ok\n1 ST ok 0 +5\nend runs 1 wire 1 cache 0 clock 0\n"
unfolding listing_of header_of formats header_width begins opening_of header_refusal header_fits walk_lines new_tables calls_of calls_within front_of call_lines last_lines tables_line header_line call_line mark_text names_text answer_text end_line decimal decimal_by called stepped decision decided step_of opens_run issues authenticates takes finishes ticks queries admission input_refusal uses_table in_range need_table run_at set_run derivable_of composes_of saturate_of descend layers sweep_of visit_of marked mark with_mark size sum is_set bit set_bit term_of word_of message_at refusal_of find_of add_of place word_in with_word entered send_of applied present stays kept written request_in forms grant_in ticket_in authenticator_in delivery_in confirmation_in of_kind layer ◌▸◌
wide_printed = refl

-- "n is 3 to 32" under HW
pub hw_33 : listing_of (headed (ascii "HW") 33 (0 ∷ 0 ∷ 0 ∷ 0 ∷ [])) ≡ ascii "0 file refused 2\n"
unfolding listing_of header_of formats header_width opening_of header_refusal header_fits file_line decimal decimal_by is_set bit
hw_33 = refl

-- and 3 to 16 under HD
pub hd_17 : listing_of (headed (ascii "HD") 17 (0 ∷ 0 ∷ [])) ≡ ascii "0 file refused 2\n"
unfolding listing_of header_of formats header_width opening_of header_refusal header_fits file_line decimal decimal_by is_set bit
hd_17 = refl

-- a header of 13 bytes is whole under HD and cut short under HW
pub hw_cut_short : listing_of (headed (ascii "HW") 3 (0 ∷ 0 ∷ [])) ≡ ascii "0 file refused 1\n"
unfolding listing_of header_of formats header_width opening_of header_refusal header_fits file_line decimal decimal_by is_set bit
hw_cut_short = refl
