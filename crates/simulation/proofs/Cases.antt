-- What follows from the definitions of the same name in specs/.
-- Assumes nothing.
use Rattle.std.specs.Prelude.{◌≡◌, refl, true, map, length, replicate}
use Rattle.marks.specs.Bits.{bit, set_bit}
use Rattle.marks.specs.Marks.{is_set, mark, marked, with_mark, sum, size}
use Rattle.marks.specs.Within.{clear, within}
use Rattle.words.specs.Word.{term_of, word_of}
use Rattle.terms.specs.Add.{add_of}
use Rattle.terms.specs.Descend.{layers, descend}
use Rattle.terms.specs.Meaning.{message_at}
use Rattle.terms.specs.Number.{place, word_in}
use Rattle.terms.specs.Rules.{refusal_of}
use Rattle.terms.specs.Table.{find_of}
use Rattle.terms.specs.Valid.{stands, holds}
use Rattle.messages.specs.Entered.{with_word, entered}
use Rattle.synthesis.specs.Sweep.{visit_of, sweep_of}
use Rattle.synthesis.specs.Test.{saturate_of, composes_of, derivable_of}
use Rattle.sending.specs.Send.{send_of}
use Rattle.exchange.specs.Forms.{forms}
use Rattle.exchange.specs.Needs.{need_table}
use Rattle.layers.specs.Layers.{◌▸◌, of_kind, layer}
use Rattle.forms.specs.Forms.{request_in, confirmation_in}
use Rattle.forms.specs.Grant.{grant_in}
use Rattle.forms.specs.Delivery.{ticket_in, authenticator_in, delivery_in}
use Rattle.terms.specs.AllOf.{each}
use Rattle.runs.specs.Lent.{row_holds, rows_hold}
use Rattle.rows.specs.Runs.{run_at, set_run}
use Rattle.replay.specs.Cache.{present, stays, kept, written}
use Rattle.realm.specs.Check.{wire_holds, entries_hold, together}
use Rattle.realm.specs.Input.{uses_table, in_range, input_refusal}
use Rattle.realm.specs.Opening.{header_fits, realm_fits}
use Rattle.conditions.specs.Conditions.{admission}
use Rattle.decisions.specs.Decision.{issues, authenticates, takes, finishes, opens_run, ticks, queries, step_of, decided, decision}
use Rattle.effects.specs.Apply.{applied}
use Rattle.effects.specs.Call.{stepped, called}
use Rattle.simulation.specs.Cases.{play, table}

pub cases : map play table ≡ map (λ c. c.says) table
unfolding called stepped decision decided step_of opens_run issues authenticates takes finishes ticks queries admission input_refusal uses_table in_range need_table run_at set_run derivable_of composes_of saturate_of descend layers sweep_of visit_of marked mark with_mark size sum is_set bit set_bit term_of word_of message_at refusal_of find_of add_of place word_in with_word entered send_of applied present stays kept written request_in forms grant_in ticket_in authenticator_in delivery_in confirmation_in of_kind layer ◌▸◌
cases = refl

-- the tables that they start from hold together
pub cases_start : map (λ c. together c.start) table ≡ replicate (length table) true
unfolding together realm_fits header_fits holds stands refusal_of find_of rows_hold each row_holds wire_holds within clear entries_hold marked mark is_set bit term_of word_of
cases_start = refl
