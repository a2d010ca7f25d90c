-- Opens every definition, so that a case is proved by computing it: `unfolding all-open`.
use Rattle.flash.specs.Lists.{range, down_from, iterates, all, any, count, filter, first, concat_map, part, set_part, is_same}
use Rattle.flash.specs.Tables.{first_fit, number_or0, refusal}
use Rattle.flash.specs.Geometry.{is_letter, in_range, letter}
use Rattle.flash.specs.PageSum.{◌⊕◌, sum, written_bytes}
use Rattle.flash.specs.Wear.{counter_at, raised, replaces, noted, risen, noted_up_to, refreshed}
use Rattle.flash.specs.Chip.{page_at, mark_at, is_blank, is_whole, is_full, is_unfinished, erase_block, write_page}
use Rattle.split.specs.OneToOne.{met_twice, is_one_to_one, kept_entries, bad_list}
use Rattle.split.specs.Drops.{is_dropped, free_places, paired, completed}
use Rattle.split.specs.Split.{source_block, dest_block, set_of, pages_from, pages_to, is_split}
use Rattle.split.specs.Pins.{is_pinned, moves_pinned}
use Rattle.split.specs.Rule.{other_end, swapped, block_at, is_page_of, is_used, lowest_unused, pages_met, exchange, give_next, sets_given, split_by_rule}
use Rattle.split.specs.Answer.{split_rows, split_answer}
use Rattle.split.specs.Request.{bad_request}
use Rattle.method.specs.Cycle.{highest, D, dest, pred, cycle, top, is_top, coded, sent_to}
use Rattle.method.specs.Place.{mark_of, writes, forward_turn, backward_turn, operations, last_place, operation_at, pass_at, filling, filled, written, above, held_at, held_mark, marks_of}
use Rattle.method.specs.Read.{full_of, coded_slot, plain_slot, final_slot, go_back, go_on, read_slots, filler_page, term_page, stored_slots, term_at, read_terms, read_page}
use Rattle.method.specs.State.{is_at_rest, chip_at_rest, held_originals, counts_as, held_page, state_of}
use Rattle.method.specs.Step.{originals_of, write_terms, pages_read, written_page, perform, step, steps, is_write, is_erase, tallied, tally_of, operations_from}
use Rattle.method.specs.Worn.{worn_once, worn_by, erases_of, wears_out, is_worn_out}
use Rattle.method.specs.Mend.{full_from, forward_torn, backward_torn, forward_full, backward_full, lines, seen, reading}
use Rattle.method.specs.Answers.{bad_chip, bad_parts, marks_answer, fits_none, is_elsewhere, move_rows, run_rows, mend_rows, read_rows, steps_taken, run_carried_out, run_refused, run_answer, mended, mend_answer, read_answer}

unfoldable pub all-open : Unit {0}
unfolding range down_from iterates highest all any count filter first concat_map part set_part is_same first_fit number_or0 refusal is_letter in_range ◌⊕◌ sum written_bytes page_at mark_at is_blank is_whole is_full is_unfinished erase_block write_page met_twice is_one_to_one kept_entries bad_list is_dropped free_places paired completed source_block dest_block set_of pages_from pages_to is_split other_end swapped block_at is_page_of is_used lowest_unused pages_met exchange give_next sets_given split_by_rule is_pinned moves_pinned bad_request split_rows split_answer letter D dest pred cycle top is_top coded sent_to mark_of writes forward_turn backward_turn operations last_place operation_at pass_at filling filled written above held_at held_mark marks_of full_of coded_slot plain_slot final_slot go_back go_on read_slots filler_page term_page stored_slots term_at read_terms read_page is_at_rest chip_at_rest held_originals counts_as held_page state_of originals_of write_terms pages_read written_page perform step steps is_write is_erase tallied tally_of operations_from full_from forward_torn backward_torn forward_full backward_full lines seen reading counter_at raised replaces noted risen noted_up_to refreshed worn_once worn_by erases_of wears_out is_worn_out bad_chip bad_parts marks_answer fits_none is_elsewhere move_rows run_rows mend_rows read_rows steps_taken run_carried_out run_refused run_answer mended mend_answer read_answer
all-open = tt
