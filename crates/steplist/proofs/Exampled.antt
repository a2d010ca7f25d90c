-- The examples: the output computes to what is due.
use Rattle.flash.proofs.Kit.{refl}
use Rattle.method.proofs.basics.Open.{all-open}
use Rattle.listing.specs.Numbers.{is_separator, is_digit, ended, words_from, spelled, number_of, numbers_in, taken}
use Rattle.listing.specs.Input.{is_allowed, exactly, requested, after_sizes, input_of, within_limit}
use Rattle.listing.specs.Digits.{digit_of, digits, places_up_to, decimal, hex}
use Rattle.listing.specs.Lines.{write_line, originals_line, erase_line, end_line, refused_line, unreadable_line}
use Rattle.listing.specs.Examples.{parted}
use Rattle.flash.specs.Tables.{first_fit, number_or0, refusal}
use Rattle.checker.specs.Answer.{are_sizes, check_rows}
use Rattle.checker.specs.Method.{inserted, ascending, step_text, steps_text, method_text}
use Rattle.steplist.specs.Output.{step_line, step_lines, move_lines, listed, listed_by_originals, answered, output}
use Rattle.steplist.specs.Example.{Examples}

pub examples : Examples
unfolding all-open is_separator is_digit ended words_from spelled number_of numbers_in taken is_allowed exactly requested after_sizes input_of within_limit digit_of digits places_up_to decimal hex write_line originals_line erase_line end_line refused_line unreadable_line parted step_line step_lines move_lines listed first_fit number_or0 refusal are_sizes check_rows inserted ascending step_text steps_text method_text listed_by_originals answered output
examples = record { example = refl; missing-byte = refl; no_byte = refl; bad-list = refl; large-entry = refl; nine-blocks = refl; by-originals = refl; dropped = refl; larger = refl; too_few = refl; nine-pages = refl }
