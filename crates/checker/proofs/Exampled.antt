-- The worked cases hold: each side computes to the other.
use Rattle.flash.proofs.Kit.{refl}
use Rattle.flash.specs.Lists.{range, all, any, concat_map, set_part, is_same}
use Rattle.flash.specs.Tables.{first_fit, number_or0, refusal}
use Rattle.split.specs.OneToOne.{met_twice, is_one_to_one}
use Rattle.listing.specs.Numbers.{is_digit, spelled}
use Rattle.listing.specs.Digits.{digit_of, digits, places_up_to, decimal}
use Rattle.listing.specs.Lines.{originals_line, erase_line, end_line}
use Rattle.checker.specs.Lines.{leading, behind, is_number, is_field, fields, behind_fields, is_rising, are_originals, formed, read_end, read_erase, read_write, read_step, read_line}
use Rattle.checker.specs.Pages.{mask_of, resting_pages, is_bad_write, page_written, block_erased, is_sum, are_determined, survives, is_requested}
use Rattle.checker.specs.Answer.{turn, then_check, check_from, are_sizes, check_rows, check_answer}
use Rattle.checker.specs.Examples.{Examples}

pub examples : Examples
unfolding range all any concat_map set_part is_same first_fit number_or0 refusal met_twice is_one_to_one is_digit spelled digit_of digits places_up_to decimal originals_line erase_line end_line leading behind is_number is_field fields behind_fields is_rising are_originals formed read_end read_erase read_write read_step read_line mask_of resting_pages is_bad_write page_written block_erased is_sum are_determined survives is_requested turn then_check check_from are_sizes check_rows check_answer
examples = record {
  method = refl;
  other-counts = refl;
  no_end = refl;
  half = refl;
  lowest-top = refl;
  last-copy = refl;
  not-blank = refl;
  below = refl;
  left_out = refl;
  again = refl;
  at_rest = refl;
  blank-erased = refl;
  not-asked = refl;
  empty = refl;
  after-end = refl;
  after-end-unended = refl;
  twice = refl;
  falling = refl;
  none = refl;
  another-step = refl;
  outside-block = refl;
  outside-page = refl;
  outside-original = refl;
  leading-zero = refl;
  zero-zero = refl;
  two-spaces = refl;
  last-space = refl;
  returned = refl;
  unended = refl;
  empty-line = refl;
  large-block = refl;
  large-count = refl;
  no_blocks = refl;
  too_many = refl;
  another-length = refl;
  met-twice = refl;
  dropped = refl;
  sixty-four = refl;
}
