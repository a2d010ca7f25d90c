-- The worked examples hold: each side computes to the other.
use Rattle.flash.proofs.Kit.{refl}
use Rattle.flash.specs.Lists.{total}
use Rattle.method.specs.State.{originals_in}
use Rattle.method.proofs.basics.Open.{all-open}
use Rattle.listing.specs.Digits.{digit_of, digits, hex}
use Rattle.intel_hex.specs.Records.{checksum, fields, line_of, record_text}
use Rattle.intel_hex.specs.Writing.{data_record, upper_record, end_record, upper_at, records_at, records_from, records_of, hex_text, hex_length}
use Rattle.intel_hex.specs.Reading.{unended, lines_from, digit_value, is_digit, pairs, uncarried, is_type, spelt, is_good, parse, parse_line, records_in}
use Rattle.intel_hex.specs.Reading.{is_given}
use Rattle.intel_hex.specs.Reading.{is_outside, is_repeated, give, with_upper, at_end, judge_data, judge_record, judge, judge_all, start, outcome_of}
use Rattle.intel_hex.specs.Reading.{number_of}
use Rattle.intel_hex.specs.Reading.{byte_of, bytes_of, hex_number, hex_image}
use Rattle.intel_hex.specs.Answers.{hex_write_rows, hex_read_rows, hex_write_answer, hex_read_answer}
use Rattle.intel_hex.specs.Examples.{Examples}

pub examples : Examples
unfolding all-open originals_in digit_of digits hex total checksum fields line_of record_text data_record upper_record end_record upper_at records_at records_from records_of hex_text hex_length unended lines_from digit_value is_digit pairs uncarried is_type spelt is_good parse parse_line records_in is_given is_outside is_repeated give with_upper at_end judge_data judge_record judge judge_all start outcome_of number_of byte_of bytes_of hex_number hex_image hex_write_rows hex_read_rows hex_write_answer hex_read_answer
examples = record {
  written = refl;
  length-1 = refl;
  length-16 = refl;
  length-17 = refl;
  length-span = refl;
  length-past-span = refl;
  length_most = refl;
  no-upper-first = refl;
  no-upper-before = refl;
  upper-there = refl;
  no-upper-behind = refl;
  upper-text = refl;
  either-case = refl;
  either-case-image = refl;
  empty = refl;
  no_end = refl;
  unended = refl;
  two-returns = refl;
  after-end = refl;
  second-end = refl;
  outside = refl;
  over-span = refl;
  twice = refl;
  other-type = refl;
  wrong-sum = refl;
  no_bytes = refl;
  back-again = refl;
  back-again-image = refl;
  store-written = refl;
  no_blocks = refl;
  short-text = refl;
  marked-1 = refl;
  spare-written = refl;
  store-read = refl;
  none-given = refl;
  many-blocks = refl;
  other_length = refl;
  no_text = refl;
}
