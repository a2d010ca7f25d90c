-- The worked examples hold: each side computes to the other.
use Rattle.flash.proofs.Kit.{refl}
use Rattle.flash.specs.Lists.{all, concat_map}
use Rattle.flash.specs.Geometry.{is_letter}
use Rattle.listing.specs.Numbers.{is_separator, is_digit, ended, words_from, spelled, number_of, numbers_in, taken}
use Rattle.listing.specs.Input.{is_allowed, exactly, requested, after_sizes, input_of}
use Rattle.listing.specs.Digits.{digit_of, digits, places_up_to, decimal, hex}
use Rattle.listing.specs.Lines.{write_line, erase_line, end_line, refused_line}
use Rattle.listing.specs.Examples.{Examples, parted}

pub examples : Examples
unfolding all concat_map is_letter is_separator is_digit ended words_from spelled number_of numbers_in taken is_allowed exactly requested after_sizes input_of digit_of digits places_up_to decimal hex write_line erase_line end_line refused_line parted
examples = record {
  asked = refl;
  line-feeds = refl;
  tabs = refl;
  empty = refl;
  too_few = refl;
  too_many = refl;
  no_byte = refl;
  large-entry = refl;
  three-sizes = refl;
  nine-blocks = refl;
  glued = refl;
  five-digits = refl;
  six-digits = refl;
  write = refl;
  bytes = refl;
  erase = refl;
  end = refl;
  refused-3 = refl;
}
