-- The claims about marks, sizes and pages hold.
use Rattle.flash.proofs.Kit.{lt-ltb, le-ltb}
use Rattle.flash.specs.Geometry.{is_letter}
use Rattle.flash.specs.Chip.{mark_at, is_whole}
use Rattle.flash.specs.Claims.{WholeByLetter, RangeIsBounds, BytesOfPages}
use Rattle.flash.proofs.Bounds.{in-range, range-in}
use Rattle.flash.proofs.Written.{written_none, written_all, written-most}
use Rattle.flash.proofs.claims.Goals as goal

whole-by-letter : WholeByLetter
unfolding is_whole is_letter
whole-by-letter = record { whole = λ marks t h. lt-ltb (mark_at marks t) 3 h; torn = λ marks t h. le-ltb (mark_at marks t) 3 h }

range-is-bounds : RangeIsBounds
range-is-bounds = record { bounds = in-range; range = range-in }

bytes-of-pages : BytesOfPages
bytes-of-pages = record { none = written_none; all = written_all; most = written-most }

pub returns : goal.returns
returns c = record { whole_by_letter = whole-by-letter; range_is_bounds = range-is-bounds; bytes_of_pages = bytes-of-pages }
