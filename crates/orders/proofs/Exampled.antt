-- The worked cases hold: each side computes to the other.
use Rattle.flash.proofs.Kit.{refl}
use Rattle.flash.specs.Lists.{range, all, any, filter, first}
use Rattle.flash.specs.Tables.{first_fit, number_or0, refusal}
use Rattle.flash.specs.Geometry.{is_letter, in_range}
use Rattle.split.specs.OneToOne.{met_twice, is_one_to_one, kept_entries, bad_list}
use Rattle.split.specs.Drops.{is_dropped}
use Rattle.split.specs.Split.{source_block, dest_block}
use Rattle.orders.specs.Orders.{bad_order, goes, forbids, allows, least_y, forbidding_page}
use Rattle.orders.specs.Dictionary.{factorial, leaving, order_at, orders, is_best, best_order}
use Rattle.orders.specs.Answer.{list_rows, least_rows, best_rows, least_answer, best_answer}
use Rattle.orders.specs.Examples.{Examples}

pub examples : Examples
unfolding range all any filter first first_fit number_or0 refusal is_letter in_range met_twice is_one_to_one kept_entries bad_list is_dropped source_block dest_block bad_order goes forbids allows least_y forbidding_page factorial leaving order_at orders is_best best_order list_rows least_rows best_rows least_answer best_answer
examples = record {
  fourteen-blocks = refl;
  twenty-one-blocks = refl;
  in-line = refl;
  turned = refl;
  page-0 = refl;
  at_rest = refl;
  lowest-page = refl;
  other_way = refl;
  dropped-page = refl;
  all-dropped = refl;
  highest = refl;
  best-of-three = refl;
  own-order = refl;
  none-better = refl;
  best-of-four = refl;
  no-pages = refl;
  too_many = refl;
  no_blocks = refl;
  two_blocks = refl;
  two-blocks-no-list = refl;
  short-list = refl;
  short-order = refl;
  short-bad-list = refl;
  bad-list = refl;
  bad-list-and-order = refl;
  block-twice = refl;
  block_0 = refl;
  block_4 = refl;
  best-of-two = refl;
  best-of-eight = refl;
  best-short-order = refl;
  best-bad-list = refl;
}
