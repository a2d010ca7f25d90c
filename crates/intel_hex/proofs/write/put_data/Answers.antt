-- `put_data` prints all data records.
use Rattle.flash.proofs.Kit.{◌≡◌, ◌/◌, arith, length}
use Rattle.flash.specs.Lists.{concat_map}
use Rattle.listing.proofs.PrintLaws.{nothing-printed, printed-then}
use Rattle.intel_hex.proofs.Lengths.{none_from, text-more}
use Rattle.intel_hex.proofs.Writes.{room, last-room, all-data}
use Rattle.intel_hex.proofs.write.put_data.Goals as goal

pub loop-i-init : goal.loop-i-init
unfolding concat_map
loop-i-init c =
    let a = c.args in
    rw (none_from a.image.now 0) (nothing-printed a.text.now 0 (omega arith))

pub put_16-next-requires : goal.put_16-next-requires
put_16-next-requires c =
    let l = c.loop-i in
    let image = c.args.image.now in
    record { image_len_bound = (omega arith, omega arith); i_in_bounds = omega (arith, room image l.i (omega arith), l.invariant.next-is) }

pub loop-i-preserved : goal.loop-i-preserved
loop-i-preserved c =
    let l = c.loop-i in
    rw (text-more c.args.image.now l.i) (printed-then l.invariant c.put_16-next.ensures)

pub put_last-requires : goal.put_last-requires
put_last-requires c =
    let image = c.args.image.now in
    let l = c.loop-i in
    let e : l.i ≡ length image / 16 = omega arith in
    record { image_len_bound = omega arith; image_in_bounds = omega (arith, last-room image, (rw e at l.invariant).next-is) }

pub returns : goal.returns
returns c =
    let l = c.loop-i in
    let image = c.args.image.now in
    let e : l.i ≡ length image / 16 = omega arith in
    rw (← all-data image) (printed-then (rw e at l.invariant) c.put_last.ensures)
