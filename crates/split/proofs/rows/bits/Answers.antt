-- `bits` gathers the bits of the bytes: the two masks together have those of the bytes so far.
use Rattle.flash.proofs.Kit.{◌≡◌, ap, ◌∙◌, List, ℕ, ◌+◌, ◌*◌, ◌/◌, ◌%◌, ◌<◌, arith, length, get_or, get_or-drop}
use Rattle.split.proofs.RowsLaws.{bits-more, with-one, with_two, chunk-at}
use Rattle.split.proofs.rows.bits.Goals as goal

pub loop-first-preserved : goal.loop-first-preserved
loop-first-preserved c =
    let l = c.loop-first in
    let bytes = c.args.bytes.now in
    let i = l.first-index in
    let half = length bytes / 2 in
    let inside : i < half = omega (arith, c.as_chunks.ensures.front_len) in
    let first = c.from.ensures ∙ ap (λ (x : ℕ). x % 64) (ap (λ (xs : List (List ℕ)). get_or (get_or xs i _) 0 0) c.as_chunks.ensures.front ∙ chunk-at 2 half bytes i 0 _ inside (omega arith)) in
    let second = c.from-in-loop-first.ensures ∙ ap (λ (x : ℕ). x % 64) (ap (λ (xs : List (List ℕ)). get_or (get_or xs i _) 1 0) c.as_chunks.ensures.front ∙ chunk-at 2 half bytes i 1 _ inside (omega arith)) in
    let start : i * 2 + 0 ≡ i * 2 = omega arith in
    let more = bits-more bytes 0 (i * 2) _ _ _ l.invariant (omega arith) (rw start at first) (with-one l.one l.two _ _ c.with_bit-one.ensures) in
    let both = bits-more bytes 0 (i * 2 + 1) _ _ _ more (omega arith) second (with_two c.with_bit-one.result l.two _ _ c.with_bit-two.ensures) in
    let next : i * 2 + 1 + 1 ≡ (i + 1) * 2 = omega arith in
    rw next at both

pub loop-byte-preserved : goal.loop-byte-preserved
loop-byte-preserved c =
    let l = c.loop-byte in
    let bytes = c.args.bytes.now in
    let start = length bytes / 2 * 2 in
    let byte = c.from-in-loop-byte.ensures ∙ ap (λ (x : ℕ). x % 64) (ap (λ (xs : List ℕ). get_or xs l.byte-index 0) c.as_chunks.ensures.back ∙ get_or-drop start bytes l.byte-index 0) in
    let more = bits-more bytes 0 (start + l.byte-index) _ _ _ l.invariant (omega arith) byte (with-one l.one c.loop-first.two _ _ c.with_bit-one-in-loop-byte.ensures) in
    let next : start + l.byte-index + 1 ≡ start + (l.byte-index + 1) = omega arith in
    rw next at more
