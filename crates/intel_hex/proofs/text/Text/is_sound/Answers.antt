-- `is_sound` judges what stands within a frame.
use Rattle.flash.proofs.Kit.{◌+◌, arith}
use Rattle.intel_hex.proofs.HeadLaws.{too-heavy, uneven, framed-digits, sound-is}
use Rattle.intel_hex.proofs.text.Text.is_sound.Goals as goal

pub returns-then-sum-ge-NO_DIGIT : goal.returns-then-sum-ge-NO_DIGIT
returns-then-sum-ge-NO_DIGIT c =
    let a = c.args in
    too-heavy a.self.now.codes.now a.at a.size _ c.requires.0 c.record_weight-sum.ensures c.if-sum-ge-NO_DIGIT.true

pub returns-then-sum-ne0 : goal.returns-then-sum-ne0
returns-then-sum-ne0 c =
    let a = c.args in
    uneven a.self.now.codes.now a.at a.size _ c.requires.0 c.record_weight-sum.ensures (omega (arith, c.if-sum-ge-NO_DIGIT.false)) c.if-sum-ne0.true

pub byte_at-requires : goal.byte_at-requires
byte_at-requires c =
    let D = framed-digits c.args.self.now.codes.now c.args.at c.args.size _ c.requires.0 c.record_weight-sum.ensures
    (omega (arith, c.if-sum-ge-NO_DIGIT.false)) in
    (omega (arith, c.requires.0.inside), D (c.args.at + 7) 2 (omega arith) (omega arith))

pub word_at-requires : goal.word_at-requires
word_at-requires c =
    let D = framed-digits c.args.self.now.codes.now c.args.at c.args.size _ c.requires.0 c.record_weight-sum.ensures
    (omega (arith, c.if-sum-ge-NO_DIGIT.false)) in
    (omega (arith, c.requires.0.inside), D (c.args.at + 3) 4 (omega arith) (omega arith))

pub returns : goal.returns
returns c =
    let a = c.args in
    sound-is a.self.now.codes.now a.at a.size _ c.requires.0 c.record_weight-sum.ensures (omega (arith, c.if-sum-ge-NO_DIGIT.false)) c.if-sum-ne0.false
    _ _ _ c.byte_at.ensures.0 c.word_at.ensures.0 c.is_type.ensures
