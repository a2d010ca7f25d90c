-- `read_marks` meets its contract: the search knows what it has met, and what that tells at its end.
use Rattle.flash.proofs.Kit.{◌≡◌, sym, ◌∙◌, true, ℕ, ◌+◌, ◌*◌, ◌≤◌, ◌<◌, arith, length, get_or}
use Rattle.flash.specs.Geometry.{letter}
use Rattle.flash.specs.Chip.{is_full}
use Rattle.method.specs.Mend.{reading}
use Rattle.method.specs.Answers.{marks_answer}
use Rattle.recovery.specs.MarksRead.{answer_of}
use Rattle.recovery.specs.inner.Gathered.{Shown}
use Rattle.flash.proofs.Ranges.{all_in}
use Rattle.flash.proofs.Bounds.{block-in-marks}
use Rattle.recovery.proofs.Search.{Upto, torn-in, block-known}
use Rattle.recovery.proofs.Search.{page-same, page-opens, page-first, page-second, block-changes, block-astray, block-kept}
use Rattle.recovery.proofs.Stretches.{upto-passed, upto_rest}
use Rattle.recovery.proofs.Tells.{tells_none, tells-second, tells}
use Rattle.recovery.proofs.marks.read_marks.Goals as goal
use Rattle.recovery.proofs.marks.read_marks.Goals.{else-search-test, else-whole-letter, else-whole-mark}
use Rattle.recovery.proofs.marks.read_marks.Goals.{then-whole-mark+else-unfinished-eq2, then-whole-letter+else-change-blocks+else-are_full}
use Rattle.recovery.proofs.marks.read_marks.Goals.{then-search-test+then-loop-page-test+then-whole-mark+then-unfinished-eq2}
use Rattle.recovery.proofs.marks.read_marks.Goals.{then-search-test+else-loop-page-test+then-whole-letter+else-change-blocks+then-are_full}
use Rattle.recovery.proofs.marks.read_marks.Lts as lts
use Rattle.recovery.proofs.marks.read_marks.Reads as reads
use Rattle.recovery.proofs.marks.read_marks.Tie as tie

pub passed_over-block-requires : goal.passed_over-block-requires
passed_over-block-requires c = (omega arith, omega arith, omega (arith, c.requires.marks_len))

pub search-init : goal.search-init
unfolding letter
search-init c =
    let sizes = c.args.sizes in
    let marks = c.args.marks.now in
    let upper : c.letter_after-upper.result ≡ letter sizes 1 = c.letter_after-upper.ensures in
    let r = c.passed_over-block.result in
    let full = (rw upper at c.passed_over-block.ensures.1) in (
      omega arith,
      rw upper (upto-passed sizes (omega arith) marks 0 r (omega arith) full),
    )

-- the block that is looked at lies within the marks
room : (c : lts.In-search tie.the-claims reads.Pre reads.Post goal.the-invariant-loop-page goal.the-decreases-loop-page
    goal.the-invariant-search goal.the-decreases-search tie.handed_clauses)
    → (let a = c.args in
    c.search.block * a.sizes.m + a.sizes.m ≤ length a.marks.now)
room c =
    rw c.requires.marks_len (block-in-marks c.args.sizes c.search.block (omega arith))

pub overflow_mul-first : goal.overflow_mul-first
overflow_mul-first c = omega (arith, room c.before)

pub bounds-marks-first : goal.bounds-marks-first
bounds-marks-first c = omega (arith, room c.before.before)

pub known_pages-page-requires : goal.known_pages-page-requires
known_pages-page-requires c = omega (arith, room c.before.before)

pub loop-page-init : goal.loop-page-init
loop-page-init c =
    let o = c.search in
    let a = c.args in
    let sizes = a.sizes in
    let pages : 0 < a.sizes.m = omega arith in
    block-known sizes pages a.marks.now o.block _ _ _ _ c.known_pages-page.ensures

pub overflow_add-mark : goal.overflow_add-mark
overflow_add-mark c = omega (arith, room c.before.before.before.before.before)

pub bounds-marks-first-in-loop-page : goal.bounds-marks-first-in-loop-page
bounds-marks-first-in-loop-page c = omega (arith, room c.before.before.before.before.before.before)

pub overflow_add-unfinished : goal.overflow_add-unfinished
overflow_add-unfinished c =
    let l = c.loop-page in
    let o = c.search in
    let a = c.args in
    let sizes = a.sizes in
    let pages : 0 < a.sizes.m = omega arith in
    let within = room c.before.before.before.before.before.before.before in
    let e = page-opens sizes pages a.marks.now o.block l.page _ _ within c.loop-page-test.true l.invariant c.if-whole-mark.true in
    omega (arith, o.invariant.1.few)

pub loop-page-preserved : goal.loop-page-preserved
loop-page-preserved c =
    let l = c.loop-page in
    let o = c.search in
    let a = c.args in
    let sizes = a.sizes in
    let pages : 0 < a.sizes.m = omega arith in
    let within = room c.before.before.before.before.before.before.before in
    elim c.if-whole-mark.branch [
      | then-whole-mark+else-unfinished-eq2 w ↦
          rw (w.unfinished-is, w.torn-is, w.whole-is) (page-first sizes pages a.marks.now o.block l.page _ _ within c.loop-page-test.true
          l.invariant o.invariant.1.few w.if-unfinished-eq2.false w.if-whole-mark.true)
      | else-whole-mark w ↦
          rw (w.unfinished-is, w.torn-is, w.whole-is) (page-same sizes pages a.marks.now o.block l.page _ _ within c.loop-page-test.true
          l.invariant w.if-whole-mark.false)
    ]

pub returns-then-change-blocks : goal.returns-then-change-blocks
returns-then-change-blocks c =
    let l = c.loop-page in
    let o = c.search in
    let a = c.args in
    let sizes = a.sizes in
    let pages : 0 < a.sizes.m = omega arith in
    let none = tells_none sizes pages a.marks.now
    (block-astray sizes pages a.marks.now o.block l.page _ _ _ _ _ (omega arith) c.loop-page-test.false
    o.invariant.1 l.invariant (omega arith) c.if-whole-letter.true) in
    record { result_value = none.0; shown = none.1 }

pub are_full-requires : goal.are_full-requires
are_full-requires c = (
  omega arith,
  omega arith,
  omega
      (arith, c.requires.marks_len),
)

pub search-preserved : goal.search-preserved
search-preserved c =
    let l = c.loop-page in
    let o = c.search in
    let a = c.args in
    let sizes = a.sizes in
    let pages : 0 < a.sizes.m = omega arith in
    let h : o.block ≤ a.sizes.n = omega arith in
    let torn = torn-in sizes a.marks.now l.invariant h o.invariant.0 in
    elim c.if-whole-letter.branch [
      | then-whole-letter+else-change-blocks+else-are_full w ↦ (
        torn,
        rw (w.upper-is, w.change-is) (block-changes sizes pages a.marks.now o.block l.page _ _ _ _ _ h c.loop-page-test.false
            o.invariant.1 l.invariant (omega arith) w.if-whole-letter.true),
      )
      | else-whole-letter w ↦ (
        torn,
        rw (w.upper-is, w.change-is) (block-kept sizes pages a.marks.now o.block l.page _ _ _ _ _ h c.loop-page-test.false
            o.invariant.1 l.invariant w.if-whole-letter.false),
      )
    ]

pub moment-requires : goal.moment-requires
moment-requires c =
    let a = c.args in
    elim c.search-test.branch [
      | else-search-test w ↦ omega arith
      | then-search-test+then-loop-page-test+then-whole-mark+then-unfinished-eq2 w ↦ omega arith
      | then-search-test+else-loop-page-test+then-whole-letter+else-change-blocks+then-are_full w ↦
          (omega arith, rw w.torn-is (torn-in a.sizes a.marks.now w.loop-page.invariant (omega arith) c.search.invariant.0))
    ]

pub returns : goal.returns
returns c =
    let o = c.search in
    let a = c.args in
    let sizes = a.sizes in
    let marks = a.marks.now in
    let pages : 0 < a.sizes.m = omega arith in
    let final : c.letter_after.result ≡ letter sizes 2 = c.letter_after.ensures in
    let both : (answer_of sizes c.moment.result ≡ marks_answer (reading sizes marks)) × Shown sizes marks c.moment.result =
    rw c.moment.ensures
    (elim c.search-test.branch [
      | else-search-test w ↦
          let end : o.block ≡ a.sizes.n + 1 = omega arith in
          let U : Upto sizes marks (a.sizes.n + 1) o.unfinished o.torn o.upper o.change = rw end at o.invariant.1 in
          rw (w.unfinished-is, w.torn-is, w.upper-is, w.change-is, final) (tells sizes pages marks _ _ _ _ U)
      | then-search-test+then-loop-page-test+then-whole-mark+then-unfinished-eq2 w ↦
          let l = w.loop-page in
          rw (w.unfinished-is, w.if-unfinished-eq2.true)
          (tells-second sizes pages marks _ _ _
          (page-second sizes pages marks o.block l.page _ _ (room (record { before = c.before.before.before.before; search-test = w.search-test }))
          w.loop-page-test.true l.invariant o.invariant.1 (omega arith) w.if-unfinished-eq2.true w.if-whole-mark.true))
      | then-search-test+else-loop-page-test+then-whole-letter+else-change-blocks+then-are_full w ↦
          let l = w.loop-page in
          let h : o.block ≤ a.sizes.n = omega arith in
          let U = block-changes sizes pages marks o.block l.page _ _ _ _ _ h w.loop-page-test.false o.invariant.1 l.invariant
          (omega arith) w.if-whole-letter.true in
          let all = sym w.are_full.ensures ∙ w.if-are_full.true in
          let rest : (j : ℕ) → o.block + 1 ≤ j → j < a.sizes.n + 1 → is_full a.sizes.m marks j
          (get_or marks (o.block * a.sizes.m) 0) ≡ true = λ j low high.
          all_in (λ b. is_full a.sizes.m marks b (get_or marks (o.block * a.sizes.m) 0)) (o.block + 1) _ all j low (omega arith) in
          rw (w.unfinished-is, w.torn-is, w.upper-is, w.change-is, final)
          (tells sizes pages marks _ _ _ _ (upto_rest sizes pages marks _ _ _ _ _ U (omega arith) h rest))
    ]) in
    record { result_value = both.0; shown = both.1 }
