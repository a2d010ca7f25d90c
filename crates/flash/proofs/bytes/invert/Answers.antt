-- `invert` adds 255s to each byte that it has passed.
use Rattle.flash.proofs.Kit.{◌≡◌, refl, sym, ◌∙◌, List, ℕ, append-nil, ◌≤◌, ◌<◌, arith, bit_xor, length, get_or}
use Rattle.flash.proofs.Kit.{replicate, get_or-replicate, length-replicate, length-set, drop-length, take_all}
use Rattle.flash.proofs.Loops.{front_at, front-more, front-all}
use Rattle.flash.proofs.Sums.{⊕-at, length-⊕}
use Rattle.flash.proofs.bytes.invert.Invariants.{inverted}
use Rattle.flash.proofs.bytes.invert.Goals as goal

inverted-length : (page : List ℕ) → length (inverted page) ≡ length page
inverted-length page = length-⊕ (replicate (length page) 255) page ∙ rw (length-replicate {A = ℕ} (length page) 255) (omega arith)

inverted-at : (page : List ℕ) (i : ℕ) → i < length page → bit_xor 255 (get_or page i 0) ≡ get_or (inverted page) i 0
inverted-at page i h = sym (⊕-at (replicate (length page) 255) page i ∙ rw (get_or-replicate {A = ℕ} (length page) i 255 0 h))

pub loop-byte-init : goal.loop-byte-init
loop-byte-init c = refl

pub loop-byte-preserved : goal.loop-byte-preserved
loop-byte-preserved c =
    let page = c.args.page.now in
    let l = c.loop-byte in
    let same = inverted-length page in
    rw (l.invariant, front_at (inverted page) page l.byte-index same (omega arith), inverted-at page l.byte-index (omega arith)) (front-more (inverted page) page l.byte-index same (omega arith))

pub returns : goal.returns
returns c =
    let l = c.loop-byte in
    let page = c.args.page.now in
    l.invariant ∙ front-all (inverted page) page _ (inverted-length page) (omega arith)
