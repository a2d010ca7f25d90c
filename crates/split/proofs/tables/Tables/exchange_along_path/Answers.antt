-- `exchange_along_path` exchanges the two sets along the path and leaves the tables exact.
use Rattle.flash.proofs.Kit.{refl, sym, ◌∙◌, ◌<◌, List, ℕ, arith}
use Rattle.split.proofs.PathLaws.{Walking, h-lt, h-before, turn-less, turn-goes}
use Rattle.split.proofs.PathEnds.{begun, path-starts, path-done}
use Rattle.split.proofs.tables.Tables.exchange_along_path.Goals as goal

pub loop-self-init : goal.loop-self-init
loop-self-init c = record { walking = rw c.target-block.ensures (path-starts _ _ _ _ _ _ _ _ _ c.requires); bits-stay = refl }

-- the two sets
sets-lt : {m k a b block : ℕ} {list numbers targets homes destinations : List ℕ} → Walking m list k a b numbers targets homes destinations block → (a < 64) × (b < 64)
sets-lt W = let R = W.ready in (omega (arith, R.a_lt, R.fits), omega (arith, R.b_lt, R.fits))

pub noted-next-requires : goal.noted-next-requires
noted-next-requires c =
    let W = c.loop-self.invariant.walking in
    ((sets-lt W).1, h-lt _ _ _ _ _ _ _ _ _ _ W (sym c.has.ensures ∙ c.loop-self-test.true) _ c.noted-home.ensures.0)

pub exchange-requires-in-loop-self : goal.exchange-requires-in-loop-self
exchange-requires-in-loop-self c =
    let W = c.loop-self.invariant.walking in
    (h-lt _ _ _ _ _ _ _ _ _ _ W (sym c.has.ensures ∙ c.loop-self-test.true) _ c.noted-home.ensures.0, (sets-lt W).0, (sets-lt W).1)

pub swap-requires : goal.swap-requires
swap-requires c =
    let W = c.loop-self.invariant.walking in
    let before = h-before _ _ _ _ _ _ _ _ _ _ W (sym c.has.ensures ∙ c.loop-self-test.true) _ c.noted-home.ensures.0 in
    (omega (arith, before, W.room, W.numbers-sized, W.ready.a_lt), omega (arith, before, W.room, W.numbers-sized, W.ready.b_lt))

pub loop-self-smaller : goal.loop-self-smaller
loop-self-smaller c =
    let B = c.requires in
    rw c.swap.ensures (turn-less _ _ _ _ _ _ _ _ _ _ c.loop-self.invariant.walking (sym c.has.ensures ∙ c.loop-self-test.true) _ c.noted-home.ensures.0
    c.args.numbers.now B.sets B.numbered (begun _ _ _ _ _ _ _ _ _ B))

pub loop-self-preserved : goal.loop-self-preserved
loop-self-preserved c = record {
  walking = turn-goes _ _ _ _ _ _ _ _ _ _ c.loop-self.invariant.walking (sym c.has.ensures ∙ c.loop-self-test.true) _ c.noted-home.ensures.0 _ _ _ _ c.swap.ensures
      c.exchange-in-loop-self.ensures c.exchange.ensures c.noted-next.ensures.0;
  bits-stay = c.loop-self.invariant.bits-stay;
}

pub returns : goal.returns
returns c =
    let W = rw c.loop-self.invariant.bits-stay at c.loop-self.invariant.walking in
    rw c.exchange-2.ensures (path-done _ _ _ _ _ _ _ _ _ c.requires _ _ _ _ _ c.loop-self.auto.numbers W
    (rw c.loop-self.invariant.bits-stay at (sym c.has.ensures ∙ c.loop-self-test.false))
    (rw c.loop-self.invariant.bits-stay at c.flip_both.ensures))
