-- `flip_all` changes each bit.
use Rattle.flash.proofs.Kit.{◌≡◌, ℕ, ◌-◌, ◌^◌, ◌≤◌, ◌<◌, get_or}
use Rattle.split.proofs.drops.flip_all.Given as goal

abbrev pub invariant-loop-mask : goal.invariant-loop-mask
invariant-loop-mask l =
    ((j : ℕ) → j < l.mask-index → (get_or l.initial.masks j 0 < 2 ^ 64) × (get_or l.masks j 0 ≡ (2 ^ 64 - 1) - get_or l.initial.masks j 0))
    × ((j : ℕ) → l.mask-index ≤ j → get_or l.masks j 0 ≡ get_or l.initial.masks j 0)
