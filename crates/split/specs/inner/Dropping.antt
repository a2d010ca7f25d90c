-- What a list keeps and drops, as bits.
use Rattle.std.specs.Prelude.{◌≡◌, List, ℕ, ◌<◌, eqb, length, get_or}
use Rattle.flash.specs.Lists.{any}
use Rattle.split.specs.OneToOne.{kept_entries}
use Rattle.split.specs.Drops.{is_dropped, completed}
use Rattle.split.specs.inner.Mask.{is_marked}

-- bits of the numbers that kept pages are sent to
pub record KeptMarked (list masks : List ℕ) : Type 0 where
  pub masks-length : length masks ≡ 64
  pub kept-marked : (x : ℕ) → is_marked masks x ≡ any (eqb x) (kept_entries list)

-- bits of the dropped pages, and of the places where they go
pub record DropsTold (list pages places : List ℕ) : Type 0 where
  pub pages-length : length pages ≡ 64
  pub places-length : length places ≡ 64
  pub pages-tell : (k : ℕ) → is_marked pages k ≡ is_dropped list k
  pub places-tell : (k : ℕ) → k < length list → is_marked places (get_or (completed list) k 0) ≡ is_dropped list k
