-- What the functions that carry out the rule keep between them.
use Rattle.std.specs.Prelude.{◌≡◌, true, List, ℕ, ◌+◌, ◌*◌, ◌%◌, ◌≤◌, ◌<◌, length, take, set as put}
use Rattle.split.specs.Split.{set_of}
use Rattle.split.specs.Rule.{source, destination, block_at, is_used, lowest_unused, sets_given}
use Rattle.split.specs.inner.Rows.{Accepted}
use Rattle.split.specs.inner.Cells.{by_masks, by_order, Exact, Numbered}

-- The first k pages have the sets of the rule: the tables tell them, though they stand nowhere as such.
pub record Working (m : ℕ) (list : List ℕ) (k : ℕ) (numbers targets homes destinations : List ℕ) : Type 0 where
  pub blocks : ℕ
  pub accepted : Accepted blocks m list
  pub within : k ≤ blocks * m
  pub sets : List ℕ
  pub sized : length sets ≡ blocks * m
  pub given : take k sets ≡ sets_given m list k
  pub numbers-sized : length numbers ≡ blocks * m
  pub targets-sized : length targets ≡ 4096
  pub homes-sized : length homes ≡ 4096
  pub numbered : Numbered m k sets numbers
  pub at-sources : Exact m list source k sets (by_order m k) targets
  pub at-destinations : Exact m list destination k sets (by_masks destinations) homes

-- Page k has set a, which is used at its destination: there the tables tell of it under b, which is not.
pub record Blocked (m : ℕ) (list : List ℕ) (k a b : ℕ) (numbers targets homes destinations : List ℕ) : Type 0 where
  pub blocks : ℕ
  pub accepted : Accepted blocks m list
  pub inside : k < blocks * m
  pub sets : List ℕ
  pub sized : length sets ≡ blocks * m
  pub given : take k sets ≡ sets_given m list k
  pub a-is : a ≡ lowest_unused m list (sets_given m list k) source (block_at m list source k)
  pub a_own : a ≡ k % m
  pub b-is : b ≡ lowest_unused m list (sets_given m list k) destination (block_at m list destination k)
  pub used : is_used m list (sets_given m list k) destination (block_at m list destination k) a ≡ true
  pub its-set : set_of sets k ≡ a
  pub numbers-sized : length numbers ≡ blocks * m
  pub targets-sized : length targets ≡ 4096
  pub homes-sized : length homes ≡ 4096
  pub numbered : Numbered m (k + 1) sets numbers
  pub at-sources : Exact m list source (k + 1) sets (by_order m (k + 1)) targets
  pub at-destinations : Exact m list destination (k + 1) (put sets k b) (by_masks destinations) homes
