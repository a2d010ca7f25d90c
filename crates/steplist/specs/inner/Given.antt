-- What the program is given on its way from the numbers read to the store at rest.
use Rattle.std.specs.Prelude.{◌≡◌, true, false, cond, List, ℕ, ◌*◌, leb, length, take, drop}
use Rattle.flash.specs.Lists.{all}
use Rattle.flash.specs.declared.sizes.Sizes.{Sizes}
use Rattle.flash.specs.Geometry.{original_count}
use Rattle.split.specs.OneToOne.{bad_list}
use Rattle.split.specs.Drops.{completed}
use Rattle.split.specs.Rule.{split_by_rule}
use Rattle.split.specs.Request.{unpinned}
use Rattle.split.specs.Answer.{split_answer}
use Rattle.listing.specs.Input.{is_allowed, numbers_due}

-- a request within the limits whose numbers stand at the front of an area
pub record Asked (Z : Sizes) (numbers : List ℕ) : Type 0 where
  pub allowed : is_allowed Z ≡ true
  pub bytes_fit : all (λ byte. leb byte 255) (drop (original_count Z) (take (numbers_due Z) numbers)) ≡ true

-- a request within the limits, with as many numbers as are due and bytes to 255
pub record Readable (Z : Sizes) (list bytes : List ℕ) : Type 0 where
  pub allowed : is_allowed Z ≡ true
  pub list_length : length list ≡ original_count Z
  pub bytes-length : length bytes ≡ original_count Z * Z.p
  pub bytes_fit : all (λ byte. leb byte 255) bytes ≡ true

-- a request whose list was accepted and split
pub record AcceptedInput (Z : Sizes) (list sets bytes : List ℕ) : Type 0 where
  pub readable : Readable Z list bytes
  pub good : bad_list (original_count Z) list ≡ false
  pub sets-is : sets ≡ split_by_rule Z.n Z.m (completed list)

-- what the areas for a list and its set bytes hold once the list was judged: both are as they were where an entry is above 16 bits
abbrev pub judged_list : (entries list : List ℕ) → List ℕ
judged_list entries list = cond (all (λ number. leb number 65535) entries) entries list

abbrev pub judged_sets : Sizes → (entries sets : List ℕ) → List ℕ
judged_sets Z entries sets = cond (all (λ number. leb number 65535) entries) (split_answer (unpinned Z entries sets)).sets sets
