-- Tests, searches and counts over lists, and lists cut into parts of equal size. Nothing here is about flash.
use Rattle.std.specs.Prelude.{Bool, true, false, cond, ◌&&◌, ◌||◌, List, [], ◌∷◌, ◌++◌, ℕ, zero, suc, ◌+◌, ◌*◌, eqb, take, drop}

-- as many numbers as `count` says: start, start + 1, ..
unfoldable pub range : (start count : ℕ) → List ℕ
range start zero = []
range start (suc count) = start ∷ range (suc start) count

-- the numbers from n down to 1
unfoldable pub down_from : ℕ → List ℕ
down_from zero = []
down_from (suc n) = suc n ∷ down_from n

-- start, step start, step (step start), ..: as many as `count` says
unfoldable pub iterates : (ℕ → ℕ) → (count start : ℕ) → List ℕ
iterates step zero start = []
iterates step (suc count) start = start ∷ iterates step count (step start)

module _ {A : Type 0} where
  -- the test holds of each element
  unfoldable pub all : (A → Bool) → List A → Bool
  all test [] = true
  all test (x ∷ xs) = test x && all test xs

  -- the test holds of some element
  unfoldable pub any : (A → Bool) → List A → Bool
  any test [] = false
  any test (x ∷ xs) = test x || any test xs

  -- how many elements pass the test
  unfoldable pub count : (A → Bool) → List A → ℕ
  count test [] = 0
  count test (x ∷ xs) = cond (test x) (suc (count test xs)) (count test xs)

  -- the elements that pass the test
  unfoldable pub filter : (A → Bool) → List A → List A
  filter test [] = []
  filter test (x ∷ xs) = cond (test x) (x ∷ filter test xs) (filter test xs)

  -- the first element that passes the test, or `otherwise`
  unfoldable pub first : (A → Bool) → List A → (otherwise : A) → A
  first test [] otherwise = otherwise
  first test (x ∷ xs) otherwise = cond (test x) x (first test xs otherwise)

-- the numbers of a list added up
unfoldable pub total : List ℕ → ℕ
total [] = 0
total (x ∷ xs) = x + total xs

-- the lists that f gives, one after the other
unfoldable pub concat_map : {A B : Type 0} → (A → List B) → List A → List B
concat_map f [] = []
concat_map f (x ∷ xs) = f x ++ concat_map f xs

-- A list in parts of `size` elements each: part `i`, counted from 0, and the list with that part replaced.
unfoldable pub part : (size i : ℕ) → List ℕ → List ℕ
part size i xs = take size (drop (i * size) xs)

unfoldable pub set_part : (size i : ℕ) → List ℕ → (new : List ℕ) → List ℕ
set_part size i xs new = take (i * size) xs ++ (new ++ drop (i * size + size) xs)

-- the two lists are equal
unfoldable pub is_same : List ℕ → List ℕ → Bool
is_same [] [] = true
is_same [] (y ∷ ys) = false
is_same (x ∷ xs) [] = false
is_same (x ∷ xs) (y ∷ ys) = eqb x y && is_same xs ys
