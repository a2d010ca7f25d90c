-- Laws of a list cut into parts of one size: of pages of the store, blocks of the store and blocks of the marks alike.
use Rattle.flash.proofs.Kit.{◌≡◌, sym, ap, ◌∙◌, ⊎_elim, List, [], ◌∷◌, ◌++◌, append_assoc, ℕ, zero, suc, ◌+◌, ◌-◌, ◌*◌, ◌/◌, ◌%◌, ◌≤◌, ◌<◌}
use Rattle.flash.proofs.Kit.{suc-mul, add-mul, mul_assoc, mul-zero, mul-le-mul_right, mod-lt, div-add-mod', div-lt_iff_lt-mul, arith, length}
use Rattle.flash.proofs.Kit.{get_or, take, drop, replicate, length-append, length-take, length-drop, length-replicate}
use Rattle.flash.proofs.Kit.{replicate-append-replicate, length-take-le, get_or-take, get_or-drop, drop-drop, ext_get_or, take-append-le}
use Rattle.flash.proofs.Kit.{drop-append-le, drop-append-add, take-append-drop, take_at, drop_at, take-add, take-take, zero-sub, unary_clauses, take-nil}
use Rattle.flash.specs.Lists.{part, set_part}
use Rattle.flash.proofs.Comparisons.{ne-lt}

-- the part of a lower number ends where that of a higher one starts, or before
pub part-fits : (i count size : ℕ) → i < count → i * size + size ≤ count * size
part-fits i count size h = rw (← suc-mul) (mul-le-mul_right size h)

module _ (size i : ℕ) (xs : List ℕ) where
  pub length_part : i * size + size ≤ length xs → length (part size i xs) ≡ size
  unfolding part
  length_part h = simp (length-take, length-drop) (omega arith)

  pub part_at : (j d : ℕ) → j < size → get_or (part size i xs) j d ≡ get_or xs (i * size + j) d
  unfolding part
  part_at j d h = get_or-take size (drop (i * size) xs) j d h ∙ get_or-drop (i * size) xs j d

-- parts that lie before the seam of two lists, and behind it
part-before : (size j : ℕ) (xs ys : List ℕ) → j * size + size ≤ length xs → part size j (xs ++ ys) ≡ part size j xs
unfolding part
part-before size j xs ys h =
    rw (drop-append-le (j * size) xs ys (omega arith)) (take-append-le size (drop (j * size) xs) ys (omega (arith, length-drop (j * size) xs)))

part-behind : (size j k : ℕ) (xs ys : List ℕ) → length xs ≡ k → k ≤ j * size → part size j (xs ++ ys) ≡ take size (drop (j * size - k) ys)
unfolding part
part-behind size j k xs ys e h =
    let start : j * size ≡ length xs + (j * size - k) = omega arith in
    ap (λ (x : ℕ). take size (drop x (xs ++ ys))) start ∙ rw drop-append-add

-- A part written over.
module _ (size i : ℕ) (xs new : List ℕ) (fits : i * size + size ≤ length xs) (whole : length new ≡ size) where
  front : length (take (i * size) xs) ≡ i * size
  front = length-take-le (i * size) xs (omega arith)

  pub length-set_part : length (set_part size i xs new) ≡ length xs
  unfolding set_part
  length-set_part = simp (length-append, length-take, length-drop) (omega arith)

  -- what was written is there
  pub part-set_part : part size i (set_part size i xs new) ≡ new
  unfolding part set_part
  part-set_part = rw (drop_at (take (i * size) xs) (new ++ drop (i * size + size) xs) (i * size) front) (take_at new (drop (i * size + size) xs) size whole)

  pub set_part-at : (j d : ℕ) → j < size → get_or (set_part size i xs new) (i * size + j) d ≡ get_or new j d
  set_part-at j d h = sym (part_at size i (set_part size i xs new) j d h) ∙ rw part-set_part

  -- and nothing beside it is touched
  pub part-set_part-other : (j : ℕ) → (j ≡ i → ⊥) → part size j (set_part size i xs new) ≡ part size j xs
  unfolding set_part
  part-set_part-other j ne =
      ⊎_elim
      (λ (l : j < i).
      let before : j * size + size ≤ length (take (i * size) xs) = omega (arith, front, part-fits j i size l) in
      part-before size j (take (i * size) xs) (new ++ drop (i * size + size) xs) before
      ∙ sym (part-before size j (take (i * size) xs) (drop (i * size) xs) before)
      ∙ rw take-append-drop)
      (λ (l : i < j).
      let behind : i * size + size ≤ j * size = part-fits i j size l in
      ap (part size j) (sym (append_assoc (take (i * size) xs) new (drop (i * size + size) xs)))
      ∙ part-behind size j (i * size + size) (take (i * size) xs ++ new) (drop (i * size + size) xs) (simp length-append (omega (arith, front))) behind
      ∙ sym (part-behind size j (i * size + size) (take (i * size + size) xs) (drop (i * size + size) xs) (length-take-le (i * size + size) xs fits) behind)
      ∙ rw take-append-drop)
      (ne-lt j i ne)

-- what is left of the first n after i of them
pub drop-take : (i n : ℕ) (xs : List ℕ) → drop i (take n xs) ≡ take (n - i) (drop i xs)
drop-take zero n xs = simp unary_clauses
drop-take (suc i) zero xs = rw zero-sub
drop-take (suc i) (suc n) [] = sym (take-nil (suc n - suc i))
drop-take (suc i) (suc n) (x ∷ xs) = simp unary_clauses (drop-take i n xs)

-- Part `j` of part `b`, which has `m` parts of `size` elements: a page of a block.
pub part-part : (size m b j : ℕ) (xs : List ℕ) → j < m → part size j (part (m * size) b xs) ≡ part size (b * m + j) xs
unfolding part
part-part size m b j xs inside =
    let start : b * (m * size) + j * size ≡ (b * m + j) * size = sym (add-mul (b * m) j size ∙ rw mul_assoc) in
    let fits = part-fits j m size inside in
    rw (drop-take (j * size) (m * size), take-take size (m * size - j * size) (drop (j * size) (drop (b * (m * size)) xs)) (omega arith), drop-drop, start)

-- a part of a list of one value
pub part-replicate : (size i n v : ℕ) → i * size + size ≤ n → part size i (replicate n v) ≡ replicate size v
unfolding part
part-replicate size i n v fits =
    let rest : ℕ = n - (i * size + size) in
    let n-is : n ≡ i * size + (size + rest) = omega arith in
    rw (n-is, ← replicate-append-replicate (i * size) (size + rest) v, ← replicate-append-replicate size rest v)
    (rw (drop_at (replicate (i * size) v) (replicate size v ++ replicate rest v) (i * size) (length-replicate (i * size) v))
    (take_at (replicate size v) (replicate rest v) size (length-replicate size v)))

-- lists with the same parts are equal
pub parts-ext : (size count : ℕ) (xs ys : List ℕ) → length xs ≡ count * size → length ys ≡ count * size
    → ((i : ℕ) → i < count → part size i xs ≡ part size i ys) → xs ≡ ys
parts-ext zero count xs ys a b f =
    let z = mul-zero count in
    ext_get_or 0 xs ys (a ∙ sym b) (λ k h. absurd (omega arith))
parts-ext (suc s) count xs ys a b f =
    let size : ℕ = suc s in
    ext_get_or 0 xs ys (a ∙ sym b)
    (λ k h.
    let i : ℕ = k / size in
    let j : ℕ = k % size in
    let k-is : i * size + j ≡ k = div-add-mod' k size in
    let i-in : i < count = (div-lt_iff_lt-mul (omega arith)).1 (omega arith) in
    let j-in : j < size = mod-lt k (omega arith) in
    rw (← k-is) (sym (part_at size i xs j 0 j-in) ∙ ap (λ (p : List ℕ). get_or p j 0) (f i i-in) ∙ part_at size i ys j 0 j-in))

-- A part of a list as code lends it, from its start to its end: what is lent, and what the list is once it comes back.
module _ (size i : ℕ) (xs : List ℕ) where
  pub lent-part : take (i * size + size - i * size) (drop (i * size) xs) ≡ part size i xs
  unfolding part
  lent-part =
      let k : i * size + size - i * size ≡ size = omega arith in
      rw k

  pub lent_back : (new : List ℕ)
      → take (i * size) xs ++ (new ++ drop (i * size + size - i * size) (drop (i * size) xs)) ≡ set_part size i xs new
  unfolding set_part
  lent_back new =
      let k : i * size + size - i * size ≡ size = omega arith in
      rw (k, drop-drop)

-- A piece of such a part, of n elements from its element k on.
module _ (size i k n : ℕ) (xs : List ℕ) (inside : k + n ≤ size) where
  pub lent-piece : take n (drop (i * size + k) xs) ≡ take n (drop k (part size i xs))
  unfolding part
  lent-piece = rw (drop-take k size, take-take n (size - k) (drop k (drop (i * size) xs)) (omega arith), drop-drop)

  pub piece_back : (new : List ℕ) → take (i * size + k) xs ++ (new ++ drop n (drop (i * size + k) xs))
      ≡ set_part size i xs (take k (part size i xs) ++ (new ++ drop n (drop k (part size i xs))))
  unfolding part set_part
  piece_back new =
      let behind : List ℕ = drop (k + n) (drop (i * size) xs) in
      let rest : drop n (drop (i * size + k) xs) ≡ behind = rw (drop-drop, drop-drop) (let s : i * size + k + n ≡ i * size + (k + n) = omega arith in rw s) in
      let left : drop n (drop k (take size (drop (i * size) xs))) ≡ take (size - (k + n)) behind = rw (drop-drop, drop-take) in
      let last : drop (i * size + size) xs ≡ drop (size - (k + n)) behind =
      rw (drop-drop, drop-drop) (let s : i * size + size ≡ i * size + (k + n + (size - (k + n))) = omega arith in rw s) in
      rw (rest, left, last, take-add (i * size) k xs, take-take k size (drop (i * size) xs) (omega arith), append_assoc, append_assoc, append_assoc)
      (ap (λ (t : List ℕ). take (i * size) xs ++ (take k (drop (i * size) xs) ++ (new ++ t))) (sym (take-append-drop (size - (k + n)) behind)))

-- a lent part that came back filled
pub filled-back : (size i value : ℕ) (xs back : List ℕ) → i * size + size ≤ length xs
    → back ≡ replicate (length (take (i * size + size - i * size) (drop (i * size) xs))) value
    → take (i * size) xs ++ (back ++ drop (i * size + size - i * size) (drop (i * size) xs)) ≡ set_part size i xs (replicate size value)
filled-back size i value xs back fits e =
    let back_is : back ≡ replicate size value = e ∙ rw (lent-part size i xs, length_part size i xs fits) in
    rw back_is (lent_back size i xs (replicate size value))
