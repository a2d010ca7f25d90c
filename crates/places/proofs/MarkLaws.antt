-- The marks that a place has, in four stretches; and the slots marked 255 that are not blank.
use Rattle.flash.proofs.Kit.{◌≡◌, refl, sym, ap, ap₂, ◌∙◌, ⊎_elim, Bool, true, false, cond, ◌&&◌, and_assoc, not, List, ℕ, ◌+◌, ◌-◌, ◌*◌, ◌/◌}
use Rattle.flash.proofs.Kit.{◌%◌, ◌≤◌, ◌<◌, div-lt_iff_lt-mul, le-div_iff_mul-le, mod-lt, div-add-mod', suc-mul, arith, eqb, length, get_or, take, drop}
use Rattle.flash.proofs.Kit.{length-map, length-take, length-drop, ext_get_or, get_or-take, get_or-drop, eqb-true, eq-eqb, not-false, lt-ltb, le-ltb}
use Rattle.flash.proofs.Kit.{mul-le-mul_right}
use Rattle.flash.specs.Lists.{range, all, any, part, is_same}
use Rattle.flash.specs.declared.sizes.Sizes.{Sizes}
use Rattle.flash.specs.Geometry.{Bounds, slot_count, store_len, letter}
use Rattle.flash.specs.Chip.{Chip, erased, mark_at, is_blank}
use Rattle.flash.proofs.Bools.{bool_cases, never_both, bool_eq, and_both, and_left, and_right}
use Rattle.flash.proofs.Bounds.{block-in-marks}
use Rattle.flash.proofs.Parts.{part-fits}
use Rattle.flash.proofs.Chips.{blank-is}
use Rattle.flash.proofs.Searches.{all-at, all_of}
use Rattle.flash.proofs.Ranges.{length-range, all_in, all-is, none_in, none_is}
use Rattle.flash.proofs.Same.{eq-same, same-eq}
use Rattle.flash.proofs.Comparisons.{lt-cases}
use Rattle.method.specs.Place.{Pass, forward, backward, last_place, pass_at, filling, filled, written, above, held_at, held_mark, marks_of}
use Rattle.method.specs.Answers.{is_elsewhere}
use Rattle.method.proofs.basics.Indexes.{slot-div, slot-mod, map-range-at}
use Rattle.method.proofs.places.StepsAtPlaces.{pages-in, filling-in}
use Rattle.method.proofs.places.PagesHeld.{held_below, held-above, held-written, held-blank}
use Rattle.places.specs.declared.place.Place.{Place}
use Rattle.places.specs.inner.Place.{place_of}
use Rattle.places.proofs.PlaceLaws.{pass-is, block-is, page-is}

-- ---- a test over a range
all-cut : (f : ℕ → Bool) (start a b : ℕ) → all f (range start (a + b)) ≡ (all f (range start a) && all f (range (start + a) b))
all-cut f start a b =
    let low : Bool = all f (range start a) in
    let high : Bool = all f (range (start + a) b) in
    bool_eq (all f (range start (a + b))) (low && high)
    (λ e.
    and_both low high (all-is f start a (λ j x y. all_in f start (a + b) e j x (omega arith)))
    (all-is f (start + a) b (λ j x y. all_in f start (a + b) e j (omega arith) (omega arith))))
    (λ e.
    all-is f start (a + b) (λ j x y.
    ⊎_elim
    (λ (l : j < start + a). all_in f start a (and_left low high e) j x l)
    (λ (l : start + a ≤ j). all_in f (start + a) b (and_right low high e) j l (omega arith))
    (lt-cases j (start + a))))

all_same : (f g : ℕ → Bool) (start size : ℕ) → ((j : ℕ) → start ≤ j → j < start + size → f j ≡ g j) → all f (range start size) ≡ all g (range start size)
all_same f g start size same =
    bool_eq (all f (range start size)) (all g (range start size))
    (λ e. all-is g start size (λ j a b. sym (same j a b) ∙ all_in f start size e j a b))
    (λ e. all-is f start size (λ j a b. same j a b ∙ all_in g start size e j a b))

-- the bytes of a stretch, one by one
pub stretch-at : (bytes : List ℕ) (start size value : ℕ) → start + size ≤ length bytes
    → all (λ byte. eqb byte value) (take size (drop start bytes)) ≡ all (λ i. eqb (get_or bytes i erased) value) (range start size)
stretch-at bytes start size value fits =
    bool_eq (all test lent) (all at (range start size))
    (λ e. all-is at start size (λ j a b.
    let back : start + (j - start) ≡ j = omega arith in
    rw (here (j - start) (omega arith), back) at (all-at test lent (j - start) erased e (omega (arith, many)))))
    (λ e. all_of test lent erased (λ i h. rw (here i (omega (arith, many))) (all_in at start size e (start + i) (omega arith) (omega (arith, many)))))
  where
    test : ℕ → Bool
    test byte = eqb byte value

    at : ℕ → Bool
    at i = eqb (get_or bytes i erased) value

    lent : List ℕ
    lent = take size (drop start bytes)

    many : length lent ≡ size
    many = simp (length-take, length-drop) (omega arith)

    here : (i : ℕ) → i < size → get_or lent i erased ≡ get_or bytes (start + i) erased
    here i h = get_or-take size (drop start bytes) i erased h ∙ get_or-drop start bytes i erased

-- ---- the marks of a place, slot by slot
module _ (Z : Sizes) (place : ℕ) (B : Bounds Z) (in-move : place ≤ last_place Z) where
  open Z use {n, m}

  abbrev due : (t : ℕ) → ℕ
  due t = held_mark Z (held_at Z place (t / m) (t % m))

  abbrev first : ℕ
  first = filling Z place * m

  abbrev blank : ℕ
  blank = first + filled Z place

  due_below : (t : ℕ) → t < first → due t ≡ letter Z 1
  unfolding held_mark
  due_below t h = ap (held_mark Z) (held_below Z place (t / m) (t % m) ((div-lt_iff_lt-mul B.m-low).1 h))

  due-above : (t : ℕ) → first + m ≤ t → due t ≡ held_mark Z (above (pass_at Z place))
  due-above t h = ap (held_mark Z) (held-above Z place (t / m) (t % m) ((le-div_iff_mul-le B.m-low).1 (omega (arith, suc-mul (filling Z place) m))))

  due-here : (j : ℕ) → j < m → due (first + j) ≡ held_mark Z (held_at Z place (filling Z place) j)
  due-here j h = ap₂ (λ (b q : ℕ). held_mark Z (held_at Z place b q)) (slot-div m (filling Z place) j h) (slot-mod m (filling Z place) j h)

  due-written : (t : ℕ) → first ≤ t → t < blank → due t ≡ held_mark Z (written (pass_at Z place))
  due-written t a b =
      let at : first + (t - first) ≡ t = omega arith in
      rw at at (due-here (t - first) (omega (arith, pages-in Z place)))
      ∙ ap (held_mark Z) (held-written Z place (filling Z place) (t - first) refl (omega arith))

  due-blank : (t : ℕ) → blank ≤ t → t < first + m → due t ≡ erased
  unfolding held_mark
  due-blank t a b =
      let at : first + (t - first) ≡ t = omega arith in
      rw at at (due-here (t - first) (omega arith))
      ∙ ap (held_mark Z) (held-blank Z place (filling Z place) (t - first) refl (omega arith))

  due-at : (t : ℕ) → t < slot_count Z → get_or (marks_of Z place) t erased ≡ due t
  unfolding marks_of
  due-at t h = map-range-at due 0 (slot_count Z) t erased h ∙ ap due (omega arith)

  module _ (marks : List ℕ) (size : length marks ≡ slot_count Z) where
    abbrev is : (value : ℕ) → ℕ → Bool
    is value t = eqb (get_or marks t erased) value

    same_at : is_same marks (marks_of Z place) ≡ all (λ t. is (due t) t) (range 0 (slot_count Z))
    unfolding marks_of
    same_at =
        bool_eq (is_same marks (marks_of Z place)) (all (λ t. is (due t) t) (range 0 (slot_count Z)))
        (λ e. all-is (λ t. is (due t) t) 0 (slot_count Z) (λ t a b. eq-eqb (get_or marks t erased) (due t) (ap (λ (xs : List ℕ). get_or xs t erased) (same-eq _ _ e) ∙ due-at t (omega arith))))
        (λ e.
        eq-same _ _
        (ext_get_or erased marks (marks_of Z place) (size ∙ sym (length-map (range 0 (slot_count Z)) due ∙ length-range 0 (slot_count Z)))
        (λ t h. eqb-true _ _ (all_in (λ t. is (due t) t) 0 (slot_count Z) e t (omega arith) (omega arith)) ∙ sym (due-at t (omega arith)))))

    abbrev stretch : (start size value : ℕ) → Bool
    stretch start size value = all (is value) (range start size)

    -- one stretch of equal marks
    due-stretch : (start size value : ℕ) → ((t : ℕ) → start ≤ t → t < start + size → due t ≡ value) → all (λ t. is (due t) t) (range start size) ≡ stretch start size value
    due-stretch start size value f = all_same (λ t. is (due t) t) (is value) start size (λ t a b. ap (eqb (get_or marks t erased)) (f t a b))

    pub four-stretches : is_same marks (marks_of Z place) ≡ (stretch 0 first (letter Z 1) && (stretch first (filled Z place) (held_mark Z (written (pass_at Z place)))
        && (stretch blank (m - filled Z place) erased && stretch (first + m) (length marks - (first + m)) (held_mark Z (above (pass_at Z place))))))
    four-stretches = same_at ∙ ap (λ (k : ℕ). all test (range 0 k)) whole ∙ cut
      where
        q : ℕ
        q = filled Z place

        rest : ℕ
        rest = length marks - (first + m)

        test : ℕ → Bool
        test t = is (due t) t

        whole : slot_count Z ≡ first + (q + ((m - q) + rest))
        whole = omega (arith, pages-in Z place, block-in-marks Z (filling Z place) (filling-in Z place in-move))

        cut : all test (range 0 (first + (q + ((m - q) + rest)))) ≡ (stretch 0 first (letter Z 1) && (stretch first q (held_mark Z (written (pass_at Z place)))
            && (stretch blank (m - q) erased && stretch (first + m) rest (held_mark Z (above (pass_at Z place))))))
        cut =
            let from : 0 + first ≡ first = omega arith in
            let upto : blank + (m - q) ≡ first + m = omega (arith, pages-in Z place) in
            rw (
              all-cut test 0 first (q + ((m - q) + rest)),
              from,
              all-cut test first q ((m - q) + rest),
              all-cut test blank (m - q) rest,
              upto,
              due-stretch 0 first (letter Z 1) (λ t a b. due_below t (omega arith)),
              due-stretch first q (held_mark Z (written (pass_at Z place))) due-written,
              due-stretch blank (m - q) erased (λ t a b. due-blank t a (omega (arith, upto))),
              due-stretch (first + m) rest (held_mark Z (above (pass_at Z place))) (λ t a b. due-above t a),
            )

    -- ---- the slots that are marked 255, where the marks stand
    ne-letter : (i : ℕ) → letter Z i ≡ erased → ⊥
    unfolding letter
    ne-letter i e = omega (arith, mod-lt (Z.s + i) {m = 3} (omega arith))

    ne-written : (pass : Pass) → held_mark Z (written pass) ≡ erased → ⊥
    unfolding held_mark written
    ne-written forward e = ne-letter 1 e
    ne-written backward e = ne-letter 2 e

    ne-above : (pass : Pass) → held_mark Z (above pass) ≡ erased → ⊥
    unfolding held_mark above
    ne-above forward e = ne-letter 0 e
    ne-above backward e = ne-letter 2 e

    not-marked : (t : ℕ) → due t ≡ erased → (blank ≤ t) × (t < first + m)
    not-marked t e =
        ⊎_elim
        (λ (h : t < blank).
        absurd
        (⊎_elim
        (λ (l : t < first). ne-letter 1 (sym (due_below t l) ∙ e))
        (λ (l : first ≤ t). ne-written (pass_at Z place) (sym (due-written t l h) ∙ e))
        (lt-cases t first)))
        (λ (h : blank ≤ t).
        ⊎_elim
        (λ (l : t < first + m). (h, l))
        (λ (l : first + m ≤ t). absurd (ne-above (pass_at Z place) (sym (due-above t l) ∙ e)))
        (lt-cases t (first + m)))
        (lt-cases t blank)

    module _ (store : List ℕ) (long : length store ≡ store_len Z) (stand : is_same marks (marks_of Z place) ≡ true) where
      open Z use {p}

      abbrev chip : Chip
      chip = record { store = store; marks = marks }

      abbrev torn : ℕ → Bool
      torn t = eqb (mark_at marks t) erased && not (is_blank p chip t)

      abbrev empty : ℕ → Bool
      empty i = eqb (get_or store i erased) erased

      mark-at : (t : ℕ) → t < slot_count Z → mark_at marks t ≡ due t
      unfolding mark_at
      mark-at t h = ap (λ (xs : List ℕ). get_or xs t erased) (same-eq _ _ stand) ∙ due-at t h

      -- a slot of the stretch is blank where its bytes are 255
      blank-at : (t : ℕ) → t < slot_count Z → blank ≤ t → t < first + m → is_blank p chip t ≡ all empty (range (t * p) p)
      unfolding part
      blank-at t h a b =
          blank-is p chip t (mark-at t h ∙ due-blank t a b)
          ∙ stretch-at store (t * p) p erased (omega (arith, part-fits t (slot_count Z) p h))

      pub torn-stretch : any torn (range 0 (slot_count Z)) ≡ not (all empty (range (blank * p) ((first + m) * p - blank * p)))
      torn-stretch =
          bool_eq (any torn (range 0 (slot_count Z))) (not (all empty bytes))
          (λ e. ⊎_elim
          (λ (f : all empty bytes ≡ true). absurd (never_both e (none_is torn 0 (slot_count Z) (λ t a b. not-torn f t (omega arith)))))
          (λ (f : all empty bytes ≡ false). rw f)
          (bool_cases (all empty bytes)))
          (λ e. ⊎_elim
          (λ (f : any torn (range 0 (slot_count Z)) ≡ true). f)
          (λ (f : any torn (range 0 (slot_count Z)) ≡ false). absurd (never_both e (rw (all-empty f) refl)))
          (bool_cases (any torn (range 0 (slot_count Z)))))
        where
          bytes : List ℕ
          bytes = range (blank * p) ((first + m) * p - blank * p)

          fits : first + m ≤ slot_count Z
          fits = block-in-marks Z (filling Z place) (filling-in Z place in-move)

          not-torn : all empty bytes ≡ true → (t : ℕ) → t < slot_count Z → torn t ≡ false
          not-torn f t h = ⊎_elim
              (λ (e : eqb (mark_at marks t) erased ≡ true).
              let in-stretch = not-marked t (sym (mark-at t h) ∙ eqb-true _ _ e) in
              let low = mul-le-mul_right p in-stretch.0 in
              let high = part-fits t (first + m) p in-stretch.1 in
              rw (e, blank-at t h in-stretch.0 in-stretch.1, all-is empty (t * p) p (λ i a b. all_in empty (blank * p) ((first + m) * p - blank * p) f i (omega arith) (omega arith))))
              (λ (e : eqb (mark_at marks t) erased ≡ false). rw e)
              (bool_cases (eqb (mark_at marks t) erased))

          all-empty : any torn (range 0 (slot_count Z)) ≡ false → all empty bytes ≡ true
          all-empty f = all-is empty (blank * p) ((first + m) * p - blank * p) (λ i a b.
              let t = i / p in
              let low : blank ≤ t = (le-div_iff_mul-le B.p-low).1 a in
              let high : t < first + m = (div-lt_iff_lt-mul B.p-low).1 (omega arith) in
              let in-slots : t < slot_count Z = omega (arith, fits) in
              let this : torn t ≡ false = none_in torn 0 (slot_count Z) f t (omega arith) (omega arith) in
              let mark = eq-eqb (mark_at marks t) erased (mark-at t in-slots ∙ due-blank t low high) in
              let page : all empty (range (t * p) p) ≡ true = not-false _ (rw (mark, blank-at t in-slots low high) at this) in
              all_in empty (t * p) p page i (omega (arith, div-add-mod' i p)) (omega (arith, div-add-mod' i p, mod-lt i B.p-low)))

-- ---- the same by what the code holds of the place
pub record InSlots (Z : Sizes) (here : Place) : Type 0 where
  pub page-in : here.page ≤ Z.m
  pub block_in : here.block * Z.m + Z.m ≤ slot_count Z
  pub bytes-in : (here.block * Z.m + Z.m) * Z.p ≤ store_len Z
  pub bytes-rise : (here.block * Z.m + here.page) * Z.p ≤ (here.block * Z.m + Z.m) * Z.p

module _ (Z : Sizes) (here : Place) (is : here ≡ place_of Z here.at) (B : Bounds Z) (in-move : here.at ≤ last_place Z) where
  open Z use {m, p}

  pub in-slots : InSlots Z here
  in-slots =
      let pages : here.page ≤ m = rw (page-is Z here is) (pages-in Z here.at) in
      let block : here.block * m + m ≤ slot_count Z = rw (block-is Z here is) (block-in-marks Z (filling Z here.at) (filling-in Z here.at in-move)) in
      record { page-in = pages; block_in = block; bytes-in = mul-le-mul_right p block; bytes-rise = mul-le-mul_right p (omega arith) }

  pub letter-written : (t : Bool) → here.backward ≡ t → letter Z (cond t 2 1) ≡ held_mark Z (written (pass_at Z here.at))
  unfolding held_mark written
  letter-written true e = rw (pass-is Z here is, e)
  letter-written false e = rw (pass-is Z here is, e)

  pub letter-kept : (t : Bool) → here.backward ≡ t → letter Z (cond t 2 0) ≡ held_mark Z (above (pass_at Z here.at))
  unfolding held_mark above
  letter-kept true e = rw (pass-is Z here is, e)
  letter-kept false e = rw (pass-is Z here is, e)

  pub marks-are : (marks : List ℕ) → length marks ≡ slot_count Z → (one two three : ℕ) → one ≡ letter Z 1
      → two ≡ held_mark Z (written (pass_at Z here.at)) → three ≡ held_mark Z (above (pass_at Z here.at))
      → (let stretch : (start end value : ℕ) → Bool = λ start end value. all (λ i. eqb (get_or marks i erased) value) (range start (end - start)) in
      let first = here.block * m in
      (((stretch 0 first one && stretch first (first + here.page) two) && stretch (first + here.page) (first + m) erased)
      && stretch (first + m) (length marks) three) ≡ is_same marks (marks_of Z here.at))
  marks-are marks size one two three e f g =
      let b = filling Z here.at * m in
      let q = filled Z here.at in
      let all_first : b - 0 ≡ b = omega arith in
      let written : b + q - b ≡ q = omega arith in
      let blank : b + m - (b + q) ≡ m - q = omega (arith, pages-in Z here.at) in
      rw (e, f, g, block-is Z here is, page-is Z here is, all_first, written, blank)
      (rw (and_assoc, and_assoc) (sym (four-stretches Z here.at B in-move marks size)))

  -- ---- the bytes of the slots that are marked 255
  pub torn-is : (store marks : List ℕ) → length marks ≡ slot_count Z → length store ≡ store_len Z → is_same marks (marks_of Z here.at) ≡ true
      → not (all (λ i. eqb (get_or store i erased) erased) (range ((here.block * m + here.page) * p) ((here.block * m + m) * p - (here.block * m + here.page) * p)))
      ≡ is_elsewhere Z (record { store = store; marks = marks }) here.at
  unfolding is_elsewhere
  torn-is store marks size long stand =
      rw (le-ltb (last_place Z) here.at in-move, stand, block-is Z here is, page-is Z here is)
      (sym (torn-stretch Z here.at B in-move marks size store long stand))

-- ---- the three grounds of number 5
module _ (Z : Sizes) (chip : Chip) (place : ℕ) where
  pub too_far : last_place Z < place → true ≡ is_elsewhere Z chip place
  unfolding is_elsewhere
  too_far h = rw (lt-ltb (last_place Z) place h) refl

  pub other-marks : place ≤ last_place Z → is_same chip.marks (marks_of Z place) ≡ false → true ≡ is_elsewhere Z chip place
  unfolding is_elsewhere
  other-marks h e = rw (le-ltb (last_place Z) place h, e) refl
