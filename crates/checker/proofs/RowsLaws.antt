-- The rows of the call: which of them applies, and what all together say.
use Rattle.flash.proofs.Kit.{◌≡◌, sym, ap, ◌∙◌, ◌≢◌, ⊎_elim, true, false, ◌&&◌, not, List, [], ℕ, ◌*◌, ◌≤◌, arith, eqb, leb, length, get_or, eqb-true, eq-eqb, ne_eqb, leb-true}
use Rattle.flash.specs.Lists.{any}
use Rattle.flash.specs.Tables.{first_fit, number_or0, refusal}
use Rattle.flash.proofs.Bools.{bool_cases, and_left, and_right, fails}
use Rattle.flash.proofs.Searches.{any-find}
use Rattle.split.specs.OneToOne.{dropped, bad_list, is_one_to_one}
use Rattle.split.proofs.OneToOneLaws.{entry_lt}
use Rattle.split.proofs.Claimed.{no-drops}
use Rattle.checker.specs.Answer.{refused, check_from, start, are_sizes, check_rows, check_answer}
use Rattle.checker.specs.inner.Turns.{Checkable}

module _ (n m : ℕ) (list text : List ℕ) where
  pub refuse-1 : are_sizes n m ≡ false → refused 1 ≡ check_answer n m list text
  unfolding check_answer check_rows refusal first_fit number_or0
  refuse-1 e = rw e

  module _ (sizes : are_sizes n m ≡ true) where
    pub sizes-few : (1 ≤ n) × (n ≤ 64) × (1 ≤ m) × (m ≤ 64) × (n * m ≤ 64)
    unfolding are_sizes
    sizes-few =
        let a = leb 1 n in
        let b = leb n 64 in
        let c = leb 1 m in
        let d = leb m 64 in
        let four = and_left (a && b && c && d) (leb (n * m) 64) sizes in
        let three = and_left (a && b && c) d four in
        let two = and_left (a && b) c three in (
          leb-true 1 n (and_left a b two),
          leb-true n 64 (and_right a b two),
          leb-true 1 m (and_right (a && b) c three),
          leb-true m 64 (and_right (a && b && c) d four),
          leb-true (n * m) 64 (and_right (a && b && c && d) (leb (n * m) 64) sizes),
        )

    pub refuse-2 : length list ≢ n * m → refused 2 ≡ check_answer n m list text
    unfolding check_answer check_rows refusal first_fit number_or0
    refuse-2 ne = rw (sizes, ne_eqb (length list) (n * m) ne)

    module _ (size : length list ≡ n * m) where
      refuse-3 : is_one_to_one (n * m) list ≡ false → refused 3 ≡ check_answer n m list text
      unfolding check_answer check_rows refusal first_fit number_or0
      refuse-3 e = rw (sizes, eq-eqb (length list) (n * m) size, e)

      -- an entry of 65535 is above the originals
      pub refuse-drop : any (eqb dropped) list ≡ true → refused 3 ≡ check_answer n m list text
      refuse-drop e =
          let found = any-find (eqb dropped) list 0 e in
          refuse-3 (fails (λ t. absurd (omega (arith, entry_lt (n * m) list t found.0 found.1, eqb-true dropped (get_or list found.0 0) found.2, sizes-few))))

      module _ (kept : any (eqb dropped) list ≡ false) where
        one-to-one-is : is_one_to_one (n * m) list ≡ not (bad_list (n * m) list)
        unfolding is_one_to_one
        one-to-one-is = ap not (sym ((no-drops list kept).1 (n * m)))

        pub refuse-list : not (bad_list (n * m) list) ≡ false → refused 3 ≡ check_answer n m list text
        refuse-list e = refuse-3 (one-to-one-is ∙ e)

        module _ (good : not (bad_list (n * m) list) ≡ true) where
          pub checkable : Checkable n m list
          checkable =
              let s = sizes-few in
              record { n-low = s.0; n-high = s.1; m-low = s.2; m-high = s.3; few = s.4; size = size; one-to-one = one-to-one-is ∙ good }

          pub accepted-rows : check_from n m list (length text) text (start n m list) ≡ check_answer n m list text
          unfolding check_answer check_rows refusal first_fit number_or0
          accepted-rows = rw (sizes, eq-eqb (length list) (n * m) size, one-to-one-is ∙ good)

-- no row applies
pub rows_pass : (n m : ℕ) (list : List ℕ) → refusal (check_rows n m list) ≡ 0 → Checkable n m list
unfolding check_rows refusal first_fit number_or0
rows_pass n m list e = ⊎_elim
    (λ (sizes : are_sizes n m ≡ true). ⊎_elim
    (λ (size : eqb (length list) (n * m) ≡ true). ⊎_elim
    (λ (one : is_one_to_one (n * m) list ≡ true).
    let s = sizes-few n m list [] sizes in
    record { n-low = s.0; n-high = s.1; m-low = s.2; m-high = s.3; few = s.4; size = eqb-true (length list) (n * m) size; one-to-one = one })
    (λ (one : is_one_to_one (n * m) list ≡ false). absurd (omega (arith, sym (row-3 sizes size one) ∙ e)))
    (bool_cases (is_one_to_one (n * m) list)))
    (λ (size : eqb (length list) (n * m) ≡ false). absurd (omega (arith, sym (row-2 sizes size) ∙ e)))
    (bool_cases (eqb (length list) (n * m))))
    (λ (sizes : are_sizes n m ≡ false). absurd (omega (arith, sym (row-1 sizes) ∙ e)))
    (bool_cases (are_sizes n m))
  where
    row-1 : are_sizes n m ≡ false → refusal (check_rows n m list) ≡ 1
    row-1 f = rw f

    row-2 : are_sizes n m ≡ true → eqb (length list) (n * m) ≡ false → refusal (check_rows n m list) ≡ 2
    row-2 t f = rw (t, f)

    row-3 : are_sizes n m ≡ true → eqb (length list) (n * m) ≡ true → is_one_to_one (n * m) list ≡ false → refusal (check_rows n m list) ≡ 3
    row-3 t s f = rw (t, s, f)
