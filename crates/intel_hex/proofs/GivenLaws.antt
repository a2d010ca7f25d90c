-- What is given after some bytes more, and the bits that show it.
use Rattle.flash.proofs.Kit.{◌≡◌, refl, sym, ap, ◌∙◌, Bool, true, false, and-false, ◌⊎◌, inl, inr, ⊎_elim, List, [], ◌∷◌, ◌++◌, map, Option, none}
use Rattle.flash.proofs.Kit.{some, ℕ, zero, suc, ◌+◌, ◌-◌, ◌*◌, ◌≤◌, ◌<◌, arith, length, get_or, take, drop, length-append, length-take, length-drop}
use Rattle.flash.proofs.Kit.{length-map, List·getD-append, get_or-take, get_or-drop, length-take-le, get_or-append-add, eq-eqb, ne_eqb}
use Rattle.flash.specs.Lists.{any, range}
use Rattle.flash.proofs.Bools.{bool_eq}
use Rattle.flash.proofs.Comparisons.{lt-cases}
use Rattle.flash.proofs.Searches.{any-find, any_of, none_of}
use Rattle.flash.proofs.Ranges.{any-range-find, any-is}
use Rattle.intel_hex.specs.Reading.{is_given}
use Rattle.intel_hex.specs.inner.Passes.{put_at}
use Rattle.intel_hex.specs.inner.Bits.{is_set, MarkIs, LookIs}

module _ (given : List (Option ℕ)) (offset : ℕ) (bytes : List ℕ) (h : offset + length bytes ≤ length given) where
  abbrev k : ℕ
  k = length bytes

  front : length (take offset given) ≡ offset
  front = length-take-le offset given (omega arith)

  middle : length (map (λ (b : ℕ). some b) bytes) ≡ k
  middle = length-map bytes (λ (b : ℕ). some b)

  pub length-put : length (put_at given offset bytes) ≡ length given
  length-put =
      let a = length-append (take offset given) (map some bytes ++ drop (offset + k) given) in
      let b = length-append (map some bytes) (drop (offset + k) given) in
      let d = length-drop (offset + k) given in
      omega (arith, front, middle)

  pub put-before : (b : ℕ) → b < offset → get_or (put_at given offset bytes) b none ≡ get_or given b none
  put-before b l =
      List·getD-append (take offset given) (map some bytes ++ drop (offset + k) given) none b (omega (arith, front)) ∙ get_or-take offset given b none l

  -- behind the front
  behind : (b : ℕ) → offset ≤ b → get_or (put_at given offset bytes) b none ≡ get_or (map some bytes ++ drop (offset + k) given) (b - offset) none
  behind b l =
      let e : b ≡ length (take offset given) + (b - offset) = omega (arith, front) in
      ap (λ (x : ℕ). get_or (put_at given offset bytes) x none) e ∙ get_or-append-add (take offset given) (map some bytes ++ drop (offset + k) given) (b - offset) none

  pub put-after : (b : ℕ) → offset + k ≤ b → get_or (put_at given offset bytes) b none ≡ get_or given b none
  put-after b l =
      let e : b - offset ≡ length (map (λ (x : ℕ). some x) bytes) + (b - offset - k) = omega (arith, middle) in
      let f : offset + k + (b - offset - k) ≡ b = omega arith in
      behind b (omega arith)
      ∙ ap (λ (x : ℕ). get_or (map some bytes ++ drop (offset + k) given) x none) e
      ∙ get_or-append-add (map some bytes) (drop (offset + k) given) (b - offset - k) none
      ∙ get_or-drop (offset + k) given (b - offset - k) none
      ∙ ap (λ (x : ℕ). get_or given x none) f

  some_at : (l : List ℕ) (i : ℕ) → i < length l → is_given (get_or (map some l) i none) ≡ true
  unfolding is_given
  some_at [] i q = absurd (omega arith)
  some_at (x ∷ l) zero q = refl
  some_at (x ∷ l) (suc i) q = some_at l i (omega arith)

  pub put_in : (b : ℕ) → offset ≤ b → b < offset + k → is_given (get_or (put_at given offset bytes) b none) ≡ true
  put_in b l m =
      ap is_given (behind b l ∙ List·getD-append (map some bytes) (drop (offset + k) given) none (b - offset) (omega (arith, middle)))
      ∙ some_at bytes (b - offset) (omega arith)

-- the bytes from an offset on, where each is shown by a test of its number
pub any-given : (given : List (Option ℕ)) (test : ℕ → Bool) (offset from count : ℕ) → offset + count ≤ length given
    → ((i : ℕ) → i < count → test (from + i) ≡ is_given (get_or given (offset + i) none))
    → any is_given (take count (drop offset given)) ≡ any test (range from count)
any-given given test offset from count h f =
    let part : List (Option ℕ) = take count (drop offset given) in
    let d = length-drop offset given in
    let n : length part ≡ count = length-take-le count (drop offset given) (omega arith) in
    bool_eq (any is_given part) (any test (range from count))
    (λ e.
    let r = any-find is_given part none e in
    let l : r.0 < count = omega (arith, r.1) in
    let p : get_or part r.0 none ≡ get_or given (offset + r.0) none = get_or-take count (drop offset given) r.0 none l ∙ get_or-drop offset given r.0 none in
    any-is test from count (from + r.0) (omega arith) (omega arith) (f r.0 l ∙ ap is_given (sym p) ∙ r.2))
    (λ e.
    let r = any-range-find test from count e in
    let i : ℕ = r.0 - from in
    let l : i < count = omega (arith, r.1, r.2) in
    let x : from + i ≡ r.0 = omega (arith, r.1) in
    let p : get_or part i none ≡ get_or given (offset + i) none = get_or-take count (drop offset given) i none l ∙ get_or-drop offset given i none in
    any_of is_given part i none (omega arith) (ap is_given p ∙ sym (f i l) ∙ ap test x ∙ r.3))

-- nothing is given from an offset on
pub none-given-in : (given : List (Option ℕ)) (offset count : ℕ) → ((i : ℕ) → i < count → is_given (get_or given (offset + i) none) ≡ false)
    → any is_given (take count (drop offset given)) ≡ false
none-given-in given offset count f =
    none_of is_given (take count (drop offset given)) none (λ i l.
    let n = length-take count (drop offset given) in
    let q : i < count = omega arith in
    ap is_given (get_or-take count (drop offset given) i none q ∙ get_or-drop offset given i none) ∙ f i q)

-- ---- a record's bytes, looked at
module _ (words : List ℕ) (w half offset count : ℕ) (start : 1 ≤ count → half * 65536 ≤ offset) (end : 1 ≤ count → offset + count ≤ half * 65536 + 65536) where
  outside : (b : ℕ) → (half ≡ w → ⊥) → b < 65536 → (w * 65536 + b < offset) ⊎ (offset + count ≤ w * 65536 + b)
  outside b ne l =
      ⊎_elim
      (λ (z : count < 1).
      ⊎_elim (λ (q : w * 65536 + b < offset). inl q) (λ (q : offset ≤ w * 65536 + b). inr (omega arith)) (lt-cases (w * 65536 + b) offset))
      (λ (p : 1 ≤ count).
      let s = start p in
      let e = end p in
      ⊎_elim
      (λ (q : w * 65536 + b < offset). inl q)
      (λ (q : offset ≤ w * 65536 + b). inr (omega arith))
      (lt-cases (w * 65536 + b) offset))
      (lt-cases count 1)

  kept : (given : List (Option ℕ)) (bytes : List ℕ) → offset + count ≤ length given → length bytes ≡ count → (b : ℕ)
      → (w * 65536 + b < offset) ⊎ (offset + count ≤ w * 65536 + b) → get_or (put_at given offset bytes) (w * 65536 + b) none ≡ get_or given (w * 65536 + b) none
  kept given bytes h n b o =
      ⊎_elim
      (λ (q : w * 65536 + b < offset). put-before given offset bytes (omega arith) (w * 65536 + b) q)
      (λ (q : offset + count ≤ w * 65536 + b). put-after given offset bytes (omega arith) (w * 65536 + b) (omega arith))
      o

  pub look-elsewhere : (half ≡ w → ⊥) → LookIs words w half offset count words false
  look-elsewhere ne = record {
    found = λ given S h. rw (ne_eqb half w ne);
    shows = λ _ given bytes S h n b l. S b l ∙ ap is_given (sym (kept given bytes h n b (outside b ne l)));
  }

  pub look_none : count ≡ 0 → LookIs words w half offset count words false
  unfolding any
  look_none z = record {
    found = λ given S h. rw (z, and-false);
    shows = λ _ given bytes S h n b l.
        S b l ∙ ap is_given (sym (kept given bytes h n b
        (⊎_elim (λ (q : w * 65536 + b < offset). inl q) (λ (q : offset ≤ w * 65536 + b). inr (omega arith)) (lt-cases (w * 65536 + b) offset))));
  }

  pub look-here : (after : List ℕ) (r : Bool) → half ≡ w → 1 ≤ count → MarkIs words (offset - w * 65536) count after r → LookIs words w half offset count after r
  look-here after r e p M =
      let s = start p in
      let t = end p in
      let base : ℕ = w * 65536 in
      let low : base ≤ offset = omega arith in
      let high : offset + count ≤ base + 65536 = omega arith in
      record {
        found = λ given S h.
            M.found ∙ rw (eq-eqb half w e)
            (sym (any-given given (is_set words) offset (offset - base) count h (λ i l.
            let x : base + (offset - base + i) ≡ offset + i = omega arith in
            S (offset - base + i) (omega arith) ∙ ap (λ (y : ℕ). is_given (get_or given y none)) x)));
        shows = λ no given bytes S h n b l.
            ⊎_elim
            (λ (q : b < offset - base).
            M.same no b (inl q) ∙ S b l ∙ ap is_given (sym (kept given bytes h n b (inl (omega arith)))))
            (λ (q : offset - base ≤ b).
            ⊎_elim
            (λ (u : b < offset - base + count).
            M.set no b q u ∙ sym (put_in given offset bytes (omega arith) (base + b) (omega arith) (omega arith)))
            (λ (u : offset - base + count ≤ b).
            M.same no b (inr u) ∙ S b l ∙ ap is_given (sym (kept given bytes h n b (inr (omega arith)))))
            (lt-cases b (offset - base + count)))
            (lt-cases b (offset - base));
      }
