-- Rows turned into their inverses: one row, all rows, and that the bytes which the rule leaves are turned into its sets.
use Rattle.flash.proofs.Kit.{◌≡◌, sym, ap, ap₂, ◌∙◌, List, ℕ, ◌+◌, ◌*◌, ◌/◌, ◌%◌, ◌≤◌, ◌<◌, below_more, div-add-mod'}
use Rattle.flash.proofs.Kit.{div-lt_iff_lt-mul, mod-lt, arith, length, get_or, take_all, ext_get_or, lt-ltb}
use Rattle.flash.specs.Lists.{part, set_part}
use Rattle.split.specs.Split.{set_of}
use Rattle.split.specs.Rule.{source, sets_given, split_by_rule}
use Rattle.split.specs.inner.Inverse.{Inverted, RowsPermuted, RowsInverted}
use Rattle.split.specs.inner.Rows.{Accepted}
use Rattle.split.specs.inner.Cells.{IsPage}
use Rattle.split.specs.inner.Work.{Working}
use Rattle.flash.proofs.Parts.{part-fits, length_part, part_at, part-set_part, part-set_part-other}
use Rattle.split.proofs.Numbers.{source_row}

-- ---- one row
abbrev pub Back : (row inverse : List ℕ) → (count : ℕ) → Type 0
Back row inverse count = (j : ℕ) → j < count → get_or inverse (get_or row j 0) 0 ≡ j

-- ---- row after row
pub record Turned (m : ℕ) (start bytes : List ℕ) (i : ℕ) : Type 0 where
  pub done : (r : ℕ) → r < i → Inverted (part m r start) (part m r bytes)
  pub rest : (r : ℕ) → i ≤ r → part m r bytes ≡ part m r start

pub one-turned : (m : ℕ) (start bytes new : List ℕ) (i : ℕ) → Turned m start bytes i → i * m + m ≤ length bytes → length new ≡ m
    → Inverted (part m i bytes) new → Turned m start (set_part m i bytes new) (i + 1)
one-turned m start bytes new i T fits whole back = record {
  done = below_more (λ r. Inverted (part m r start) (part m r (set_part m i bytes new))) i
      (λ r h. rw (other r (λ e. absurd (omega arith))) (T.done r h))
      (rw (part-set_part m i bytes new fits whole, ← T.rest i (omega arith)) back);
  rest = λ r h. other r (λ e. absurd (omega arith)) ∙ T.rest r (omega arith);
}
  where
    other : (r : ℕ) → (r ≡ i → ⊥) → part m r (set_part m i bytes new) ≡ part m r bytes
    other r ne = part-set_part-other m i bytes new fits whole r ne

-- ---- the rows that the rule leaves
module _ (n m : ℕ) (list : List ℕ) (A : Accepted n m list) (k : ℕ) (numbers targets homes destinations : List ℕ)
    (W : Working m list k numbers targets homes destinations) (over : length list ≤ k) where
  all : k ≡ n * m
  all = omega (arith, W.within, W.accepted.listed, A.listed)

  -- the page of a set at a block, and its byte
  page-of : (i j : ℕ) → i < n → j < m → (x : ℕ) × IsPage m list source k W.sets i j x × (get_or (part m i numbers) j 0 ≡ x % m)
  page-of i j h l =
      let r = (W.at-sources i j (omega (arith, A.n-fits)) l).page (lt-ltb (i * m + j) k (omega (arith, part-fits i n m h, all))) in
      let p = r.1 in (
        r.0,
        p,
        part_at m i numbers j 0 l
            ∙ ap₂ (λ (row set : ℕ). get_or numbers (row * m + set) 0) (sym p.at_row ∙ source_row m list r.0) (sym p.in-set)
            ∙ (W.numbered r.0 p.inside).1,
      )

  row-length : (i : ℕ) → i < n → length (part m i numbers) ≡ m
  row-length i h = length_part m i numbers (omega (arith, part-fits i n m h, all, W.within, W.numbers-sized))

  pub rows-permuted : RowsPermuted n m numbers
  rows-permuted i h = record {
    small = λ j l. rw (row-length i h, (page-of i j h (rw (row-length i h) at l)).2) (mod-lt _ A.some-pages);
    distinct = λ j c l o e. same j c (rw (row-length i h) at l) (rw (row-length i h) at o) e;
  }
    where
      same : (j c : ℕ) → j < m → c < m → get_or (part m i numbers) j 0 ≡ get_or (part m i numbers) c 0 → j ≡ c
      same j c l o e =
          let p = page-of i j h l in
          let q = page-of i c h o in
          let x : p.0 ≡ q.0 = sym (div-add-mod' p.0 m)
          ∙ ap₂ (λ (row number : ℕ). row * m + number)
          (sym (source_row m list p.0) ∙ p.1.at_row ∙ sym q.1.at_row ∙ source_row m list q.0) (sym p.2 ∙ e ∙ q.2)
          ∙ div-add-mod' q.0 m in
          sym p.1.in-set ∙ ap (set_of W.sets) x ∙ q.1.in-set

  pub rows-done : (after : List ℕ) → length after ≡ n * m → RowsInverted n m numbers after → after ≡ split_by_rule n m list
  unfolding split_by_rule set_of
  rows-done after len back =
      let sized : length W.sets ≡ n * m = omega (arith, W.sized, W.accepted.listed, A.listed) in
      ext_get_or 0 after W.sets (len ∙ sym sized) (λ x h.
      let l : x < k = omega (arith, all) in
      let i : x / m < n = (div-lt_iff_lt-mul A.some-pages).1 (omega arith) in
      let byte = W.numbered x l in
      let j : x % m < m = mod-lt x A.some-pages in
      sym (ap (λ (y : ℕ). get_or after y 0) (div-add-mod' x m)) ∙ sym (part_at m (x / m) after (x % m) 0 j)
      ∙ ap (λ (y : ℕ). get_or (part m (x / m) after) y 0) (sym (part_at m (x / m) numbers (set_of W.sets x) 0 byte.0 ∙ byte.1))
      ∙ back (x / m) i (set_of W.sets x) (rw (row-length (x / m) i) byte.0))
      ∙ sym (take_all k W.sets (omega (arith, sized, all))) ∙ W.given ∙ ap (sets_given m list) all
