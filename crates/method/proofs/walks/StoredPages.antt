-- Slots of full blocks and what their pages hold, and lists of such slots that sum to an original.
use Rattle.flash.proofs.Kit.{◌≡◌, sym, ap, ap₂, ◌∙◌, ◌⊎◌, inl, inr, ⊎_elim, ◌≢◌, true, List, [], ◌∷◌, ℕ, zero, suc, ◌+◌, ◌-◌, ◌/◌, ◌%◌, ◌≤◌, ◌<◌}
use Rattle.flash.proofs.Kit.{mod-lt, arith, length, get_or, lt-ltb}
use Rattle.flash.specs.declared.sizes.Sizes.{Sizes}
use Rattle.flash.specs.Geometry.{is_letter, slot, block_of, original_count, slot_count, letter}
use Rattle.flash.specs.PageSum.{◌⊕◌, sum}
use Rattle.flash.specs.Chip.{mark_at, is_whole, is_full}
use Rattle.flash.proofs.Bools.{never_both}
use Rattle.flash.proofs.Blocks.{full_at}
use Rattle.flash.proofs.Sums.{⊕-nil, ⊕-comm, ⊕-cancel, sum_one}
use Rattle.flash.proofs.Comparisons.{lt-cases}
use Rattle.split.specs.Split.{dest_block}
use Rattle.split.proofs.OneToOneLaws.{Distinct}
use Rattle.method.specs.Move.{Move, AcceptedMove}
use Rattle.method.specs.Cycle.{coded}
use Rattle.method.specs.Read.{full_of, coded_slot, plain_slot, final_slot}
use Rattle.method.proofs.basics.EachNumber.{Each, each-cons, each-one, distinct_cons}
use Rattle.method.specs.inner.Shape.{Shape}
use Rattle.method.proofs.basics.MoveShape.{Shows}
use Rattle.method.proofs.basics.Indexes.{slot-div, slot_lt}
use Rattle.method.proofs.cycles.Orbits.{DataBlock}
use Rattle.method.proofs.cycles.SetCycles.{block_in, entry_in}

-- a slot of a full block
pub record Sited (Z : Sizes) (marks : List ℕ) (t : ℕ) : Type 0 where
  pub inside : t < slot_count Z
  -- the block is full of the letter that comes `index` after s
  pub index : ℕ
  pub full : is_full Z.m marks (t / Z.m) (letter Z index) ≡ true
  pub whole : is_whole marks t ≡ true

-- originals that sum to original x and original y
module _ (M : Move) where
  pub record Adds (xs : List ℕ) (x y : ℕ) : Type 0 where
    pub x-in : x < original_count M.sizes
    pub y-in : y < original_count M.sizes
    pub sums : (page : ℕ → List ℕ) → sum page xs ≡ page x ⊕ page y

  pub pair-adds : (x y : ℕ) → x < original_count M.sizes → y < original_count M.sizes → Adds (x ∷ y ∷ []) x y
  unfolding sum
  pair-adds x y h l = record { x-in = h; y-in = l; sums = λ page. ap (λ (p : List ℕ). page x ⊕ p) (⊕-nil (page y)) }

  pub swap-adds : {xs : List ℕ} {x y : ℕ} → Adds xs x y → Adds xs y x
  swap-adds {xs} {x} {y} a = record { x-in = a.y-in; y-in = a.x-in; sums = λ page. a.sums page ∙ ⊕-comm (page x) (page y) }

module _ (M : Move) (marks : List ℕ) where
  open M.sizes use {n, m, p as P}

  -- a slot marked s + j whose page holds the sum of some originals
  pub record Stored (j t : ℕ) (xs : List ℕ) : Type 0 where
    pub site : Sited M.sizes marks t
    pub marked : mark_at marks t ≡ letter M.sizes j
    pub holds : (value page : ℕ → List ℕ) → Shows M marks value page → page t ≡ sum value xs

  -- at most `bound` slots, none twice, whose pages sum to original k; all but the last hold coded pages
  pub record Reads (bound : ℕ) (ts : List ℕ) (k : ℕ) : Type 0 where
    pub some : 1 ≤ length ts
    pub few : length ts ≤ bound
    pub sited : Each (Sited M.sizes marks) ts
    pub distinct : Distinct ts
    pub coded-first : (i : ℕ) → suc i < length ts → mark_at marks (get_or ts i 0) ≡ letter M.sizes 1
    pub original : (value page : ℕ → List ℕ) → Shows M marks value page → sum page ts ≡ value k

  pub reads-one : (j t k : ℕ) → Stored j t (k ∷ []) → Reads 1 (t ∷ []) k
  reads-one j t k s = record {
    some = omega arith;
    few = omega arith;
    sited = each-one (Sited M.sizes marks) t s.site;
    distinct = λ i l a b e. omega arith;
    coded-first = λ i h. absurd (omega arith);
    original = λ value page H. sum_one page t ∙ s.holds value page H ∙ sum_one value k;
  }

  -- a page that holds x and y before pages that sum to y
  pub reads-add : (bound t x y : ℕ) (xs ts : List ℕ) → Stored 1 t xs → Adds M xs x y → Each (λ u. u ≢ t) ts → Reads bound ts y → Reads (suc bound) (t ∷ ts) x
  unfolding sum
  reads-add bound t x y xs ts s a fresh r = record {
    some = omega arith;
    few = omega (arith, r.few);
    sited = each-cons (Sited M.sizes marks) t ts s.site r.sited;
    distinct = distinct_cons t ts fresh r.distinct;
    coded-first = first;
    original = λ value page H.
        ap₂ ◌⊕◌ (s.holds value page H ∙ a.sums value) (r.original value page H)
        ∙ ⊕-cancel (value x) (value y) (omega (arith, H.whole x a.x-in, H.whole y a.y-in));
  }
    where
      first : (i : ℕ) → suc i < length (t ∷ ts) → mark_at marks (get_or (t ∷ ts) i 0) ≡ letter M.sizes 1
      first zero h = s.marked
      first (suc i) h = r.coded-first i (omega arith)

  pub reads-within : (bound wider k : ℕ) (ts : List ℕ) → bound ≤ wider → Reads bound ts k → Reads wider ts k
  reads-within bound wider k ts h r = record {
    some = r.some;
    few = omega (arith, r.few);
    sited = r.sited;
    distinct = r.distinct;
    coded-first = r.coded-first;
    original = r.original;
  }

  -- slots of different letters are different
  pub stored-apart : (i j t u : ℕ) (xs ys : List ℕ) → letter M.sizes i ≢ letter M.sizes j → Stored i t xs → Stored j u ys → t ≢ u
  stored-apart i j t u xs ys ne a b e = ne (sym a.marked ∙ ap (mark_at marks) e ∙ b.marked)

  module _ (low high : ℕ) (A : AcceptedMove M) (i : ℕ) (S : Shape M.sizes marks low high i) where
    -- a full block is below `low` or from `high` on
    pub full-clear : (j b : ℕ) → is_full m marks b (letter M.sizes j) ≡ true → (b < low) ⊎ (high ≤ b)
    full-clear j b e = ⊎_elim inl
        (λ (h : low ≤ b). (let not-between : b < high → ⊥ = λ l. never_both e (S.between b h l j) in inr (omega arith)))
        (lt-cases b low)

    -- a page of a full block
    stored_at : (j block page : ℕ) (xs : List ℕ) → block ≤ n → page < m → is_full m marks block (letter M.sizes j) ≡ true
        → ((value shown : ℕ → List ℕ) → Shows M marks value shown → mark_at marks (slot m block page) ≡ letter M.sizes j → shown (slot m block page) ≡ sum value xs)
        → Stored j (slot m block page) xs
    unfolding is_whole is_letter letter
    stored_at j block page xs b-in p-in full holds =
        let mark = full_at m marks block (letter M.sizes j) page full p-in in
        let block-is = slot-div m block page p-in in
        record {
          site = record {
            inside = slot_lt m block page (n + 1) (omega arith) p-in;
            index = j;
            full = rw block-is full;
            whole = rw mark (lt-ltb (letter M.sizes j) 3 (omega arith));
          };
          marked = mark;
          holds = λ value shown H. holds value shown H mark;
        }

    pub plain-stored : (k : ℕ) → k < original_count M.sizes → full_of M marks 0 (block_of m k) ≡ true → Stored 0 (plain_slot M marks k) (k ∷ [])
    unfolding plain_slot full_of
    plain-stored k h full =
        stored_at 0 (block_of m k) (k % m) (k ∷ []) (block_in M A k h).high (mod-lt k A.ranges.m-low) full
        (λ value shown H mark. H.plain k h mark ∙ sym (sum_one value k))

    pub final-stored : (k : ℕ) → k < original_count M.sizes → full_of M marks 2 (dest_block m M.list k) ≡ true → Stored 2 (final_slot M marks k) (k ∷ [])
    unfolding final_slot full_of dest_block
    final-stored k h full =
        let t : ℕ = get_or M.list k 0 in
        stored_at 2 (block_of m t) (t % m) (k ∷ []) (block_in M A t (entry_in M A k h)).high (mod-lt t A.ranges.m-low) full
        (λ value shown H mark. H.final k h mark ∙ sym (sum_one value k))

    pub code-stored : (set v : ℕ) → set < m → DataBlock n v → v ≤ low → Stored 1 (coded_slot M marks set v) (coded M set v)
    unfolding coded_slot
    code-stored set v s-in v-in under =
        stored_at 1 (v - 1) set (coded M set v) (omega arith) s-in (S.below (v - 1) (omega arith))
        (λ value shown H mark. H.code set v s-in v-in.low v-in.high mark)
