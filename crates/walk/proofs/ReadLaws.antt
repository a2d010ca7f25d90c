-- Read's rules at a moment: which of them is due for original k, and the slots that it gives.
use Rattle.flash.proofs.Kit.{◌≡◌, sym, ◌∙◌, ⊎_elim, true, false, cond, ◌||◌, List, [], ◌∷◌, ℕ, ◌+◌, ◌-◌, ◌≤◌, ◌<◌, arith, leb, length, ltb, get_or}
use Rattle.flash.proofs.Kit.{ne_eqb, leb-true, leb-false, le-leb, lt-leb, ltb-false}
use Rattle.flash.specs.Lists.{range, any}
use Rattle.flash.specs.Geometry.{block_of, original_count}
use Rattle.flash.proofs.Bools.{bool_eq, or-false-left, or-false-right}
use Rattle.flash.proofs.Ranges.{any-is, any-range-find}
use Rattle.split.specs.Split.{dest_block, set_of}
use Rattle.method.specs.Move.{Move, AcceptedMove}
use Rattle.method.specs.Cycle.{dest, top}
use Rattle.method.specs.Read.{full_of, plain_slot, final_slot, go_back, go_on, read_slots}
use Rattle.method.proofs.cycles.Orbits.{DataBlock, iterate, iterate-in}
use Rattle.method.proofs.cycles.SetCycles.{set-in, block_in, dest-in, dest-is, dest-one}
use Rattle.method.proofs.cycles.Tops.{top_in}
use Rattle.walk.specs.declared.moment.Moment.{Moment}
use Rattle.walk.specs.inner.Moments.{Tells}
use Rattle.walk.specs.inner.Rows.{PagesRow, SourcesRow}
use Rattle.walk.specs.inner.Slots.{back_by, on_by}
use Rattle.walk.proofs.RowLaws.{home-is, back_is, back-few, on-is}

module _ (M : Move) (A : AcceptedMove M) (marks : List ℕ) (moment : Moment) (T : Tells M marks moment) where
  open M.sizes use {n, m}
  open moment use {coded, plain, done}

  -- blocks full of s exist where block n is one
  pub any-plain : any (full_of M marks 0) (range 0 (n + 1)) ≡ leb plain n
  any-plain =
      bool_eq (any (full_of M marks 0) (range 0 (n + 1))) (leb plain n)
      (λ e.
      let r = any-range-find (full_of M marks 0) 0 (n + 1) e in
      let u-in : r.0 ≤ n = omega (arith, r.2) in
      let at = leb-true plain r.0 (sym (T.plain-is r.0 u-in) ∙ r.3) in
      le-leb plain n (omega arith))
      (λ e. any-is (full_of M marks 0) 0 (n + 1) n (omega arith) (omega arith) (T.plain-is n (omega arith) ∙ e))

  module _ (k : ℕ) (k-in : k < original_count M.sizes) where
    abbrev v : ℕ
    v = block_of m k

    abbrev set : ℕ
    set = set_of M.sets k

    abbrev w : ℕ
    w = dest_block m M.list k

    v-in : DataBlock n v
    v-in = block_in M A k k-in

    set-ok : set < m
    set-ok = set-in M A k k-in

    pub read_plain : plain ≤ v → read_slots M marks k ≡ (k + m) ∷ []
    unfolding read_slots plain_slot
    read_plain h = rw (T.plain-is v v-in.high, le-leb plain v h, home-is m k)

    module _ (not_plain : v < plain) where
      pub read-final : done ≤ w → read_slots M marks k ≡ (get_or M.list k 0 + m) ∷ []
      unfolding read_slots final_slot
      read-final h =
          let w-in = dest-in M A set set-ok v v-in in
          rw (T.plain-is v v-in.high, lt-leb plain v not_plain, T.done-is (dest M set v) w-in.high, dest-is M A k k-in, le-leb done w h, home-is m (get_or M.list k 0))

      module _ (not_done : w < done) where
        -- rules 2 and 3
        pub read-walks : read_slots M marks k ≡ cond (ltb (top M set v - 1) coded || leb plain n) (go_back M marks set n v) (go_on M marks set n v)
        unfolding read_slots
        read-walks =
            let t-in = top_in M A set set-ok v v-in in
            let done-is = T.done-is (dest M set v) (dest-in M A set set-ok v v-in).high in
            rw (T.plain-is v v-in.high, lt-leb plain v not_plain, done-is, dest-is M A k k-in, lt-leb done w not_done, T.coded-is (top M set v - 1) (omega arith), any-plain)

        module _ (pages : List ℕ) (P : PagesRow M set pages) where
          pub read_back : (sources : List ℕ) → SourcesRow M set sources → (ltb (top M set v - 1) coded || leb plain n) ≡ true
              → (read_slots M marks k ≡ back_by m set pages sources plain (top M set v) n v) × (length (read_slots M marks k) ≤ n)
          read_back sources S e =
              let is : read_slots M marks k ≡ go_back M marks set n v = read-walks ∙ rw e in
              (is ∙ sym (back_is M A set set-ok pages P sources marks S plain T.plain-is v v-in), rw is (back-few M A set set-ok pages P marks v v-in))

          pub read-on : (ltb (top M set v - 1) coded || leb plain n) ≡ false → (read_slots M marks k ≡ on_by m M.list set pages done 0 n w) × (length (read_slots M marks k) ≤ n)
          read-on e =
              let is : read_slots M marks k ≡ go_on M marks set n v = read-walks ∙ rw e in
              let t-in = top_in M A set set-ok v v-in in
              let not-coded = ltb-false (top M set v - 1) coded (or-false-left (ltb (top M set v - 1) coded) (leb plain n) e) in
              let none = leb-false plain n (or-false-right (ltb (top M set v - 1) coded) (leb plain n) e) in
              let there : done ≤ top M set v =
              ⊎_elim (λ (h : plain ≤ top M set v). absurd (omega arith)) (λ (h : done ≤ top M set v). h) (T.above (top M set v) t-in.high (omega arith)) in
              let w-in : DataBlock n w = rw (dest-is M A k k-in) at (dest-in M A set set-ok v v-in) in
              let o = on-is M A set set-ok pages P done 0 marks T.done-is v v-in w (dest-is M A k k-in) there not_done
              (λ d E j h.
              let c : ℕ = iterate (dest M set) j w in
              let to_in = dest-in M A set set-ok c (iterate-in n (dest M set) (dest-one M A set set-ok) j w w-in) in
              ne_eqb (dest M set c) 0 (λ z. omega arith)) in
              (is ∙ sym o.0, rw is o.1)
