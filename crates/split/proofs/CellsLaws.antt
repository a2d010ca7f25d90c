-- The tables of one end stay exact: as a page gets its set, and as two sets are exchanged at a block.
use Rattle.flash.proofs.Kit.{◌≡◌, refl, sym, ap, ◌∙◌, subst, ◌⊎◌, inl, inr, ◌≢◌, ⊎_elim, Bool, true, false, true≢false, List, ℕ, ◌+◌, ◌-◌, ◌*◌, ◌≤◌}
use Rattle.flash.proofs.Kit.{◌<◌, not-suc-le-zero, arith, eqb, length, get_or, set as put, length-set, get_or-set_same, get_or-set_other, ne_eqb, eq-eqb}
use Rattle.flash.proofs.Kit.{eqb-true, eqb-false}
use Rattle.split.specs.Split.{set_of}
use Rattle.split.specs.Rule.{End, swapped, other_end}
use Rattle.split.specs.inner.Mask.{bit_at, FlippedAt, FlippedBoth}
use Rattle.split.specs.inner.Cells.{row_of, cell_of, Uses, by_masks, IsPage, Cell, Exact, swapped_at}
use Rattle.flash.proofs.Comparisons.{eq-cases}
use Rattle.split.proofs.MaskLaws.{bit-lt}
use Rattle.split.proofs.Exchange.{swapped-a, swapped-b}

-- two of a and b, and no other, are exchanged
swapped-else : (a b c : ℕ) → c ≢ a → c ≢ b → swapped a b c ≡ c
unfolding swapped
swapped-else a b c p q = rw (ne_eqb c a p, ne_eqb c b q)

by-swapped : (P : ℕ → ℕ → Type 0) (a b : ℕ) → a ≢ b → P a b → P b a → ((c : ℕ) → c ≢ a → c ≢ b → P c c) → (c : ℕ) → P c (swapped a b c)
by-swapped P a b differ p q r c = ⊎_elim
    (λ (e : c ≡ a). subst (λ (x : ℕ). P x (swapped a b x)) (sym e) (subst (P a) (sym (swapped-a a b)) p))
    (λ (n : c ≢ a). ⊎_elim
    (λ (e : c ≡ b). subst (λ (x : ℕ). P x (swapped a b x)) (sym e) (subst (P b) (sym (swapped-b a b differ)) q))
    (λ (o : c ≢ b). subst (P c) (sym (swapped-else a b c n o)) (r c n o))
    (eq-cases c b))
    (eq-cases c a)

pub swapped-twice : (a b : ℕ) → a ≢ b → (c : ℕ) → swapped a b (swapped a b c) ≡ c
swapped-twice a b differ = by-swapped (λ c d. swapped a b d ≡ c) a b differ (swapped-b a b differ) (swapped-a a b) (λ c. swapped-else a b c)

pub swapped-lt : (a b limit : ℕ) → a ≢ b → a < limit → b < limit → (c : ℕ) → c < limit → swapped a b c < limit
swapped-lt a b limit differ h l = by-swapped (λ c d. c < limit → d < limit) a b differ (λ _. l) (λ _. h) (λ c p q r. r)

-- ---- two notes of a table exchanged
pub length-swapped : (table : List ℕ) (first second : ℕ) → length (swapped_at table first second) ≡ length table
length-swapped table first second = simp length-set

pub swapped-beside : (table : List ℕ) (first second at : ℕ) → at ≢ first → at ≢ second → get_or (swapped_at table first second) at 0 ≡ get_or table at 0
swapped-beside table first second at p q =
    get_or-set_other (put table first (get_or table second 0)) second at _ 0 q ∙ get_or-set_other table first at _ 0 p

-- they are those of two sets, each at its place
pub swapped_here : (table : List ℕ) (place : ℕ → ℕ) → ((c d : ℕ) → c ≢ d → place c ≢ place d) → (a b : ℕ) → a ≢ b
    → place a < length table → place b < length table
    → (c : ℕ) → get_or (swapped_at table (place a) (place b)) (place c) 0 ≡ get_or table (place (swapped a b c)) 0
swapped_here table place apart a b differ a_in b-in =
    by-swapped (λ c d. get_or (swapped_at table (place a) (place b)) (place c) 0 ≡ get_or table (place d) 0) a b differ
    (get_or-set_other first (place b) (place a) _ 0 (apart a b differ) ∙ get_or-set_same table (place a) _ 0 a_in)
    (get_or-set_same first (place b) _ 0 (rw (length-set table (place a) (get_or table (place b) 0)) b-in))
    (λ c p q. swapped-beside table (place a) (place b) (place c) (apart c a p) (apart c b q))
  where
    first : List ℕ
    first = put table (place a) (get_or table (place b) 0)

-- cells of different blocks or sets lie apart
cells-apart : (row set row' set' : ℕ) → row < 64 → row' < 64 → (row ≢ row') ⊎ (set ≢ set') → cell_of set row ≢ cell_of set' row'
cells-apart row set row' set' h l (inl ne) e = ne (omega arith)
cells-apart row set row' set' h l (inr ne) e = ne (omega arith)

module _ (m : ℕ) (list : List ℕ) (end : End) where
  -- the pages of one cell are those of another
  moved : (pages : ℕ) (sets sets' : List ℕ) (row c c' : ℕ) (used : Bool) (note : ℕ)
      → ((k : ℕ) → k < pages → row_of m list end k ≡ row → (set_of sets k ≡ c → set_of sets' k ≡ c') × (set_of sets' k ≡ c' → set_of sets k ≡ c))
      → Cell m list end pages sets row c used note → Cell m list end pages sets' row c' used note
  moved pages sets sets' row c c' used note same C = record {
    page = λ e. let r = C.page e in let p = r.1 in
        (r.0, record { inside = p.inside; at_row = p.at_row; in-set = (same r.0 p.inside p.at_row).0 p.in-set }, r.2);
    marked = λ k p. C.marked k (back k p);
    one = λ x y p q. C.one x y (back x p) (back y q);
  }
    where
      back : (k : ℕ) → IsPage m list end pages sets' row c' k → IsPage m list end pages sets row c k
      back k p = record { inside = p.inside; at_row = p.at_row; in-set = (same k p.inside p.at_row).1 p.in-set }

  -- what is told of a page
  module _ (pages : ℕ) (sets : List ℕ) (uses : Uses) (table : List ℕ) (X : Exact m list end pages sets uses table) where
    pub page-note : (k row set : ℕ) → row < 64 → set < m → IsPage m list end pages sets row set k
        → get_or table (cell_of set row) 0 ≡ row_of m list (other_end end) k
    page-note k row set h l p =
        let C = X row set h l in
        let r = C.page (C.marked k p) in
        r.2 ∙ ap (row_of m list (other_end end)) (C.one r.0 k r.1 p)

  pub no-pages : (sets : List ℕ) (uses : Uses) (table : List ℕ) → ((row set : ℕ) → uses row set ≡ false) → Exact m list end 0 sets uses table
  no-pages sets uses table none row set h l = record {
    page = λ e. absurd (true≢false (sym e ∙ none row set));
    marked = λ k p. absurd (not-suc-le-zero p.inside);
    one = λ x y p. absurd (not-suc-le-zero p.inside);
  }

  -- page k gets a set that its block has not
  module _ (k : ℕ) (sets sets' : List ℕ) (uses uses' : Uses) (table : List ℕ) (X : Exact m list end k sets uses table) (new : ℕ)
      (row_lt : row_of m list end k < 64) (small : new < m) (free : uses (row_of m list end k) new ≡ false) (its : set_of sets' k ≡ new)
      (below : (x : ℕ) → x < k → set_of sets' x ≡ set_of sets x) (room : cell_of new (row_of m list end k) < length table)
      (now : uses' (row_of m list end k) new ≡ true)
      (same : (row set : ℕ) → set < m → (row ≢ row_of m list end k) ⊎ (set ≢ new) → uses' row set ≡ uses row set) where
    abbrev here : ℕ
    here = cell_of new (row_of m list end k)

    abbrev its-note : ℕ
    its-note = row_of m list (other_end end) k

    old : (row set x : ℕ) → x ≢ k → IsPage m list end (k + 1) sets' row set x → IsPage m list end k sets row set x
    old row set x ne p =
        let h : x < k = omega (arith, p.inside) in record { inside = h; at_row = p.at_row; in-set = sym (below x h) ∙ p.in-set }

    pub one-noted : Exact m list end (k + 1) sets' uses' (put table here its-note)
    one-noted row set h l = ⊎_elim
        (λ (r : row ≡ row_of m list end k). ⊎_elim
        (λ (s : set ≡ new). rw (r, s) at-cell)
        (λ (s : set ≢ new). beside (inr s))
        (eq-cases set new))
        (λ (r : row ≢ row_of m list end k). beside (inl r))
        (eq-cases row (row_of m list end k))
      where
        at-cell : Cell m list end (k + 1) sets' (row_of m list end k) new (uses' (row_of m list end k) new) (get_or (put table here its-note) here 0)
        at-cell = record {
          page = λ e. (k, record { inside = omega arith; at_row = refl; in-set = its }, get_or-set_same table here its-note 0 room);
          marked = λ x p. now;
          one = λ x y p q. is-k x p ∙ sym (is-k y q);
        }
          where
            is-k : (x : ℕ) → IsPage m list end (k + 1) sets' (row_of m list end k) new x → x ≡ k
            is-k x p = ⊎_elim (λ (e : x ≡ k). e)
                (λ (ne : x ≢ k). absurd (true≢false (sym ((X (row_of m list end k) new row_lt small).marked x (old _ new x ne p)) ∙ free)))
                (eq-cases x k)

        beside : (row ≢ row_of m list end k) ⊎ (set ≢ new)
            → Cell m list end (k + 1) sets' row set (uses' row set) (get_or (put table here its-note) (cell_of set row) 0)
        beside ne = record {
          page = λ e. let r = (X row set h l).page (sym (same row set l ne) ∙ e) in let p = r.1 in (
            r.0,
            record { inside = omega (arith, p.inside); at_row = p.at_row; in-set = below r.0 p.inside ∙ p.in-set },
            get_or-set_other table here (cell_of set row) its-note 0 (cells-apart row set _ new h row_lt ne) ∙ r.2,
          );
          marked = λ x p. same row set l ne ∙ (X row set h l).marked x (old row set x (not-k x p) p);
          one = λ x y p q. (X row set h l).one x y (old row set x (not-k x p) p) (old row set y (not-k y q) q);
        }
          where
            not-k : (x : ℕ) → IsPage m list end (k + 1) sets' row set x → x ≢ k
            not-k x p e = ⊎_elim
                (λ (r : row ≢ row_of m list end k). r (sym p.at_row ∙ ap (row_of m list end) e))
                (λ (s : set ≢ new). s (sym p.in-set ∙ ap (set_of sets') e ∙ its))
                ne

  -- the pages of one block exchange two sets
  module _ (pages : ℕ) (sets sets' : List ℕ) (uses uses' : Uses) (table : List ℕ) (X : Exact m list end pages sets uses table) (row a b : ℕ)
      (row_lt : row < 64) (differ : a ≢ b) (a_lt : a < m) (b_lt : b < m)
      (beside : (k : ℕ) → k < pages → row_of m list end k ≢ row → set_of sets' k ≡ set_of sets k)
      (here : (k : ℕ) → k < pages → row_of m list end k ≡ row → set_of sets' k ≡ swapped a b (set_of sets k))
      (room : m * 64 ≤ length table)
      (bits : (c : ℕ) → uses' row c ≡ uses row (swapped a b c))
      (other-bits : (at c : ℕ) → at ≢ row → uses' at c ≡ uses at c) where
    abbrev after : List ℕ
    after = swapped_at table (cell_of a row) (cell_of b row)

    notes : (c : ℕ) → get_or after (cell_of c row) 0 ≡ get_or table (cell_of (swapped a b c) row) 0
    notes = swapped_here table (λ c. cell_of c row) (λ c d ne e. ne (omega arith)) a b differ (omega arith) (omega arith)

    other-notes : (at c : ℕ) → at < 64 → at ≢ row → get_or after (cell_of c at) 0 ≡ get_or table (cell_of c at) 0
    other-notes at c h ne = swapped-beside table (cell_of a row) (cell_of b row) (cell_of c at)
        (cells-apart at c row a h row_lt (inl ne)) (cells-apart at c row b h row_lt (inl ne))

    pub row-exchanged : Exact m list end pages sets' uses' after
    row-exchanged at c h l = ⊎_elim
        (λ (e : at ≡ row). rw (e, bits c, notes c) (moved pages sets sets' row (swapped a b c) c _ _
        (λ k l r. (
          λ q. here k l r ∙ ap (swapped a b) q ∙ swapped-twice a b differ c,
          λ q. sym (swapped-twice a b differ (set_of sets k)) ∙ ap (swapped a b) (sym (here k l r) ∙ q),
        ))
        (X row (swapped a b c) row_lt (swapped-lt a b m differ a_lt b_lt c l))))
        (λ (ne : at ≢ row). rw (other-bits at c ne, other-notes at c h ne) (moved pages sets sets' at c c _ _
        (λ k l r. let s = beside k l (λ e. ne (sym r ∙ e)) in (λ q. s ∙ q, λ q. sym s ∙ q))
        (X at c h l)))
        (eq-cases at row)

-- ---- the two sets at the block
module _ (uses : Uses) (row a b : ℕ) (differ : a ≢ b) where
  -- both are used, and stay so
  pub uses-stay : uses row a ≡ true → uses row b ≡ true → (c : ℕ) → uses row c ≡ uses row (swapped a b c)
  uses-stay p q = by-swapped (λ c d. uses row c ≡ uses row d) a b differ (p ∙ sym q) (q ∙ sym p) (λ c _ _. refl)

module _ (masks masks' : List ℕ) (row : ℕ) where
  abbrev was : ℕ → ℕ
  was = bit_at (get_or masks row 0)

  abbrev is : ℕ → ℕ
  is = bit_at (get_or masks' row 0)

  flips : (c : ℕ) → is c ≡ 1 - was c → (eqb (was c) 1 ≡ false → eqb (is c) 1 ≡ true) × (eqb (was c) 1 ≡ true → eqb (is c) 1 ≡ false)
  flips c e = (
    λ q. let n = eqb-false (was c) 1 q in eq-eqb (is c) 1 (omega (arith, bit-lt (get_or masks row 0) c)),
    λ q. let n = eqb-true (was c) 1 q in ne_eqb (is c) 1 (λ z. absurd (omega arith)),
  )

  pub bit-now : (new : ℕ) → FlippedAt masks row new masks' → by_masks masks row new ≡ false → by_masks masks' row new ≡ true
  bit-now new f free = (flips new f.changed).0 free

  -- one is used, and both are flipped
  pub bits-flip : (a b : ℕ) → a ≢ b → FlippedBoth masks row a b masks' → by_masks masks row a ≡ true → by_masks masks row b ≡ false
      → (c : ℕ) → by_masks masks' row c ≡ by_masks masks row (swapped a b c)
  bits-flip a b differ f p q = by-swapped (λ c d. by_masks masks' row c ≡ by_masks masks row d) a b differ
      ((flips a (f.changed a (inl refl))).1 p ∙ sym q)
      ((flips b (f.changed b (inr refl))).0 q ∙ sym p)
      (λ c n o. ap (λ (bit : ℕ). eqb bit 1) (f.same row c (inr (n, o))))

-- ---- the pages of the two sets at the block: `one` gets b for a, and `two`, where there is such a page, gets a for b
module _ (m : ℕ) (list : List ℕ) (end : End) (pages : ℕ) (sets sets' : List ℕ) (uses : Uses) (table : List ℕ)
    (X : Exact m list end pages sets uses table) (row a b : ℕ) (row_lt : row < 64) (differ : a ≢ b) (a_lt : a < m) (b_lt : b < m) (one : ℕ)
    (P : IsPage m list end pages sets row a one) (one-now : set_of sets' one ≡ b) where
  pub pair-here : (two : ℕ) → IsPage m list end pages sets row b two → set_of sets' two ≡ a
      → ((k : ℕ) → k < pages → k ≢ one → k ≢ two → set_of sets' k ≡ set_of sets k)
      → (k : ℕ) → k < pages → row_of m list end k ≡ row → set_of sets' k ≡ swapped a b (set_of sets k)
  pair-here two Q two-now same k h r = ⊎_elim
      (λ (e : k ≡ one). rw (e, P.in-set, swapped-a a b) one-now)
      (λ (n : k ≢ one). ⊎_elim
      (λ (e : k ≡ two). rw (e, Q.in-set, swapped-b a b differ) two-now)
      (λ (o : k ≢ two). same k h n o ∙ sym (swapped-else a b (set_of sets k)
      (λ e. n ((X row a row_lt a_lt).one k one (record { inside = h; at_row = r; in-set = e }) P))
      (λ e. o ((X row b row_lt b_lt).one k two (record { inside = h; at_row = r; in-set = e }) Q))))
      (eq-cases k two))
      (eq-cases k one)

  pub alone-here : uses row b ≡ false → ((k : ℕ) → k < pages → k ≢ one → set_of sets' k ≡ set_of sets k)
      → (k : ℕ) → k < pages → row_of m list end k ≡ row → set_of sets' k ≡ swapped a b (set_of sets k)
  alone-here none same k h r = ⊎_elim
      (λ (e : k ≡ one). rw (e, P.in-set, swapped-a a b) one-now)
      (λ (n : k ≢ one). same k h n ∙ sym (swapped-else a b (set_of sets k)
      (λ e. n ((X row a row_lt a_lt).one k one (record { inside = h; at_row = r; in-set = e }) P))
      (λ e. true≢false (sym ((X row b row_lt b_lt).marked k (record { inside = h; at_row = r; in-set = e })) ∙ none))))
      (eq-cases k one)
