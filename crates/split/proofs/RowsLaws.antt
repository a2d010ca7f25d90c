-- The check of set bytes by rows: what the table by destination and the bits of a row tell, and that rows with each set make a split.
use Rattle.flash.proofs.Kit.{◌≡◌, refl, sym, ap, ◌∙◌, ◌≢◌, ⊎_elim, Bool, true, ◌&&◌, List, ◌++◌, ℕ, ◌+◌, ◌-◌, ◌*◌, ◌/◌, ◌%◌, ◌≤◌, ◌<◌, bit_or}
use Rattle.flash.proofs.Kit.{below_more, div-lt_iff_lt-mul, div-add-mod', mod-lt, mod-eq_of_lt, arith, eqb, ltb, leb, length, get_or, set, take}
use Rattle.flash.proofs.Kit.{replicate, length-replicate, length-take, get_or-take, get_or-replicate, List·getD-append, get_or-set_same, get_or-set_other}
use Rattle.flash.proofs.Kit.{eqb-true, eq-eqb, ltb-true, lt-ltb, leb-true, le-leb}
use Rattle.flash.proofs.Kit.{zero, suc, suc-mul, drop, get_or-drop}
use Rattle.std.specs.Simd.{first_chunks}
use Rattle.flash.specs.Lists.{range, all, any, part}
use Rattle.flash.specs.Geometry.{block_of}
use Rattle.split.specs.OneToOne.{is_one_to_one}
use Rattle.split.specs.Split.{source_block, dest_block, set_of, is_split}
use Rattle.split.specs.inner.Mask.{bit_at, lowest_zero, WithBit}
use Rattle.split.specs.inner.Rows.{Accepted, ByDestination, Entered, Bits, has_each, rows_have_each}
use Rattle.flash.proofs.Bools.{bool_eq, and_left, and_right, and_both}
use Rattle.flash.proofs.Searches.{all-at, all_of, any_of, any-find}
use Rattle.flash.proofs.Ranges.{all_in, all-is}
use Rattle.flash.proofs.Parts.{part-fits, length_part, part_at}
use Rattle.flash.proofs.Comparisons.{eq-cases}
use Rattle.split.proofs.MaskLaws.{bit-lt, or-bit, ones_below, lowest-above}
use Rattle.split.proofs.Pigeon.{once, inside}
use Rattle.split.proofs.OneToOneLaws.{one-to-one-of, entry_lt, entry-same, entry-onto}
use Rattle.split.proofs.SplitLaws.{PageOf, Proper, same_place, set-lt, page-from, page-to, split-of}

pub bits-more : (bytes : List ℕ) (start k mask after bit : ℕ) → Bits bytes start k mask → start ≤ k → bit ≡ get_or bytes k 0 % 64
    → WithBit mask bit after
    → Bits bytes start (k + 1) after
bits-more bytes start k mask after bit B low is w = record {
  marked = λ j a h. ⊎_elim
      (λ (q : j ≡ k). rw (q, ← is) w.now)
      (λ (q : j ≢ k). kept (get_or bytes j 0 % 64) (B.marked j a (omega arith)))
      (eq-cases j k);
  only = λ x e. ⊎_elim
      (λ (q : x ≡ bit). (k, low, omega arith, sym (q ∙ is)))
      (λ (q : x ≢ bit). (let r = B.only x (sym (w.same x q) ∙ e) in (r.0, r.1, omega (arith, r.2), r.3)))
      (eq-cases x bit);
}
  where
    kept : (x : ℕ) → bit_at mask x ≡ 1 → bit_at after x ≡ 1
    kept x e = ⊎_elim (λ (q : x ≡ bit). rw q w.now) (λ (q : x ≢ bit). w.same x q ∙ e) (eq-cases x bit)

-- a bit set in one of two masks is set in both together
pub with-one : (one two after bit : ℕ) → WithBit one bit after → WithBit (bit_or one two) bit (bit_or after two)
with-one one two after bit w = record {
  now = or-bit after two bit ∙ rw w.now (omega (arith, bit-lt two bit));
  same = λ other ne. rw (or-bit after two other, or-bit one two other, w.same other ne);
}

pub with_two : (one two after bit : ℕ) → WithBit two bit after → WithBit (bit_or one two) bit (bit_or one after)
with_two one two after bit w = record {
  now = or-bit one after bit ∙ rw w.now (omega (arith, bit-lt one bit));
  same = λ other ne. rw (or-bit one after other, or-bit one two other, w.same other ne);
}

-- the bits of a part by itself are those of its place
pub bits-of-part : (m i : ℕ) (bytes : List ℕ) (mask : ℕ) → i * m + m ≤ length bytes → Bits (part m i bytes) 0 (length (part m i bytes)) mask
    → Bits bytes (i * m) (i * m + m) mask
bits-of-part m i bytes mask room B = record {
  marked = λ k a h.
      let j : k - i * m < m = omega arith in
      let back : i * m + (k - i * m) ≡ k = omega arith in
      let at = part_at m i bytes (k - i * m) 0 j ∙ ap (λ (t : ℕ). get_or bytes t 0) back in
      rw at at (B.marked (k - i * m) (omega arith) (omega (arith, long)));
  only = λ x e.
      let r = B.only x e in
      let j : r.0 < m = omega (arith, r.2, long) in
      (i * m + r.0, omega arith, omega (arith, j), rw (← part_at m i bytes r.0 0 j) r.3);
}
  where
    long : length (part m i bytes) ≡ m
    long = length_part m i bytes room

-- an element of a chunk
pub chunk-at : (n count : ℕ) (xs : List ℕ) (k j : ℕ) (d : List ℕ) → k < count → j < n → get_or (get_or (first_chunks n count xs) k d) j 0 ≡ get_or xs (k * n + j) 0
chunk-at n zero xs k j d h l = absurd (omega arith)
chunk-at n (suc count) xs zero j d h l = get_or-take n xs j 0 l ∙ ap (λ (t : ℕ). get_or xs t 0) (omega arith)
chunk-at n (suc count) xs (suc k) j d h l =
    let place : n + (k * n + j) ≡ suc k * n + j = rw (suc-mul k n) (omega arith) in
    chunk-at n count (drop n xs) k j d (omega arith) l ∙ get_or-drop n xs (k * n + j) 0 ∙ ap (λ (t : ℕ). get_or xs t 0) place

pub bits-tell : (m i : ℕ) (bytes : List ℕ) (mask : ℕ) → m ≤ 64 → i * m + m ≤ length bytes → Bits bytes (i * m) (i * m + m) mask
    → leb m (lowest_zero mask) ≡ has_each m (part m i bytes)
unfolding has_each
bits-tell m i bytes mask fits room B = bool_eq _ _
    (λ e. all-is _ 0 m (λ x a l.
    let r = B.only x (ones_below mask x (omega (arith, leb-true m (lowest_zero mask) e))) in
    let j : r.0 - i * m < m = omega (arith, r.1, r.2) in
    let back : i * m + (r.0 - i * m) ≡ r.0 = omega (arith, r.1) in
    let at = part_at m i bytes (r.0 - i * m) 0 j ∙ ap (λ (t : ℕ). get_or bytes t 0) back in
    any_of (λ byte. eqb (byte % 64) x) (part m i bytes) (r.0 - i * m) 0 (omega (arith, long)) (rw at (eq-eqb _ x r.3))))
    (λ e. le-leb _ _ (lowest-above mask m fits (λ x l.
    let r = any-find (λ byte. eqb (byte % 64) x) (part m i bytes) 0
    (all_in (λ number. any (λ byte. eqb (byte % 64) number) (part m i bytes)) 0 m e x (omega arith) (omega arith)) in
    let j : r.0 < m = omega (arith, long, r.1) in
    let at = part_at m i bytes r.0 0 j in
    rw (← eqb-true (get_or (part m i bytes) r.0 0 % 64) x r.2, at) (B.marked (i * m + r.0) (omega arith) (omega arith)))))
  where
    long : length (part m i bytes) ≡ m
    long = length_part m i bytes room

-- ---- rows
pub no_rows : (m : ℕ) (bytes : List ℕ) → rows_have_each 0 m bytes ≡ true
unfolding rows_have_each all range
no_rows m bytes = refl

pub row_more : (m i : ℕ) (bytes : List ℕ) (each : Bool) (mask lowest : ℕ) → m ≤ 64 → i * m + m ≤ length bytes → each ≡ rows_have_each i m bytes
    → Bits bytes (i * m) (i * m + m) mask → lowest ≡ lowest_zero mask → (each && leb m lowest) ≡ rows_have_each (i + 1) m bytes
unfolding rows_have_each
row_more m i bytes each mask lowest fits room e B is =
    rw (e, is, bits-tell m i bytes mask fits room B) (bool_eq _ _
    (λ t. all-is row 0 (i + 1) (λ j a h. below_more (λ j. row j ≡ true) i
    (λ j l. all_in row 0 i (and_left _ _ t) j (omega arith) (omega arith)) (and_right (all row (range 0 i)) _ t) j (omega arith)))
    (λ t. and_both _ _ (all-is row 0 i (λ j a h. all_in row 0 (i + 1) t j a (omega arith))) (all_in row 0 (i + 1) t i (omega arith) (omega arith))))
  where
    row : ℕ → Bool
    row j = has_each m (part m j bytes)

pub record Each (n m : ℕ) (bytes : List ℕ) : Type 0 where
  pub small : (t : ℕ) → t < n * m → get_or bytes t 0 < m
  pub has : (i x : ℕ) → i < n → x < m → (j : ℕ) × (j < m) × (get_or bytes (i * m + j) 0 ≡ x)

module _ (n m : ℕ) (bytes : List ℕ) (some : 1 ≤ m) (room : n * m ≤ length bytes) where
  row-length : (i : ℕ) → i < n → length (part m i bytes) ≡ m
  row-length i h = length_part m i bytes (omega (arith, part-fits i n m h))

  -- where a byte lies
  pub place_of : (t : ℕ) → t < n * m → (t / m < n) × (t % m < m) × (t / m * m + t % m ≡ t)
  place_of t h = ((div-lt_iff_lt-mul some).1 h, mod-lt t some, div-add-mod' t m)

  -- m bytes that meet m sets are no others
  pub rows-each : ((t : ℕ) → t < n * m → get_or bytes t 0 < 64) → rows_have_each n m bytes ≡ true → Each n m bytes
  unfolding rows_have_each has_each
  rows-each low e = record {
    small = λ t h.
        let p = place_of t h in
        rw p.2 at (inside m (λ j. get_or bytes (t / m * m + j) 0) (λ x l. found (t / m) x p.0 l) (t % m) p.1);
    has = found;
  }
    where
      found : (i x : ℕ) → i < n → x < m → (j : ℕ) × (j < m) × (get_or bytes (i * m + j) 0 ≡ x)
      found i x h l =
          let z = row-length i h in
          let f = part-fits i n m h in
          let row = all_in (λ i. has_each m (part m i bytes)) 0 n e i (omega arith) (omega arith) in
          let r = any-find (λ byte. eqb (byte % 64) x) (part m i bytes) 0
          (all_in (λ number. any (λ byte. eqb (byte % 64) number) (part m i bytes)) 0 m row x (omega arith) (omega arith)) in
          let j : r.0 < m = omega (arith, r.1) in
          let at = part_at m i bytes r.0 0 j in
          let is = eqb-true (get_or (part m i bytes) r.0 0 % 64) x r.2 in
          (r.0, j, omega (arith, low (i * m + r.0) (omega arith)))

  pub each_rows : m ≤ 64 → Each n m bytes → rows_have_each n m bytes ≡ true
  unfolding rows_have_each has_each
  each_rows fits E = all-is _ 0 n (λ i a h.
      let l : i < n = omega arith in
      let z = row-length i l in
      all-is _ 0 m (λ x b c.
      let r = E.has i x l (omega arith) in
      let at = part_at m i bytes r.0 0 r.1 ∙ r.2 in
      any_of (λ byte. eqb (byte % 64) x) (part m i bytes) r.0 0 (omega (arith, r.1)) (rw at (eq-eqb _ x (mod-eq_of_lt (omega arith))))))

-- ---- one end: `place` tells the place of each page there, and the bytes have each page's set at its place
module _ (n m : ℕ) (sets bytes : List ℕ) (some : 1 ≤ m) (room : n * m ≤ length bytes) (place : ℕ → ℕ)
    (inside : (k : ℕ) → k < n * m → place k < n * m) (told : (k : ℕ) → k < n * m → get_or bytes (place k) 0 ≡ set_of sets k) where
  -- m bytes that have m numbers have each once
  each-proper : Each n m bytes → ((x y : ℕ) → x < n * m → y < n * m → place x ≡ place y → x ≡ y) → Proper (n * m) sets (λ k. block_of m (place k))
  each-proper E one x y h l b s =
      let p = place_of n m bytes some room (place x) (inside x h) in
      let q = place_of n m bytes some room (place y) (inside y l) in
      let d : place y / m ≡ place x / m = omega arith in
      let row : place x / m * m + place y % m ≡ place y = ap (λ (b : ℕ). b * m + place y % m) (sym d) ∙ q.2 in
      one x y h l (same_place m (place x) (place y) b (once m (λ j. get_or bytes (place x / m * m + j) 0)
      (λ c g. E.has (place x / m) c p.0 g) (place x % m) (place y % m) p.1 q.1
      (ap (λ (t : ℕ). get_or bytes t 0) p.2 ∙ told x h ∙ s ∙ sym (told y l) ∙ ap (λ (t : ℕ). get_or bytes t 0) (sym row))))

  proper-each : ((k : ℕ) → k < n * m → set_of sets k < m) → ((t : ℕ) → t < n * m → (k : ℕ) × (k < n * m) × (place k ≡ t))
      → ((set block : ℕ) → set < m → 1 ≤ block → block ≤ n → (k : ℕ) × PageOf (n * m) sets (λ k. block_of m (place k)) set block k) → Each n m bytes
  proper-each small onto page = record {
    small = λ t h. let r = onto t h in rw (← r.2, told r.0 r.1) (small r.0 r.1);
    has = λ i x h l.
        let r = page x (i + 1) l (omega arith) (omega arith) in
        let k = r.0 in
        let p = place_of n m bytes some room (place k) (inside k r.1.inside) in
        let d : place k / m ≡ i = omega (arith, r.1.at_block) in
        let row : i * m + place k % m ≡ place k = ap (λ (b : ℕ). b * m + place k % m) (sym d) ∙ p.2 in
        (place k % m, p.1, ap (λ (t : ℕ). get_or bytes t 0) row ∙ told k r.1.inside ∙ r.1.in-set);
  }

-- ---- both ends
module _ (n m : ℕ) (list sets table : List ℕ) (A : Accepted n m list) (len : length sets ≡ n * m) (room : n * m ≤ length table)
    (T : ByDestination list sets table) where
  small_of : ((k : ℕ) → k < n * m → set_of sets k < 64) → (k : ℕ) → k < n * m → get_or table (get_or list k 0) 0 ≡ set_of sets k
  unfolding set_of
  small_of small k h = T k (omega (arith, A.listed)) ∙ omega (arith, small k h)

  entry-inside : (k : ℕ) → k < n * m → get_or list k 0 < n * m
  entry-inside k h = entry_lt (n * m) list A.one-to-one k (omega (arith, A.listed))

  pub rows_split : (rows_have_each n m sets && all (λ set. ltb set 64) sets && rows_have_each n m table) ≡ is_split n m list sets
  unfolding set_of source_block dest_block
  rows_split = bool_eq _ _ forth back
    where
      sets-room : n * m ≤ length sets
      sets-room = omega arith

      onto-list : (t : ℕ) → t < n * m → (k : ℕ) × (k < n * m) × (get_or list k 0 ≡ t)
      onto-list = entry-onto (n * m) list A.one-to-one A.listed

      forth : (rows_have_each n m sets && all (λ set. ltb set 64) sets && rows_have_each n m table) ≡ true → is_split n m list sets ≡ true
      forth e =
          let both = and_left (rows_have_each n m sets && all (λ set. ltb set 64) sets) _ e in
          let low : (t : ℕ) → t < n * m → get_or sets t 0 < 64 = λ t h.
          ltb-true _ 64 (all-at (λ set. ltb set 64) sets t 0 (and_right (rows_have_each n m sets) _ both) (omega arith)) in
          let low-too : (t : ℕ) → t < n * m → get_or table t 0 < 64 = λ t h.
          (let k = onto-list t h in rw (← k.2, small_of low k.0 k.1) (low k.0 k.1)) in
          let S = rows-each n m sets A.some-pages sets-room low (and_left (rows_have_each n m sets) _ both) in
          let D = rows-each n m table A.some-pages room low-too (and_right (rows_have_each n m sets && all (λ set. ltb set 64) sets) _ e) in
          split-of n m list sets A.listed A.one-to-one len S.small
          (each-proper n m sets sets A.some-pages sets-room (λ k. k) (λ k h. h) (λ k h. refl) S (λ x y h l q. q))
          (each-proper n m sets table A.some-pages room (λ k. get_or list k 0) entry-inside (small_of low) D
          (λ x y h l q. entry-same (n * m) list A.one-to-one x y (omega (arith, A.listed)) (omega (arith, A.listed)) q))

      back : is_split n m list sets ≡ true → (rows_have_each n m sets && all (λ set. ltb set 64) sets && rows_have_each n m table) ≡ true
      back split =
          let small : (k : ℕ) → k < n * m → set_of sets k < m = λ k h. set-lt n m list sets split k (omega arith) in
          let low : (k : ℕ) → k < n * m → set_of sets k < 64 = λ k h. omega (arith, small k h, A.m-fits) in
          and_both _ _
          (and_both _ _
          (each_rows n m sets A.some-pages sets-room A.m-fits
          (proper-each n m sets sets A.some-pages sets-room (λ k. k) (λ k h. h) (λ k h. refl) small (λ t h. (t, h, refl))
          (page-from n m list sets split)))
          (all_of (λ set. ltb set 64) sets 0 (λ k h. lt-ltb _ 64 (low k (omega arith)))))
          (each_rows n m table A.some-pages room A.m-fits
          (proper-each n m sets table A.some-pages room (λ k. get_or list k 0) entry-inside (small_of low) small
          onto-list (page-to n m list sets split)))

-- ---- the table by destination
-- the front of a table once it is filled
pub clear-front : (front rest : List ℕ) (count v : ℕ) → front ≡ replicate count v → (x : ℕ) → x < count → get_or (front ++ rest) x 0 ≡ v
clear-front front rest count v e x h =
    rw e (List·getD-append (replicate count v) rest 0 x (rw length-replicate h) ∙ get_or-replicate count x v 0 h)

pub none-entered : (list sets table : List ℕ) (k : ℕ) → k ≡ 0 → ((x : ℕ) → x < length list → get_or table x 0 ≡ 255) → Entered list sets k table
none-entered list sets table k none clear = record {
  met = λ j h. absurd (omega arith);
  from = λ x h l. absurd (omega (arith, clear x h));
}

pub one-entered : (list sets table : List ℕ) (k p v : ℕ) → Entered list sets k table → length table ≡ 4096 → p ≡ get_or list k 0 % 4096
    → v ≡ get_or sets k 0 % 128
    → Entered list sets (k + 1) (set table p v)
one-entered list sets table k p v E long at is = record {
  met = below_more (λ j. get_or (set table p v) (get_or list j 0 % 4096) 0 < 128) k
      (λ j h. ⊎_elim
      (λ (q : get_or list j 0 % 4096 ≡ p). rw (q, same) (omega arith))
      (λ (q : get_or list j 0 % 4096 ≢ p). rw (get_or-set_other table p (get_or list j 0 % 4096) v 0 q) (E.met j h))
      (eq-cases (get_or list j 0 % 4096) p))
      (rw (← at, same) (omega arith));
  from = λ x h l. ⊎_elim
      (λ (q : x ≡ p). (k, omega arith, sym (q ∙ at), rw q same ∙ is))
      (λ (q : x ≢ p). (let o = get_or-set_other table p x v 0 q in let r = E.from x h (rw o at l) in (r.0, omega (arith, r.1), r.2, o ∙ r.3)))
      (eq-cases x p);
}
  where
    same : get_or (set table p v) p 0 ≡ v
    same = get_or-set_same table p v 0 (omega arith)

module _ (originals : ℕ) (list sets table : List ℕ) (listed : length list ≡ originals) (few : originals ≤ 4096)
    (E : Entered list sets originals table) where
  -- as many numbers as places: if each place is met, none is met twice, and no number is another
  pub one-to-one-by : originals ≤ length table
      → (all (λ number. ltb number 4096) list && all (λ byte. ltb byte 128) (take originals table)) ≡ is_one_to_one originals list
  one-to-one-by room = bool_eq _ _
      (λ e. one-to-one-of originals list
      (λ k h. inside originals (λ j. get_or list j 0) (meets e) k (omega arith))
      (λ i j h l q. once originals (λ j. get_or list j 0) (meets e) i j (omega arith) (omega arith) q))
      (λ one. and_both _ _
      (all_of (λ number. ltb number 4096) list 0 (λ k h. lt-ltb (get_or list k 0) 4096 (omega (arith, entry_lt originals list one k h))))
      (all_of (λ byte. ltb byte 128) (take originals table) 0 (λ x h.
      let l : x < originals = omega (arith, front) in
      let k = entry-onto originals list one listed x l in
      let p : get_or list k.0 0 % 4096 ≡ x = omega (arith, k.2) in
      rw (get_or-take originals table x 0 l) (lt-ltb (get_or table x 0) 128 (rw p at (E.met k.0 k.1))))))
    where
      front : length (take originals table) ≡ originals
      front = simp length-take (omega arith)

      meets : (all (λ number. ltb number 4096) list && all (λ byte. ltb byte 128) (take originals table)) ≡ true
          → (x : ℕ) → x < originals → (j : ℕ) × (j < originals) × (get_or list j 0 ≡ x)
      meets e x h =
          let b = all-at (λ byte. ltb byte 128) (take originals table) x 0 (and_right (all (λ number. ltb number 4096) list) _ e)
          (omega (arith, front)) in
          let c : ltb (get_or table x 0) 128 ≡ true = rw (← get_or-take originals table x 0 h) b in
          let r = E.from x (omega arith) (ltb-true (get_or table x 0) 128 c) in
          let s = ltb-true (get_or list r.0 0) 4096 (all-at (λ number. ltb number 4096) list r.0 0 (and_left _ _ e) (omega (arith, r.1))) in
          (r.0, r.1, omega (arith, r.2))

  pub by-destination : is_one_to_one originals list ≡ true → ByDestination list sets table
  by-destination one k h =
      let l = entry_lt originals list one k h in
      let p : get_or list k 0 % 4096 ≡ get_or list k 0 = omega arith in
      let r = E.from (get_or list k 0) (omega arith) (rw p at (E.met k (omega arith))) in
      let o = entry_lt originals list one r.0 (omega (arith, r.1)) in
      let s : r.0 ≡ k = entry-same originals list one r.0 k (omega (arith, r.1)) h (omega (arith, r.2)) in
      r.3 ∙ ap (λ (j : ℕ). get_or sets j 0 % 128) s
