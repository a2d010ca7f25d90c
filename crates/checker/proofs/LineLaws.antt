-- The lines at a position, by the fields that are read there.
use Rattle.flash.proofs.Kit.{◌≡◌, refl, sym, ◌∙◌, ⊎_elim, true, false, ◌||◌, and-true, and-false, or-true, or-false, List, [], ◌∷◌, ℕ, suc, ◌+◌, ◌*◌, ◌^◌, ◌≤◌, ◌<◌, min, arith}
use Rattle.flash.proofs.Kit.{add-one, eqb, leb, ltb, length, get_or, drop, drop-drop, bit_xor, xor_zero_l, xor_zero_r, le-leb, lt-leb, lt-ltb, le-ltb, leb-true, ltb-true}
use Rattle.std.proofs.Common.{Some, None}
use Rattle.flash.specs.Lists.{all}
use Rattle.flash.proofs.Bools.{or_cases}
use Rattle.flash.proofs.Xor.{xor_assoc}
use Rattle.checker.specs.declared.number.Number.{Number}
use Rattle.checker.specs.declared.line.Originals.{Originals}
use Rattle.checker.specs.Lines.{fields, behind_fields, is_rising, are_originals, formed, read_end, read_erase, read_write}
use Rattle.checker.specs.Pages.{mask_of}
use Rattle.checker.specs.inner.Told.{cap, field_at, gathering, Gathered, wrote, erased, ended, unread, said, said_of}
use Rattle.checker.proofs.TextLaws.{first-at, field-value, field_next, fields-more, behind_more, fields-none, behind-none}

-- a field that was read at a position
pub record Taken (text : List ℕ) (at : ℕ) (r : Number) : Type 0 where
  pub number : ℕ
  pub value-is : r.value ≡ min number cap
  pub ahead : at < r.next
  pub within : r.next ≤ length text
  pub fields-are : (most : ℕ) → fields (suc most) (drop at text) ≡ number ∷ fields most (drop r.next text)
  pub behind-is : (most : ℕ) → behind_fields (suc most) (drop at text) ≡ behind_fields most (drop r.next text)

-- no field stands there
pub record Missed (text : List ℕ) (at : ℕ) : Type 0 where
  pub fields-are : (most : ℕ) → fields most (drop at text) ≡ []
  pub behind-is : (most : ℕ) → behind_fields most (drop at text) ≡ drop at text

module _ (text : List ℕ) (at : ℕ) where
  pub taken : (r : Number) → Some r ≡ field_at text at → Taken text at r
  taken r e = record {
    number = _;
    value-is = field-value text at r e;
    ahead = (field_next text at r e).0;
    within = (field_next text at r e).1;
    fields-are = fields-more text at r e;
    behind-is = behind_more text at r e;
  }

  pub missed : None ≡ field_at text at → Missed text at
  missed e = record { fields-are = fields-none text at e; behind-is = behind-none text at e }

-- a value below the cap is the number
pub exact : {text : List ℕ} {at : ℕ} {r : Number} (T : Taken text at r) → r.value < cap → T.number ≡ r.value
exact T h = omega (arith, T.value-is)

-- ---- the end line
module _ (text : List ℕ) (at : ℕ) where
  pub end_none : Missed text at → unread ≡ said_of (read_end (drop at text))
  unfolding read_end formed said
  end_none F = rw (F.fields-are 2)

  module _ (w : Number) (W : Taken text at w) where
    pub end-one : Missed text w.next → unread ≡ said_of (read_end (drop at text))
    unfolding read_end formed said
    end-one F = rw (W.fields-are 1, F.fields-are 1)

    module _ (e : Number) (E : Taken text w.next e) where
      pub end-unended : eqb (get_or text e.next 0) 10 ≡ false → unread ≡ said_of (read_end (drop at text))
      unfolding read_end formed said fields behind_fields
      end-unended f = rw (W.fields-are 1, E.fields-are 0, W.behind-is 1, E.behind-is 0, first-at text e.next, f)

      pub end-formed : eqb (get_or text e.next 0) 10 ≡ true
          → ended w.value e.value (drop (e.next + 1) text) ≡ said_of (read_end (drop at text))
      unfolding read_end formed said fields behind_fields
      end-formed f =
          rw (W.fields-are 1, E.fields-are 0, W.behind-is 1, E.behind-is 0, first-at text e.next, f, drop-drop 1 e.next text, W.value-is, E.value-is)

-- ---- the line of an erase
module _ (n : ℕ) (small : n ≤ 64) (text : List ℕ) (at : ℕ) where
  pub erase-none : Missed text at → unread ≡ said_of (read_erase n (drop at text))
  unfolding read_erase formed said
  erase-none F = rw (F.fields-are 1)

  module _ (b : Number) (B : Taken text at b) where
    pub erase-outside : n < b.value → unread ≡ said_of (read_erase n (drop at text))
    unfolding read_erase formed said fields
    erase-outside h =
        let far : leb B.number n ≡ false = lt-leb B.number n (omega (arith, B.value-is)) in
        rw (B.fields-are 0, far)

    module _ (h : b.value ≤ n) where
      near : leb B.number n ≡ true
      near = le-leb B.number n (omega (arith, exact B (omega arith)))

      pub erase-unended : eqb (get_or text b.next 0) 10 ≡ false → unread ≡ said_of (read_erase n (drop at text))
      unfolding read_erase formed said fields behind_fields
      erase-unended f = rw (B.fields-are 0, near, B.behind-is 0, first-at text b.next, f)

      pub erase-formed : eqb (get_or text b.next 0) 10 ≡ true → erased b.value (drop (b.next + 1) text) ≡ said_of (read_erase n (drop at text))
      unfolding read_erase formed said fields behind_fields
      erase-formed f = rw (B.fields-are 0, near, B.behind-is 0, first-at text b.next, f, drop-drop 1 b.next text, exact B (omega arith))

-- ---- the originals of a write
module _ (text : List ℕ) (count : ℕ) (small : count ≤ 64) (left least mask next : ℕ) (low : least ≤ 64) where
  module _ (r : Number) (R : Taken text next r) where
    pub gather-bad : (ltb r.value least || leb count r.value) ≡ true → (gathering count (suc left) least mask (drop next text)).good ≡ false
    unfolding gathering is_rising all
    gather-bad e = ⊎_elim
        (λ (h : ltb r.value least ≡ true).
        let under : leb least R.number ≡ false = lt-leb least R.number (omega (arith, ltb-true r.value least h, R.value-is)) in
        rw (R.fields-are left, under, and-false))
        (λ (h : leb count r.value ≡ true).
        let over : ltb R.number count ≡ false = le-ltb R.number count (omega (arith, leb-true count r.value h, R.value-is)) in
        rw (R.fields-are left, over, and-false))
        (or_cases (ltb r.value least) (leb count r.value) e)

    pub gather-more : least ≤ r.value → r.value < count
        → gathering count (suc left) least mask (drop next text)
        ≡ gathering count left (r.value + 1) (bit_xor mask (2 ^ r.value)) (drop r.next text)
    unfolding gathering is_rising all mask_of
    gather-more h k =
        let v = exact R (omega arith) in
        let over : leb least r.value ≡ true = le-leb least r.value h in
        let under : ltb r.value count ≡ true = lt-ltb r.value count k in
        let some : (ltb 0 least || leb 1 (length (r.value ∷ fields left (drop r.next text)))) ≡ true =
        rw (le-leb 1 (length (r.value ∷ fields left (drop r.next text))) (omega arith), or-true) in
        let now : ltb 0 (r.value + 1) ≡ true = lt-ltb 0 (r.value + 1) (omega arith) in
        rw (R.fields-are left, R.behind-is left, v, some, over, under, now, add-one r.value, xor_assoc mask (2 ^ r.value) (mask_of (fields left (drop r.next text))))

  pub gather-end : fields left (drop next text) ≡ [] → behind_fields left (drop next text) ≡ drop next text
      → gathering count left least mask (drop next text) ≡ record { good = ltb 0 least; mask = mask; rest = drop next text }
  unfolding gathering is_rising all mask_of
  gather-end e f = rw (e, f, xor_zero_r, or-false, and-true, and-true)

-- ---- the line of a write
module _ (n m : ℕ) (small : n * m ≤ 64) (few : n ≤ 64) (low : m ≤ 64) (text : List ℕ) (at : ℕ) where
  most : 2 + n * m ≡ suc (suc (n * m))
  most = omega arith

  no-originals : are_originals (n * m) [] ≡ false
  unfolding are_originals
  no-originals = refl

  pub write-none : Missed text at → unread ≡ said_of (read_write n m (drop at text))
  unfolding read_write formed said
  write-none F = rw (F.fields-are (2 + n * m), no-originals, and-false)

  module _ (b : Number) (B : Taken text at b) where
    pub write-outside : n < b.value → unread ≡ said_of (read_write n m (drop at text))
    unfolding read_write formed said
    write-outside h =
        let far : leb B.number n ≡ false = lt-leb B.number n (omega (arith, B.value-is)) in
        rw (most, B.fields-are (suc (n * m)), far)

    pub write-one : Missed text b.next → unread ≡ said_of (read_write n m (drop at text))
    unfolding read_write formed said
    write-one F = rw (most, B.fields-are (suc (n * m)), F.fields-are (suc (n * m)), no-originals, and-false)

    module _ (p : Number) (P : Taken text b.next p) where
      pub write-beyond : m ≤ p.value → unread ≡ said_of (read_write n m (drop at text))
      unfolding read_write formed said
      write-beyond h =
          let far : ltb P.number m ≡ false = le-ltb P.number m (omega (arith, P.value-is)) in
          rw (most, B.fields-are (suc (n * m)), P.fields-are (n * m), far, and-false)

      -- the test of the originals is what was gathered
      same : (gathering (n * m) (n * m) 0 0 (drop p.next text)).good ≡ are_originals (n * m) (fields (n * m) (drop p.next text))
      unfolding gathering are_originals
      same = refl

      pub write-wrong : Gathered text p.next (n * m) None → unread ≡ said_of (read_write n m (drop at text))
      unfolding read_write formed said
      write-wrong f =
          let bad : are_originals (n * m) (fields (n * m) (drop p.next text)) ≡ false = sym same ∙ f in
          rw (most, B.fields-are (suc (n * m)), P.fields-are (n * m), bad, and-false)

      module _ (g : Originals) (G : Gathered text p.next (n * m) (Some g)) where
        module _ (h : b.value ≤ n) (k : p.value < m) where
          good : are_originals (n * m) (fields (n * m) (drop p.next text)) ≡ true
          good = sym same ∙ G.good-is

          low-block : leb B.number n ≡ true
          low-block = le-leb B.number n (omega (arith, exact B (omega arith)))

          low-page : ltb P.number m ≡ true
          low-page = lt-ltb P.number m (omega (arith, exact P (omega arith)))

          rest_of : behind_fields (2 + n * m) (drop at text) ≡ drop g.next text
          unfolding gathering
          rest_of = rw (most, B.behind-is (suc (n * m)), P.behind-is (n * m)) (sym (G.rest-is))

          pub write-unended : eqb (get_or text g.next 0) 10 ≡ false → unread ≡ said_of (read_write n m (drop at text))
          unfolding read_write formed said
          write-unended f = rw (rest_of, first-at text g.next, f, and-false)

          pub write-formed : eqb (get_or text g.next 0) 10 ≡ true
              → wrote b.value p.value g.mask (drop (g.next + 1) text) ≡ said_of (read_write n m (drop at text))
          unfolding read_write formed said gathering
          write-formed f =
              rw (
                rest_of,
                first-at text g.next,
                f,
                drop-drop 1 g.next text,
                most,
                B.fields-are (suc (n * m)),
                P.fields-are (n * m),
                low-block,
                low-page,
                good,
                exact B (omega arith),
                exact P (omega arith),
                G.mask_is,
                xor_zero_l,
              )
