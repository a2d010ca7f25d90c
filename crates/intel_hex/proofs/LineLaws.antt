-- A record that is judged where it stands is the line that the definitions cut out of the text, and no other is good.
use Rattle.flash.proofs.Kit.{◌≡◌, refl, sym, ap, ◌∙◌, ⊎_elim, Bool, true, false, ◌&&◌, List, [], ◌∷◌, Option, none, some, ℕ, zero, suc, ◌+◌, ◌-◌, ◌*◌}
use Rattle.flash.proofs.Kit.{◌%◌, ◌≤◌, ◌<◌, arith, eqb, length, get_or, take, drop, length-drop, get_or-drop, get_or-take, drop-drop, take-take}
use Rattle.flash.proofs.Kit.{length-take-le, eqb-true, List·getD-eq-default, subst}
use Rattle.flash.specs.Lists.{all, total}
use Rattle.flash.proofs.Bools.{and_left, and_right, bool_cases, never_both}
use Rattle.flash.proofs.Comparisons.{eq-cases, lt-cases}
use Rattle.flash.proofs.Searches.{all-at, all_of}
use Rattle.intel_hex.specs.Records.{Record}
use Rattle.intel_hex.specs.Reading.{digit_value, is_digit, pairs, is_type, is_known, spelt, is_good, parse, parse_line, records_in}
use Rattle.intel_hex.specs.inner.Lines.{weight_from, next_from, byte_from, bytes_from, size_at, address_at, kind_at, stop_at, bytes_at, AreDigits, Good}
use Rattle.intel_hex.proofs.LineEnds.{EndIs, StopIs, line-starts, end-here, end-from, runs_to, stop-carried, stop-plain, stop-of}
use Rattle.intel_hex.proofs.LineEnds.{next-plain, next-carried, next-other, next-again}
use Rattle.intel_hex.proofs.PairLaws.{pairs-at, pairs-take, pairs-drop, drop-take, spelt-size, good-is}
use Rattle.intel_hex.proofs.WeightLaws.{weight-total}

pub type-upper : (kind address size : ℕ) → is_type kind address size ≡ true → kind ≡ 4 → size ≡ 2
unfolding is_type
type-upper kind address size e k = eqb-true size 2 (and_right (eqb address 0) (eqb size 2) (rw k at e))

-- ---- the parts of a test of a line
module _ (line : List ℕ) (g : is_good line ≡ true) where
  abbrev digits : List ℕ
  digits = drop 1 line

  abbrev t1 : Bool
  t1 = eqb (get_or line 0 0) 58

  abbrev t2 : Bool
  t2 = eqb (length digits) (10 + 2 * get_or (pairs digits) 0 0)

  abbrev t3 : Bool
  t3 = all is_digit digits

  abbrev t4 : Bool
  t4 = eqb (total (pairs digits) % 256) 0

  good-four : (t1 && t2 && t3 && t4) ≡ true
  unfolding is_good
  good-four = and_left (t1 && t2 && t3 && t4) (is_known (spelt digits)) g

  good-three : (t1 && t2 && t3) ≡ true
  good-three = and_left (t1 && t2 && t3) t4 good-four

  good-colon : get_or line 0 0 ≡ 58
  good-colon = eqb-true (get_or line 0 0) 58 (and_left t1 t2 (and_left (t1 && t2) t3 good-three))

  good-size : length digits ≡ 10 + 2 * get_or (pairs digits) 0 0
  good-size = eqb-true (length digits) (10 + 2 * get_or (pairs digits) 0 0) (and_right t1 t2 (and_left (t1 && t2) t3 good-three))

  good-digits : t3 ≡ true
  good-digits = and_right (t1 && t2) t3 good-three

  good-sum : total (pairs digits) % 256 ≡ 0
  good-sum = eqb-true (total (pairs digits) % 256) 0 (and_right (t1 && t2 && t3) t4 good-four)

  good-type : is_known (spelt digits) ≡ true
  unfolding is_good
  good-type = and_right (t1 && t2 && t3 && t4) (is_known (spelt digits)) g

-- ---- a line whose digits end at a position, as part of the text
module _ (text : List ℕ) (at size stop : ℕ) (room : stop ≡ at + 11 + 2 * size) (inside : stop < length text) where
  abbrev line : List ℕ
  line = take (stop - at) (drop at text)

  abbrev all-pairs : List ℕ
  all-pairs = pairs (drop (at + 1) text)

  line-length : length line ≡ 11 + 2 * size
  line-length =
      let n = length-drop at text in
      let e : stop - at ≡ 11 + 2 * size = omega arith in
      length-take-le (stop - at) (drop at text) (omega arith) ∙ e

  digits-length : length (drop 1 line) ≡ 10 + 2 * size
  digits-length = omega (arith, length-drop 1 line, line-length)

  code_is : (i : ℕ) → i < 11 + 2 * size → get_or line i 0 ≡ get_or text (at + i) 0
  code_is i h = get_or-take (stop - at) (drop at text) i 0 (omega arith) ∙ get_or-drop at text i 0

  colon-is : get_or line 0 0 ≡ get_or text at 0
  colon-is =
      let e : at + 0 ≡ at = omega arith in
      code_is 0 (omega arith) ∙ rw e

  digit-is : (i : ℕ) → i < 10 + 2 * size → get_or (drop 1 line) i 0 ≡ get_or text (at + 1 + i) 0
  digit-is i h =
      let e : at + (1 + i) ≡ at + 1 + i = omega arith in
      get_or-drop 1 line i 0 ∙ code_is (1 + i) (omega arith) ∙ rw e

  all_digits : AreDigits text (at + 1) (10 + 2 * size) → all is_digit (drop 1 line) ≡ true
  all_digits D =
      all_of is_digit (drop 1 line) 0 (λ i h.
      let l : i < 10 + 2 * size = omega (arith, digits-length) in
      ap is_digit (digit-is i l) ∙ D i l)

  each-digit : all is_digit (drop 1 line) ≡ true → AreDigits text (at + 1) (10 + 2 * size)
  each-digit e i h = ap is_digit (sym (digit-is i h)) ∙ all-at is_digit (drop 1 line) i 0 e (omega (arith, digits-length))

  pairs-are : pairs (drop 1 line) ≡ take (5 + size) all-pairs
  pairs-are =
      let e : stop - at ≡ 1 + 2 * (5 + size) = omega arith in
      ap (λ (k : ℕ). pairs (drop 1 (take k (drop at text)))) e
      ∙ rw (drop-take 1 (2 * (5 + size)) (drop at text), drop-drop 1 at text) (pairs-take (5 + size) (drop (at + 1) text))

  byte-is : (i at_i : ℕ) → i < 5 → at_i ≡ at + 1 + 2 * i → get_or (pairs (drop 1 line)) i 0 ≡ byte_from text at_i
  unfolding byte_from
  byte-is i at_i h e =
      ap (λ (l : List ℕ). get_or l i 0) pairs-are ∙ get_or-take (5 + size) all-pairs i 0 (omega arith) ∙ pairs-at text (at + 1) i (omega arith) ∙ rw e refl

  size_is : get_or (pairs (drop 1 line)) 0 0 ≡ size_at text at
  size_is = byte-is 0 (at + 1) (omega arith) (omega arith)

  kind-is : get_or (pairs (drop 1 line)) 3 0 ≡ kind_at text at
  kind-is = byte-is 3 (at + 7) (omega arith) (omega arith)

  address_is : get_or (pairs (drop 1 line)) 1 0 * 256 + get_or (pairs (drop 1 line)) 2 0 ≡ address_at text at
  address_is = omega (arith, byte-is 1 (at + 3) (omega arith) (omega arith), byte-is 2 (at + 3 + 2) (omega arith) (omega arith))

  bytes-are : take size (drop 4 (pairs (drop 1 line))) ≡ bytes_at text at size
  unfolding bytes_from
  bytes-are =
      let e : 5 + size ≡ 4 + (1 + size) = omega arith in
      let f : at + 1 + 2 * 4 ≡ at + 9 = omega arith in
      ap (λ (l : List ℕ). take size (drop 4 l)) (pairs-are ∙ ap (λ (k : ℕ). take k all-pairs) e)
      ∙ rw (drop-take 4 (1 + size) all-pairs)
      (take-take size (1 + size) (drop 4 all-pairs) (omega arith) ∙ rw (pairs-drop 4 (drop (at + 1) text), drop-drop (2 * 4) (at + 1) text, f))

  total-is : AreDigits text (at + 1) (10 + 2 * size) → total (pairs (drop 1 line)) ≡ weight_from text (at + 1) (5 + size)
  total-is D = ap total pairs-are ∙ sym (weight-total text (at + 1) (5 + size) (λ i h. D i (omega arith)) (omega arith))

-- ---- from the definitions' line to the record where it stands
module _ (text : List ℕ) (at end stop : ℕ) (E : EndIs text at end) (inside : end < length text) (S : StopIs text at end stop) (g : is_good (take (stop - at) (drop at text)) ≡ true) where
  abbrev whole : List ℕ
  whole = take (stop - at) (drop at text)

  stop-room : stop ≡ at + 11 + 2 * get_or (pairs (drop 1 whole)) 0 0
  stop-room =
      let n = length-drop at text in
      let a = length-drop 1 whole in
      let t = length-take-le (stop - at) (drop at text) (omega (arith, S.high)) in
      omega (arith, good-size whole g, S.low)

  stop-inside : stop < length text
  stop-inside = omega (arith, S.high)

  stop_is : stop ≡ stop_at text at
  stop_is = omega (arith, stop-room, size_is text at (get_or (pairs (drop 1 whole)) 0 0) stop stop-room stop-inside)

  stop-ends : next_from text stop ≡ 0 → ⊥
  stop-ends z =
      ⊎_elim
      (λ (e : stop ≡ end). absurd (omega (arith, next-plain text stop (ap (λ (x : ℕ). get_or text x 0) e ∙ E.feed inside))))
      (λ (e : (stop + 1 ≡ end) × (get_or text stop 0 ≡ 13)).
      absurd (omega (arith, next-carried text stop e.1 (ap (λ (x : ℕ). get_or text x 0) e.0 ∙ E.feed inside))))
      S.last

  stands : Good text at
  unfolding spelt
  stands =
      let size : ℕ = size_at text at in
      let D = each-digit text at size stop stop_is stop-inside (good-digits whole g) in
      let n : length (take (get_or (pairs (drop 1 whole)) 0 0) (drop 4 (pairs (drop 1 whole)))) ≡ size =
      spelt-size whole (good-size whole g) ∙ size_is text at size stop stop_is stop-inside in
      record {
        colon = sym (colon-is text at size stop stop_is stop-inside) ∙ good-colon whole g;
        inside = omega (arith, stop_is, stop-inside);
        ends = λ z. stop-ends (ap (next_from text) stop_is ∙ z);
        digits = D;
        sums = ap (λ (x : ℕ). x % 256) (sym (total-is text at size stop stop_is stop-inside D)) ∙ good-sum whole g;
        known = rw (kind-is text at size stop stop_is stop-inside, address_is text at size stop stop_is stop-inside, n) at (good-type whole g);
      }

-- what is no such record is malformed
pub bad-record : {text : List ℕ} {at : ℕ} → at < length text → (Good text at → ⊥) → (rest : List (Option Record)) × (records_in (drop at text) ≡ none ∷ rest)
unfolding records_in parse_line parse
bad-record {text} {at} h f =
    let found = end-from text at (length text - at) at (omega arith) (omega arith) (line-starts text at) in
    let end : ℕ = found.0 in
    let E : EndIs text at end = found.1 in
    ⊎_elim
    (λ (inside : end < length text).
    let cut = stop-of text at end E.low E.high in
    let S : StopIs text at end cut.0 = cut.1 in
    ⊎_elim
    (λ (g : is_good (take (cut.0 - at) (drop at text)) ≡ true). absurd (f (stands text at end cut.0 E inside S g)))
    (λ (g : is_good (take (cut.0 - at) (drop at text)) ≡ false). (records_in (drop (end + 1) text), rw (E.found inside, ← S.is, g)))
    (bool_cases (is_good (take (cut.0 - at) (drop at text)))))
    (λ (over : length text ≤ end). ([], rw (E.missed (omega (arith, E.high)) h)))
    (lt-cases end (length text))

-- ---- from the record where it stands to the definitions' line
pub record GoodLine (text : List ℕ) (at kind address size next : ℕ) : Type 0 where
  pub is : records_in (drop at text) ≡ some (record { kind = kind; address = address; bytes = bytes_at text at size }) ∷ records_in (drop next text)
  pub inside : at + 11 + 2 * size < next
  pub ends : next ≤ length text

module _ (text : List ℕ) (at : ℕ) (G : Good text at) where
  abbrev size : ℕ
  size = size_at text at

  abbrev stop : ℕ
  stop = stop_at text at

  ten-none : is_digit 10 ≡ false
  unfolding is_digit digit_value
  ten-none = refl

  thirteen-none : is_digit 13 ≡ false
  unfolding is_digit digit_value
  thirteen-none = refl

  before-stop : (j : ℕ) → j < 11 + 2 * size → get_or text (at + j) 0 ≡ 10 → ⊥
  before-stop zero h e =
      let z : at + 0 ≡ at = omega arith in
      omega (arith, ap (λ (x : ℕ). get_or text x 0) z, G.colon)
  before-stop (suc j) h e =
      let z : at + suc j ≡ at + 1 + j = omega arith in
      never_both (ap is_digit (sym (rw z at e)) ∙ G.digits j (omega arith)) ten-none

  last-digit : get_or text (stop - 1) 0 ≡ 13 → ⊥
  last-digit e =
      let z : stop - 1 ≡ at + 1 + (9 + 2 * size) = omega arith in
      never_both (ap is_digit (sym (rw z at e)) ∙ G.digits (9 + 2 * size) (omega arith)) thirteen-none

  good-test : is_good (take (stop - at) (drop at text)) ≡ true
  good-test =
      let whole : List ℕ = take (stop - at) (drop at text) in
      let s = size_is text at size stop refl G.inside in
      good-is whole (colon-is text at size stop refl G.inside ∙ G.colon)
      (digits-length text at size stop refl G.inside ∙ rw s refl)
      (all_digits text at size stop refl G.inside G.digits)
      (ap (λ (x : ℕ). x % 256) (total-is text at size stop refl G.inside G.digits) ∙ G.sums)
      ∙ rw (kind-is text at size stop refl G.inside, address_is text at size stop refl G.inside, s) G.known

  line_of : (end : ℕ) → EndIs text at end → end < length text → StopIs text at end stop → next_from text stop ≡ end + 1
      → GoodLine text at (kind_at text at) (address_at text at) size (next_from text stop)
  unfolding records_in parse_line parse spelt
  line_of end E h S n =
      let whole : List ℕ = take (stop - at) (drop at text) in
      let s = size_is text at size stop refl G.inside in
      let b : take (get_or (pairs (drop 1 whole)) 0 0) (drop 4 (pairs (drop 1 whole))) ≡ bytes_at text at size = rw s (bytes-are text at size stop refl G.inside) in
      record {
        is = rw (n, E.found h, ← S.is, good-test, kind-is text at size stop refl G.inside, address_is text at size stop refl G.inside, b);
        inside = omega (arith, S.high);
        ends = omega arith;
      }

  pub good-line : GoodLine text at (kind_at text at) (address_at text at) size (next_from text stop)
  good-line =
      let i = G.inside in
      let k : at + (11 + 2 * size) ≡ stop = omega arith in
      let k' : at + (12 + 2 * size) ≡ stop + 1 = omega arith in
      ⊎_elim
      (λ (e : get_or text stop 0 ≡ 10).
      line_of stop
      (end-here text at stop (omega arith) i e (rw k at (runs_to text at (11 + 2 * size) (omega arith) before-stop)))
      i (stop-plain text at stop (omega arith) (omega arith) (omega arith) last-digit) (next-plain text stop e))
      (λ (f : get_or text stop 0 ≡ 10 → ⊥).
      ⊎_elim
      (λ (e : get_or text stop 0 ≡ 13).
      ⊎_elim
      (λ (d : get_or text (stop + 1) 0 ≡ 10).
      let l : stop + 1 < length text = inside-by (stop + 1) d in
      let runs : (j : ℕ) → j < 12 + 2 * size → get_or text (at + j) 0 ≡ 10 → ⊥ = λ j h q.
      ⊎_elim
      (λ (m : j < 11 + 2 * size). before-stop j m q)
      (λ (m : 11 + 2 * size ≤ j).
      let z : at + j ≡ stop = omega arith in
      f (rw z at q))
      (lt-cases j (11 + 2 * size)) in
      line_of (stop + 1)
      (end-here text at (stop + 1) (omega arith) l d (rw k' at (runs_to text at (12 + 2 * size) (omega arith) runs)))
      l (carried l e) (next-carried text stop e d ∙ omega arith))
      (λ (g : get_or text (stop + 1) 0 ≡ 10 → ⊥). absurd (G.ends (next-again text stop f g)))
      (eq-cases (get_or text (stop + 1) 0) 10))
      (λ (g : get_or text stop 0 ≡ 13 → ⊥). absurd (G.ends (next-other text stop f g)))
      (eq-cases (get_or text stop 0) 13))
      (eq-cases (get_or text stop 0) 10)
    where
      inside-by : (x : ℕ) → get_or text x 0 ≡ 10 → x < length text
      inside-by x d =
          ⊎_elim
          (λ (l : x < length text). l)
          (λ (l : length text ≤ x). absurd (omega (arith, List·getD-eq-default text 0 l)))
          (lt-cases x (length text))

      carried : stop + 1 < length text → get_or text stop 0 ≡ 13 → StopIs text at (stop + 1) stop
      carried l e =
          let z : stop + 1 - 1 ≡ stop = omega arith in
          subst (λ (r : ℕ). StopIs text at (stop + 1) r) z (stop-carried text at (stop + 1) (omega arith) (omega arith) (omega arith) (rw z e))
