-- What one record does to a pass: it decides the number, or its bytes go where the code puts them.
use Rattle.flash.proofs.Kit.{◌≡◌, refl, ap, ◌∙◌, ◌⊎◌, ⊎_elim, Bool, true, false, cond, ◌&&◌, and-false, List, [], ◌∷◌, ◌++◌, map, Option, none, some}
use Rattle.flash.proofs.Kit.{ℕ, suc, ◌+◌, ◌*◌, ◌≤◌, ◌<◌, arith, eqb, length, get_or, take, drop, length-drop, length-append, drop_of_length-le, ne_eqb}
use Rattle.flash.proofs.Kit.{lt-ltb, le-ltb}
use Rattle.flash.specs.Lists.{any}
use Rattle.flash.proofs.Bools.{bool_cases}
use Rattle.flash.proofs.Comparisons.{eq-cases, lt-cases}
use Rattle.intel_hex.specs.Records.{Record}
use Rattle.intel_hex.specs.Reading.{unended, lines_from, parse_line, records_in, State, Outcome, going, fault, is_given, is_outside, is_repeated}
use Rattle.intel_hex.specs.Reading.{give, with_upper, at_end, number_of, bytes_of}
use Rattle.intel_hex.specs.inner.Lines.{size_at, address_at, kind_at, byte_from, word_from, bytes_from, bytes_at, Good}
use Rattle.intel_hex.specs.inner.Passes.{judge_data_in, judge_record_in, judge_in, judge_all_in, state_of, put_at, offset_at, count_at, next_at, Stops, Goes, Steps}
use Rattle.intel_hex.proofs.WeightLaws.{digits-part, byte_small}
use Rattle.intel_hex.proofs.LineEnds.{unended-some}
use Rattle.intel_hex.proofs.LineLaws.{GoodLine, good-line}
use Rattle.intel_hex.proofs.HeadLaws.{two_bytes, address-digits, upper_digits, half-upper, half-data, offset-upper, offset-data, count-upper, count-data}
use Rattle.intel_hex.proofs.PutLaws.{length-bytes, bytes-at}

-- ---- a text that is not at its end has a line
lines-some : (begun text : List ℕ) → 1 ≤ length begun + length text → 1 ≤ length (lines_from begun text)
unfolding lines_from
lines-some begun [] h = rw (unended-some begun (omega arith)) (omega arith)
lines-some begun (b ∷ text) h =
    ⊎_elim
    (λ (e : eqb b 10 ≡ true). rw e (omega arith))
    (λ (e : eqb b 10 ≡ false). rw e (lines-some (begun ++ (b ∷ [])) text (omega (arith, length-append begun (b ∷ [])))))
    (bool_cases (eqb b 10))

length-map : (f : Option (List ℕ) → Option Record) (l : List (Option (List ℕ))) → length (map f l) ≡ length l
length-map f [] = refl
length-map f (x ∷ l) = ap suc (length-map f l)

records-some : (text : List ℕ) (at : ℕ) → at < length text → 1 ≤ length (records_in (drop at text))
unfolding records_in
records-some text at h =
    let n = length-drop at text in
    rw (length-map parse_line (lines_from [] (drop at text))) (lines-some [] (drop at text) (omega arith))

records-none : (text : List ℕ) (at : ℕ) → at ≡ length text → records_in (drop at text) ≡ []
unfolding records_in lines_from unended
records-none text at e = rw (drop_of_length-le text {i = at} (omega arith))

-- ---- a fault stays
pub fault-stays : (looked : ℕ → Bool) (size number : ℕ) (records : List (Option Record)) → judge_all_in looked size (fault number) records ≡ fault number
unfolding judge_all_in judge_in
fault-stays looked size number [] = refl
fault-stays looked size number (r ∷ records) = fault-stays looked size number records

after-end : (looked : ℕ → Bool) (size : ℕ) (s : State) (records : List (Option Record)) → s.ended ≡ true → 1 ≤ length records
    → judge_all_in looked size (going s) records ≡ fault 10
unfolding judge_all_in judge_in
after-end looked size s [] e h = absurd (omega arith)
after-end looked size s (r ∷ records) e h = rw e (fault-stays looked size 10 records)

-- one record is judged
judged : (looked : ℕ → Bool) (size : ℕ) (s : State) (records rest : List (Option Record)) (r : Option Record) (o : Outcome) → records ≡ r ∷ rest
    → judge_in looked size (going s) r ≡ o → judge_all_in looked size (going s) records ≡ judge_all_in looked size o rest
unfolding judge_all_in
judged looked size s records rest r o e f = ap (judge_all_in looked size (going s)) e ∙ ap (λ (x : Outcome). judge_all_in looked size x rest) f

module _ (text : List ℕ) (at upper size : ℕ) where
  pub stops-nothing : at ≡ length text → Stops text at upper size 10
  unfolding judge_all_in number_of
  stops-nothing e = record {
    number_is = λ looked given. rw (records-none text at e);
    image-is = λ z. absurd (omega arith);
  }

  pub stops-malformed : (rest : List (Option Record)) → records_in (drop at text) ≡ none ∷ rest → Stops text at upper size 8
  unfolding judge_all_in judge_in judge_record_in number_of
  stops-malformed rest e = record {
    number_is = λ looked given. rw (e, fault-stays looked size 8 rest);
    image-is = λ z. absurd (omega arith);
  }

  module _ (G : Good text at) where
    abbrev kind : ℕ
    kind = kind_at text at

    abbrev address : ℕ
    address = address_at text at

    abbrev count : ℕ
    count = size_at text at

    abbrev next : ℕ
    next = next_at text at

    abbrev r : Record
    r = record { kind = kind; address = address; bytes = bytes_at text at count }

    line : GoodLine text at kind address count next
    line = good-line text at G

    count-is : length (bytes_at text at count) ≡ count
    count-is = length-bytes text (at + 9) count (omega (arith, line.inside, line.ends))

    pub stops_end : kind ≡ 1 → next ≡ length text → Stops text at upper size 0
    unfolding judge_all_in judge_in judge_record_in at_end number_of bytes_of
    stops_end k e = record {
      number_is = λ looked given. rw (line.is, k, records-none text next e);
      image-is = λ z looked given. rw (line.is, k, records-none text next e);
    }

    pub stops-after : kind ≡ 1 → (next ≡ length text → ⊥) → Stops text at upper size 10
    unfolding judge_all_in judge_in judge_record_in at_end number_of
    stops-after k ne = record {
      number_is = λ looked given.
          rw (line.is, k, after-end looked size (record { upper = upper; given = given; ended = true }) (records_in (drop next text)) refl (records-some text next (omega (arith, line.ends))));
      image-is = λ z. absurd (omega arith);
    }

    -- ---- type 04
    module _ (k : kind ≡ 4) where
      upper_is : get_or (bytes_at text at count) 0 0 * 256 + get_or (bytes_at text at count) 1 0 ≡ word_from text (at + 9)
      unfolding byte_from
      upper_is =
          let e : at + 9 + 2 * 0 ≡ at + 9 = omega arith in
          let f : at + 9 + 2 * 1 ≡ at + 9 + 2 = omega arith in
          rw (bytes-at text (at + 9) count 0 (omega (arith, line.inside, line.ends)) (omega (arith, two_bytes text at G k)), bytes-at text (at + 9) count 1 (omega (arith, line.inside, line.ends)) (omega (arith, two_bytes text at G k)), e, f)

      upper-judged : (looked : ℕ → Bool) (given : List (Option ℕ)) → judge_in looked size (going (state_of upper given)) (some r)
          ≡ cond (looked (word_from text (at + 9)) && any is_given (take 0 (drop 0 given))) (fault 10) (going (state_of (word_from text (at + 9)) (put_at given 0 (bytes_at text at 0))))
      unfolding judge_in judge_record_in with_upper any bytes_from
      upper-judged looked given = rw (k, upper_is, and-false)

      goes-upper : Goes text at upper size (word_from text (at + 9)) 0 0 next
      goes-upper =
          let D = digits-part text (at + 9) 4 (upper_digits text at G k) in
          record {
            is = λ looked given. judged looked size (state_of upper given) (records_in (drop at text)) (records_in (drop next text)) (some r) _ line.is (upper-judged looked given);
            inside = omega (arith, line.inside);
            ends = line.ends;
            fits = omega arith;
            length-is = length-bytes text (at + 9) 0 (omega (arith, line.inside, line.ends));
            half-low = omega (arith, byte_small text (at + 9) (D (at + 9) 2 (omega arith) (omega arith)), byte_small text (at + 9 + 2) (D (at + 9 + 2) 2 (omega arith) (omega arith)));
            span-start = λ h. absurd (omega arith);
            span-end = λ h. absurd (omega arith);
          }

    -- ---- data
    module _ (not-upper : kind ≡ 4 → ⊥) where
      module _ (not_end : kind ≡ 1 → ⊥) where
        outside-judged : (looked : ℕ → Bool) (given : List (Option ℕ)) → is_outside size (state_of upper []) r ≡ true → judge_in looked size (going (state_of upper given)) (some r) ≡ fault 9
        unfolding judge_in judge_record_in judge_data_in is_outside
        outside-judged looked given o = rw (ne_eqb kind 1 not_end, ne_eqb kind 4 not-upper, o)

        data-outside : is_outside size (state_of upper []) r ≡ true → Stops text at upper size 9
        unfolding number_of
        data-outside o = record {
          number_is = λ looked given.
              rw (judged looked size (state_of upper given) (records_in (drop at text)) (records_in (drop next text)) (some r) (fault 9) line.is (outside-judged looked given o), fault-stays looked size 9 (records_in (drop next text)));
          image-is = λ z. absurd (omega arith);
        }

        over-span : 65536 < address + count → is_outside size (state_of upper []) r ≡ true
        unfolding is_outside
        over-span h = rw (count-is, lt-ltb 65536 (address + count) h)

        over-image : address + count ≤ 65536 → size < upper * 65536 + address + count → is_outside size (state_of upper []) r ≡ true
        unfolding is_outside
        over-image g h = rw (count-is, le-ltb 65536 (address + count) g, lt-ltb size (upper * 65536 + address + count) h)

        data-judged : (looked : ℕ → Bool) (given : List (Option ℕ)) → address + count ≤ 65536 → upper * 65536 + address + count ≤ size
            → judge_in looked size (going (state_of upper given)) (some r)
            ≡ cond (looked upper && any is_given (take count (drop (upper * 65536 + address) given))) (fault 10) (going (state_of upper (put_at given (upper * 65536 + address) (bytes_at text at count))))
        unfolding judge_in judge_record_in judge_data_in is_outside is_repeated give
        data-judged looked given g h = rw (ne_eqb kind 1 not_end, ne_eqb kind 4 not-upper, count-is, le-ltb 65536 (address + count) g, le-ltb size (upper * 65536 + address + count) h)

        goes-data : address + count ≤ 65536 → upper * 65536 + address + count ≤ size → upper ≤ 65535 → Goes text at upper size upper (upper * 65536 + address) count next
        goes-data g h low = record {
          is = λ looked given. judged looked size (state_of upper given) (records_in (drop at text)) (records_in (drop next text)) (some r) _ line.is (data-judged looked given g h);
          inside = line.inside;
          ends = line.ends;
          fits = h;
          length-is = count-is;
          half-low = low;
          span-start = λ _. omega arith;
          span-end = λ _. omega arith;
        }

    -- ---- both, as the code sees them: where the bytes end
    abbrev end : ℕ
    end = offset_at text at upper + count_at text at

    pub stops-outside : (kind ≡ 1 → ⊥) → (upper * 65536 + 65536 < end) ⊎ (size < end) → Stops text at upper size 9
    stops-outside not_end over =
        ⊎_elim
        (λ (k : kind ≡ 4).
        let z : end ≡ 0 = omega (arith, offset-upper text at upper k, count-upper text at k) in
        absurd (⊎_elim (λ (h : upper * 65536 + 65536 < end). omega arith) (λ (h : size < end). omega arith) over))
        (λ (k : kind ≡ 4 → ⊥).
        let e : end ≡ upper * 65536 + address + count = omega (arith, offset-data text at upper k, count-data text at k) in
        data-outside k not_end
        (⊎_elim
        (λ (h : 65536 < address + count). over-span k not_end h)
        (λ (h : address + count ≤ 65536).
        over-image k not_end h (⊎_elim (λ (q : upper * 65536 + 65536 < end). absurd (omega arith)) (λ (q : size < end). omega arith) over))
        (lt-cases 65536 (address + count))))
        (eq-cases kind 4)

    pub steps : (kind ≡ 1 → ⊥) → end ≤ upper * 65536 + 65536 → end ≤ size → upper ≤ 65535 → Steps text at upper size
    steps not_end g h low =
        ⊎_elim
        (λ (k : kind ≡ 4). record { good = G; goes = rw (half-upper text at upper k, offset-upper text at upper k, count-upper text at k) (goes-upper k) })
        (λ (k : kind ≡ 4 → ⊥).
        let e : end ≡ upper * 65536 + address + count = omega (arith, offset-data text at upper k, count-data text at k) in
        record { good = G; goes = rw (half-data text at upper k, offset-data text at upper k, count-data text at k) (goes-data k not_end (omega arith) (omega arith) low) })
        (eq-cases kind 4)

    pub offset-small : upper ≤ 65535 → offset_at text at upper ≤ 4294967295
    offset-small low =
        ⊎_elim
        (λ (k : kind ≡ 4). omega (arith, offset-upper text at upper k))
        (λ (k : kind ≡ 4 → ⊥).
        let D = digits-part text (at + 3) 4 (address-digits text at G) in
        omega (arith, offset-data text at upper k, byte_small text (at + 3) (D (at + 3) 2 (omega arith) (omega arith)), byte_small text (at + 3 + 2) (D (at + 3 + 2) 2 (omega arith) (omega arith))))
        (eq-cases kind 4)
    -- ---- the answer of a turn
