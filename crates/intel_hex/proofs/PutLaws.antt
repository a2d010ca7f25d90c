-- Bytes that digits spell, put into an image part by part.
use Rattle.flash.proofs.Kit.{◌≡◌, sym, ap, ◌∙◌, List, ◌++◌, append_assoc, ℕ, ◌+◌, ◌-◌, ◌*◌, ◌≤◌, ◌<◌, arith, length, get_or, take, drop, length-drop}
use Rattle.flash.proofs.Kit.{get_or-take, length-take-le, take-add, take_all, take-take, drop-drop}
use lib.Seq.{paste, take-paste, drop-paste}
use Rattle.intel_hex.specs.Reading.{digit_value, pairs}
use Rattle.intel_hex.specs.inner.Lines.{bytes_from, put_from}
use Rattle.intel_hex.proofs.PairLaws.{pairs-at, pairs-drop, length_pairs, drop-take}

-- the length of a part that is lent
pub lent_length : (image : List ℕ) (offset count : ℕ) → offset + count ≤ length image → length (take (offset + count - offset) (drop offset image)) ≡ count
lent_length image offset count h =
    let d = length-drop offset image in
    let e : offset + count - offset ≡ count = omega arith in
    rw e (length-take-le count (drop offset image) (omega arith))

module _ (text : List ℕ) (from : ℕ) where
  pub length-bytes : (count : ℕ) → from + 2 * count ≤ length text → length (bytes_from text from count) ≡ count
  unfolding bytes_from
  length-bytes count h =
      let n = length_pairs (drop from text) in
      let d = length-drop from text in
      length-take-le count (pairs (drop from text)) (omega arith)

  pub bytes-at : (count i : ℕ) → from + 2 * count ≤ length text → i < count
      → get_or (bytes_from text from count) i 0 ≡ digit_value (get_or text (from + 2 * i) 0) * 16 + digit_value (get_or text (from + 2 * i + 1) 0)
  unfolding bytes_from
  bytes-at count i h l = get_or-take count (pairs (drop from text)) i 0 l ∙ pairs-at text from i (omega arith)

  bytes-part : (count i part : ℕ) → i + part ≤ count → bytes_from text (from + 2 * i) part ≡ take part (drop i (bytes_from text from count))
  unfolding bytes_from
  bytes-part count i part h =
      let all : List ℕ = pairs (drop from text) in
      let e : count ≡ i + (count - i) = omega arith in
      let rest : drop i (take count all) ≡ take (count - i) (drop i all) = ap (λ (k : ℕ). drop i (take k all)) e ∙ drop-take i (count - i) all in
      sym (ap (take part) rest ∙ take-take part (count - i) (drop i all) (omega arith) ∙ rw (pairs-drop i (drop from text), drop-drop (2 * i) from text))

  -- a part that was lent comes back
  pub put_back : (count : ℕ) (image back : List ℕ) (offset end : ℕ) → end ≡ offset + count → back ≡ bytes_from text from count
      → take offset image ++ (back ++ drop (end - offset) (drop offset image)) ≡ put_from text from count image offset
  put_back count image back offset end e f =
      let n : end - offset ≡ count = omega arith in
      rw (f, n, drop-drop count offset image)

  -- one more part behind those that are put
  pub put_on : (count : ℕ) (image : List ℕ) (offset i part : ℕ) → from + 2 * count ≤ length text → offset + count ≤ length image → i + part ≤ count
      → put_from text (from + 2 * i) part (paste image offset (bytes_from text from count) i) (offset + i) ≡ paste image offset (bytes_from text from count) (i + part)
  put_on count image offset i part t h l =
      let bytes : List ℕ = bytes_from text from count in
      let n = length-bytes count t in
      let e : offset + i + part ≡ offset + (i + part) = omega arith in
      let head = take-paste image offset bytes i (omega arith) (omega arith) in
      let tail : drop (offset + i + part) (paste image offset bytes i) ≡ drop (offset + (i + part)) image =
      sym (drop-drop part (offset + i) (paste image offset bytes i)) ∙ ap (drop part) (drop-paste image offset bytes i (omega arith) (omega arith))
      ∙ drop-drop part (offset + i) image ∙ ap (λ (k : ℕ). drop k image) e in
      rw (head, tail, bytes-part count i part l)
      (sym (append_assoc (take offset image ++ take i bytes) (take part (drop i bytes)) (drop (offset + (i + part)) image))
      ∙ ap (λ (b : List ℕ). b ++ drop (offset + (i + part)) image) (append_assoc (take offset image) (take i bytes) (take part (drop i bytes)) ∙ ap (λ (b : List ℕ). take offset image ++ b) (sym (take-add i part bytes))))

  -- the last part
  pub put_last : (count : ℕ) (image : List ℕ) (offset i : ℕ) → from + 2 * count ≤ length text → offset + count ≤ length image → i ≤ count
      → put_from text (from + 2 * i) (count - i) (paste image offset (bytes_from text from count) i) (offset + i) ≡ put_from text from count image offset
  put_last count image offset i t h l =
      let n = length-bytes count t in
      let e : i + (count - i) ≡ count = omega arith in
      put_on count image offset i (count - i) t h (omega arith)
      ∙ rw (e, take_all count (bytes_from text from count) (omega arith)) (append_assoc (take offset image) (bytes_from text from count) (drop (offset + count) image))
