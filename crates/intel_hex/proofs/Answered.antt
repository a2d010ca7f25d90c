-- Every store that the writer takes comes back from its text, and texts differ where the data bytes do.
use Rattle.flash.proofs.Kit.{◌≡◌, sym, ap, ap₂, ◌∙◌, true, false, List, ◌++◌, ℕ, arith, ltb, length, take, drop, replicate, length-drop}
use Rattle.flash.proofs.Kit.{take-append-drop, eq-eqb, not-false}
use Rattle.flash.specs.Lists.{all}
use Rattle.flash.specs.declared.sizes.Sizes.{Sizes}
use Rattle.flash.specs.Geometry.{in_range, slot_count, store_len}
use Rattle.flash.specs.Chip.{Chip, erased}
use Rattle.flash.proofs.Bools.{and_right}
use Rattle.flash.proofs.Searches.{all_append}
use Rattle.flash.proofs.Tables.{refusal-zero}
use Rattle.flash.proofs.Bounds.{in-range}
use Rattle.method.specs.State.{chip_at_rest, originals_in}
use Rattle.method.specs.Answers.{bad_chip}
use Rattle.method.proofs.basics.AcceptedCalls.{StandsAt, stands_at}
use Rattle.intel_hex.specs.Writing.{hex_text}
use Rattle.intel_hex.specs.Reading.{hex_image}
use Rattle.intel_hex.specs.Answers.{rest_sizes, spare_length, image_length, hex_write_rows, hex_write_answer, hex_read_answer}
use Rattle.intel_hex.specs.Claims.{IsImage, Written, RoundTrip, TextsDiffer}
use Rattle.intel_hex.proofs.Back.{back}
use Rattle.intel_hex.proofs.CallLaws.{write-lengths, spare-and-image, image-small, read-0}
use Rattle.intel_hex.proofs.RestLaws.{at_rest}

module _ (n m p : ℕ) where
  abbrev Z : Sizes
  Z = rest_sizes n m p

  module _ (chip : Chip) (text : List ℕ) (W : Written n m p chip text) where
    abbrev image : List ℕ
    image = originals_in Z chip

    -- what the writer looked at
    looked : (in_range Z ≡ true) × (length chip.store ≡ store_len Z) × (length chip.marks ≡ slot_count Z) × StandsAt Z chip 0
    unfolding hex_write_answer hex_write_rows
    looked =
        let one = refusal-zero _ _ (omega arith) W.taken in
        let two = refusal-zero _ _ (omega arith) one.1 in
        let five = refusal-zero _ _ (omega arith) two.1 in
        let L = write-lengths Z chip text two.0 in
        (not-false (in_range Z) one.0, L.0, L.1, stands_at Z chip 0 five.0)

    pub text-is : (hex_write_answer n m p chip text).text ≡ hex_text image
    unfolding hex_write_answer
    text-is = let t = W.taken in rw (eq-eqb _ 0 t)

    size_is : length image ≡ image_length Z
    unfolding originals_in
    size_is = length-drop (spare_length Z) chip.store ∙ omega (arith, looked.1, spare-and-image Z)

    pub is-image : IsImage image
    unfolding originals_in
    is-image = record {
      bytes =
          and_right (all (λ b. ltb b 256) (take (spare_length Z) chip.store)) (all (λ b. ltb b 256) (drop (spare_length Z) chip.store))
          (sym (all_append (λ b. ltb b 256) (take (spare_length Z) chip.store) (drop (spare_length Z) chip.store))
          ∙ rw (take-append-drop (spare_length Z) chip.store) W.bytes);
      few = omega (arith, size_is, image-small Z (in-range Z looked.0));
    }

    comes_back : (other : Chip) → length other.store ≡ length chip.store → length other.marks ≡ length chip.marks
        → hex_read_answer n m p (hex_text image) other ≡ record { number = 0; chip = chip }
    unfolding bad_chip chip_at_rest
    comes_back other e f =
        let b = back image is-image in
        let good : bad_chip Z other ≡ false =
        rw (eq-eqb (length other.store) (store_len Z) (e ∙ looked.1), eq-eqb (length other.marks) (slot_count Z) (f ∙ looked.2)) in
        let number = rw size_is at b.number_is in
        let bytes = rw size_is at b.image-is in
        let rest = at_rest Z (in-range Z looked.0) chip looked.1 looked.3 in
        sym (read-0 n m p other (hex_text image) looked.0 good number chip.store chip.marks
        (ap (λ (c : Chip). c.store) rest ∙ ap (λ (l : List ℕ). replicate (spare_length Z) erased ++ l) (sym bytes))
        (ap (λ (c : Chip). c.marks) rest))

pub round_trip : RoundTrip
unfolding RoundTrip
round_trip n m p chip other text W e f = rw (text-is n m p chip text W) (comes_back n m p chip text W other e f)

pub texts-differ : TextsDiffer
unfolding TextsDiffer
texts-differ n m p a b text U W =
    let x = (back (originals_in (rest_sizes n m p) a) (is-image n m p a text U)).image-is in
    let y = (back (originals_in (rest_sizes n m p) b) (is-image n m p b text W)).image-is in
    let s = size_is n m p a text U in
    let t = size_is n m p b text W in
    record {
      same_bytes = λ e.
          sym x ∙ ap₂ hex_image (s ∙ sym t) (sym (text-is n m p a text U) ∙ e ∙ text-is n m p b text W) ∙ y;
      same_text = λ e. text-is n m p a text U ∙ ap hex_text e ∙ sym (text-is n m p b text W);
    }
