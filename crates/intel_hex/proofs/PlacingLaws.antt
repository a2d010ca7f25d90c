-- What the last pass keeps from one record to the next: the image has what was given.
use Rattle.flash.proofs.Kit.{◌≡◌, refl, sym, ap, ◌∙◌, List, [], ◌∷◌, ◌++◌, map, Option, some, ℕ, zero, suc, ◌+◌, ◌≤◌, ◌<◌, arith, length, take, drop}
use Rattle.flash.proofs.Kit.{replicate, length-replicate}
use Rattle.flash.specs.Refusals.{number_in}
use Rattle.intel_hex.specs.Reading.{records_in, going, byte_of, bytes_of}
use Rattle.intel_hex.specs.declared.survey.Found.{Found}
use Rattle.intel_hex.specs.inner.Lines.{bytes_at, put_from}
use Rattle.intel_hex.specs.inner.Passes.{judge_all_in, state_of, put_at, judged_by, nowhere, half_at, offset_at, count_at, next_at, Steps, Walk}
use Rattle.intel_hex.proofs.GivenLaws.{length-put}
use Rattle.intel_hex.proofs.WalkLaws.{nothing, begins, walk_step, walk-on, walk_end}
use Rattle.intel_hex.proofs.Back.{map-append, map-some}

map-take : (n : ℕ) (l : List (Option ℕ)) → map byte_of (take n l) ≡ take n (map byte_of l)
map-take zero l = refl
map-take (suc n) [] = refl
map-take (suc n) (x ∷ l) = ap (λ (t : List ℕ). byte_of x ∷ t) (map-take n l)

map-drop : (n : ℕ) (l : List (Option ℕ)) → map byte_of (drop n l) ≡ drop n (map byte_of l)
map-drop zero l = refl
map-drop (suc n) [] = refl
map-drop (suc n) (x ∷ l) = map-drop n l

map-nothing : (n : ℕ) → replicate n 255 ≡ map byte_of (replicate n nothing)
unfolding byte_of
map-nothing zero = refl
map-nothing (suc n) = ap (λ (t : List ℕ). 255 ∷ t) (map-nothing n)

pub record Placing (text : List ℕ) (found : Found) (image : List ℕ) (at upper : ℕ) : Type 0 where
  pub given : List (Option ℕ)
  pub same : judged_by nowhere found.size text ≡ judge_all_in nowhere found.size (going (state_of upper given)) (records_in (drop at text))
  pub image-is : image ≡ map byte_of given
  pub size_is : length given ≡ found.size
  pub walk : Walk text found at upper
  pub low : upper ≤ 65535

pub placing-start : (text : List ℕ) (found : Found) → Walk text found 0 0 → Placing text found (replicate found.size 255) 0 0
placing-start text found W = record {
  given = replicate found.size nothing;
  same = begins nowhere found.size text;
  image-is = map-nothing found.size;
  size_is = length-replicate found.size nothing;
  walk = W;
  low = omega arith;
}

module _ {text : List ℕ} {found : Found} {image : List ℕ} {at upper : ℕ} (L : Placing text found image at upper) where
  pub placing-stop : found.end ≤ at → number_in found.verdict ≡ 0 → image ≡ bytes_of (judged_by nowhere found.size text)
  placing-stop h z =
      let S = walk_end L.walk h in
      L.image-is ∙ sym (ap bytes_of L.same ∙ S.image-is z nowhere L.given)

  module _ (h : at < found.end) where
    pub placing-step : Steps text at upper found.size
    placing-step = walk_step L.walk h

    pub placing-on : Placing text found (put_from text (at + 9) (count_at text at) image (offset_at text at upper)) (next_at text at) (half_at text at upper)
    placing-on =
        let G = placing-step.goes in
        let count : ℕ = count_at text at in
        let offset : ℕ = offset_at text at upper in
        let bytes : List ℕ = bytes_at text at count in
        let g : List (Option ℕ) = L.given in
        let k = G.length-is in
        record {
          given = put_at g offset bytes;
          same = L.same ∙ G.is nowhere g;
          image-is =
              rw (L.image-is, ← map-take offset g, ← map-drop (offset + count) g, map-append byte_of (take offset g) (map some bytes ++ drop (offset + length bytes) g), map-append byte_of (map some bytes) (drop (offset + length bytes) g), map-some bytes, k);
          size_is = length-put g offset bytes (omega (arith, G.fits, L.size_is)) ∙ L.size_is;
          walk = walk-on L.walk h;
          low = G.half-low;
        }
