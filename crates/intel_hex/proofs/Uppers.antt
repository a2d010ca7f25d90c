-- A record of type 04 stands exactly where the upper half changes, and addresses rise without a gap.
use Rattle.flash.proofs.Kit.{◌≡◌, refl, ap, ◌∙◌, ⊎_elim, true, false, List, [], ◌∷◌, ◌++◌, append_assoc, ℕ, zero, suc, ◌+◌, ◌-◌, ◌*◌, ◌/◌, ◌%◌, ◌≤◌}
use Rattle.flash.proofs.Kit.{arith, eqb, length, eq-eqb, eqb-true}
use Rattle.flash.specs.Lists.{range, concat_map, part}
use Rattle.flash.proofs.Bools.{bool_cases}
use Rattle.intel_hex.specs.Records.{Record}
use Rattle.intel_hex.specs.Writing.{data_record, upper_record, end_record, upper_of, upper_at, records_at, records_from, record_count, records_of}
use Rattle.intel_hex.specs.Claims.{go_on_at, UpperHalves}
use Rattle.intel_hex.proofs.Lengths.{length_part}

-- the upper half of record i stands behind its record of type 04
upper-then : (i : ℕ) (records : List Record) → go_on_at (upper_of (i - 1)) (i * 16) (upper_at i ++ records) ≡ go_on_at (upper_of i) (i * 16) records
unfolding upper_at go_on_at upper_record
upper-then i records =
    ⊎_elim
    (λ (e : eqb (upper_of i) (upper_of (i - 1)) ≡ true). rw (e, ← eqb-true (upper_of i) (upper_of (i - 1)) e))
    (λ (e : eqb (upper_of i) (upper_of (i - 1)) ≡ false).
    let half : upper_of i / 256 * 256 + upper_of i % 256 ≡ upper_of i = omega arith in
    rw (e, half, e, eq-eqb (upper_of i) (upper_of i) refl))
    (bool_cases (eqb (upper_of i) (upper_of (i - 1))))

data-then : (image : List ℕ) (i : ℕ) (records : List Record)
    → go_on_at (upper_of i) (i * 16) (data_record image i ∷ records) ≡ go_on_at (upper_of i) (i * 16 + length (part 16 i image)) records
unfolding go_on_at data_record
data-then image i records = rw (eq-eqb (upper_of i) (upper_of i) refl, eq-eqb (i * 16 % 65536) (i * 16 % 65536) refl)

end-taken : (upper next : ℕ) → go_on_at upper next (end_record ∷ []) ≡ true
unfolding go_on_at end_record
end-taken upper next = refl

module _ (image : List ℕ) where
  go_on : (k i next : ℕ) → i + k ≡ record_count (length image) → (1 ≤ k → next ≡ i * 16)
      → go_on_at (upper_of (i - 1)) next (records_from image i k ++ (end_record ∷ [])) ≡ true
  unfolding records_from concat_map range records_at
  go_on zero i next e f = end-taken (upper_of (i - 1)) next
  go_on (suc k) i next e f =
      let rest : List Record = records_from image (suc i) k ++ (end_record ∷ []) in
      let parts : records_from image i (suc k) ++ (end_record ∷ []) ≡ upper_at i ++ (data_record image i ∷ rest) =
      append_assoc (upper_at i ++ (data_record image i ∷ [])) (records_from image (suc i) k) (end_record ∷ [])
      ∙ append_assoc (upper_at i) (data_record image i ∷ []) rest in
      let u : suc i - 1 ≡ i = omega arith in
      rw (f (omega arith)) (ap (go_on_at (upper_of (i - 1)) (i * 16)) parts ∙ upper-then i (data_record image i ∷ rest) ∙ data-then image i rest
      ∙ rw u at (go_on k (suc i) (i * 16 + length (part 16 i image)) (omega arith) (λ h. omega (arith, length_part i image))))

pub upper_halves : UpperHalves
unfolding UpperHalves records_of
upper_halves image = go_on image (record_count (length image)) 0 0 (omega arith) (λ h. refl)
