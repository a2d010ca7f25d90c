-- With nothing dropped, the terms of a sum are the slots.
use Rattle.flash.proofs.Kit.{◌≡◌, refl, sym, ap, ap₂, ◌∙◌, fun_ext, Bool, and-false, List, [], ◌∷◌, map, ℕ}
use Rattle.flash.specs.Lists.{concat_map}
use Rattle.flash.specs.PageSum.{sum}
use Rattle.flash.specs.Chip.{Chip, page_at}
use Rattle.flash.proofs.Sums.{sum-map}
use Rattle.split.proofs.DropLaws.{undropped-each, undropped-completed}
use Rattle.method.specs.Move.{Move, move_of, Plan}
use Rattle.method.specs.Read.{Term, stored, term_page, stored_slots, term_at, read_slots, read_terms, read_page}
use Rattle.method.specs.State.{counts_as}
use Rattle.method.specs.Step.{originals_of, write_terms, written_page}
use Rattle.method.specs.NoDrops.{undropped, NoDrops}
use Rattle.method.proofs.states.PagesWritten.{sum-concat}

module _ (M : Move) where
  pub term-stored : (marks : List ℕ) (t : ℕ) → term_at (undropped M) marks t ≡ stored t
  unfolding term_at
  term-stored marks t = rw and-false

  terms-stored : (marks : List ℕ) (k : ℕ) → read_terms (undropped M) marks k ≡ map stored (read_slots M marks k)
  unfolding read_terms
  terms-stored marks k = ap (λ (f : ℕ → Term). map f (read_slots M marks k)) (fun_ext (term-stored marks))

  slots-stored : (ts : List ℕ) → stored_slots (map stored ts) ≡ ts
  unfolding stored_slots
  slots-stored [] = refl
  slots-stored (t ∷ ts) = ap (λ (us : List ℕ). t ∷ us) (slots-stored ts)

  read-stored : (chip : Chip) (k : ℕ) → read_page (undropped M) chip k ≡ sum (page_at M.sizes.p chip) (read_slots M chip.marks k)
  unfolding read_page term_page
  read-stored chip k =
      ap (sum (term_page M.sizes.p chip)) (terms-stored chip.marks k) ∙ sum-map (term_page M.sizes.p chip) stored (read_slots M chip.marks k)

  sums-stored : (chip : Chip) (ks : List ℕ)
      → sum (term_page M.sizes.p chip) (concat_map (read_terms (undropped M) chip.marks) ks) ≡ sum (page_at M.sizes.p chip) (concat_map (read_slots M chip.marks) ks)
  unfolding read_page
  sums-stored chip ks =
      sum-concat (term_page M.sizes.p chip) (read_terms (undropped M) chip.marks) ks
      ∙ ap (λ (f : ℕ → List ℕ). sum f ks) (fun_ext (read-stored chip))
      ∙ sym (sum-concat (page_at M.sizes.p chip) (read_slots M chip.marks) ks)

pub no-drops : NoDrops
unfolding written_page write_terms counts_as
no-drops = record {
  plan-is = λ R none. ap₂ {C = Plan} (λ (l : List ℕ) (f : ℕ → Bool). record { move = move_of R.sizes l R.sets; is_dropped = f })
      (undropped-completed R.list none) (fun_ext (undropped-each R.list none));
  count = λ M marks k. ap stored_slots (terms-stored M marks k) ∙ slots-stored M (read_slots M marks k);
  read = read-stored;
  written = λ M pass block page chip. sums-stored M chip (originals_of M pass block page);
  counts-as = λ M originals k. refl;
}
