-- The line of a step as the code's answer tells it.
use Rattle.flash.proofs.Kit.{◌≡◌, refl, sym, ap, ◌∙◌, List, [], ℕ}
use Rattle.flash.specs.declared.sizes.Sizes.{Sizes}
use Rattle.method.specs.Place.{Operation, write, erase, done}
use Rattle.listing.specs.Lines.{write_line, erase_line}
use Rattle.places.specs.declared.place.Op.{Op}
use Rattle.places.specs.declared.place.Op.TheVariants.{Write, Erase, Done}
use Rattle.places.specs.inner.Place.{op_of}
use Rattle.steplist.specs.Output.{step_line}

abbrev pub op_line : (place : ℕ) → (work : List ℕ) → Op → List ℕ
op_line place work (Write is_backward block page mark) = write_line place block page work
op_line place work (Erase block) = erase_line place block
op_line place work Done = []

line_of : (Z : Sizes) (op : Operation) (place : ℕ) (work : List ℕ) → step_line place op work ≡ op_line place work (op_of Z op)
unfolding step_line
line_of Z (write pass block page) place work = refl
line_of Z (erase block) place work = refl
line_of Z done place work = refl

-- the code answered `told` for the operation
pub line-told : (Z : Sizes) (op : Operation) (place : ℕ) (work : List ℕ) (answer told : Op) → answer ≡ op_of Z op → answer ≡ told → step_line place op work ≡ op_line place work told
line-told Z op place work answer told e f = line_of Z op place work ∙ ap (op_line place work) (sym e ∙ f)
