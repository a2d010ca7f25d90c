-- For each span of 64 KiB where what is given in it ends, as long as its records rise.
use Rattle.std.specs.Prelude.{◌≡◌, cond, List, ℕ, ◌+◌, ◌≤◌, leb, get_or}
use Rattle.std.specs.declared.option.Option.{Option}
use Rattle.std.specs.declared.option.Option.TheVariants.{None, Some}

abbrev pub Tops : Type 0
Tops = List (Option ℕ)

abbrev pub top_of : (tops : Tops) → (w : ℕ) → Option ℕ
top_of tops w = get_or tops w None

-- behind a record that gives `count` bytes at `offset`
abbrev pub next_top : (top : Option ℕ) → (offset count : ℕ) → Option ℕ
next_top None offset count = None
next_top (Some top) offset count = cond (leb top offset) (Some (offset + count)) None

pub record NoteIs (tops : Tops) (half offset count : ℕ) (after : Tops) : Type 0 where
  pub none : count ≡ 0 → after ≡ tops
  pub here : 1 ≤ count → top_of after half ≡ next_top (top_of tops half) offset count
  pub other : (w : ℕ) → (w ≡ half → ⊥) → top_of after w ≡ top_of tops w
