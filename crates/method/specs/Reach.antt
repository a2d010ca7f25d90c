-- How far one changed page reaches: the slots whose pages an original is in at each place of a move, and what is claimed of two moves whose
-- stores at rest differ in that original alone.
use Rattle.std.specs.Prelude.{Bool, true, false, cond, not, ◌≡◌, List, [], ◌∷◌, ℕ, ◌-◌, ◌/◌, ◌%◌, ◌≤◌, ◌<◌, eqb, length, get_or}
use Rattle.flash.specs.Lists.{range, any, filter, total, is_same}
use Rattle.flash.specs.declared.sizes.Sizes.{Sizes}
use Rattle.flash.specs.Geometry.{slot, block_of, slot_of, original_count, slot_count, store_len, work_len}
use Rattle.flash.specs.Chip.{Chip, page_at}
use Rattle.flash.specs.declared.wear.Wear.{Wear}
use Rattle.split.specs.Drops.{is_dropped}
use Rattle.split.specs.Split.{set_of}
use Rattle.split.specs.Request.{Request}
use Rattle.method.specs.Move.{Move, move}
use Rattle.method.specs.Cycle.{dest, is_top}
use Rattle.method.specs.Place.{Held, blank, plain, code, final, held_at}
use Rattle.method.specs.Worn.{wears_out}
use Rattle.method.specs.Answers.{RunAnswer, steps_taken, run_answer}
use Rattle.method.specs.Runs.{Start}

module _ (M : Move) where
  open M.sizes use {m}

  -- Rule 4.8: the slots that original k is in where they hold such pages: its own; of c(v), v being the block that it comes from, and of c(u), u
  -- being the block where it goes, unless u is a top; and the one where the list sends it.
  unfoldable pub lies : Held → (k : ℕ) → List ℕ
  lies blank k = []
  lies plain k = slot_of m k ∷ []
  lies code k =
      let set = set_of M.sets k in
      let v = block_of m k in
      let u = dest M set v in
      slot m (v - 1) set ∷ cond (is_top M set u) [] (slot m (u - 1) set ∷ [])
  lies final k = slot_of m (get_or M.list k 0) ∷ []

  -- what the slot holds at a place is a page that original k is in
  unfoldable pub is_reached : (place k t : ℕ) → Bool
  is_reached place k t = any (eqb t) (lies (held_at M.sizes place (t / m) (t % m)) k)

  -- rule 4.8: the slots that original k reaches at a place, ascending
  unfoldable pub reached : (place k : ℕ) → List ℕ
  reached place k = filter (is_reached place k) (range 0 (slot_count M.sizes))

-- the slots, those of the spare included, whose pages are not the same in two stores
unfoldable pub slots_apart : Sizes → (one other : Chip) → List ℕ
slots_apart Z one other = filter (λ t. not (is_same (page_at Z.p one t) (page_at Z.p other t))) (range 0 (slot_count Z))

-- the byte at an offset of a slot's page
unfoldable pub byte_at : Sizes → Chip → (t offset : ℕ) → ℕ
byte_at Z chip t offset = get_or (page_at Z.p chip t) offset 0

-- two stores at rest that differ in a single page, that of an original which is not dropped
pub record Changed (R : Request) (one other : Chip) (k : ℕ) : Type 0 where
  pub one-starts : Start R one
  pub other-starts : Start R other
  pub inside : k < original_count R.sizes
  pub kept : is_dropped R.list k ≡ false
  pub single : slots_apart R.sizes one other ≡ slot_of R.sizes.m k ∷ []

-- what else the runs of a move are given, of which two moves may share nothing
pub record Lends : Type 0 where
  pub work : List ℕ
  pub wear : Wear
  pub limit : ℕ
  pub budgets : List ℕ

-- lent parts of their lengths, and a module that number 12 does not keep from the move
pub record Lasting (Z : Sizes) (L : Lends) : Type 0 where
  pub work-length : length L.work ≡ work_len Z
  pub lasts : wears_out Z.n L.wear L.limit ≡ false

-- Runs one after another, each with its budget and from where the one before it stopped, the last with budget 0: what that one leaves and returns.
unfoldable pub runs_of : Request → Chip → (work : List ℕ) → Wear → (place : ℕ) → (budgets : List ℕ) → (limit : ℕ) → RunAnswer
runs_of R chip work wear place [] limit = run_answer R chip work wear place 0 limit
runs_of R chip work wear place (budget ∷ budgets) limit =
    let one = run_answer R chip work wear place budget limit in
    runs_of R one.chip one.work one.wear one.place budgets limit

-- an uncut move from rest, as far as its budgets lead
abbrev pub moved : Request → Chip → Lends → RunAnswer
moved R chip L = runs_of R chip L.work L.wear 0 L.budgets L.limit

-- what two moves have made of stores that differed in original k alone
pub record Reach (R : Request) (one other : Chip) (k : ℕ) (a b : RunAnswer) : Type 0 where
  pub carried-out : (a.number ≡ 0) × (b.number ≡ 0)
  pub marks : a.chip.marks ≡ b.chip.marks
  pub lengths : (length a.chip.store ≡ store_len R.sizes) × (length b.chip.store ≡ store_len R.sizes)
  -- the pages that differ are those that k reaches, and there are at most three
  pub slots : slots_apart R.sizes a.chip b.chip ≡ reached (move R) a.place k
  pub few : length (slots_apart R.sizes a.chip b.chip) ≤ 3
  -- in these, bytes are equal exactly at the offsets where they are equal in the two originals
  pub offsets : (t offset : ℕ) → t < slot_count R.sizes → is_reached (move R) a.place k t ≡ true
      → eqb (byte_at R.sizes a.chip t offset) (byte_at R.sizes b.chip t offset)
      ≡ eqb (byte_at R.sizes one (slot_of R.sizes.m k) offset) (byte_at R.sizes other (slot_of R.sizes.m k) offset)
  -- at the finish it is the destination page and no other
  pub at-finish : a.finished ≡ 1 → slots_apart R.sizes a.chip b.chip ≡ slot_of R.sizes.m (get_or (move R).list k 0) ∷ []

-- The place that a move from rest has reached is the number of its steps, so that two moves at one place have taken equally many.
pub record ReachOfOne : Type 0 where
  pub places : (R : Request) (chip : Chip) → Start R chip → (L : Lends) → Lasting R.sizes L
      → (moved R chip L).place ≡ steps_taken R.sizes 0 (total L.budgets)
  pub apart : (R : Request) (one other : Chip) (k : ℕ) → Changed R one other k
      → (L L' : Lends) → Lasting R.sizes L → Lasting R.sizes L' → (moved R one L).place ≡ (moved R other L').place
      → Reach R one other k (moved R one L) (moved R other L')
