-- The walks along the rows of a set, as the slots that the code gathers, and what is to be the same of two lists of slots.
use Rattle.std.specs.Prelude.{◌≡◌, Bool, cond, ◌||◌, List, [], ◌∷◌, ℕ, zero, suc, ◌+◌, ◌-◌, ◌≤◌, eqb, leb, length, get_or, take, drop}
use Rattle.flash.specs.Geometry.{slot, block_of, number_at}
use Rattle.flash.specs.PageSum.{sum}
use Rattle.walk.specs.inner.Rows.{entry_of}

-- how many slots the array holds
abbrev pub slots_length : ℕ
slots_length = 65

-- and the one of a zero sum
abbrev pub zero_length : ℕ
zero_length = 66

-- the array starts with `slots`, it has room for `spare` more, and the rest of it is as it was
pub record StartsWith (before : List ℕ) (spare : ℕ) (slots after : List ℕ) (count : ℕ) : Type 0 where
  pub slots-are : take count after ≡ slots
  pub rest-is : drop count after ≡ drop count before
  pub few : count + spare ≤ slots_length
  pub room : length after ≡ slots_length

-- as many slots, whose pages have the same sum
pub record SumsAs (one other : List ℕ) : Type 0 where
  pub number : length one ≡ length other
  pub sums : (page : ℕ → List ℕ) → sum page one ≡ sum page other

-- A walk from block to block takes a slot at each, until one that ends it, whose last slots follow.
unfoldable pub walk_by : (next slot_at : ℕ → ℕ) → (last : ℕ → List ℕ) → (ends : ℕ → Bool) → (bound v : ℕ) → List ℕ
walk_by next slot_at last ends zero v = []
walk_by next slot_at last ends (suc bound) v = slot_at v ∷ cond (ends v) (last v) (walk_by next slot_at last ends bound (next v))

-- where c(v) of the set lies
abbrev pub coded_at : (m set v : ℕ) → ℕ
coded_at m set v = slot m (v - 1) set

-- where D(v) lies before the move, and the page number where it goes
abbrev pub plain_at : (m : ℕ) → (pages : List ℕ) → (v : ℕ) → ℕ
plain_at m pages v = slot m v (entry_of pages v)

abbrev pub sent_by : (m : ℕ) → (list pages : List ℕ) → (v : ℕ) → ℕ
sent_by m list pages v = get_or list (number_at m v (entry_of pages v)) 0

-- Back from block v: until c(stop) is taken, or before a block from `plain` on, whose plain page is the last.
abbrev pub back_by : (m set : ℕ) → (pages sources : List ℕ) → (plain stop bound v : ℕ) → List ℕ
back_by m set pages sources plain stop =
    walk_by (entry_of sources) (coded_at m set) (λ v. cond (eqb v stop) [] (plain_at m pages (entry_of sources v) ∷ []))
    (λ v. eqb v stop || leb plain (entry_of sources v))

-- On from block v: until its page goes to a block from `done` on, where it is the last, or to `stop`.
abbrev pub on_by : (m : ℕ) → (list : List ℕ) → (set : ℕ) → (pages : List ℕ) → (done stop bound v : ℕ) → List ℕ
on_by m list set pages done stop =
    let next : ℕ → ℕ = λ v. block_of m (sent_by m list pages v) in
    walk_by next (coded_at m set) (λ v. cond (leb done (next v)) ((sent_by m list pages v + m) ∷ []) [])
    (λ v. leb done (next v) || eqb (next v) stop)

-- A write in the forward pass, c(i): D(i) is plain, and the rest is D(pred(i)). Where that walk comes round to i, i is the top.
unfoldable pub forward_by : (m set : ℕ) → (pages sources : List ℕ) → (n i : ℕ) → List ℕ
forward_by m set pages sources n i =
    let own = plain_at m pages i in
    let rest = drop 1 (back_by m set pages sources i 0 n i) in
    cond (eqb (get_or (own ∷ rest) (length rest) 0) own) (own ∷ []) (own ∷ rest)

-- A write in the backward pass to block b, of the set whose page goes there: c(b) and on from there, until b comes again.
abbrev pub backward_by : (m : ℕ) → (list : List ℕ) → (set : ℕ) → (pages : List ℕ) → (n b : ℕ) → List ℕ
backward_by m list set pages n b = on_by m list set pages (b + 1) b n b
