-- Where no block is unfinished, read's sum with the zero sum added is another sum of stored pages that gives the original.
use Rattle.flash.proofs.Kit.{◌≡◌, refl, sym, ap, ap₂, ◌∙◌, subst, ◌⊎◌, inl, inr, ⊎_elim, Bool, true, false, List, [], ◌∷◌, map, ℕ, suc, ◌≤◌, ◌<◌, arith, eqb}
use Rattle.flash.proofs.Kit.{eq-eqb, eqb-true, length, get_or, replicate, get_or-replicate, length-replicate, bit_xor, xor_zero_r, ext_get_or}
use Rattle.flash.specs.declared.sizes.Sizes.{Sizes}
use Rattle.flash.specs.Geometry.{original_count, slot_count}
use Rattle.flash.specs.PageSum.{sum}
use Rattle.flash.specs.Lists.{any}
use Rattle.flash.proofs.Bools.{never_both}
use Rattle.flash.proofs.Bounds.{slot-in-marks}
use Rattle.flash.proofs.Searches.{any-find, any_of}
use Rattle.flash.proofs.Sums.{length-sum}
use Rattle.split.specs.Split.{set_of}
use Rattle.method.specs.Move.{Move, AcceptedMove}
use Rattle.method.specs.Read.{read_slots}
use Rattle.method.specs.Rebuild.{apart, added, set_page}
use Rattle.method.proofs.basics.EachNumber.{Each, each-one}
use Rattle.method.proofs.basics.MoveShape.{Shows}
use Rattle.method.proofs.cycles.SetCycles.{set-in}
use Rattle.method.proofs.places.PagesHeld.{edge}
use Rattle.method.proofs.places.PlaceShape.{letter_above, which-pass}
use Rattle.method.proofs.walks.StoredPages.{Reads}
use Rattle.method.proofs.walks.ReadsOriginals.{reads}
use Rattle.method.proofs.rebuild.Lists.{has, either, has-apart, mix, sum-byte, mix-apart}
use Rattle.method.proofs.rebuild.BlockFilled.{JustFilled, marks_begun}
use Rattle.method.proofs.rebuild.Values.{page_by, shows-by}
use Rattle.method.proofs.rebuild.ZeroSum.{L, last_slot, last_originals, rest, zero, zero_is, zero-distinct, zero-bytes, reads-begun}

-- ---- what holds of each slot that a list has
abbrev pub EachHas : (Q : ℕ → Type 0) → List ℕ → Type 0
EachHas Q ts = (t : ℕ) → has t ts ≡ true → Q t

pub each-has : (Q : ℕ → Type 0) (ts : List ℕ) → Each Q ts → EachHas Q ts
each-has Q ts each t e = (let r = any-find (eqb t) ts 0 e in subst Q (sym (eqb-true t (get_or ts r.0 0) r.2)) (each r.0 r.1))

pub has-each : (Q : ℕ → Type 0) (ts : List ℕ) → EachHas Q ts → Each Q ts
has-each Q ts each i h = each (get_or ts i 0) (any_of (eqb (get_or ts i 0)) ts i 0 h (eq-eqb (get_or ts i 0) (get_or ts i 0) refl))

either-cases : (a b : Bool) → either a b ≡ true → (a ≡ true) ⊎ (b ≡ true)
unfolding either
either-cases true b e = inl refl
either-cases false b e = inr e

pub each-apart : (Q : ℕ → Type 0) (one other : List ℕ) → EachHas Q one → EachHas Q other → EachHas Q (apart one other)
each-apart Q one other f g t e = ⊎_elim (f t) (g t) (either-cases (has t one) (has t other) (sym (has-apart t one other) ∙ e))

pub each-added : (Q : ℕ → Type 0) (f : ℕ → List ℕ) (xs : List ℕ) → ((j : ℕ) → j < length xs → EachHas Q (f (get_or xs j 0))) → EachHas Q (added (map f xs))
unfolding added any
each-added Q f [] each t e = absurd (never_both e refl)
each-added Q f (x ∷ xs) each t e =
    each-apart Q (f x) (added (map f xs)) (each 0 (omega arith)) (each-added Q f xs (λ j h. each (suc j) (omega arith))) t e

pub some_of : (g : ℕ → ℕ) (ts : List ℕ) → mix g ts ≡ 1 → 1 ≤ length ts
unfolding mix
some_of g [] e = absurd (omega arith)
some_of g (t ∷ ts) e = omega arith

module _ (M : Move) (A : AcceptedMove M) (marks : List ℕ) (place : ℕ) (J : JustFilled M.sizes marks place) where
  open M.sizes use {n, m, p as P}

  abbrev Z : Sizes
  Z = M.sizes

  -- the slots of a zero sum are slots of the store
  module _ (set : ℕ) (set-ok : set < m) where
    pub rest-inside : EachHas (λ t. t < slot_count Z) (rest M A marks place J set set-ok)
    rest-inside =
        each-added (λ t. t < slot_count Z) (read_slots M (marks_begun M A marks place J)) (last_originals M A marks place J set set-ok)
        (λ j h. each-has (λ t. t < slot_count Z) _ (λ i l. ((reads-begun M A marks place J set set-ok _ ((L M A marks place J set set-ok).known j h)).sited i l).inside))

    pub zero-inside : EachHas (λ t. t < slot_count Z) (zero M A marks place J set set-ok)
    zero-inside =
        let block_in : J.block ≤ n = J.begun.shape.inside in
        subst (EachHas (λ t. t < slot_count Z)) (sym (zero_is M A marks place J set set-ok))
        (each-apart (λ t. t < slot_count Z) (last_slot M A marks place J set set-ok ∷ []) (rest M A marks place J set set-ok)
        (each-has (λ t. t < slot_count Z) (last_slot M A marks place J set set-ok ∷ [])
        (each-one (λ t. t < slot_count Z) (last_slot M A marks place J set set-ok)
        (slot-in-marks Z J.block (set_page M J.pass J.block set) block_in (L M A marks place J set set-ok).page-in)))
        rest-inside)

  module _ (k : ℕ) (k-in : k < original_count Z) where
    abbrev pub own : List ℕ
    own = read_slots M marks k

    abbrev pub zero_of : List ℕ
    zero_of = zero M A marks place J (set_of M.sets k) (set-in M A k k-in)

    pub reads-own : Reads M marks n own k
    reads-own = reads M A marks (edge J.pass J.block) (edge J.pass J.block) k k-in (letter_above J.pass) (which-pass J.pass) J.full

    module _ (value page : ℕ → List ℕ) (H : Shows M marks value page) where
      pub other-bytes : (i : ℕ) → mix (λ t. get_or (page t) i 0) (apart own zero_of) ≡ get_or (value k) i 0
      other-bytes i =
          mix-apart (λ t. get_or (page t) i 0) own zero_of reads-own.distinct (zero-distinct M A marks place J (set_of M.sets k) (set-in M A k k-in))
          ∙ ap₂ bit_xor (sym (sum-byte page i own) ∙ ap (λ (p : List ℕ). get_or p i 0) (reads-own.original value page H)) (zero-bytes M A marks place J (set_of M.sets k) (set-in M A k k-in) value page H i)
          ∙ xor_zero_r (get_or (value k) i 0)

    -- it is the sum of some page
    pub other-some : 1 ≤ length (apart own zero_of)
    other-some =
        let ones : ℕ → List ℕ = λ j. replicate P 1 in
        let H = shows-by M A marks ones (λ j h. length-replicate P 1) in
        some_of _ (apart own zero_of) (other-bytes ones (page_by M A marks ones) H 0 ∙ get_or-replicate P 0 1 0 A.ranges.p-low)

    pub other-inside : Each (λ t. t < slot_count Z) (apart own zero_of)
    other-inside =
        has-each (λ t. t < slot_count Z) (apart own zero_of)
        (each-apart (λ t. t < slot_count Z) own zero_of (each-has (λ t. t < slot_count Z) own (λ i l. (reads-own.sited i l).inside))
        (zero-inside (set_of M.sets k) (set-in M A k k-in)))

    pub other-original : (value page : ℕ → List ℕ) → Shows M marks value page → ((t : ℕ) → t < slot_count Z → length (page t) ≡ P) → sum page (apart own zero_of) ≡ value k
    other-original value page H size =
        ext_get_or 0 (sum page (apart own zero_of)) (value k)
        (length-sum page P (apart own zero_of) (λ i l. size _ (other-inside i l)) other-some ∙ sym (H.whole k k-in))
        (λ i h. sum-byte page i (apart own zero_of) ∙ other-bytes value page H i)
