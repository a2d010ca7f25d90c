-- What a rebuild does for one original is what the definition says of it, by what the marks tell.
use Rattle.flash.proofs.Kit.{◌≡◌, refl, sym, ap, ap₂, ◌∙◌, subst, ◌⊎◌, inl, inr, Bool, true, false, cond, Option, none, some, List, ℕ, suc, ◌+◌, ◌-◌, ◌*◌, ◌≤◌, ◌<◌, arith, eqb}
use Rattle.flash.proofs.Kit.{length, get_or, replicate}
use Rattle.std.specs.Prelude.{None}
use Rattle.flash.specs.Lists.{any, part}
use Rattle.flash.specs.PageSum.{sum}
use Rattle.flash.specs.Chip.{Chip, page_at}
use Rattle.flash.proofs.Bounds.{slot-in-store}
use Rattle.flash.specs.declared.sizes.Sizes.{Sizes}
use Rattle.flash.specs.Geometry.{original_count, slot_count, store_len}
use Rattle.split.specs.Split.{set_of}
use Rattle.method.specs.Move.{Move, AcceptedMove}
use Rattle.method.specs.Place.{Pass, forward, backward, pass_at, filling, marks_of}
use Rattle.method.specs.Read.{read_slots, filler_page}
use Rattle.method.specs.Mend.{Reading, seen}
use Rattle.method.specs.Rebuild.{apart, zero_slots, rebuilt_from, rebuilt_page, rebuilt_flag}
use Rattle.method.specs.inner.Shape.{Shape}
use Rattle.method.proofs.places.StepsAtPlaces.{stands_at}
use Rattle.method.proofs.places.PlaceShape.{letter_above}
use Rattle.method.proofs.recovery.MarksSeen.{slots-seen}
use Rattle.method.proofs.basics.EachNumber.{Each}
use Rattle.method.proofs.walks.ReadsOriginals.{reads}
use Rattle.method.proofs.rebuild.BlockFilled.{JustFilled, just-filled}
use Rattle.method.proofs.rebuild.OtherSum.{zero_of, other-some, other-inside}
use Rattle.recovery.specs.MarksRead.{place_in_turn}
use Rattle.walk.specs.inner.Moments.{Tells, moment_in}
use Rattle.walk.proofs.MomentLaws.{tells}
use Rattle.mover.specs.declared.rebuild.Coded.{Coded}
use Rattle.mover.specs.declared.rebuild.Told.{Told}
use Rattle.mover.specs.inner.Rebuild.{zero_here, IsCoded, Sees}

-- ---- the page and the flag, from the slots
module _ (P : ℕ) (chip : Chip) (from : Option (List ℕ)) (page : List ℕ) where
  pub sums-to : (slots : List ℕ) → from ≡ some slots → page ≡ sum (λ t. part P t chip.store) slots → (1 ≡ rebuilt_flag from) × (page ≡ rebuilt_page P chip from)
  unfolding rebuilt_flag rebuilt_page page_at
  sums-to slots e f = rw e (refl, f)

  pub gives_up : (flag size : ℕ) → from ≡ none → flag ≡ 0 → page ≡ replicate size 255 → size ≡ P → (flag ≡ rebuilt_flag from) × (page ≡ rebuilt_page P chip from)
  unfolding rebuilt_flag rebuilt_page filler_page
  gives_up flag size e f g h = rw e (f, g ∙ ap (λ (x : ℕ). replicate x 255) h)

-- slots of the store
pub in-store : (Z : Sizes) (ts slots store : List ℕ) → slots ≡ ts → length store ≡ store_len Z
    → (1 ≤ length ts) × Each (λ t. t < slot_count Z) ts → (1 ≤ length slots) × ((j : ℕ) → j < length slots → get_or slots j 0 * Z.p + Z.p ≤ length store)
in-store Z ts slots store e size fits = rw e (fits.0, λ j h. rw size (slot-in-store Z _ (fits.1 j h)))

which-letter : (is_backward : Bool) → (◌≡◌ {A = ℕ} (cond is_backward 2 0) 0) ⊎ (◌≡◌ {A = ℕ} (cond is_backward 2 0) 2)
which-letter true = inr refl
which-letter false = inl refl

module _ (M : Move) (A : AcceptedMove M) (marks : List ℕ) (found : Reading) (told : Told) (S : Sees M marks found told) (bad k : ℕ) (k-in : k < original_count M.sizes) where
  open M.sizes use {n, m}

  abbrev Z : Sizes
  Z = M.sizes

  abbrev own : List ℕ
  own = read_slots M marks k

  abbrev from : Option (List ℕ)
  from = rebuilt_from M (seen marks) found bad k

  pub at-moment : Tells M marks told.moment
  at-moment = (let H = S.has-moment in subst (Tells M marks) (sym H.is) (tells M A marks H.is_backward H.low H.high H.shape))

  pub own-fits : (1 ≤ length own) × Each (λ t. t < slot_count Z) own
  own-fits =
      let H = S.has-moment in
      let R = reads M A marks H.low H.high k k-in (cond H.is_backward 2 0) (which-letter H.is_backward) H.shape in
      (R.some, λ i h. (R.sited i h).inside)

  pub from-own : any (eqb bad) own ≡ false → from ≡ some own
  unfolding rebuilt_from
  from-own q = rw (slots-seen marks M k, q)

  pub from-torn : any (eqb bad) own ≡ true → told.coded ≡ None → from ≡ none
  unfolding rebuilt_from
  from-torn q t = (let b = S.torn t in rw (slots-seen marks M k, q, b.1))

module _ (M : Move) (A : AcceptedMove M) (marks : List ℕ) (found : Reading) (coded : Coded) (C : IsCoded M.sizes marks found coded) (bad k : ℕ) (k-in : k < original_count M.sizes) where
  open M.sizes use {n, m}

  pub J : JustFilled M.sizes marks found.place
  J = just-filled M.sizes A.ranges marks found C.reads C.none-torn

  -- the zero sum as the definition has it, and as the laws of it do
  pub zeros-are : zero_here M found k ≡ zero_of M A marks found.place J k k-in
  zeros-are = ap₂ (λ (p : Pass) (x : ℕ). zero_slots M (marks_of M.sizes (found.place - m)) p x (set_of M.sets k)) J.stands.pass-is J.stands.block-is

  pub from-other : any (eqb bad) (read_slots M marks k) ≡ true → any (eqb bad) (zero_here M found k) ≡ true → rebuilt_from M (seen marks) found bad k ≡ some (apart (read_slots M marks k) (zero_here M found k))
  unfolding rebuilt_from
  from-other q r = rw (slots-seen marks M k, q, C.none-torn, r, slots-seen marks M k)

  pub from-lost : any (eqb bad) (read_slots M marks k) ≡ true → any (eqb bad) (zero_here M found k) ≡ false → rebuilt_from M (seen marks) found bad k ≡ none
  unfolding rebuilt_from
  from-lost q r = rw (slots-seen marks M k, q, C.none-torn, r)

  -- the other sum has some pages, all of the store
  pub other_fits : (1 ≤ length (apart (read_slots M marks k) (zero_here M found k))) × Each (λ t. t < slot_count M.sizes) (apart (read_slots M marks k) (zero_here M found k))
  other_fits =
      subst (λ (ts : List ℕ). (1 ≤ length (apart (read_slots M marks k) ts)) × Each (λ t. t < slot_count M.sizes) (apart (read_slots M marks k) ts)) (sym zeros-are)
      (other-some M A marks found.place J k k-in, other-inside M A marks found.place J k k-in)

  -- ---- the zero sum by the pass and the change that are told
  pub forth : coded.backward ≡ false → (slots : List ℕ)
      → ((begun : List ℕ) → Tells M begun (moment_in false n (coded.change - 1) coded.change) → slots ≡ zero_slots M begun forward (coded.change - 1) (set_of M.sets k))
      → slots ≡ zero_here M found k
  unfolding place_in_turn
  forth e slots is =
      let b : ℕ = coded.change - 1 in
      let T = stands_at M.sizes forward b m (omega (arith, C.low, C.high)) (omega arith) in
      let at : found.place ≡ b * (m + 1) + m = C.place-is ∙ rw e in
      let pass : pass_at M.sizes found.place ≡ forward = ap (pass_at M.sizes) at ∙ T.pass-is in
      let block : filling M.sizes found.place ≡ b = ap (filling M.sizes) at ∙ T.block-is in
      let up : suc b ≡ coded.change = omega (arith, C.low) in
      let begun = marks_of M.sizes (found.place - m) in
      let shape : Shape M.sizes begun b (suc b) 0 =
      subst (λ (x : ℕ). Shape M.sizes begun x (suc x) 0) (sym J.stands.block-is ∙ block)
      (subst (λ (p : Pass). Shape M.sizes begun J.block (suc J.block) (letter_above p)) (sym J.stands.pass-is ∙ pass) J.begun.shape) in
      is begun (subst (λ (x : ℕ). Tells M begun (moment_in false n b x)) up (tells M A begun false b (suc b) shape))
      ∙ sym (ap₂ (λ (p : Pass) (x : ℕ). zero_slots M begun p x (set_of M.sets k)) pass block)

  pub back : coded.backward ≡ true → (slots : List ℕ)
      → ((begun : List ℕ) → Tells M begun (moment_in true n coded.change (coded.change + 1)) → slots ≡ zero_slots M begun backward coded.change (set_of M.sets k))
      → slots ≡ zero_here M found k
  unfolding place_in_turn
  back e slots is =
      let b : ℕ = coded.change in
      let T = stands_at M.sizes backward b m C.high (omega arith) in
      let at : found.place ≡ (2 * n - b) * (m + 1) + m = C.place-is ∙ rw e in
      let pass : pass_at M.sizes found.place ≡ backward = ap (pass_at M.sizes) at ∙ T.pass-is in
      let block : filling M.sizes found.place ≡ b = ap (filling M.sizes) at ∙ T.block-is in
      let up : suc b ≡ b + 1 = omega arith in
      let begun = marks_of M.sizes (found.place - m) in
      let shape : Shape M.sizes begun b (suc b) 2 =
      subst (λ (x : ℕ). Shape M.sizes begun x (suc x) 2) (sym J.stands.block-is ∙ block)
      (subst (λ (p : Pass). Shape M.sizes begun J.block (suc J.block) (letter_above p)) (sym J.stands.pass-is ∙ pass) J.begun.shape) in
      is begun (subst (λ (x : ℕ). Tells M begun (moment_in true n b x)) up (tells M A begun true b (suc b) shape))
      ∙ sym (ap₂ (λ (p : Pass) (x : ℕ). zero_slots M begun p x (set_of M.sets k)) pass block)
