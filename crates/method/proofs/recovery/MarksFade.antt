-- A chip fades where pages lose their letters and nothing else happens: so do cuts and erases. What whole pages hold stays true.
use Rattle.flash.proofs.Kit.{◌≡◌, refl, sym, ◌∙◌, ◌⊎◌, inl, inr, ⊎_elim, true, false, List, ℕ, ◌+◌, ◌*◌, ◌≤◌, ◌<◌, arith, length}
use Rattle.flash.proofs.Kit.{List·getD-eq-default, leb, leb-true}
use Rattle.flash.specs.declared.sizes.Sizes.{Sizes}
use Rattle.flash.specs.Geometry.{slot_count, store_len, marks_len, letter}
use Rattle.flash.specs.Chip.{Chip, erased, page_at, mark_at, erase_block}
use Rattle.flash.proofs.Bools.{bool_cases, both}
use Rattle.flash.proofs.Comparisons.{lt-cases}
use Rattle.flash.proofs.Bounds.{block-in-marks, block-in-store}
use Rattle.flash.proofs.Chips.{erase-marks-length, erase-mark, erase-page-other, erase-mark-other}
use Rattle.method.specs.Move.{Plan}
use Rattle.method.specs.Place.{Operation, write, erase, done}
use Rattle.method.specs.Cut.{is_torn_mark, touches, Kept, Torn, Touched, CutInside}
use Rattle.method.proofs.basics.Indexes.{this-or-other, each-slot}
use Rattle.method.proofs.basics.MoveShape.{Holding}

module _ (Z : Sizes) where
  open Z use {n, m, p as P}

  pub torn-mark : (chip : Chip) (t : ℕ) → Torn is_torn_mark Z chip t → 3 ≤ mark_at chip.marks t
  unfolding is_torn_mark
  torn-mark chip t T = leb-true 3 _ (both (leb 3 (mark_at chip.marks t)) _ T.mark).0

  pub torn-of : (chip : Chip) (t : ℕ) → mark_at chip.marks t ≡ erased → Torn is_torn_mark Z chip t
  unfolding is_torn_mark
  torn-of chip t e = record { mark = rw e }

  pub record Fades (before after : Chip) : Type 0 where
    pub slot : (t : ℕ) → Kept Z before after t ⊎ Torn is_torn_mark Z after t

  -- marks are read as 255 where there are none, so only the slots that there are count
  fades-of : (before after : Chip) → length after.marks ≡ marks_len Z → ((t : ℕ) → t < slot_count Z → Kept Z before after t ⊎ Torn is_torn_mark Z after t) → Fades before after
  unfolding mark_at
  fades-of before after size f = record {
    slot = λ t. ⊎_elim (f t) (λ l. inr (torn-of after t (List·getD-eq-default after.marks erased (rw size l)))) (lt-cases t (slot_count Z));
  }

  pub fades-refl : (chip : Chip) → Fades chip chip
  fades-refl chip = record { slot = λ t. inl (record { mark = refl; page = refl }) }

  -- a cut inside any operation
  touched-fades : (operation : Operation) (before after : Chip) (t : ℕ) → Touched is_torn_mark Z operation before after t → Kept Z before after t ⊎ Torn is_torn_mark Z after t
  touched-fades (write pass block page) before after t x = inr x
  touched-fades (erase block) before after t x = x
  touched-fades done before after t x = inl x

  pub cut-fades : (operation : Operation) (before after : Chip) → CutInside Z operation before after → Fades before after
  cut-fades operation before after C =
      fades-of before after C.marks-length
      (λ t h.
      ⊎_elim
      (λ (e : touches Z operation t ≡ true). touched-fades operation before after t (C.inside t h e))
      (λ (e : touches Z operation t ≡ false). inl (C.outside t h e))
      (bool_cases (touches Z operation t)))

  -- a whole erase
  pub erase-fades : (block : ℕ) (chip : Chip) → block ≤ n → length chip.store ≡ store_len Z → length chip.marks ≡ marks_len Z → Fades chip (erase_block m P block chip)
  erase-fades block chip h store_length marks-length =
      let store-fits : block * (m * P) + m * P ≤ length chip.store = rw store_length (block-in-store Z block h) in
      let marks-fit : block * m + m ≤ length chip.marks = rw marks-length (block-in-marks Z block h) in
      fades-of chip (erase_block m P block chip) (erase-marks-length m P block chip store-fits marks-fit ∙ marks-length)
      (each-slot m (n + 1) (λ t. Kept Z chip (erase_block m P block chip) t ⊎ Torn is_torn_mark Z (erase_block m P block chip) t)
      (λ b q l k.
      this-or-other (λ x. Kept Z chip (erase_block m P block chip) (x * m + q) ⊎ Torn is_torn_mark Z (erase_block m P block chip) (x * m + q)) block b
      (inr (torn-of (erase_block m P block chip) (block * m + q) (erase-mark m P block chip store-fits marks-fit q k)))
      (λ apart.
      inl
      (record {
        mark = erase-mark-other m P block chip store-fits marks-fit q k b apart;
        page = erase-page-other m P block chip store-fits marks-fit q k b apart;
      }))))

  -- a page that has a letter still is as it was
  pub letter-kept : (before after : Chip) → Fades before after → (i t : ℕ) → mark_at after.marks t ≡ letter Z i → Kept Z before after t
  unfolding letter
  letter-kept before after F i t e =
      ⊎_elim (λ (k : Kept Z before after t). k) (λ (T : Torn is_torn_mark Z after t). absurd (omega (arith, torn-mark after t T))) (F.slot t)

-- what a page holds goes by its letter
pub holding-fades : (X : Plan) (originals : List ℕ) (before after : Chip) → Holding X originals before → Fades X.move.sizes before after → Holding X originals after
holding-fades X originals before after H F = record {
  plain = λ k h e. page 0 _ e (H.plain k h);
  code = λ set v a b c e. page 1 _ e (H.code set v a b c);
  final = λ k h e. page 2 _ e (H.final k h);
}
  where
    page : (i t : ℕ) {bytes : List ℕ} → mark_at after.marks t ≡ letter X.move.sizes i
        → (mark_at before.marks t ≡ letter X.move.sizes i → page_at X.move.sizes.p before t ≡ bytes) → page_at X.move.sizes.p after t ≡ bytes
    page i t e f =
        let K = letter-kept X.move.sizes before after F i t e in
        K.page ∙ f (sym K.mark ∙ e)
