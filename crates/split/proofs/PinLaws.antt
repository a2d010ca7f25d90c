-- A pin before a drop: which answers of the split call are other ones for it.
use Rattle.flash.proofs.Kit.{◌≡◌, ◌≢◌, ap, ◌∙◌, ⊎_elim, Bool, true, false, cond, ◌&&◌, not, [], ◌∷◌, ℕ, ◌≤◌, arith, eqb, length, get_or}
use Rattle.flash.proofs.Kit.{eqb-true, ne_eqb}
use Rattle.flash.specs.Tables.{refusal}
use Rattle.flash.specs.Geometry.{in_range, original_count}
use Rattle.flash.proofs.Bools.{bool_cases, bool_eq, both, and_both}
use Rattle.flash.proofs.Ranges.{none_in, any-is, any-range-find}
use Rattle.split.specs.OneToOne.{dropped, bad_list}
use Rattle.split.specs.Drops.{is_dropped}
use Rattle.split.specs.Pins.{is_pinned, moves_pinned}
use Rattle.split.specs.Request.{Request, bad_request}
use Rattle.split.specs.Answer.{split_rows, split_answer}
use Rattle.split.specs.PinFirst.{drops_pinned, moves_pinned_kept, rows_once, split_answer_once, SplitPinFirst}
use Rattle.split.proofs.Answers.{small, gives-1, gives-2, gives-list, lengths-are}

module _ (R : Request) where
  open R use {sizes as Z, list, pins, sets}

  -- the two tests differ at a page that is pinned and dropped alone
  pub same_test : drops_pinned R ≡ false → moves_pinned_kept pins list ≡ moves_pinned pins list
  unfolding drops_pinned moves_pinned_kept moves_pinned
  same_test none = bool_eq (moves_pinned_kept pins list) (moves_pinned pins list)
      (λ e.
      let f = any-range-find (λ k. pinned k && kept k && moved k) 0 (length list) e in
      let h = both (pinned f.0 && kept f.0) (moved f.0) f.3 in
      let p = (both (pinned f.0) (kept f.0) h.0).0 in
      any-is (λ k. pinned k && moved k) 0 (length list) f.0 f.1 f.2 (and_both (pinned f.0) (moved f.0) p h.1))
      (λ e.
      let f = any-range-find (λ k. pinned k && moved k) 0 (length list) e in
      let h = both (pinned f.0) (moved f.0) f.3 in
      let neither = none_in (λ k. pinned k && is_dropped list k) 0 (length list) none f.0 f.1 f.2 in
      let stays : is_dropped list f.0 ≡ false = rw h.0 at neither in
      any-is (λ k. pinned k && kept k && moved k) 0 (length list) f.0 f.1 f.2
      (and_both (pinned f.0 && kept f.0) (moved f.0) (and_both (pinned f.0) (kept f.0) h.0 (ap not stays)) h.1))
    where
      pinned : ℕ → Bool
      pinned k = is_pinned pins k

      kept : ℕ → Bool
      kept k = not (is_dropped list k)

      moved : ℕ → Bool
      moved k = not (eqb (get_or list k 0) k)

  -- the number that drops a page is none of a list's pages
  pub drops-moved : length list ≤ 4096 → drops_pinned R ≡ true → moves_pinned pins list ≡ true
  unfolding drops_pinned moves_pinned is_dropped
  drops-moved short e =
      let f = any-range-find (λ k. is_pinned pins k && eqb (get_or list k 0) dropped) 0 (length list) e in
      let h = both (is_pinned pins f.0) (eqb (get_or list f.0 0) dropped) f.3 in
      let entry : get_or list f.0 0 ≡ 65535 = eqb-true _ _ h.1 in
      any-is (λ k. is_pinned pins k && not (eqb (get_or list k 0) k)) 0 (length list) f.0 f.1 f.2 (and_both _ _ h.0 (ap not (ne_eqb (get_or list f.0 0) f.0 (λ own. omega (arith, own, entry, short, f.2)))))

  rows_same : drops_pinned R ≡ false → rows_once R (split_rows R) ≡ split_rows R
  unfolding rows_once split_rows
  rows_same none = ap (λ (t : Bool). record { fits = not (in_range Z); gives = 1 } ∷ record { fits = bad_request R; gives = 2 }
      ∷ record { fits = bad_list (original_count Z) list; gives = 3 } ∷ record { fits = t; gives = 11 } ∷ []) (same_test none)

  -- the number where a page is both
  abbrev first-of-four : Bool → Bool → Bool → ℕ
  first-of-four one two three = cond one 1 (cond two 2 (cond three 3 11))

  given : (one two three : Bool) → first-of-four one two three ≢ 0
  given true two three e = absurd (omega (arith, e))
  given false true three e = absurd (omega (arith, e))
  given false false true e = absurd (omega (arith, e))
  given false false false e = absurd (omega (arith, e))

  number_is : drops_pinned R ≡ true → refusal (split_rows R) ≡ first-of-four (not (in_range Z)) (bad_request R) (bad_list (original_count Z) list)
  number_is both-are = ⊎_elim
      (λ (ranged : in_range Z ≡ true). ⊎_elim
      (λ (bad : bad_request R ≡ true). gives-2 R ranged bad ∙ rw (ranged, bad))
      (λ (lengths : bad_request R ≡ false).
      let short : length list ≤ 4096 = omega (arith, (lengths-are R lengths).0, small Z ranged) in
      gives-list R ranged lengths ∙ rw (ranged, lengths, drops-moved short both-are))
      (bool_cases (bad_request R)))
      (λ (out : in_range Z ≡ false). gives-1 R out ∙ rw out)
      (bool_cases (in_range Z))

pub split-pin-first : SplitPinFirst
unfolding split_answer split_answer_once
split-pin-first R = (
  λ none. rw (rows_same R none),
  λ both-are. rw (number_is R both-are, ne_eqb _ 0 (given R (not (in_range R.sizes)) (bad_request R) (bad_list (original_count R.sizes) R.list))),
)
