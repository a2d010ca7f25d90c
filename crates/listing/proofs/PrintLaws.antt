-- Laws of texts printed one behind the other.
use Rattle.flash.proofs.Kit.{◌≡◌, refl, sym, ap, ◌∙◌, subst, List, [], ◌∷◌, ◌++◌, append_assoc, append-nil, ℕ, ◌+◌, ◌-◌, ◌*◌, ◌≤◌, ◌<◌, add-one}
use Rattle.flash.proofs.Kit.{arith, length, get_or, take, drop, length-append, length-drop, take-append-drop, take-suc, take_at}
use Rattle.flash.proofs.Kit.{drop_at, drop-drop, drop-append-add, length-take-le}
use Rattle.flash.specs.Lists.{concat_map}
use Rattle.listing.specs.Digits.{hex}
use Rattle.listing.specs.Area.{over, Written}
use Rattle.listing.specs.Lines.{Printed}
use Rattle.listing.proofs.AreaLaws.{over-front}
use Rattle.listing.proofs.DigitLaws.{length_digits}

pub nothing-printed : (out : List ℕ) (at : ℕ) → at ≤ length out → Printed [] out at out at
nothing-printed out at h = record { next-is = omega arith; fits = h; text-is = sym (take-append-drop at out) }

pub printed : (text before after : List ℕ) (at next : ℕ) → next ≡ at + length text → next ≤ length before → take next after ≡ take at before ++ text → drop next after ≡ drop next before → Printed text before at after next
printed text before after at next n h e d = record {
  next-is = n;
  fits = h;
  text-is = sym (take-append-drop next after) ∙ rw (e, d) (append_assoc (take at before) text (drop next before));
}

-- ---- what was printed, and what lies behind it
module _ {text before after : List ℕ} {at next : ℕ} (p : Printed text before at after next) where
  size : length (take at before ++ text) ≡ next
  size = length-append (take at before) text ∙ rw (length-take-le at before (omega (arith, p.fits, p.next-is))) (sym p.next-is)

  whole : after ≡ (take at before ++ text) ++ drop next before
  whole = p.text-is ∙ sym (append_assoc (take at before) text (drop next before))

  front : take next after ≡ take at before ++ text
  front = ap (take next) whole ∙ take_at (take at before ++ text) (drop next before) next size

  behind-by : (k : ℕ) → drop (next + k) after ≡ drop (next + k) before
  behind-by k =
      ap (drop (next + k)) whole ∙ sym (drop-drop k next ((take at before ++ text) ++ drop next before))
      ∙ ap (drop k) (drop_at (take at before ++ text) (drop next before) next size) ∙ drop-drop k next before

  behind : (k : ℕ) → next ≤ k → drop k after ≡ drop k before
  behind k h = let e : next + (k - next) ≡ k = omega arith in subst (λ (x : ℕ). drop x after ≡ drop x before) e (behind-by (k - next))

  kept : length after ≡ length before
  kept = ap length whole ∙ length-append (take at before ++ text) (drop next before) ∙ omega (arith, size, length-drop next before, p.fits)

pub printed-then : {first second before between after : List ℕ} {at next last : ℕ} → Printed first before at between next → Printed second between next after last → Printed (first ++ second) before at after last
printed-then {first} {second} {before} {between} {after} {at} {next} {last} p q =
    let l = length-append first second in
    printed (first ++ second) before after at last (omega arith) (omega (arith, kept p, q.fits))
    (front q ∙ rw (front p) (append_assoc (take at before) first second)) (behind q last (omega arith) ∙ behind p last (omega (arith, q.next-is)))

-- a text behind a front that was written
pub over-printed : (start area : List ℕ) {text before after : List ℕ} {at next : ℕ} → at ≡ length start → before ≡ over start area → Printed text before at after next → Written (start ++ text) area after next
over-printed start area {text} {before} {after} {at} {next} e w p =
    let k : length (start ++ text) ≡ length start + length text = length-append start text in
    let n : next ≡ length start + length text = omega (arith, p.next-is) in
    let t : take at before ≡ start = over-front start area before at e w in
    let d : drop next before ≡ drop (length (start ++ text)) area =
    rw (n, w, k) (drop-append-add start (drop (length start) area) (length text) ∙ drop-drop (length text) (length start) area) in
    (n ∙ sym k, p.text-is ∙ rw (t, d) (sym (append_assoc start text (drop (length (start ++ text)) area))))

pub first-printed : {text before after : List ℕ} {next : ℕ} → Printed text before 0 after next → Written text before after next
first-printed {text} {before} p = over-printed [] before refl refl p

concat_map-more : (f : ℕ → List ℕ) (xs : List ℕ) (x : ℕ) → concat_map f (xs ++ (x ∷ [])) ≡ concat_map f xs ++ f x
unfolding concat_map
concat_map-more f [] x = append-nil (f x)
concat_map-more f (y ∷ xs) x = rw (concat_map-more f xs x) (sym (append_assoc (f y) (concat_map f xs) (f x)))

-- two digits a byte, whatever the letters
module _ (letters : ℕ) where
  pub hex-more : (bytes : List ℕ) (i : ℕ) → i < length bytes
      → concat_map (hex letters) (take (i + 1) bytes) ≡ concat_map (hex letters) (take i bytes) ++ hex letters (get_or bytes i 0)
  hex-more bytes i h = rw (add-one i, take-suc bytes i 0 h) (concat_map-more (hex letters) (take i bytes) (get_or bytes i 0))

  pub length-hex : (bytes : List ℕ) → length (concat_map (hex letters) bytes) ≡ 2 * length bytes
  unfolding concat_map hex
  length-hex [] = refl
  length-hex (byte ∷ bytes) =
      length-append (hex letters byte) (concat_map (hex letters) bytes) ∙ rw (length_digits letters 16 2 byte, length-hex bytes) (omega arith)
