-- Laws of the words of a text, and of the numbers that they spell.
use Rattle.flash.proofs.Kit.{◌≡◌, refl, sym, ap, ◌∙◌, true, false, and-false, ⊎_elim, List, [], ◌∷◌, ◌++◌, append-nil, map, none, some, ℕ, ◌+◌, ◌-◌}
use Rattle.flash.proofs.Kit.{◌*◌, ◌≤◌, ◌<◌, add-one, arith, length, get_or, take, drop, length-append, slice, take-suc, drop-cons, drop-append-le}
use Rattle.flash.proofs.Kit.{length-take-le, append_snoc, le-leb, lt-leb}
use Rattle.flash.specs.Lists.{all}
use Rattle.flash.proofs.Bools.{bool_cases}
use Rattle.flash.proofs.Searches.{all_append}
use Rattle.listing.specs.Numbers.{is_separator, is_digit, ended, words_from, spelled, number_of, numbers_in, next, malformed}

pub separator-skipped : (text : List ℕ) (at : ℕ) → at < length text → is_separator (get_or text at 0) ≡ true → numbers_in (drop (at + 1) text) ≡ numbers_in (drop at text)
unfolding numbers_in words_from ended
separator-skipped text at h e = rw (add-one at, drop-cons text at 0 h, e)

-- the word that ends before a position, one byte longer
pub slice-more : (text : List ℕ) (start at : ℕ) → start ≤ at → at < length text → slice start (at + 1) text ≡ slice start at text ++ (get_or text at 0 ∷ [])
slice-more text start at l h =
    let size = length-take-le at text (omega arith) in
    rw (add-one at, take-suc text at 0 h, drop-append-le start (take at text) (get_or text at 0 ∷ []) (omega arith))

pub spelled-more : (value : ℕ) (digits : List ℕ) (digit : ℕ) → spelled value (digits ++ (digit ∷ [])) ≡ spelled value digits * 10 + (digit - 48)
unfolding spelled
spelled-more value [] digit = refl
spelled-more value (d ∷ digits) digit = spelled-more (value * 10 + (d - 48)) digits digit

-- A word ends with the text and at a separator.
pub word-ends : (word rest : List ℕ) → 1 ≤ length word → rest ≡ [] → words_from word rest ≡ word ∷ words_from [] rest
unfolding words_from ended
word-ends [] rest h e = absurd (omega arith)
word-ends (byte ∷ word) rest h e = rw e

pub word-parted : (word : List ℕ) (byte : ℕ) (rest : List ℕ) → 1 ≤ length word → is_separator byte ≡ true → words_from word (byte ∷ rest) ≡ word ∷ words_from [] (byte ∷ rest)
unfolding words_from ended
word-parted [] byte rest h e = absurd (omega arith)
word-parted (b ∷ word) byte rest h e = rw e

pub word-goes-on : (word : List ℕ) (byte : ℕ) (rest : List ℕ) → is_separator byte ≡ false → words_from word (byte ∷ rest) ≡ words_from (word ++ (byte ∷ [])) rest
unfolding words_from
word-goes-on word byte rest e = rw e

-- a word that has begun is the start of the first one
First : (begun text : List ℕ) → Type 0
First begun text = (more : List ℕ) × (later : List (List ℕ)) × (words_from begun text ≡ (begun ++ more) ∷ later)

first_word : (begun text : List ℕ) → 1 ≤ length begun → First begun text
unfolding First words_from ended
first_word begun [] h = ([], [], word-ends begun [] h refl ∙ ap (λ (w : List ℕ). w ∷ []) (sym (append-nil begun)))
first_word begun (byte ∷ text) h =
    ⊎_elim
    (λ (e : is_separator byte ≡ true).
    let later : List (List ℕ) = words_from [] (byte ∷ text) in
    ([], later, word-parted begun byte text h e ∙ ap (λ (w : List ℕ). w ∷ later) (sym (append-nil begun))))
    (λ (e : is_separator byte ≡ false).
    let f = first_word (begun ++ (byte ∷ [])) text (omega (arith, length-append begun (byte ∷ []))) in
    (byte ∷ f.0, f.1, word-goes-on begun byte text e ∙ f.2 ∙ ap (λ (w : List ℕ). w ∷ f.1) (append_snoc begun byte f.0)))
    (bool_cases (is_separator byte))

-- a word that is no number, however it goes on
pub malformed-first : (begun text : List ℕ) → 1 ≤ length begun → ((more : List ℕ) → number_of (begun ++ more) ≡ none) → next (map number_of (words_from begun text)) ≡ malformed
unfolding First next
malformed-first begun text h f =
    let w = first_word begun text h in
    rw (w.2, f w.0)

-- rule 9.1: at most five digits
pub number-of : (word : List ℕ) → 1 ≤ length word → length word ≤ 5 → all is_digit word ≡ true → number_of word ≡ some (spelled 0 word)
unfolding number_of
number-of word h l e = rw (le-leb 1 (length word) h, le-leb (length word) 5 l, e)

pub too_long : (word : List ℕ) → 5 < length word → number_of word ≡ none
unfolding number_of
too_long word h = rw (le-leb 1 (length word) (omega arith), lt-leb (length word) 5 h)

pub no_digit : (digits : List ℕ) (byte : ℕ) (more : List ℕ) → is_digit byte ≡ false → number_of (digits ++ (byte ∷ []) ++ more) ≡ none
unfolding number_of all
no_digit digits byte more e = rw (all_append is_digit (digits ++ (byte ∷ [])) more, all_append is_digit digits (byte ∷ []), e, and-false, and-false)
