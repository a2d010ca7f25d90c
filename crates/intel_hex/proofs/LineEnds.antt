-- Where the line that starts at a position ends, and where its digits do.
use Rattle.flash.proofs.Kit.{◌≡◌, refl, sym, ap, ◌∙◌, ◌⊎◌, inl, inr, ⊎_elim, and-false, List, [], ◌∷◌, ◌++◌, none, some, ℕ, zero, suc, ◌+◌, ◌-◌, ◌≤◌}
use Rattle.flash.proofs.Kit.{◌<◌, arith, add-one, length, get_or, take, drop, length-take, length-drop, drop_of_length-le, get_or-drop, get_or-take}
use Rattle.flash.proofs.Kit.{drop-cons, take-suc, take-take, length-take-le, ne_eqb, eq-eqb, List·getD-eq-default}
use Rattle.flash.proofs.Comparisons.{eq-cases, lt-cases}
use Rattle.intel_hex.specs.Reading.{unended, lines_from, uncarried}
use Rattle.intel_hex.specs.inner.Lines.{next_from}

module _ (text : List ℕ) (stop : ℕ) where
  pub next-plain : get_or text stop 0 ≡ 10 → next_from text stop ≡ stop + 1
  unfolding next_from
  next-plain e = rw e

  pub next-carried : get_or text stop 0 ≡ 13 → get_or text (stop + 1) 0 ≡ 10 → next_from text stop ≡ stop + 2
  unfolding next_from
  next-carried e f = rw (e, f)

  pub next-other : (get_or text stop 0 ≡ 10 → ⊥) → (get_or text stop 0 ≡ 13 → ⊥) → next_from text stop ≡ 0
  unfolding next_from
  next-other f g = rw (ne_eqb (get_or text stop 0) 10 f, ne_eqb (get_or text stop 0) 13 g)

  pub next-again : (get_or text stop 0 ≡ 10 → ⊥) → (get_or text (stop + 1) 0 ≡ 10 → ⊥) → next_from text stop ≡ 0
  unfolding next_from
  next-again f g = rw (ne_eqb (get_or text stop 0) 10 f, ne_eqb (get_or text (stop + 1) 0) 10 g, and-false)

  pub next-unended : (get_or text stop 0 ≡ 10 → ⊥) → stop + 1 ≡ length text → next_from text stop ≡ 0
  next-unended f e =
      next-again f
      (λ q.
      let z : get_or text (stop + 1) 0 ≡ 0 = List·getD-eq-default text 0 (omega arith) in
      omega arith)

-- the line feed at the end of the line that starts at a position, or the text's end
pub record EndIs (text : List ℕ) (at r : ℕ) : Type 0 where
  pub low : at ≤ r
  pub high : r ≤ length text
  pub feed : r < length text → get_or text r 0 ≡ 10
  pub found : r < length text → lines_from [] (drop at text) ≡ some (take (r - at) (drop at text)) ∷ lines_from [] (drop (r + 1) text)
  pub missed : r ≡ length text → at < length text → lines_from [] (drop at text) ≡ none ∷ []

-- without a carriage return
pub record StopIs (text : List ℕ) (at end r : ℕ) : Type 0 where
  pub low : at ≤ r
  pub high : r ≤ end
  pub last : (r ≡ end) ⊎ ((r + 1 ≡ end) × (get_or text r 0 ≡ 13))
  pub is : take (r - at) (drop at text) ≡ uncarried (take (end - at) (drop at text))

pub unended-some : (line : List ℕ) → 1 ≤ length line → unended line ≡ none ∷ []
unfolding unended
unended-some [] h = absurd (omega arith)
unended-some (x ∷ line) h = refl

module _ (text : List ℕ) (at : ℕ) where
  -- the line's codes before a position
  abbrev begun : ℕ → List ℕ
  begun i = take (i - at) (drop at text)

  begun-none : [] ≡ begun at
  begun-none =
      let z : at - at ≡ 0 = omega arith in
      rw z

  begun_more : (i : ℕ) → at ≤ i → i < length text → begun (i + 1) ≡ begun i ++ (get_or text i 0 ∷ [])
  begun_more i l h =
      let n = length-drop at text in
      let k : i + 1 - at ≡ suc (i - at) = omega arith in
      let j : at + (i - at) ≡ i = omega arith in
      rw (k, take-suc (drop at text) (i - at) 0 (omega arith), get_or-drop at text (i - at) 0, j)

  pub line-starts : lines_from [] (drop at text) ≡ lines_from (begun at) (drop at text)
  line-starts = ap (λ (l : List ℕ). lines_from l (drop at text)) begun-none

  line-goes-on : (i : ℕ) → at ≤ i → i < length text → (get_or text i 0 ≡ 10 → ⊥) → lines_from (begun i) (drop i text) ≡ lines_from (begun (i + 1)) (drop (i + 1) text)
  unfolding lines_from
  line-goes-on i l h f = rw (begun_more i l h, drop-cons text i 0 h, add-one i, ne_eqb (get_or text i 0) 10 f)

  line-found : (i : ℕ) → i < length text → get_or text i 0 ≡ 10 → lines_from (begun i) (drop i text) ≡ some (begun i) ∷ lines_from [] (drop (i + 1) text)
  unfolding lines_from
  line-found i h e = rw (add-one i, drop-cons text i 0 h, eq-eqb (get_or text i 0) 10 e)

  line-missed : (i : ℕ) → i ≡ length text → at < length text → lines_from (begun i) (drop i text) ≡ none ∷ []
  unfolding lines_from
  line-missed i e h =
      let n = length-drop at text in
      let t = length-take (i - at) (drop at text) in
      rw (drop_of_length-le text {i = i} (omega arith)) (unended-some (begun i) (omega arith))

  -- a line of which the codes before i are none that ends it
  pub end-here : (i : ℕ) → at ≤ i → i < length text → get_or text i 0 ≡ 10 → lines_from [] (drop at text) ≡ lines_from (begun i) (drop i text) → EndIs text at i
  end-here i l h f s = record { low = l; high = omega arith; feed = λ _. f; found = λ _. s ∙ line-found i h f; missed = λ q _. absurd (omega arith) }

  pub end-from : (k i : ℕ) → i + k ≡ length text → at ≤ i → lines_from [] (drop at text) ≡ lines_from (begun i) (drop i text) → (e : ℕ) × EndIs text at e
  end-from zero i e l s = (
    i,
    record { low = l; high = omega arith; feed = λ h. absurd (omega arith); found = λ h. absurd (omega arith); missed = λ q h. s ∙ line-missed i q h },
  )
  end-from (suc k) i e l s =
      ⊎_elim
      (λ (f : get_or text i 0 ≡ 10). (i, end-here i l (omega arith) f s))
      (λ (f : get_or text i 0 ≡ 10 → ⊥). end-from k (i + 1) (omega arith) (omega arith) (s ∙ line-goes-on i l (omega arith) f))
      (eq-cases (get_or text i 0) 10)

  -- a line with no line feed before its end
  pub runs_to : (k : ℕ) → at + k ≤ length text → ((j : ℕ) → j < k → get_or text (at + j) 0 ≡ 10 → ⊥)
      → lines_from [] (drop at text) ≡ lines_from (begun (at + k)) (drop (at + k) text)
  runs_to zero h f =
      let e : at + 0 ≡ at = omega arith in
      rw e line-starts
  runs_to (suc k) h f =
      let e : at + suc k ≡ at + k + 1 = omega arith in
      rw e (runs_to k (omega arith) (λ j l. f j (omega arith)) ∙ line-goes-on (at + k) (omega arith) (omega arith) (f k (omega arith)))

  -- ---- a carriage return
  module _ (end : ℕ) (l : at ≤ end) (h : end ≤ length text) where
    begun-length : length (begun end) ≡ end - at
    begun-length =
        let n = length-drop at text in
        length-take-le (end - at) (drop at text) (omega arith)

    last-is : at < end → get_or (begun end) (end - at - 1) 0 ≡ get_or text (end - 1) 0
    last-is q =
        let j : at + (end - at - 1) ≡ end - 1 = omega arith in
        get_or-take (end - at) (drop at text) (end - at - 1) 0 (omega arith) ∙ get_or-drop at text (end - at - 1) 0 ∙ rw j

    stop-none : at ≡ end → StopIs text at end end
    unfolding uncarried
    stop-none e =
        let z : end - at ≡ 0 = omega arith in
        record { low = l; high = omega arith; last = inl refl; is = rw z }

    pub stop-carried : at < end → get_or text (end - 1) 0 ≡ 13 → StopIs text at end (end - 1)
    unfolding uncarried
    stop-carried q e =
        let j : end - 1 - at ≡ end - at - 1 = omega arith in
        record {
          low = omega arith;
          high = omega arith;
          last = inr (omega arith, e);
          is = rw (begun-length, eq-eqb (get_or (begun end) (end - at - 1) 0) 13 (last-is q ∙ e), take-take (end - at - 1) (end - at) (drop at text) (omega arith), j);
        }

    pub stop-plain : at < end → (get_or text (end - 1) 0 ≡ 13 → ⊥) → StopIs text at end end
    unfolding uncarried
    stop-plain q f = record {
      low = l;
      high = omega arith;
      last = inl refl;
      is = rw (begun-length, ne_eqb (get_or (begun end) (end - at - 1) 0) 13 (λ e. f (sym (last-is q) ∙ e)));
    }

    pub stop-of : (s : ℕ) × StopIs text at end s
    stop-of =
        ⊎_elim
        (λ (q : at < end).
        ⊎_elim
        (λ (e : get_or text (end - 1) 0 ≡ 13). (end - 1, stop-carried q e))
        (λ (f : get_or text (end - 1) 0 ≡ 13 → ⊥). (end, stop-plain q f))
        (eq-cases (get_or text (end - 1) 0) 13))
        (λ (q : end ≤ at). (end, stop-none (omega arith)))
        (lt-cases at end)
