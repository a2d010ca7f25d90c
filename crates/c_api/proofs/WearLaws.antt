-- The record of erases as bytes: its counters one by one.
use Rattle.flash.proofs.Kit.{◌≡◌, refl, sym, ap, ◌∙◌, List, [], ◌∷◌, ◌++◌, map, ℕ, zero, suc, ◌+◌, ◌*◌, ◌/◌, ◌%◌, ◌≤◌, ◌<◌, not-suc-le-zero, add-one, arith, length, get_or, set, take, drop, length-take-le, length-drop, length-append, append_assoc, take_at, drop_at, drop-drop, drop-cons, drop_of_length-le, set_at, take-add, take-append-drop}
use Rattle.flash.specs.Lists.{range, concat_map}
use Rattle.flash.specs.declared.wear.Wear.{Wear}
use Rattle.flash.proofs.Loops.{front-more, front-all, piece-put}
use Rattle.c_api.specs.Wear.{spelled, spelled_at, spelling, wear_of, counter_bytes, wear_bytes}

map-range-at : (f : ℕ → ℕ) (start size i : ℕ) → i < size → get_or (map f (range start size)) i 0 ≡ f (start + i)
unfolding range
map-range-at f start zero i h = absurd (not-suc-le-zero h)
map-range-at f start (suc size) zero h = ap f (let e : start ≡ start + 0 = omega arith in e)
map-range-at f start (suc size) (suc i) h =
    map-range-at f (suc start) size i (omega arith) ∙ ap f (let e : suc start + i ≡ start + suc i = omega arith in e)

map-range-length : (f : ℕ → ℕ) (start size : ℕ) → length (map f (range start size)) ≡ size
unfolding range
map-range-length f start zero = refl
map-range-length f start (suc size) = ap suc (map-range-length f (suc start) size)

pub counters-length : (bytes : List ℕ) → length (wear_of bytes).counters ≡ 65
unfolding wear_of
counters-length bytes = map-range-length (λ block. spelled_at bytes (block * 4)) 0 65

pub counter-is : (bytes : List ℕ) (b : ℕ) → b < 65 → get_or (wear_of bytes).counters b 0 ≡ spelled_at bytes (b * 4)
unfolding wear_of
counter-is bytes b h = map-range-at (λ block. spelled_at bytes (block * 4)) 0 65 b h ∙ ap (λ (x : ℕ). spelled_at bytes (x * 4)) (let e : 0 + b ≡ b = omega arith in e)

-- one more counter that is read
pub read_more : (bytes old counters : List ℕ) (b value : ℕ) → length old ≡ 65 → b < 65 → counters ≡ take b (wear_of bytes).counters ++ drop b old
    → value ≡ spelled_at bytes (b * 4) → set counters b value ≡ take (b + 1) (wear_of bytes).counters ++ drop (b + 1) old
read_more bytes old counters b value size h is e =
    rw (is, e ∙ sym (counter-is bytes b h)) (front-more (wear_of bytes).counters old b (counters-length bytes ∙ sym size) (omega arith))

-- all of them, and the pair
pub read_all : (bytes old counters : List ℕ) (b highest : ℕ) → length old ≡ 65 → 65 ≤ b → counters ≡ take b (wear_of bytes).counters ++ drop b old
    → highest ≡ spelled_at bytes 260 → ◌≡◌ {A = Wear} (record { counters = counters; highest = highest; block = get_or bytes 264 0 }) (wear_of bytes)
unfolding wear_of
read_all bytes old counters b highest size h is e =
    let all = is ∙ front-all (wear_of bytes).counters old b (counters-length bytes ∙ sym size) (omega arith) in
    λ i. record { counters = all i; highest = e i; block = get_or bytes 264 0 }

-- ---- the bytes that spell the counters
pub spellings-length : (counters : List ℕ) → length (concat_map spelling counters) ≡ length counters * 4
unfolding concat_map spelling
spellings-length [] = refl
spellings-length (c ∷ counters) = let h = spellings-length counters in omega arith

-- those of one counter
pub spelling-at : (counters : List ℕ) (b : ℕ) → b < length counters → take 4 (drop (b * 4) (concat_map spelling counters)) ≡ spelling (get_or counters b 0)
unfolding concat_map spelling
spelling-at [] b h = absurd (not-suc-le-zero h)
spelling-at (c ∷ counters) zero h = refl
spelling-at (c ∷ counters) (suc b) h =
    let four : suc b * 4 ≡ suc (suc (suc (suc (b * 4)))) = omega arith in
    rw four (spelling-at counters b (omega arith))

-- the part that is lent for one counter
pub part_length : (bytes : List ℕ) (b n : ℕ) → n ≡ 4 → b * 4 + 4 ≤ length bytes → length (take n (drop (b * 4) bytes)) ≡ 4
part_length bytes b n e h = rw e (length-take-le 4 (drop (b * 4) bytes) (omega (arith, length-drop (b * 4) bytes)))

-- one more counter that is written
pub write-more : (wear : Wear) (old bytes : List ℕ) (b n : ℕ) → length wear.counters ≡ 65 → length old ≡ 260 → b < 65 → n ≡ 4
    → bytes ≡ take (b * 4) (counter_bytes wear) ++ drop (b * 4) old → (part : List ℕ) → part ≡ spelling (get_or wear.counters b 0)
    → take (b * 4) bytes ++ (part ++ drop n (drop (b * 4) bytes)) ≡ take ((b + 1) * 4) (counter_bytes wear) ++ drop ((b + 1) * 4) old
unfolding counter_bytes
write-more wear old bytes b n size room h four is part e =
    let all : length (counter_bytes wear) ≡ length old = omega (arith, spellings-length wear.counters) in
    let next : b * 4 + 4 ≡ (b + 1) * 4 = omega arith in
    rw (four, e ∙ sym (spelling-at wear.counters b (omega arith))) (piece-put (counter_bytes wear) old bytes (b * 4) 4 all (omega arith) is ∙ rw next)

pub write-all : (wear : Wear) (old bytes : List ℕ) (b : ℕ) → length wear.counters ≡ 65 → length old ≡ 260 → 65 ≤ b
    → bytes ≡ take (b * 4) (counter_bytes wear) ++ drop (b * 4) old → bytes ≡ counter_bytes wear
unfolding counter_bytes
write-all wear old bytes b size room h is =
    is ∙ front-all (counter_bytes wear) old (b * 4) (omega (arith, spellings-length wear.counters)) (omega arith)

-- ---- and the pair behind them
counters-laid : (wear : Wear) → length wear.counters ≡ 65 → length (counter_bytes wear) ≡ 260
unfolding counter_bytes
counters-laid wear size = omega (arith, spellings-length wear.counters)

-- four bytes and one behind what is laid
pair_put : (laid four bytes : List ℕ) (block : ℕ) → length laid ≡ 260 → length four ≡ 4 → length bytes ≡ 265
    → set (take 260 (laid ++ drop 260 bytes) ++ (four ++ drop 4 (drop 260 (laid ++ drop 260 bytes)))) 264 block ≡ laid ++ (four ++ (block ∷ []))
pair_put laid four bytes block a b c =
    let front = take_at laid (drop 260 bytes) 260 a in
    let back = drop_at laid (drop 260 bytes) 260 a in
    let last : drop 4 (drop 260 bytes) ≡ get_or bytes 264 0 ∷ [] =
    drop-drop 4 260 bytes ∙ drop-cons bytes 264 0 (omega arith) ∙ ap (λ (l : List ℕ). get_or bytes 264 0 ∷ l) (drop_of_length-le bytes {i = 265} (omega arith)) in
    rw (front, back, last, ← append_assoc laid four (get_or bytes 264 0 ∷ []), ← append_assoc laid four (block ∷ []))
    (set_at (laid ++ four) (get_or bytes 264 0) [] block 264 (length-append laid four ∙ omega arith))

-- the whole record
pub record-put : (wear : Wear) (bytes laid four : List ℕ) → length wear.counters ≡ 65 → length bytes ≡ 265 → laid ≡ counter_bytes wear → four ≡ spelling wear.highest
    → set (take 260 (laid ++ drop 260 bytes) ++ (four ++ drop 4 (drop 260 (laid ++ drop 260 bytes)))) 264 wear.block ≡ wear_bytes wear
unfolding wear_bytes spelling
record-put wear bytes laid four size room e f =
    pair_put laid four bytes wear.block (ap (λ (l : List ℕ). length l) e ∙ counters-laid wear size) (ap (λ (l : List ℕ). length l) f) room ∙ rw (e, f)

pub record-length : (wear : Wear) → length wear.counters ≡ 65 → length (wear_bytes wear) ≡ 265
unfolding wear_bytes spelling
record-length wear size = length-append (counter_bytes wear) _ ∙ omega (arith, counters-laid wear size)

-- ---- the bytes that spell what bytes spell are these
module _ (bytes : List ℕ) (small : (i : ℕ) → get_or bytes i 0 < 256) where
  spelled_back : (a b c d : ℕ) → a < 256 → b < 256 → c < 256 → d < 256 → spelling (spelled a b c d) ≡ a ∷ b ∷ c ∷ d ∷ []
  unfolding spelling spelled
  spelled_back a b c d h₀ h₁ h₂ h₃ =
      let all : ℕ = a + b * 256 + c * 65536 + d * 16777216 in
      let q₁ : all / 256 ≡ b + c * 256 + d * 65536 = omega arith in
      let q₂ : all / 65536 ≡ c + d * 256 = omega arith in
      let q₃ : all / 16777216 ≡ d = omega arith in
      let e₀ : all % 256 ≡ a = omega arith in
      let e₁ : (b + c * 256 + d * 65536) % 256 ≡ b = omega arith in
      let e₂ : (c + d * 256) % 256 ≡ c = omega arith in
      let e₃ : d % 256 ≡ d = omega arith in
      rw (q₁, q₂, q₃, e₀, e₁, e₂, e₃)

  next : (at : ℕ) → at < length bytes → drop at bytes ≡ get_or bytes at 0 ∷ drop (at + 1) bytes
  next at h = rw (add-one at) (drop-cons bytes at 0 h)

  four-back : (at : ℕ) → at + 4 ≤ length bytes → spelling (spelled_at bytes at) ≡ take 4 (drop at bytes)
  unfolding spelled_at
  four-back at h =
      let two : at + 1 + 1 ≡ at + 2 = omega arith in
      let three : at + 2 + 1 ≡ at + 3 = omega arith in
      spelled_back _ _ _ _ (small at) (small (at + 1)) (small (at + 2)) (small (at + 3))
      ∙ rw (next at (omega arith), next (at + 1) (omega arith), two, next (at + 2) (omega arith), three, next (at + 3) (omega arith))

  counters-back : (start size : ℕ) → (start + size) * 4 ≤ length bytes
      → concat_map spelling (map (λ block. spelled_at bytes (block * 4)) (range start size)) ≡ take (size * 4) (drop (start * 4) bytes)
  unfolding concat_map range
  counters-back start zero h = refl
  counters-back start (suc size) h =
      let next : suc start * 4 ≡ start * 4 + 4 = omega arith in
      let more : suc size * 4 ≡ 4 + size * 4 = omega arith in
      rw (four-back (start * 4) (omega arith), counters-back (suc start) size (omega arith), next, more)
      (ap (λ (xs : List ℕ). take 4 (drop (start * 4) bytes) ++ take (size * 4) xs) (sym (drop-drop 4 (start * 4) bytes)) ∙ sym (take-add 4 (size * 4) (drop (start * 4) bytes)))

  pub record-back : length bytes ≡ 265 → wear_bytes (wear_of bytes) ≡ bytes
  unfolding wear_bytes wear_of counter_bytes
  record-back size =
      let tail : drop 4 (drop 260 bytes) ≡ get_or bytes 264 0 ∷ [] =
      drop-drop 4 260 bytes ∙ drop-cons bytes 264 0 (omega arith) ∙ ap (λ (l : List ℕ). get_or bytes 264 0 ∷ l) (drop_of_length-le bytes {i = 265} (omega arith)) in
      rw (counters-back 0 65 (omega arith), four-back 260 (omega arith), ← tail, take-append-drop 4 (drop 260 bytes)) (take-append-drop 260 bytes)
