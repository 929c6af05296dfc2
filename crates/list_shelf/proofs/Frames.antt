-- One frame of the memory: what it shows of it, and what a write into it leaves.
use Rattle.std.proofs.Common.{◌≡◌, ℕ, ◌+◌, ◌-◌, ◌*◌, ◌<◌, ◌≤◌, List, ◌++◌, length, get_or, take, drop, refl, sym, ap, ◌∙◌, subst, arith, length-append, length-drop, length-take, length-take-le, take-take, drop-drop}
use Rattle.std.proofs.lemmas.List.{take_at, drop_at, drop-take, drop-append-le, get_or_append_left, get_or-append-add, get_or-take, get_or-drop, drop_all, append-nil}
use Rattle.std.proofs.lemmas.List.Edits.{take-paste}
use borrow.Rule.Slice.PartMut.{put_mid}
use Rattle.std.specs.List.{copy_within}
use Rattle.list_shelf.specs.Shelf.{frame_at, IsWritten}

-- n from the place s on, of the first so many
part-from : {X : Type 0} (s n m : ℕ) (xs : List X) → s + n ≤ m → take n (drop s (take m xs)) ≡ take n (drop s xs)
part-from s n m xs l = sym (drop-take s n (take m xs)) ∙ ap (λ (z : List _). drop s z) (take-take (s + n) m xs l) ∙ drop-take s n xs

-- what was written behind the first s + n stands behind the n from the place s on
pub behind-start : {X : Type 0} (old new y : List X) (s n m : ℕ) → s + n ≤ length old → take (s + n + m) new ≡ take (s + n) old ++ y → take (n + m) (drop s new) ≡ take n (drop s old) ++ y
behind-start old new y s n m l e =
    let sum : s + (n + m) ≡ s + n + m = omega arith in
    let long = length-take-le (s + n) old l in
    sym (drop-take s (n + m) new) ∙ ap (λ (k : ℕ). drop s (take k new)) sum ∙ ap (λ (z : List _). drop s z) e
    ∙ drop-append-le s (take (s + n) old) y (omega arith) ∙ ap (λ (z : List _). z ++ y) (drop-take s n old)

-- those of the n behind a that stand from one place up to another
pub part-within : {X : Type 0} (xs : List X) (a from to : ℕ) → drop (a + from) (take (a + to) xs) ≡ drop from (take to (drop a xs))
part-within xs a from to = sym (drop-drop from a (take (a + to) xs)) ∙ ap (λ (z : List _). drop from z) (drop-take a to xs)

pub part-kept : {X : Type 0} (xs : List X) (a from to : ℕ) → from ≤ to → take (to - from) (drop (a + from) xs) ≡ drop from (take to (drop a xs))
part-kept xs a from to l =
    let k : from + (to - from) ≡ to = omega arith in
    ap (λ (z : List _). take (to - from) z) (sym (drop-drop from a xs)) ∙ sym (drop-take from (to - from) (drop a xs)) ∙ ap (λ (i : ℕ). drop from (take i (drop a xs))) k

-- nothing is written, or in two steps
pub written-none : {X : Type 0} (cells : List X) (f : ℕ) → IsWritten cells cells f
written-none cells f = record { len = refl; before = λ i d l. refl; behind = λ i d l. refl }

pub written-on : {X : Type 0} (cells between new : List X) (f : ℕ) → IsWritten cells between f → IsWritten between new f → IsWritten cells new f
written-on cells between new f a b = record { len = b.len ∙ a.len; before = λ i d l. b.before i d l ∙ a.before i d l; behind = λ i d l. b.behind i d l ∙ a.behind i d l }

-- n from the place s on, moved to another place
pub moved : {X : Type 0} (old new : List X) (s n to : ℕ) → to ≤ length old → take (to + (s + n - s)) new ≡ take to old ++ drop s (take (s + n) old) → take n (drop to new) ≡ take n (drop s old)
moved old new s n to l e =
    let k : to + n ≡ to + (s + n - s) = omega arith in
    sym (drop-take to n new) ∙ ap (λ (i : ℕ). drop to (take i new)) k ∙ ap (λ (z : List _). drop to z) e
    ∙ drop_at (take to old) (drop s (take (s + n) old)) to (length-take-le to old l) ∙ drop-take s n old

-- what comes back, when all places from a on were lent and are y now
pub lent-behind : {X : Type 0} (frame y : List X) (a k : ℕ) → a + k ≡ length frame → drop a (put_mid a k frame y) ≡ y
lent-behind frame y a k e =
    let rest = length-drop a frame in
    drop_at (take a frame) (y ++ drop k (drop a frame)) a (length-take-le a frame (omega arith))
    ∙ ap (λ (z : List _). y ++ z) (drop_all k (drop a frame) (omega arith)) ∙ append-nil y

module _ {X : Type 0} (cells : List X) where
  pub frame-length : (f : ℕ) → 256 * f + 256 ≤ length cells → length (frame_at cells f) ≡ 256
  frame-length f l = let a = length-take 256 (drop (256 * f) cells) in let b = length-drop (256 * f) cells in omega arith

  -- n of a frame from its place s on
  pub part-of : (f s n : ℕ) → s + n ≤ 256 → take (256 * f + s + n - (256 * f + s)) (drop (256 * f + s) cells) ≡ take n (drop s (frame_at cells f))
  part-of f s n l =
      let e : 256 * f + s + n - (256 * f + s) ≡ n = omega arith in
      ap (λ (k : ℕ). take k (drop (256 * f + s) cells)) e ∙ ap (λ (z : List X). take n z) (sym (drop-drop s (256 * f) cells)) ∙ sym (part-from s n 256 (drop (256 * f) cells) l)

  lent : (f : ℕ) (part : List X) → part ≡ take (256 * f + 256 - 256 * f) (drop (256 * f) cells) → part ≡ frame_at cells f
  lent f part e = let n : 256 * f + 256 - 256 * f ≡ 256 = omega arith in e ∙ ap (λ (k : ℕ). take k (drop (256 * f) cells)) n

  -- what comes back, when 256 places from a on were lent and are y now
  written-back : (a n : ℕ) (y : List X) → n ≡ length cells → a + 256 ≤ n → length y ≡ 256
      → take n ((take a cells ++ (y ++ drop (length y) (drop a cells))) ++ drop (length (take a cells ++ (y ++ drop (length y) (drop a cells)))) cells) ≡ take a cells ++ (y ++ drop (a + 256) cells)
  written-back a n y e l w =
      let whole = take a cells ++ (y ++ drop (length y) (drop a cells)) in
      let p = length-take-le a cells (omega arith) in
      let q = length-append (take a cells) (y ++ drop (length y) (drop a cells)) in
      let r = length-append y (drop (length y) (drop a cells)) in
      let s = length-drop (length y) (drop a cells) in
      let t = length-drop a cells in
      take_at whole (drop (length whole) cells) n (omega arith)
      ∙ ap (λ (z : List X). take a cells ++ (y ++ z)) (ap (λ (k : ℕ). drop k (drop a cells)) w ∙ drop-drop 256 a cells)

  over-length : (a : ℕ) (y : List X) → a + 256 ≤ length cells → length y ≡ 256 → length (take a cells ++ (y ++ drop (a + 256) cells)) ≡ length cells
  over-length a y l w =
      let p = length-take-le a cells (omega arith) in
      let q = length-append (take a cells) (y ++ drop (a + 256) cells) in
      let r = length-append y (drop (a + 256) cells) in
      let s = length-drop (a + 256) cells in
      omega arith

  over-before : (a : ℕ) (y : List X) (i : ℕ) (d : X) → a + 256 ≤ length cells → i < a → get_or (take a cells ++ (y ++ drop (a + 256) cells)) i d ≡ get_or cells i d
  over-before a y i d l w =
      let p = length-take-le a cells (omega arith) in
      get_or_append_left (take a cells) (y ++ drop (a + 256) cells) d i (omega arith) ∙ get_or-take a cells i d w

  over-behind : (a : ℕ) (y : List X) (i : ℕ) (d : X) → a + 256 ≤ length cells → length y ≡ 256 → a + 256 ≤ i → get_or (take a cells ++ (y ++ drop (a + 256) cells)) i d ≡ get_or cells i d
  over-behind a y i d l w h =
      let p = length-take-le a cells (omega arith) in
      let k : ℕ = i - (a + 256) in
      let at : i ≡ length (take a cells) + (length y + k) = omega arith in
      let back : a + 256 + k ≡ i = omega arith in
      ap (λ (j : ℕ). get_or (take a cells ++ (y ++ drop (a + 256) cells)) j d) at
      ∙ get_or-append-add (take a cells) (y ++ drop (a + 256) cells) (length y + k) d
      ∙ get_or-append-add y (drop (a + 256) cells) k d
      ∙ get_or-drop (a + 256) cells k d
      ∙ ap (λ (j : ℕ). get_or cells j d) back

  -- frame f was lent, and is y when it comes back
  written-frame : (f n : ℕ) (y : List X) → n ≡ length cells → 256 * f + 256 ≤ n → length y ≡ 256
      → frame_at (take n ((take (256 * f) cells ++ (y ++ drop (length y) (drop (256 * f) cells))) ++ drop (length (take (256 * f) cells ++ (y ++ drop (length y) (drop (256 * f) cells)))) cells)) f ≡ y
  written-frame f n y e l w =
      let p = length-take-le (256 * f) cells (omega arith) in
      ap (λ (z : List X). frame_at z f) (written-back (256 * f) n y e l w)
      ∙ ap (λ (z : List X). take 256 z) (drop_at (take (256 * f) cells) (y ++ drop (256 * f + 256) cells) (256 * f) p)
      ∙ take_at y (drop (256 * f + 256) cells) 256 w

  -- what is known of y is known of the frame
  pub written : (f n : ℕ) (part y : List X) (new old : List X → List X) → n ≡ length cells → 256 * f + 256 ≤ n → length y ≡ 256
      → part ≡ take (256 * f + 256 - 256 * f) (drop (256 * f) cells) → new y ≡ old part
      → new (frame_at (take n ((take (256 * f) cells ++ (y ++ drop (length y) (drop (256 * f) cells))) ++ drop (length (take (256 * f) cells ++ (y ++ drop (length y) (drop (256 * f) cells)))) cells)) f) ≡ old (frame_at cells f)
  written f n part y new old e l w p q = ap new (written-frame f n y e l w) ∙ q ∙ ap old (lent f part p)

  pub written-others : (f n : ℕ) (y : List X) → n ≡ length cells → 256 * f + 256 ≤ n → length y ≡ 256
      → IsWritten cells (take n ((take (256 * f) cells ++ (y ++ drop (length y) (drop (256 * f) cells))) ++ drop (length (take (256 * f) cells ++ (y ++ drop (length y) (drop (256 * f) cells)))) cells)) f
  written-others f n y e l w = subst (λ (z : List X). IsWritten cells z f) (sym (written-back (256 * f) n y e l w)) (record {
    len = over-length (256 * f) y (omega arith) w;
    before = λ i d h. over-before (256 * f) y i d (omega arith) h;
    behind = λ i d h. over-behind (256 * f) y i d (omega arith) w h;
  })

  -- some of frame f, copied behind the first n of frame g
  pub copied-frame : (f from to g n : ℕ) (new : List X) → 256 * f + 256 ≤ length cells → 256 * g + 256 ≤ length cells → from ≤ to → to ≤ 256 → n + (to - from) ≤ 256
      → new ≡ copy_within cells (256 * f + from) (256 * f + to) (256 * g + n)
      → take (n + (to - from)) (frame_at new g) ≡ take n (frame_at cells g) ++ drop from (take to (frame_at cells f))
  copied-frame f from to g n new lf lg o w r e =
      let m : ℕ = to - from in
      let a : ℕ = 256 * g in
      let b : ℕ = 256 * f in
      let part : List X = take m (drop (b + from) cells) in
      let sum : a + (n + m) ≡ a + n + m = omega arith in
      let size : b + to - (b + from) ≡ m = omega arith in
      let end : to ≡ from + m = omega arith in
      let long = length-drop (b + from) cells in
      let short = length-take-le (a + n) cells (omega arith) in
      let whole : new ≡ copy_within cells (b + from) (b + to) (a + n) = e in
      let head : take (a + n + m) new ≡ take (a + n) cells ++ part =
      ap (λ (z : List X). take (a + n + m) z) (e ∙ ap (λ (k : ℕ). (take (a + n) cells ++ take k (drop (b + from) cells)) ++ drop (a + n + k) cells) size)
      ∙ take-paste cells (a + n) (drop (b + from) cells) m (omega arith) (omega arith) in
      let tail : drop from (take to (frame_at cells f)) ≡ part =
      ap (λ (z : List X). drop from z) (take-take to 256 (drop b cells) w ∙ ap (λ (k : ℕ). take k (drop b cells)) end)
      ∙ drop-take from m (drop b cells) ∙ ap (λ (z : List X). take m z) (drop-drop from b cells) in
      let front : drop a (take (a + n) cells) ≡ take n (frame_at cells g) = drop-take a n cells ∙ sym (take-take n 256 (drop a cells) (omega arith)) in
      take-take (n + m) 256 (drop a new) r
      ∙ sym (drop-take a (n + m) new)
      ∙ ap (λ (k : ℕ). drop a (take k new)) sum
      ∙ ap (λ (z : List X). drop a z) head
      ∙ drop-append-le a (take (a + n) cells) part (omega arith)
      ∙ (λ i. front i ++ sym tail i)
