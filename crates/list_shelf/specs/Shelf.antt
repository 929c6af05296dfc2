-- Pages that lie in frames of one piece of memory, and what is kept of each.
use Rattle.std.specs.Prelude.{◌≡◌, ℕ, zero, suc, ◌<◌, ◌≤◌, ◌+◌, ◌-◌, ◌*◌, eqb, List, [], ◌∷◌, length, slice_index_or}
use Rattle.std.specs.Prelude.{take, drop, map}
use Rattle.std.specs.List.{count_by, All}
use Rattle.list_shelf.specs.declared.frame.Head.{Head}

-- pages, and how many more can be opened with no new memory
pub record Shelved (X : Type 0) : Type 0 where
  pub pages : List (List X)
  pub free : ℕ

-- page p cut in two
abbrev pub cut_at : {X : Type 0} → List (List X) → ℕ → List (List X)
cut_at [] p = []
cut_at (r ∷ pages) zero = take 128 r ∷ drop 128 r ∷ pages
cut_at (r ∷ pages) (suc p) = r ∷ cut_at pages p

-- frame f: 256 places of the memory
abbrev pub frame_at : {X : Type 0} → List X → ℕ → List X
frame_at cells f = take 256 (drop (256 * f) cells)

-- the first k frames
abbrev pub framed : {X : Type 0} → ℕ → List X → List (List X)
framed zero cells = []
framed (suc k) cells = take 256 cells ∷ framed k (drop 256 cells)

-- nothing but frame f has changed
pub record IsWritten {X : Type 0} (cells new : List X) (f : ℕ) : Type 0 where
  pub len : length new ≡ length cells
  pub before : (i : ℕ) (d : X) → i < 256 * f → slice_index_or new i d ≡ slice_index_or cells i d
  pub behind : (i : ℕ) (d : X) → 256 * f + 256 ≤ i → slice_index_or new i d ≡ slice_index_or cells i d

-- the page of a head: so many entries of its frame, from its start on
abbrev pub page_of : {X S : Type 0} → List (List X) → Head X S → List X
page_of frames head = take head.len (drop head.start (slice_index_or frames head.frame []))

abbrev pub pages_of : {X S : Type 0} → List (List X) → List (Head X S) → List (List X)
pages_of frames heads = map (page_of frames) heads

-- a head says what is true of its page
pub record IsHead {X S : Type 0} (sums_up : S → List X
    → Type 0) (frames : List (List X)) (head : Head X S) : Type 0 where
  pub within : head.frame < length frames
  pub few : head.start + head.len ≤ 256
  pub summed : sums_up head.summary (page_of frames head)
  pub last : 0 < head.len → head.last ≡ slice_index_or (page_of frames head) (head.len - 1) head.last

-- each of them does
abbrev pub AreHeads : {X S : Type 0} → (S → List X → Type 0) → List (List X) → List (Head X S) → Type 0
AreHeads sums_up frames [] = Unit {0}
AreHeads sums_up frames (head ∷ heads) = IsHead sums_up frames head × AreHeads sums_up frames heads

-- how many pages lie in frame f
abbrev pub uses : {X S : Type 0} → ℕ → List (Head X S) → ℕ
uses f heads = count_by (λ head. eqb head.frame f) heads

-- how often frame f stands among the free ones
abbrev pub frees : ℕ → List ℕ → ℕ
frees f free = count_by (λ g. eqb g f) free

-- each frame is free or one page's alone; all is how many frames and pages there is memory for
pub record IsShelf {X S : Type 0} (sums_up : S → List X
    → Type 0) (cells : List X) (heads : List (Head X S)) (free : List ℕ) (all : ℕ) : Type 0 where
  pub each : AreHeads sums_up (framed (length heads + length free) cells) heads
  pub freed : All (λ f. f < length heads + length free) free
  pub apart : (f : ℕ) → uses f heads + frees f free ≤ 1
  pub laid : length cells ≡ 256 * (length heads + length free)
  pub most : length heads + length free ≤ all
