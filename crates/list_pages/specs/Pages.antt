-- A list in pages.
use Rattle.std.specs.Prelude.{◌≡◌, true, false, ℕ, zero, suc, ◌<◌, ◌≤◌, ◌+◌, ◌-◌, ◌*◌, ◌^◌, min, max, Bool, List, []}
use Rattle.std.specs.Prelude.{◌∷◌, ◌++◌, length, slice_index_or, slice_set, take, drop}
use Rattle.std.specs.List.{count_by}

-- the pages, one after another
abbrev pub joined : {X : Type 0} → List (List X) → List X
joined [] = []
joined (r ∷ pages) = r ++ joined pages

-- how many entries stand before page p
abbrev pub start_of : {X : Type 0} → List (List X) → ℕ → ℕ
start_of pages p = length (joined (take p pages))

-- the j-th place of page p is place i of the whole
pub record IsSpot {X : Type 0} (pages : List (List X)) (i p j : ℕ) : Type 0 where
  pub within : p < length pages
  pub inside : j < length (slice_index_or pages p [])
  pub is : i ≡ start_of pages p + j

-- the j-th place of page p, or the one behind all pages
pub record IsSpotOrEnd {X : Type 0} (pages : List (List X)) (p j : ℕ) : Type 0 where
  pub within : p ≤ length pages
  pub inside : p < length pages → j < length (slice_index_or pages p [])
  pub end : length pages ≤ p → j ≡ 0

-- the same place, or right behind the page, which is not full
pub record IsGap {X : Type 0} (pages : List (List X)) (i p j : ℕ) : Type 0 where
  pub within : p < length pages
  pub inside : j ≤ length (slice_index_or pages p [])
  pub has_room : length (slice_index_or pages p []) < 256
  pub is : i ≡ start_of pages p + j

-- no page is empty, and each but the last has 128 at least
abbrev pub AreHalfFull : {X : Type 0} → List (List X) → Type 0
AreHalfFull [] = Unit {0}
AreHalfFull (r ∷ []) = 1 ≤ length r
AreHalfFull (r ∷ s ∷ pages) = (128 ≤ length r) × AreHalfFull (s ∷ pages)

-- the same, but that page p may have one less than it must
abbrev pub AreShortAt : {X : Type 0} → List (List X) → ℕ → Type 0
AreShortAt [] p = Unit {0}
AreShortAt (r ∷ []) zero = Unit {0}
AreShortAt (r ∷ []) (suc p) = 1 ≤ length r
AreShortAt (r ∷ s ∷ pages) zero = (127 ≤ length r) × AreHalfFull (s ∷ pages)
AreShortAt (r ∷ s ∷ pages) (suc p) = (128 ≤ length r) × AreShortAt (s ∷ pages) p

-- no page is empty, and each but the first and the last has 128 at least
abbrev pub IsHalfFull : {X : Type 0} → List (List X) → Type 0
IsHalfFull [] = Unit {0}
IsHalfFull (r ∷ pages) = (1 ≤ length r) × AreHalfFull pages

-- the same, but that page p may have one less than it must
abbrev pub IsShortAt : {X : Type 0} → List (List X) → ℕ → Type 0
IsShortAt [] p = Unit {0}
IsShortAt (r ∷ pages) zero = AreHalfFull pages
IsShortAt (r ∷ pages) (suc p) = (1 ≤ length r) × AreShortAt pages p

-- page p may lose an entry and stay long enough
pub record HasMore {X : Type 0} (pages : List (List X)) (p : ℕ) : Type 0 where
  pub some : 2 ≤ length (slice_index_or pages p [])
  pub more : 0 < p → suc p < length pages → 129 ≤ length (slice_index_or pages p [])

-- no page, or the last is full
abbrev pub IsClosed : {X : Type 0} → List (List X) → Type 0
IsClosed [] = Unit {0}
IsClosed (r ∷ []) = length r ≡ 256
IsClosed (r ∷ s ∷ pages) = IsClosed (s ∷ pages)

-- how many more fit with no new memory, whichever pages they come to: as many as pages are free, since each cuts one
-- page at most, or, where that is more, as many as all pages but two have room for when each is half full; and 2 ^ 47
-- entries at most
abbrev pub spare_of : (free all len : ℕ) → ℕ
spare_of free all len = min (max free (128 * (all - 2) - len)) (2 ^ 47 - len)

-- what the pages in use keep: all is the number of pages, the free ones with them
pub record IsKept {X : Type 0} (pages : List (List X)) (len all : ℕ) : Type 0 where
  pub is_len : len ≡ length (joined pages)
  pub half : IsHalfFull pages
  pub few : all ≤ 2 ^ 41
  pub fits : len < 2 ^ 48

-- where each group of 32 pages begins, as far as it is known
pub record IsStarts {X : Type 0} (pages : List (List X)) (starts : List ℕ) : Type 0 where
  pub within : (g : ℕ) → g < length starts → 32 * g ≤ length pages
  pub is : (g : ℕ) → g < length starts → slice_index_or starts g 0 ≡ start_of pages (32 * g)

-- the pages of group g
abbrev pub group_at : {X : Type 0} → List (List X) → ℕ → List (List X)
group_at pages g = take 32 (drop (32 * g) pages)

-- a summary of each group of 32 pages, as far as it is known
pub record IsSums {X S : Type 0} (sums_up : S → List X → Type 0) (pages : List (List X)) (sums : List S) : Type 0 where
  pub within : (g : ℕ) → g < length sums → 32 * g + 32 ≤ length pages
  pub is : (g : ℕ) (d : S) → g < length sums → sums_up (slice_index_or sums g d) (joined (group_at pages g))

-- where each group begins, and a summary of each
abbrev pub IsGroups : {X S : Type 0} → (S → List X → Type 0) → List (List X) → List ℕ → List S → Type 0
IsGroups sums_up pages starts sums = IsStarts pages starts × IsSums sums_up pages sums

-- what group g summed up is summed up with another entry written over the old one, wherever that stands
abbrev pub IsSumReplaced : {X S : Type 0} → (S → List X → Type 0) → List S → List S → ℕ → X → X → Type 0
IsSumReplaced {X} {S} sums_up before after g old new =
    (xs : List X) (i : ℕ) (d : S) → g < length before → length xs < 2 ^ 48 → i < length xs
    → old ≡ slice_index_or xs i old →
    sums_up (slice_index_or before g d) xs → sums_up (slice_index_or after g d) (slice_set xs i new)

-- a list, and how many more it takes with no new memory
pub record Kept (X : Type 0) : Type 0 where
  pub entries : List X
  pub spare : ℕ

-- the place of the n-th, from a place on, that is picked
pub record IsNth {X : Type 0} (picks : X → Bool) (xs : List X) (from n place : ℕ) : Type 0 where
  pub after : from ≤ place
  pub within : place < length xs
  pub picked : (d : X) → picks (slice_index_or xs place d) ≡ true
  pub count : count_by picks (take place xs) ≡ count_by picks (take from xs) + n

-- fewer are picked from there on, by left
abbrev pub IsShort : {X : Type 0} → (X → Bool) → List X → ℕ → ℕ → ℕ → Type 0
IsShort picks xs from n left = (left ≤ n) × (count_by picks xs + left ≡ count_by picks (take from xs) + n)

-- those before it are picked as far as the last of them shows, and it is not
pub record IsEdge {X : Type 0} (picks : X → Bool) (xs : List X) (i : ℕ) : Type 0 where
  pub within : i ≤ length xs
  pub below : (d : X) → 0 < i → picks (slice_index_or xs (i - 1) d) ≡ true
  pub stops : (d : X) → i < length xs → picks (slice_index_or xs i d) ≡ false

-- whether the last of a page is picked
abbrev pub ends_in : {X : Type 0} → (X → Bool) → List X → Bool
ends_in picks [] = false
ends_in picks (x ∷ []) = picks x
ends_in picks (x ∷ y ∷ xs) = ends_in picks (y ∷ xs)
