-- How the words of a paragraph are put together into lines.
use Rattle.std.specs.Prelude.{◌≡◌, ℕ, zero, suc, ◌+◌, ◌^◌, ◌<◌, ◌≤◌, ◌⊎◌, ℤ, pos, ◌+ℤ◌, ◌≤ℤ◌, int_le, max}
use Rattle.std.specs.Prelude.{if◌then◌else◌, List, [], ◌∷◌, length, take, drop}
use Rattle.std.specs.List.{All}
use Rattle.desk_lines.specs.declared.groups.Group.{Group}

-- no matrix is cast wider, in atoms
abbrev pub widest_matrix : ℕ
widest_matrix = 2 ^ 20

-- the width of words and their inner spaces
abbrev pub group_width : (space : ℤ) → List ℤ → ℤ
group_width space [] = pos 0
group_width space (word ∷ []) = word
group_width space (word ∷ next ∷ words) = (word +ℤ space) +ℤ group_width space (next ∷ words)

-- The group fits.
abbrev pub FitsIn : (space measure : ℤ) → List ℤ → Type 0
FitsIn space measure words = group_width space words ≤ℤ measure

-- how many words the longest prefix of at most n words has that fits, 0 where none does
abbrev pub longest : (space measure : ℤ) → List ℤ → ℕ → ℕ
longest space measure words zero = 0
longest space measure words (suc n) =
    if int_le (group_width space (take (suc n) words)) measure then suc n else longest space measure words n

-- how many words the first group has: the longest prefix that fits, or else one word
abbrev pub first_group : (space measure : ℤ) → List ℤ → ℕ
first_group space measure words = max 1 (longest space measure words (length words))

-- how many words each group has, of at most n groups
abbrev pub groups_upto : ℕ → (space measure : ℤ) → List ℤ → List ℕ
groups_upto zero space measure words = []
groups_upto (suc n) space measure [] = []
groups_upto (suc n) space measure (word ∷ words) =
    let size = first_group space measure (word ∷ words) in
    size ∷ groups_upto n space measure (drop size (word ∷ words))

-- how many words each group has
abbrev pub groups : (space measure : ℤ) → List ℤ → List ℕ
groups space measure words = groups_upto (length words) space measure words

-- groups of these sizes by their ends, where the first begins here
abbrev pub ranges : ℕ → List ℕ → List Group
ranges here [] = []
ranges here (size ∷ sizes) = record { from = here; to = here + size } ∷ ranges (here + size) sizes

-- the groups of words
abbrev pub groups_of : (space measure : ℤ) → List ℤ → List Group
groups_of space measure words = ranges 0 (groups space measure words)

-- The first words, so many of them, are the first group: the longest prefix that isn't empty and fits, or the first
-- word alone if that doesn't fit.
pub record IsFirstGroup (space measure : ℤ) (words : List ℤ) (size : ℕ) : Type 0 where
  pub some : 1 ≤ size
  pub within : size ≤ length words
  pub fits : (FitsIn space measure (take size words)) ⊎ (size ≡ 1)
  pub longest_one : (n : ℕ) → size < n → n ≤ length words → FitsIn space measure (take n words) → ⊥

-- The groups are those of the words from this one on: each is the first group of the words that those before it leave,
-- and together they are all the words.
abbrev pub AreGroups : (space measure : ℤ) → ℕ → List ℤ → List Group → Type 0
AreGroups space measure here words [] = words ≡ []
AreGroups space measure here words (group ∷ groups) =
    (size : ℕ) × (group ≡ record { from = here; to = here + size })
    × IsFirstGroup space measure words size × AreGroups space measure (here + size) (drop size words) groups

-- The groups of words are what the definition of a group says, and no others are.
abbrev pub GroupsAreGroups : Type 0
GroupsAreGroups = (space measure : ℤ) (words : List ℤ) →
    AreGroups space measure 0 words (groups_of space measure words)
    × ((found : List Group) → AreGroups space measure 0 words found → groups_of space measure words ≡ found)

-- The width of a word is from 0 to 2 ^ 40.
abbrev pub IsWidth : ℤ → Type 0
IsWidth width = (pos 0 ≤ℤ width) × (width ≤ℤ pos (2 ^ 40))

abbrev pub AreWidths : List ℤ → Type 0
AreWidths widths = All IsWidth widths
