-- The text of FEED.last: for each site a line with its number and a counter.
use Rattle.std.proofs.Common.{get_or}
use Rattle.std.specs.Prelude.{◌≡◌, ◌≢◌, ◌<◌, ◌≤◌, ◌^◌, ◌+◌, ◌==◌, ℕ, Bool, List, [], ◌∷◌, ◌++◌, length, Option, None}
use Rattle.std.specs.Prelude.{Some, codes, nat_lt, if◌then◌else◌}
use Rattle.std.specs.List.{filter}
use Rattle.std.specs.Fmt.{decimal}
use Rattle.desk_ops.specs.declared.op.Stamp.{Stamp}

-- the line of a stamp, as `site 1 785`
abbrev pub stamp_line : Stamp → List ℕ
stamp_line s = codes "site" ++ 32 ∷ (decimal s.site ++ 32 ∷ (decimal s.counter ++ 10 ∷ []))

abbrev pub last_text : List Stamp → List ℕ
last_text [] = []
last_text (s ∷ stamps) = stamp_line s ++ last_text stamps

-- no byte of the text is this one
abbrev pub Lacks : ℕ → List ℕ → Type 0
Lacks end text = (i : ℕ) → i < length text → get_or text i 0 ≢ end

-- a site has 16 bits, and a counter 64
abbrev pub IsNumbered : Stamp → Type 0
IsNumbered s = (s.site < 2 ^ 16) × (s.counter < 2 ^ 64)

-- the sites rise, each at least this one
abbrev pub Rises : ℕ → List Stamp → Type 0
Rises low [] = Unit {0}
Rises low (s ∷ stamps) = IsNumbered s × (low ≤ s.site) × Rises (s.site + 1) stamps

-- the bytes are the text of these stamps, one for each site, by site
abbrev pub IsTextOf : List ℕ → List Stamp → Type 0
IsTextOf bytes stamps = Rises 0 stamps × (bytes ≡ last_text stamps)

-- the counter of the site's stamp, if there is one
abbrev pub counter_of : List Stamp → ℕ → Option ℕ
counter_of [] site = None
counter_of (s ∷ stamps) site = if s.site == site then Some s.counter else counter_of stamps site

-- the bytes are such a text, and it has this counter for the site
abbrev pub Records : List ℕ → ℕ → ℕ → Type 0
Records bytes site counter = (stamps : List Stamp) × IsTextOf bytes stamps × (counter_of stamps site ≡ Some counter)

abbrev pub is_below : ℕ → Stamp → Bool
is_below site s = nat_lt s.site site

abbrev pub is_above : ℕ → Stamp → Bool
is_above site s = nat_lt site s.site

-- a stamp in place of its site's: those of the sites below, it, and those of the sites above
abbrev pub with_stamp : List Stamp → Stamp → List Stamp
with_stamp stamps new = filter (is_below new.site) stamps ++ new ∷ filter (is_above new.site) stamps
