-- Stamps in a line, by site: counters, and runs of them.
use Rattle.std.specs.Prelude.{ℕ, ◌+◌, ◌==◌, Bool, false, ◌&&◌, if◌then◌else◌, List, [], ◌∷◌, ◌++◌, codes, Option, Some}
use Rattle.std.specs.Prelude.{None}
use Rattle.std.specs.Fmt.{decimal}
use Rattle.feed_edit.specs.declared.counters.Naming.{Naming}
use Rattle.feed_edit.specs.declared.counters.Naming.TheVariants as namings
use Rattle.feed_edit.specs.declared.stamps.SiteStamp.{SiteStamp}

-- a stamp goes on from another where it has its site and the next counter
abbrev pub follows : SiteStamp → SiteStamp → Bool
follows before stamp = (before.site == stamp.site) && (before.counter + 1 == stamp.counter)

abbrev pub goes_on : Option SiteStamp → SiteStamp → Bool
goes_on None stamp = false
goes_on (Some before) stamp = follows before stamp

abbrev pub is_followed : SiteStamp → Option SiteStamp → Bool
is_followed stamp None = false
is_followed stamp (Some after) = follows stamp after

-- how a site is named before its counters
abbrev pub site_words : Naming → ℕ → List ℕ
site_words namings.Short site = decimal site ++ codes ": "
site_words namings.Long site = codes "site " ++ decimal site ++ codes " made "

-- what stands before the first counter of a run: a space, and where it is the first of its site, this
abbrev pub lead : Naming → Option SiteStamp → SiteStamp → List ℕ
lead naming None stamp = codes " " ++ site_words naming stamp.site
lead naming (Some before) stamp = if before.site == stamp.site then codes " "
    else codes ", " ++ site_words naming stamp.site

abbrev pub first_words : Naming → Option SiteStamp → SiteStamp → List ℕ
first_words naming before stamp = lead naming before stamp ++ decimal stamp.counter

abbrev pub last_words : SiteStamp → List ℕ
last_words stamp = codes ".." ++ decimal stamp.counter

-- a stamp between those before and after it: the first of a run has its counter, the last of two or more has it behind
-- two points, and those between have none
abbrev pub counter_words : Naming → Option SiteStamp → SiteStamp → Option SiteStamp → List ℕ
counter_words naming before stamp after =
    if goes_on before stamp then (if is_followed stamp after then [] else last_words stamp)
    else first_words naming before stamp

abbrev pub first : List SiteStamp → Option SiteStamp
first [] = None
first (stamp ∷ stamps) = Some stamp

-- stamps that come behind another
abbrev pub counters_words : Naming → Option SiteStamp → List SiteStamp → List ℕ
counters_words naming before [] = []
counters_words naming before (stamp ∷ stamps) = counter_words naming before stamp (first stamps)
    ++ counters_words naming (Some stamp) stamps
