-- The line of a feed: its name, and the stamps of what it has alone.
use Rattle.std.specs.Prelude.{ℕ, List, [], ◌∷◌, ◌++◌, codes, None}
use Rattle.text_copy.specs.Plain.{plain_text}
use Rattle.feed_edit.specs.Counters.{counters_words}
use Rattle.feed_edit.specs.declared.counters.Naming.TheVariants as namings
use Rattle.feed_edit.specs.declared.stamps.SiteStamp.{SiteStamp}

abbrev pub stamps_words : List SiteStamp → List ℕ
stamps_words [] = codes " none"
stamps_words (stamp ∷ stamps) = counters_words namings.Short None (stamp ∷ stamps)

-- the line of a feed: its name as it is shown, and the stamps of what it has alone
abbrev pub alone_line : List ℕ → List SiteStamp → List ℕ
alone_line name stamps = plain_text name ++ codes " alone" ++ stamps_words stamps ++ 10 ∷ []
