-- What asks for memory: the symbols of a copy, and the bytes of a feed. Nothing else of a command does.
use Rattle.std.specs.Prelude.{◌≢◌, ℕ, ◌≤◌, List, [], ◌∷◌, length, Option, Some, None, IsSomeAnd}
use Rattle.std.specs.Str.{chars, IsUtf8}
use Rattle.desk_ops.specs.declared.op.Symbol.{Symbol}
use Rattle.script_answers.specs.declared.copy.Place.{Place}
use Rattle.script_answers.specs.declared.copy.Place.TheVariants.{Run}
use Rattle.script_answers.specs.declared.reader.Verb.{Verb}
use Rattle.script_answers.specs.declared.reader.Verb.TheVariants as verbs
use Rattle.script_answers.specs.Reading.{◌>>=◌, Rest, word_at, number_at}
use Rattle.script_answers.specs.Copy.{step}
use Rattle.script_answers.specs.Grammar.{verb_of}

-- a symbol, or else a later one
abbrev pub symbol_or : Option Symbol → Option Symbol → Option Symbol
symbol_or (Some s) later = Some s
symbol_or None later = later

-- the first symbol that is read of a copy, also of one that is refused further on
abbrev pub first_symbol : Place → List ℕ → Option Symbol
first_symbol place [] = None
first_symbol place (c ∷ cs) = do
  next ← step place c
  symbol_or next.1 (first_symbol next.0 cs)

-- reading a copy comes to a symbol
abbrev pub ComesToSymbol : List ℕ → Type 0
ComesToSymbol text = first_symbol Run (chars text) ≢ None

-- a word has room for a byte's two digits
abbrev pub MayHoldByte : List ℕ → Type 0
MayHoldByte word = 2 ≤ length word

-- what stands behind the numbers of `insert`
unfoldable pub copy_behind : Rest → Rest
copy_behind rest = do
  site ← number_at rest
  place ← number_at site.1
  place.1

-- what stands behind the number of `take`
unfoldable pub feed_behind : Rest → Rest
feed_behind rest = do
  site ← number_at rest
  site.1

-- `insert` asks for memory where it comes to a symbol, `take` where two bytes or more stand behind its number, and no
-- other does
abbrev pub FormAsksMemory : Verb → Rest → Type 0
FormAsksMemory verbs.Site rest = ⊥
FormAsksMemory verbs.Insert rest = IsSomeAnd (copy_behind rest) ComesToSymbol
FormAsksMemory verbs.Delete rest = ⊥
FormAsksMemory verbs.Set rest = ⊥
FormAsksMemory verbs.Take rest = IsSomeAnd (feed_behind rest) MayHoldByte
FormAsksMemory verbs.Send rest = ⊥
FormAsksMemory verbs.Merge rest = ⊥
FormAsksMemory verbs.Show rest = ⊥
FormAsksMemory verbs.Faults rest = ⊥
FormAsksMemory verbs.Settings rest = ⊥
FormAsksMemory verbs.Feed rest = ⊥
FormAsksMemory verbs.Ribbon rest = ⊥
FormAsksMemory verbs.Cast rest = ⊥
FormAsksMemory verbs.Restart rest = ⊥

unfoldable pub WordsAskMemory : List ℕ → Type 0
WordsAskMemory line =
    IsSomeAnd (word_at (Some line)) (λ word. IsSomeAnd (verb_of word.0) (λ verb. FormAsksMemory verb word.1))

-- the command that a line begins asks for memory
abbrev pub AsksMemory : List ℕ → Type 0
AsksMemory line = IsUtf8 line × WordsAskMemory line
