-- The words of the command line, with what a room's file gives.
use Rattle.std.specs.Prelude.{ℕ, Bool, true, false, not, ◌||◌, ◌&&◌, List, [], ◌∷◌, ◌++◌, if◌then◌else◌, codes}
use Rattle.std.specs.Str.{bytes_eq}
use Rattle.std.specs.List.{before_first}
use Rattle.std.proofs.Common.{eqb}
use Rattle.feed_check.specs.RoomOptions.{Given}
use Rattle.feed_check.specs.declared.room_options.RoomKey.{RoomKey}
use Rattle.feed_check.specs.declared.room_options.RoomKey.TheVariants as rooms

-- a text of the command line
abbrev pub Word : Type 0
Word = List ℕ

-- The subcommand takes this option from a room's file: it requires it, or tries settings. The number that `renumber`
-- requires is another one.
abbrev pub takes : Word → RoomKey → Bool
takes name rooms.Site =
    bytes_eq name (codes "desk") || (bytes_eq name (codes "import") || (bytes_eq name (codes "replace")
    || bytes_eq name (codes "renew")))
takes name rooms.Case =
    bytes_eq name (codes "proof") || (bytes_eq name (codes "punch") || (bytes_eq name (codes "read")
    || bytes_eq name (codes "sorts")))
takes name rooms.Wedge =
    bytes_eq name (codes "proof") || (bytes_eq name (codes "punch") || bytes_eq name (codes "read"))
takes name rooms.Set = bytes_eq name (codes "proof")

-- the option as it is typed
abbrev pub typed : RoomKey → Word
typed rooms.Site = codes "--site"
typed rooms.Case = codes "--case"
typed rooms.Wedge = codes "--wedge"
typed rooms.Set = codes "--set"

-- the part of a word before its first `=`, or all of it
abbrev pub named : Word → Word
named word = before_first (λ b. eqb b 61) word

-- words give an option, before a word `--`
abbrev pub is_given : Word → List Word → Bool
is_given option [] = false
is_given option (word ∷ words) =
    if bytes_eq word (codes "--") then false else if bytes_eq (named word) option then true else is_given option words

-- a word may give it once alone, and it is given
abbrev pub is_settled : RoomKey → List Word → Bool
is_settled rooms.Site words = is_given (codes "--site") words
is_settled rooms.Case words = is_given (codes "--case") words
is_settled rooms.Wedge words = is_given (codes "--wedge") words
is_settled rooms.Set words = false

-- a subcommand with these words wants an option
abbrev pub wants : Word → List Word → RoomKey → Bool
wants name words key = takes name key && not (is_settled key words)

-- the words that options add
abbrev pub word_of : Given → Word
word_of option = typed option.0 ++ (codes "=" ++ option.1)

abbrev pub added : Word → List Word → List Given → List Word
added name words [] = []
added name words (option ∷ options) =
    if wants name words option.0 then word_of option ∷ added name words options else added name words options

-- Words with these options: those that are wanted stand behind the subcommand, before all that is typed.
abbrev pub completed : List Given → List Word → List Word
completed options [] = []
completed options (name ∷ words) = name ∷ (added name words options ++ words)

-- words ask for help
abbrev pub is_help : List Word → Bool
is_help words = is_given (codes "--help") words || is_given (codes "-h") words

-- Words want something of a room's file. Those that ask for help want nothing.
abbrev pub wants_room : List Word → Bool
wants_room [] = false
wants_room (name ∷ words) =
    not (is_help words) && (wants name words rooms.Site || (wants name words rooms.Case
    || (wants name words rooms.Wedge || wants name words rooms.Set)))
