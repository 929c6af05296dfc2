-- The form of each command.
use Rattle.std.specs.Prelude.{ℕ, List, Option, Some, None, if◌then◌else◌, codes}
use Rattle.std.specs.Str.{bytes_eq, is_utf8}
use Rattle.desk_ops.specs.declared.op.Key.{Key}
use Rattle.desk_ops.specs.declared.op.Key.TheVariants as keys
use Rattle.script_answers.specs.declared.reader.Verb.{Verb}
use Rattle.script_answers.specs.declared.reader.Verb.TheVariants as verbs
use Rattle.script_answers.specs.Reading.{◌>>=◌, Rest, word_at, number_at, file_at, range_at, hex_at, at_end}
use Rattle.script_answers.specs.Copy.{copy_at}
use Rattle.script_answers.specs.Command.{CommandValues, Site, Insert, Delete, SetTo, Take, Send, Merge, Show, Faults}
use Rattle.script_answers.specs.Command.{Settings, Feed, Ribbon, Cast, Restart}

unfoldable pub verb_of : List ℕ → Option Verb
verb_of word =
    if bytes_eq word (codes "site") then Some verbs.Site else (
    if bytes_eq word (codes "insert") then Some verbs.Insert else (
    if bytes_eq word (codes "delete") then Some verbs.Delete else (
    if bytes_eq word (codes "set") then Some verbs.Set else (
    if bytes_eq word (codes "take") then Some verbs.Take else (
    if bytes_eq word (codes "send") then Some verbs.Send else (
    if bytes_eq word (codes "merge") then Some verbs.Merge else (
    if bytes_eq word (codes "show") then Some verbs.Show else (
    if bytes_eq word (codes "faults") then Some verbs.Faults else (
    if bytes_eq word (codes "settings") then Some verbs.Settings else (
    if bytes_eq word (codes "feed") then Some verbs.Feed else (
    if bytes_eq word (codes "ribbon") then Some verbs.Ribbon else (
    if bytes_eq word (codes "cast") then Some verbs.Cast else (
    if bytes_eq word (codes "restart") then Some verbs.Restart else None)))))))))))))

unfoldable pub key_of : List ℕ → Option Key
key_of word =
    if bytes_eq word (codes "measure") then Some keys.Measure else (
    if bytes_eq word (codes "tight") then Some keys.Tight else (
    if bytes_eq word (codes "loose") then Some keys.Loose else (
    if bytes_eq word (codes "case") then Some keys.Case else (
    if bytes_eq word (codes "wedge") then Some keys.Wedge else None))))

-- one site and nothing else
unfoldable pub one_site : (ℕ → CommandValues) → Rest → Option CommandValues
one_site command rest = do
  site ← number_at rest
  at_end site.1 (command site.0)

unfoldable pub insert_form : Rest → Option CommandValues
insert_form rest = do
  site ← number_at rest
  place ← number_at site.1
  copy ← copy_at place.1
  Some (Insert site.0 place.0 copy)

unfoldable pub two_numbers : (ℕ → ℕ → CommandValues) → Rest → Option CommandValues
two_numbers command rest = do
  first ← number_at rest
  second ← number_at first.1
  at_end second.1 (command first.0 second.0)

unfoldable pub set_form : Rest → Option CommandValues
set_form rest = do
  site ← number_at rest
  word ← word_at site.1
  key ← key_of word.0
  value ← number_at word.1
  at_end value.1 (SetTo site.0 key value.0)

unfoldable pub take_form : Rest → Option CommandValues
take_form rest = do
  site ← number_at rest
  bytes ← hex_at site.1
  Some (Take site.0 bytes)

unfoldable pub send_form : Rest → Option CommandValues
send_form rest = do
  from ← number_at rest
  to ← number_at from.1
  range ← range_at to.1
  Some (Send from.0 to.0 range)

unfoldable pub two_files : (ℕ → List ℕ → List ℕ → CommandValues) → Rest → Option CommandValues
two_files command rest = do
  site ← number_at rest
  case ← file_at site.1
  wedge ← file_at case.1
  at_end wedge.1 (command site.0 case.0 wedge.0)

abbrev pub form_of : Verb → Rest → Option CommandValues
form_of verbs.Site = one_site Site
form_of verbs.Insert = insert_form
form_of verbs.Delete = two_numbers Delete
form_of verbs.Set = set_form
form_of verbs.Take = take_form
form_of verbs.Send = send_form
form_of verbs.Merge = two_numbers Merge
form_of verbs.Show = one_site Show
form_of verbs.Faults = one_site Faults
form_of verbs.Settings = one_site Settings
form_of verbs.Feed = one_site Feed
form_of verbs.Ribbon = two_files Ribbon
form_of verbs.Cast = two_files Cast
form_of verbs.Restart = one_site Restart

unfoldable pub words_of : List ℕ → Option CommandValues
words_of line = do
  word ← word_at (Some line)
  verb ← verb_of word.0
  form_of verb word.1

-- the command that a line is
unfoldable pub command_of : List ℕ → Option CommandValues
command_of line = if is_utf8 line then words_of line else None
