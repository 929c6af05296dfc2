-- Worked lines.
use Rattle.std.specs.Prelude.{◌≡◌, ℕ, List, [], ◌∷◌, ◌++◌, Option, Some, None, refl, codes, map}
use Rattle.std.specs.Str.{chars, is_utf8}
use Rattle.std.proofs.Math.Utf8.{encode}
use Rattle.desk_ops.specs.declared.op.Key.TheVariants as keys
use Rattle.desk_ops.specs.declared.op.Style.TheVariants.{Roman, Italic}
use Rattle.desk_script.specs.Line.{Line, Bytes, Long}
use Rattle.desk_script.specs.Lines.{lines}
use Rattle.script_answers.specs.Reading.{word_at, number_of, number_at, range_of, range_at, file_at, nibble, hex_at}
use Rattle.script_answers.specs.Copy.{symbol, step, copy_at}
use Rattle.script_answers.specs.Command.{CommandValues, Site, Insert, SetTo, Show, Feed, Send, Take, Ribbon}
use Rattle.script_answers.specs.Grammar.{verb_of, key_of, one_site, insert_form, set_form, take_form, send_form, two_files, words_of, command_of}

command_on : Line → Option CommandValues
command_on (Bytes bytes) = command_of bytes
command_on Long = None

commands : List ℕ → List (Option CommandValues)
commands input = map command_on (lines input)

two_sites : commands
    (codes "site 1\nsite 2\r\ninsert 1 0 r\"ab\"\nsend 1 2\nshow 1\nshow 2\nfeed 2")
    ≡ Some (Site 1) ∷ Some (Site 2) ∷ Some (Insert 1 0 (symbol Roman 97 ∷ symbol Roman 98 ∷ [])) ∷ Some (Send 1 2 None)
    ∷ Some (Show 1) ∷ Some (Show 2) ∷ Some (Feed 2) ∷ []
unfolding encode commands command_on command_of is_utf8 chars words_of word_at verb_of one_site number_at number_of
    insert_form copy_at step send_form range_at
two_sites = refl

refused_later : commands
    (codes "site 1\nsite 0\nsend 1 3\ninsert 1 5 r\"a\"\ninsert 1 0 i\" \"\n"
    ++ codes "set 1 measure 11\njump\nribbon 1 none.toml w\n")
    ≡ Some (Site 1) ∷ Some (Site 0) ∷ Some (Send 1 3 None) ∷ Some (Insert 1 5 (symbol Roman 97 ∷ [])) ∷ Some
    (Insert 1 0 (symbol Italic 32 ∷ []))
    ∷ Some (SetTo 1 keys.Measure 11) ∷ None ∷ Some (Ribbon 1 (codes "none.toml") (codes "w")) ∷ []
unfolding encode commands command_on command_of is_utf8 chars words_of word_at verb_of key_of one_site number_at
    number_of insert_form copy_at step send_form range_at set_form two_files file_at
refused_later = refl

-- lines of no command's form, and some of its edges
edges : commands
    (codes "\n show 1\nshow  1\nshow 1 \nshow 00000000001\nshow 0000000001\nshow 4294967296\nshow 4294967295\n"
    ++ codes "insert 1 0\ninsert 1 0 \ninsert 1 0 r\"\"\ninsert 1 0 r\"a\"i\"b\"\ninsert 1 0 r\"a\\\"\\n\" i\"b\"\n"
    ++ codes "send 1 2 0..x\nsend 1 2 3..2\ntake 9 4d4\ntake 9 4D4f")
    ≡ None ∷ None ∷ None ∷ None ∷ None ∷ Some (Show 1) ∷ None ∷ Some (Show 4294967295) ∷ None ∷ None ∷ None ∷ None
    ∷ Some (Insert 1 0 (symbol Roman 97 ∷ symbol Roman 34 ∷ symbol Roman 10 ∷ symbol Italic 98 ∷ [])) ∷ None ∷ Some
    (Send 1 2 (Some (3, 2))) ∷ None
    ∷ Some (Take 9 (77 ∷ 79 ∷ [])) ∷ []
unfolding encode commands command_on command_of is_utf8 chars words_of word_at verb_of one_site number_at number_of
    insert_form copy_at step send_form range_at range_of take_form hex_at nibble
edges = refl

-- one carriage return goes before a line feed, and none at the end
returns : lines (codes "show 1\r\r\nshow 1\r") ≡ Bytes (codes "show 1\r") ∷ Bytes (codes "show 1\r") ∷ []
returns = refl
