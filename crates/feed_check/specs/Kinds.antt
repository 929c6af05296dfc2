-- The kinds of bytes: what a file is checked as.
use Rattle.std.specs.Prelude.{ℕ, Bool, ◌||◌, if◌then◌else◌, List, Option, Some, None, eqb, is_some}
use Rattle.std.specs.List.{starts_with}
use Rattle.toml.specs.Data.{Members, get_member}
use Rattle.desk_wedge.specs.Keys.{document}
use Rattle.desk_codec.specs.Feed as feeds
use Rattle.desk_caster.specs.Reading as ribbons
use Rattle.desk_case.specs.File as case_files
use Rattle.desk_case.specs.declared.CaseKey.TheVariants as case_keys
use Rattle.desk_wedge.specs.File as wedge_files
use Rattle.desk_wedge.specs.declared.WedgeKey.TheVariants as wedge_keys
use Rattle.feed_check.specs.declared.kinds.Kind.{Kind}
use Rattle.feed_check.specs.declared.kinds.Kind.TheVariants as kinds

-- bytes begin with this prefix
abbrev pub begins : List ℕ → List ℕ → Bool
begins bytes prefix = starts_with eqb bytes prefix

-- a document has a key of this name
abbrev pub has_key : Members → List ℕ → Bool
has_key members name = is_some (get_member name members)

-- a document is a case's by one key, else a wedge's by one
abbrev pub kind_of_members : Members → Kind
kind_of_members members =
    if has_key members (case_files.key_name case_keys.Case) || has_key members (case_files.key_name case_keys.Rows)
    then kinds.Case
    else if has_key members (wedge_files.key_name wedge_keys.Wedge)
    || has_key members (wedge_files.key_name wedge_keys.Units) then kinds.Wedge
    else kinds.Strange

abbrev pub kind_of_document : Option Members → Kind
kind_of_document None = kinds.Strange
kind_of_document (Some members) = kind_of_members members

-- the kind of bytes, by their first four, else by their keys
abbrev pub kind_of : List ℕ → Kind
kind_of bytes =
    if begins bytes feeds.magic || begins bytes feeds.runs_magic then kinds.Feed
    else if begins bytes ribbons.magic then kinds.Ribbon
    else kind_of_document (document bytes)
