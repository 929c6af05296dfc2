-- The kinds of files, by their first bytes.
use Rattle.std.specs.Prelude.{◌≡◌, ◌==◌, ◌||◌, ℕ, Bool, if◌then◌else◌, List, Option, Some, None, Result, Ok, Err, codes}
use Rattle.std.specs.Prelude.{eqb, length}
use Rattle.std.specs.List.{starts_with}
use Rattle.feed_files.specs.Files.{Kept, Reads}
use Rattle.feed_files.specs.declared.files.FileRefusal.{FileRefusal}
use Rattle.feed_files.specs.declared.files.FileRefusal.TheVariants as refusals
use Rattle.feed_files.specs.declared.kinds.Kind.{Kind}
use Rattle.feed_files.specs.declared.kinds.Kind.TheVariants as kinds

-- bytes begin with this prefix
abbrev pub begins : List ℕ → List ℕ → Bool
begins bytes prefix = starts_with eqb bytes prefix

-- what a document begins with: that it is HTML, and that this program wrote it
unfoldable pub document_head : List ℕ
document_head =
    codes "<!DOCTYPE html>\n<html xmlns=\"http://www.w3.org/1999/xhtml\" lang=\"en\">\n<head>\n<meta charset=\"utf-8\"/>\n<meta name=\"generator\" content=\"copydesk\"/>\n"

-- the kind of bytes, by the first of them; none of no bytes
abbrev pub kind_of : List ℕ → Option Kind
kind_of bytes =
    if length bytes == 0 then None
    else if begins bytes (codes "MFD1") || begins bytes (codes "MFD2") then Some kinds.Feed
    else if begins bytes (codes "MRB1") then Some kinds.Ribbon
    else if begins bytes (codes "<svg") then Some kinds.Picture
    else if begins bytes document_head then Some kinds.Document
    else Some kinds.Other

-- what a read says of the kind that stands there: none where no file is there, and nothing where the device or memory
-- failed
abbrev pub Says : Result (List ℕ) FileRefusal → Option Kind → Type 0
Says (Ok bytes) kind = kind ≡ kind_of bytes
Says (Err refusals.Missing) kind = kind ≡ None
Says (Err refusals.Device) kind = ⊥
Says (Err refusals.Large) kind = kind ≡ Some kinds.Large
Says (Err refusals.NoMemory) kind = ⊥

-- a file of this kind stands under a name, or none, or an empty one, as far as that is known of the files
abbrev pub Stands : Kept → Option Kind → Type 0
Stands kept kind = (read : Result (List ℕ) FileRefusal) × Reads kept read × Says read kind
