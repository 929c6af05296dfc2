-- Bytes, and the document that they are.
use Rattle.std.proofs.Common.{◌≡◌, ◌∙◌, List, ℕ, Bool, true, false, Some, None, refl, sym, eq-eqb}
use Rattle.std.specs.Str.{IsUtf8, is_utf8}
use Rattle.std.proofs.lemmas.Str.{is_utf8-from_IsUtf8, IsUtf8-from_is_utf8}
use Rattle.toml.specs.Data.{Members, no_members}
use Rattle.toml.specs.Errors.{IsBlank}
use Rattle.toml.specs.Parse.{parse_document, lines}
use Rattle.desk_wedge.specs.Keys.{document}

pub document_is : (bytes : List ℕ) (ms : Members) → IsUtf8 bytes → parse_document bytes ≡ Some ms → document bytes ≡ Some ms
document_is bytes ms utf8 parsed = rw (is_utf8-from_IsUtf8 bytes utf8, parsed)

no_document_at : (bytes : List ℕ) (b : Bool) → is_utf8 bytes ≡ b → (IsUtf8 bytes → parse_document bytes ≡ None) → document bytes ≡ None
no_document_at bytes true e refused = rw (e, refused (IsUtf8-from_is_utf8 bytes e))
no_document_at bytes false e refused = rw e

pub no_document : (bytes : List ℕ) → (IsUtf8 bytes → parse_document bytes ≡ None) → document bytes ≡ None
no_document bytes refused = no_document_at bytes (is_utf8 bytes) refl refused

-- a blank text is an empty document
blank_document : (text : List ℕ) → IsBlank text → parse_document text ≡ Some no_members
unfolding parse_document lines
blank_document text blank = rw (eq-eqb _ 0 blank) refl

pub blank_is_empty : (text : List ℕ) (ms : Members) → parse_document text ≡ Some ms → IsBlank text → ms ≡ no_members
blank_is_empty text ms parsed blank = let same : Some ms ≡ Some no_members = sym parsed ∙ blank_document text blank in cc
