-- What holds of the kinds of files.
use Rattle.std.specs.Prelude.{◌≡◌, ◌<◌, ℕ, List, [], ◌++◌, Some, None, codes, length}
use Rattle.feed_files.specs.Kinds.{document_head, kind_of}
use Rattle.feed_files.specs.declared.kinds.Kind.TheVariants as kinds

-- what begins as a feed of either form is a feed
abbrev pub FeedsAreFeeds : Type 0
FeedsAreFeeds = (rest : List ℕ)
    → (kind_of (codes "MFD1" ++ rest) ≡ Some kinds.Feed) × (kind_of (codes "MFD2" ++ rest) ≡ Some kinds.Feed)

abbrev pub RibbonsAreRibbons : Type 0
RibbonsAreRibbons = (rest : List ℕ) → kind_of (codes "MRB1" ++ rest) ≡ Some kinds.Ribbon

abbrev pub PicturesArePictures : Type 0
PicturesArePictures = (rest : List ℕ) → kind_of (codes "<svg" ++ rest) ≡ Some kinds.Picture

abbrev pub DocumentsAreDocuments : Type 0
DocumentsAreDocuments = (rest : List ℕ) → kind_of (document_head ++ rest) ≡ Some kinds.Document

-- what is shorter than four bytes is none of these
abbrev pub ShortOnesAreOthers : Type 0
ShortOnesAreOthers = (bytes : List ℕ) → 0 < length bytes → length bytes < 4 → kind_of bytes ≡ Some kinds.Other

-- nothing but no bytes has no kind
abbrev pub NoneIsEmpty : Type 0
NoneIsEmpty = (bytes : List ℕ) → kind_of bytes ≡ None → bytes ≡ []
