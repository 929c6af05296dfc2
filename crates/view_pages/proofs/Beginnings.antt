-- What documents begin with.
use Rattle.std.proofs.Common.{◌≡◌, ◌==◌, Bool, false, ℕ, List, ◌++◌, length, None, Some, if◌then◌else◌, ap, ◌∙◌, append_assoc}
use Rattle.std.proofs.Math.Dec.{eqb-suc-zero}
use Rattle.feed_files.specs.Kinds.{document_head, kind_of}
use Rattle.feed_files.specs.declared.kinds.Kind.TheVariants as kinds

-- bytes that begin as a document does are known as one
pub known : (rest : List ℕ) → kind_of (document_head ++ rest) ≡ Some kinds.Document
unfolding document_head
known rest =
    let some : (length (document_head ++ rest) == 0) ≡ false = eqb-suc-zero _ in
    ap (λ (b : Bool). if b then None else Some kinds.Document) some

pub known_twice : (more rest : List ℕ) → kind_of ((document_head ++ more) ++ rest) ≡ Some kinds.Document
known_twice more rest = ap kind_of (append_assoc document_head more rest) ∙ known (more ++ rest)
