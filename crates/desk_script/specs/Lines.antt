-- The lines of a script.
use Rattle.std.specs.Prelude.{ℕ, Bool, true, false, ◌==◌, ◌&&◌, List, [], ◌∷◌, map, if◌then◌else◌}
use Rattle.std.specs.List.{onto_first}
use Rattle.desk_script.specs.Line.{Line, line_of}

-- the pieces between line feeds, of which the last has no end
abbrev pub pieces : List ℕ → List (List ℕ)
pieces [] = [] ∷ []
pieces (b ∷ bytes) = let rest = pieces bytes in if b == 10 then [] ∷ rest else onto_first b rest

abbrev pub is_empty : List ℕ → Bool
is_empty [] = true
is_empty (b ∷ bytes) = false

-- without one carriage return at the end
abbrev pub without_cr : List ℕ → List ℕ
without_cr [] = []
without_cr (b ∷ bytes) = if b == 13 && is_empty bytes then [] else b ∷ without_cr bytes

-- A line feed ends each piece but the last, which counts if it is not empty.
abbrev pub ended : List ℕ → List (List ℕ) → List (List ℕ)
ended piece [] = if is_empty piece then [] else piece ∷ []
ended piece (next ∷ pieces) = without_cr piece ∷ ended next pieces

abbrev pub lines_of_pieces : List (List ℕ) → List (List ℕ)
lines_of_pieces [] = []
lines_of_pieces (piece ∷ pieces) = ended piece pieces

abbrev pub lines : List ℕ → List Line
lines input = map line_of (lines_of_pieces (pieces input))
