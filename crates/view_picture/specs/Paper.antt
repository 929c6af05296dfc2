-- Where things stand on the paper, in hundredths of a point.
use Rattle.std.specs.Prelude.{ℕ, ◌+◌, ◌*◌, ◌/◌}
use Rattle.desk_units.specs.declared.Pica.{Pica}
use Rattle.desk_units.specs.Widths.{point_atoms}
use Rattle.view_picture.specs.declared.paper.Paper.{Paper}

-- where the frame begins, from the left
abbrev pub edge : ℕ
edge = 10000

-- so many atoms from the edge of the frame, rounded down
abbrev pub across : Pica → ℕ → ℕ
across pica atoms = edge + atoms * 100 / point_atoms pica

-- how far apart lines stand: the set of the wedge, and 4 points
abbrev pub leading : Paper → ℕ
leading paper = paper.set + 400

-- where the letters of the line of this number stand, from the top
abbrev pub foot : Paper → ℕ → ℕ
foot paper number = paper.top + leading paper * number
