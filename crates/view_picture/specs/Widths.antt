-- The widths of a line as it is drawn, in atoms.
use Rattle.std.specs.Prelude.{ℕ, ◌+◌, ◌-◌, ◌*◌, max, true, ℤ, pos, negsuc, List, [], ◌∷◌, Option, Some, None}
use Rattle.std.specs.Prelude.{option_and_then}
use Rattle.desk_units.specs.WedgeSum.{pair_of, sum_at}
use Rattle.desk_caster.specs.Caster.{cast_width}
use Rattle.desk_job.specs.Job.{Terms, measure, space_width}
use Rattle.view_galley.specs.Values.{LineValues}

-- a width, nothing where it is less
abbrev pub some_width : ℤ → ℕ
some_width (pos atoms) = atoms
some_width (negsuc less) = 0

-- a space as it is cast at these positions of the wedges, at neutral where there are none
abbrev pub space_at : Terms → Option (ℕ × ℕ) → ℕ
space_at terms None = space_width terms
space_at terms (Some pair) = some_width (cast_width terms.wedge (sum_at pair.0 pair.1) terms.case.space true)

-- a space of a line: at its wedge sum, or at neutral where the wedges do not reach it
abbrev pub drawn_space : Terms → LineValues → ℕ
drawn_space terms line = space_at terms (option_and_then pair_of line.wedge_sum)

-- how far the words and spaces of a line go
abbrev pub reach : Terms → LineValues → ℕ
reach terms line = (line.width - line.spaces * space_width terms) + line.spaces * drawn_space terms line

-- the measure, or how far a line goes that goes further
abbrev pub frame_or : Terms → LineValues → ℕ
frame_or terms line = max (measure terms) (reach terms line)

-- the most of this width and how far lines go
abbrev pub widest_from : Terms → ℕ → List LineValues → ℕ
widest_from terms here [] = here
widest_from terms here (line ∷ lines) = widest_from terms (max here (reach terms line)) lines

-- the measure, or how far the widest line goes where that is further
abbrev pub widest : Terms → List LineValues → ℕ
widest terms lines = widest_from terms (measure terms) lines
