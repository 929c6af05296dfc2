-- What holds of every galley.
use Rattle.std.specs.Prelude.{◌≡◌, List, [], ◌∷◌, map}
use Rattle.std.specs.List.{flat_map}
use Rattle.desk_ops.specs.declared.op.Symbol.{Symbol}
use Rattle.desk_ribbon.specs.Ribbon.{head_row}
use Rattle.desk_job.specs.Job.{Terms, lines, line_faults, rows_of}
use Rattle.desk_job.specs.Setting.{line_at}
use Rattle.view_galley.specs.Values.{LineValues}
use Rattle.view_galley.specs.Galley.{galley_of, rows_of_line}

-- The lines of a galley are those of the job: the same words, and to be filled where those are.
abbrev pub LinesAreOfJob : Type 0
LinesAreOfJob = (terms : Terms) (copy : List Symbol) →
    map (λ (line : LineValues). line_at copy line.words line.filled) (galley_of terms copy) ≡ lines terms copy

-- The faults of the lines of a galley are those of the lines of the job.
abbrev pub FaultsAreOfJob : Type 0
FaultsAreOfJob = (terms : Terms) (copy : List Symbol) →
    flat_map (λ (line : LineValues). line.faults) (galley_of terms copy) ≡ line_faults terms 1 (lines terms copy)

-- Where no line has a fault, the rows of the job are those of the lines of the galley, in their order.
abbrev pub RowsAreOfGalley : Type 0
RowsAreOfGalley = (terms : Terms) (copy : List Symbol) → line_faults terms 1 (lines terms copy) ≡ [] →
    rows_of terms (lines terms copy) ≡ head_row ∷ flat_map (rows_of_line terms.case copy) (galley_of terms copy)
