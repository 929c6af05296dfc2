-- What holds of the ends of galleys.
use Rattle.std.specs.Prelude.{◌≡◌, List, ◌++◌, length, map}
use Rattle.std.specs.List.{flat_map}
use Rattle.desk_ribbon.specs.Ribbon.{ribbon_rows}
use Rattle.desk_ribbon.specs.declared.PunchLine.{PunchLine}
use Rattle.view_ribbon.specs.Ends.{ended}

-- In the rows of galleys, one after the other, each but the last ends behind its own lines.
abbrev pub GalleysEnd : Type 0
GalleysEnd = (galleys : List (List (PunchLine (Unit {0})))) (last : List (PunchLine (Unit {0})))
    → ended (flat_map ribbon_rows galleys ++ ribbon_rows last) ≡ map length galleys
