-- A worked log.
use Rattle.std.specs.Prelude.{◌≡◌, List, [], ◌∷◌, ◌++◌, None, codes}
use Rattle.desk_ops.specs.declared.op.Key.TheVariants.{Measure}
use Rattle.desk_ops.specs.declared.op.Op.{Op}
use Rattle.desk_ops.specs.declared.op.Op.TheVariants.{Delete, Set}
use Rattle.desk_ops.specs.Stamp.{head}
use Rattle.desk_ops.specs.Worked.{at, held, typed}
use Rattle.feed_history.specs.declared.asked.Asked.{Asked}
use Rattle.feed_history.specs.Log.{log_bytes}

abbrev pub everything : Asked
everything = record { site = None; since = None; text = None }

-- one site types `ab`; another deletes the `a`, and sets the measure; the first goes on with `c` behind a gap; the
-- other has an `x` that hangs on what has not come
abbrev pub two_sites : List Op
two_sites =
    typed (at 1 1) head 97 ∷ typed (at 2 1) (at 1 1) 98 ∷ Delete (at 3 2) (at 1 1) ∷ Set (at 4 2) Measure 150
    ∷ typed (at 6 1) (at 2 1) 99 ∷ typed (at 8 2) (at 7 3) 120 ∷ []

abbrev pub WorkedLog : Type 0
WorkedLog = log_bytes everything (held two_sites)
    ≡ codes "1.1..2.1 at 0 + \"ab\"\n3.2..4.2 at 0 - \"a\" measure 150\n"
    ++ codes "6.1 at 1 + \"c\"\n8.2 not shown + \"x\" waiting 1\n"
