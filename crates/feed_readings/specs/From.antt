-- A stamp from which on the operations of a set bear theirs.
use Rattle.std.specs.Prelude.{◌≡◌, false, true}
use Rattle.desk_ops.specs.Held.{is_borne_in}
use Rattle.desk_ops.specs.OpSet.{OpSet}
use Rattle.desk_ops.specs.Stamp.{before}
use Rattle.desk_ops.specs.declared.op.Stamp.{Stamp}

-- it bears none before that
abbrev pub IsFrom : OpSet → Stamp → Type 0
IsFrom set first = (s : Stamp) → before s first ≡ true → is_borne_in set s ≡ false
