-- The code's kinds of operations.
use Rattle.std.specs.Prelude.{ℕ}
use Rattle.desk_codec.specs.declared.form.Kind.{Kind}
use Rattle.desk_codec.specs.declared.form.Kind.TheVariants.{Insert, Delete, Set}

abbrev pub kind_byte : Kind → ℕ
kind_byte Insert = 1
kind_byte Delete = 2
kind_byte Set = 3

abbrev pub kind_size : Kind → ℕ
kind_size Insert = 26
kind_size Delete = 21
kind_size Set = 16
