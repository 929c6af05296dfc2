-- Parts of a picture.
use Rattle.std.specs.Prelude.{ℕ, List, ◌++◌}
use Rattle.std.specs.Fmt.{decimal}

-- a number between two texts
abbrev pub between : List ℕ → ℕ → List ℕ → List ℕ
between before n after = before ++ (decimal n ++ after)
