-- What is written of a ribbon that is cast.
use Rattle.std.specs.Prelude.{ℕ, Bool, true, ◌&&◌, nat_le, Option, Some, None}
use Rattle.view_ribbon.specs.declared.extent.Lines.{Lines}

-- a line of this number is shown: each, or those from the first to the last
abbrev pub is_shown : Option Lines → ℕ → Bool
is_shown None number = true
is_shown (Some lines) number = nat_le lines.first number && nat_le number lines.last
