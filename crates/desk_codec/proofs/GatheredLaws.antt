-- Operations gathered after operations.
use Rattle.std.proofs.Common.{◌≡◌, ◌+◌, Option, Some, None, List, [], ◌++◌, length, sym, ap, ◌∙◌, append_assoc, length-append, arith}
use Rattle.std.proofs.lemmas.List.{append-nil}
use Rattle.desk_ops.specs.declared.op.Op.{Op}
use Rattle.desk_codec.specs.Gathered.{Adds}

pub adds_none : (all : Option (List Op)) → Adds all all []
adds_none (Some ops) = sym (append-nil ops)
adds_none None = tt

pub adds_then : (before between after : Option (List Op)) (xs ys : List Op) → Adds before between xs → Adds between after ys → Adds before after (xs ++ ys)
adds_then (Some a) (Some b) (Some c) xs ys f g = g ∙ ap (λ (l : List Op). l ++ ys) f ∙ append_assoc a xs ys
adds_then (Some a) (Some b) None xs ys f g = let len : length (xs ++ ys) ≡ length xs + length ys = length-append xs ys in omega (arith, len, g)
adds_then (Some a) None (Some c) xs ys f g = absurd g
adds_then (Some a) None None xs ys f g = let len : length (xs ++ ys) ≡ length xs + length ys = length-append xs ys in omega (arith, len, f)
adds_then None (Some b) after xs ys f g = absurd f
adds_then None None (Some c) xs ys f g = absurd g
adds_then None None None xs ys f g = tt
