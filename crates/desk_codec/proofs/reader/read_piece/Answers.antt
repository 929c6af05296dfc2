use Rattle.std.proofs.Common.{◌≡◌, ◌+◌, ◌∙◌, ◌++◌, ℕ, List, length, length-append, ap, sym, arith}
use Rattle.desk_codec.specs.Feed.{magic_of}
use Rattle.desk_codec.proofs.PieceLaws.{magic_length}
use Rattle.desk_codec.proofs.reader.read_piece.Goals as goal

pub read_after_magic-requires : goal.read_after_magic-requires
read_after_magic-requires g c =
    let lens : length c.args.kept.now.items + length c.args.piece.now ≡ length (magic_of c.in-Some-after_magic.form) + length c.in-Some-after_magic.rest.now =
    sym (length-append c.args.kept.now.items c.args.piece.now) ∙ ap (λ (l : List ℕ). length (l ++ c.args.piece.now)) (sym c.as_slice.ensures.value) ∙ ap (λ (l : List ℕ). length l) c.in-Some-after_magic.ensures.magic ∙ length-append (magic_of c.in-Some-after_magic.form) c.in-Some-after_magic.rest.now
    in
    let four = magic_length c.in-Some-after_magic.form in
    let few = c.requires.few in
    omega (arith, lens, four, few)
