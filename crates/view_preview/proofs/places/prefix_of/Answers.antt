use Rattle.std.proofs.Common.{◌∙◌, ap, arith, length, sym, take, take_all}
use Rattle.std.proofs.lemmas.Str.{utf8_valid_len-IsUtf8}
use Rattle.view_preview.proofs.places.prefix_of.Goals as goal

pub returns-in-Ok : goal.returns-in-Ok
returns-in-Ok c =
    let bytes = c.args.bytes.now in
    let e = c.in-Ok.ensures.cases in
    e.0 ∙ sym (ap (λ n. take n bytes) (utf8_valid_len-IsUtf8 bytes e.1) ∙ take_all (length bytes) bytes (omega arith))
