use Rattle.std.proofs.Common.{◌∙◌, sym, ap, length}
use Rattle.std.specs.Str.{chars}
use Rattle.std.proofs.lemmas.Str.{chars_past_char, chars-nil}
use Rattle.std.proofs.lemmas.List.{nil_from_length}
use Rattle.desk_case.proofs.texts.split.Goals as goal

pub returns-in-Some : goal.returns-in-Some
returns-in-Some c =
    chars_past_char c.args.text.now c.as_str.result.now c.in-Some.first c.utf8.text (cc (c.in-Some.ensures.steps.0, c.chars-rest.ensures.rest, c.as_str.ensures))

pub returns-in-None : goal.returns-in-None
returns-in-None c =
    ap chars (nil_from_length c.args.text.now (sym (ap length c.chars-rest.ensures.rest) ∙ c.in-None.ensures.steps.0.0)) ∙ chars-nil
