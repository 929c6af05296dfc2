use Rattle.std.proofs.Common.{ap, ◌∙◌, ◌++◌, string_bytes}
use Rattle.view_proof.proofs.Texts.{three}
use Rattle.view_pages.proofs.Texts.{pushed_as}
use Rattle.view_pages.specs.Report.{cause_line}
use Rattle.view_pages.proofs.report.put_cause_line.Goals as goal

pub returns : goal.returns
unfolding cause_line
returns g c =
    three c.push_str-2.result (string_bytes c.args.out.now) (string_bytes c.push_str.new.self) (string_bytes c.put_why_words.new.out) (string_bytes c.push_str-2.new.self) _ _ _
    (c.in_ok-push_str.ensures.bytes ∙ ap (λ t. string_bytes c.args.out.now ++ t) c.cause_begin.ensures) c.in_ok-put_why_words.ensures
    (pushed_as c.push_str-2.result (string_bytes c.put_why_words.new.out) (string_bytes c.push_str-2.new.self) _ _ c.push_str-2.ensures.bytes c.cause_end.ensures)
