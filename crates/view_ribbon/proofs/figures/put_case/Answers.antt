use Rattle.std.proofs.Common.{string_bytes}
use Rattle.std.specs.Prelude.{codes}
use Rattle.view_ribbon.specs.Figures.{case_rows, case_text, table_text}
use Rattle.view_ribbon.proofs.Texts.{two_texts}
use Rattle.view_ribbon.proofs.figures.put_case.Goals as goal

pub returns : goal.returns
unfolding case_text
returns g c =
    two_texts c.put_table.result (string_bytes c.args.out.now) (string_bytes c.push_str.new.self) (string_bytes c.put_table.new.out) (codes "\n  row  matrices\n") (table_text c.args.lines.now case_rows) c.in_ok-push_str.ensures.bytes c.put_table.ensures
