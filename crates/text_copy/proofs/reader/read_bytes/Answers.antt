use Rattle.std.proofs.Common.{ap, ◌∙◌, subst, true}
use Rattle.std.specs.Str.{chars}
use Rattle.desk_ops.specs.declared.op.Style.TheVariants.{Roman}
use Rattle.text_copy.specs.declared.reader.State.TheVariants.{Within}
use Rattle.text_copy.specs.Reading.{Gives, read_from, start}
use Rattle.text_copy.proofs.Loops.{whole_read}
use Rattle.text_copy.proofs.reader.read_bytes.Goals as goal

pub returns-in-Ok : goal.returns-in-Ok
returns-in-Ok g c =
    let e = c.in-Ok.ensures.cases in
    subst (λ read. Gives (λ v. v.items) c.read_chars.result read) (ap (λ xs. read_from c.args.plain true (Within Roman) start (chars xs)) e.0 ∙ whole_read c.args.plain c.args.bytes.now e.1) c.read_chars.ensures
