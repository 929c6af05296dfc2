use Rattle.std.proofs.Common.{rules, ◌∙◌, Ok, Err, arith}
use Rattle.std.proofs.lemmas.Result.{err_from_is_err_and}
use Rattle.desk_image.specs.declared.BadImage.TheVariants.{Row}
use Rattle.desk_image.proofs.ImageLaws.{row_image, the_answer}
use Rattle.desk_image.proofs.Image.to_row.Goals as goal

pub returns-clause-image : goal.returns-clause-image
returns-clause-image c =
    row_image c.args.self c.deref.result.now c.in_ok-row.row (c.deref.ensures.0 ∙ c.signals.ensures)
    (omega (arith, c.if-self-ge2147483648.false)) c.in_ok-row.ensures.row c.in_ok-row.ensures.spells

pub returns-clause-every_row : goal.returns-clause-every_row
returns-clause-every_row c =
    the_answer c.args.self (Ok c.in_ok-row.row) (search rules) c.in_ok-row.ensures.row (returns-clause-image c)

pub returns-in_err-row-clause-every_row : goal.returns-in_err-row-clause-every_row
returns-in_err-row-clause-every_row c =
    let p = err_from_is_err_and c.from_residual.result c.from_residual.ensures.1 in
    rw p.1 (rw p.2 (the_answer c.args.self (Err (Row c.in_err-row.field-0.0)) (search rules) tt tt))
