use Rattle.std.proofs.Common.{ap, drop, sym, ◌∙◌, Option, Some, None, Bool, arith, length}
use Rattle.std.specs.Prelude.{if◌then◌else◌}
use Rattle.std.proofs.lemmas.Str.Pattern.{rfind_char}
use Rattle.view_pages.specs.Numbering.{ending_from, has_slash}
use Rattle.view_pages.proofs.Found.{found}
use Rattle.view_pages.proofs.numbering.ending_at.Goals as goal

pub returns-in-None-clause-value : goal.returns-in-None-clause-value
returns-in-None-clause-value c =
    sym (ap (ending_from c.args.name.now) (found c.args.name.now c.rfind.result (rfind_char 46 c.args.name.now c.rfind.result c.rfind.ensures.cases (omega arith)) ∙ c.in-None.is))

pub returns-then-has_slash_behind-clause-value : goal.returns-then-has_slash_behind-clause-value
returns-then-has_slash_behind-clause-value c =
    sym (ap (ending_from c.args.name.now) (found c.args.name.now c.rfind.result (rfind_char 46 c.args.name.now c.rfind.result c.rfind.ensures.cases (omega arith)) ∙ c.in-Some.is)
    ∙ ap (λ (b : Bool). if b then None else Some c.in-Some.at) (ap (λ bs. has_slash (drop c.in-Some.at bs)) (sym c.as_bytes.ensures.value) ∙ sym c.has_slash_behind.ensures ∙ c.if-has_slash_behind.true))

pub returns-else-has_slash_behind-clause-value : goal.returns-else-has_slash_behind-clause-value
returns-else-has_slash_behind-clause-value c =
    sym (ap (ending_from c.args.name.now) (found c.args.name.now c.rfind.result (rfind_char 46 c.args.name.now c.rfind.result c.rfind.ensures.cases (omega arith)) ∙ c.in-Some.is)
    ∙ ap (λ (b : Bool). if b then None else Some c.in-Some.at) (ap (λ bs. has_slash (drop c.in-Some.at bs)) (sym c.as_bytes.ensures.value) ∙ sym c.has_slash_behind.ensures ∙ c.if-has_slash_behind.false))
