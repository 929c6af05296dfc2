use Rattle.desk_codec.proofs.AnswerLaws.{all_lawful, answers_list, answers_fault}
use Rattle.desk_codec.proofs.reading.read_feed.Goals as goal

pub returns-clause-lawful : goal.returns-clause-lawful
returns-clause-lawful g c = all_lawful (λ v. v.items) c.args.bytes.now c.operations_of.result c.operations_of.ensures.feed

pub returns-clause-only : goal.returns-clause-only
returns-clause-only g c = answers_list (λ v. v.items) c.args.bytes.now c.operations_of.result c.operations_of.ensures.feed c.operations_of.ensures.fault

pub returns-clause-first : goal.returns-clause-first
returns-clause-first g c = answers_fault (λ v. v.items) c.args.bytes.now c.operations_of.result c.operations_of.ensures.feed c.operations_of.ensures.fault
