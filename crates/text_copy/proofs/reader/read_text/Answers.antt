use Rattle.text_copy.specs.Reading.{reading}
use Rattle.text_copy.proofs.Lawful.{text_lawful, given_lawful}
use Rattle.text_copy.proofs.reader.read_text.Goals as goal

pub returns-clause-lawful : goal.returns-clause-lawful
returns-clause-lawful g c =
    given_lawful (λ v. v.items) c.read_bytes.result (reading c.args.plain c.args.bytes.now) c.read_bytes.ensures (text_lawful c.args.plain c.args.bytes.now)
