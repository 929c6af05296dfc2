use Rattle.desk_job.proofs.Widths.{fills_positive, fills_descend, fills_small}
use Rattle.desk_job.proofs.terms.Terms.fill_widths.Goals as goal

pub returns-clause-positive : goal.returns-clause-positive
returns-clause-positive c = rw (c.fill.ensures.value, c.self.invariant.1) (fills_positive _ c.self.invariant.0)

pub returns-clause-descending : goal.returns-clause-descending
returns-clause-descending c = rw (c.fill.ensures.value, c.self.invariant.1) (fills_descend _ c.self.invariant.0)

pub returns-clause-small : goal.returns-clause-small
returns-clause-small c = rw (c.fill.ensures.value, c.self.invariant.1) (fills_small _ c.self.invariant.0)
