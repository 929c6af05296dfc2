use Rattle.view_ribbon.proofs.Comparisons.{of_outcomes}
use Rattle.view_ribbon.specs.Casting.{outcome_of}
use Rattle.view_ribbon.proofs.comparing.compared_of.Goals as goal

pub returns : goal.returns
returns g c =
    of_outcomes c.args.pair.now.one.now c.args.pair.now.other.now c.args.one.now c.args.other.now c.args.case.now c.args.wedge.now c.pica.result (outcome_of c.in_ok-one.one) (outcome_of c.in_ok-other.other) c.outcomes_compared.result c.pica.ensures
    c.in_ok-one.ensures c.in_ok-other.ensures c.outcomes_compared.ensures.text c.outcomes_compared.ensures.alike
