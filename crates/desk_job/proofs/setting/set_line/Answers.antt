use Rattle.std.proofs.Common.{arith, ◌∙◌, refl, sym, ap}
use Rattle.desk_job.specs.Job.{Terms, SetLine, line_fault}
use Rattle.desk_job.specs.Setting.{Sets, line_at, words_at}
use Rattle.desk_job.specs.declared.JobFault.{JobFault}
use Rattle.desk_job.specs.declared.setting.Setting.{Setting}
use Rattle.desk_job.proofs.Fitting.{reaches}
use Rattle.desk_job.proofs.LineSizes.{left_of, measured_at, spaces_at, spaces_are, numbers_are, faulted, too_wide, fill_number}
use Rattle.std.proofs.Common.{◌≡◌, ℕ, [], ◌∷◌}
use Rattle.std.specs.Prelude.{Result, Ok, Err, IsErrAnd}
use Rattle.desk_units.specs.WedgeSum.{pair_of}
use Rattle.desk_job.proofs.setting.set_line.Goals as goal

-- a fault that `?` hands on
handed_on : (terms : Terms) (n : ℕ) (line : SetLine) (r : Result Setting JobFault) (fault : JobFault) →
    IsErrAnd r (λ e. e ≡ fault) → line_fault terms n line ≡ fault ∷ [] → Sets terms n line r
handed_on terms n line (Ok setting) fault is found = absurd is
handed_on terms n line (Err e) fault is found = rw is found

pub returns-then-spaces-eq0 : goal.returns-then-spaces-eq0
returns-then-spaces-eq0 c =
    let terms = c.args.terms.now in
    let words = words_at c.args.line.copy.now c.args.line.words.now in
    let line = line_at c.args.line.copy.now c.args.line.words.now c.args.filled in
    let m = measured_at terms c.args.line.copy.now c.args.line.words.now c.args.filled _ _ _ c.requires.some c.requires.widths c.total-width.ensures.value c.has_added-added.ensures in
    too_wide terms c.args.n line _ (spaces_are terms words c.args.filled _ _ _ m (spaces_at c.args.line.copy.now c.args.line.words.now _ _ c.spaces-spaces.ensures)) c.if-spaces-eq0.true

pub line_sum-requires-clause-fits : goal.line_sum-requires-clause-fits
line_sum-requires-clause-fits c =
    let terms = c.args.terms.now in
    let words = words_at c.args.line.copy.now c.args.line.words.now in
    let m = measured_at terms c.args.line.copy.now c.args.line.words.now c.args.filled _ _ _ c.requires.some c.requires.widths c.total-width.ensures.value c.has_added-added.ensures in
    let h = numbers_are terms words c.args.filled _ _ _ _ _ _ _ m (spaces_at c.args.line.copy.now c.args.line.words.now _ _ c.spaces-spaces.ensures) c.rest-rest.ensures.value c.fills-fills.ensures.value (left_of _ _ _ _ _ c.as_slice.ensures.value c.left-left.ensures) refl in
    reaches terms words c.args.filled _ c.requires.fits h.sum_found

pub returns-in_err-sum : goal.returns-in_err-sum
returns-in_err-sum c =
    let terms = c.args.terms.now in
    let words = words_at c.args.line.copy.now c.args.line.words.now in
    let line = line_at c.args.line.copy.now c.args.line.words.now c.args.filled in
    let m = measured_at terms c.args.line.copy.now c.args.line.words.now c.args.filled _ _ _ c.requires.some c.requires.widths c.total-width.ensures.value c.has_added-added.ensures in
    let h = numbers_are terms words c.args.filled _ _ _ _ _ _ _ m (spaces_at c.args.line.copy.now c.args.line.words.now _ _ c.spaces-spaces.ensures) c.rest-rest.ensures.value c.fills-fills.ensures.value (left_of _ _ _ _ _ c.as_slice.ensures.value c.left-left.ensures) refl in
    let k = faulted terms c.args.n line _ _ _ _ _ h (sym c.in_err-sum.ensures) in
    handed_on terms c.args.n line _ _ c.from_residual.ensures.1 k

pub returns : goal.returns
returns c =
    let terms = c.args.terms.now in
    let words = words_at c.args.line.copy.now c.args.line.words.now in
    let line = line_at c.args.line.copy.now c.args.line.words.now c.args.filled in
    let m = measured_at terms c.args.line.copy.now c.args.line.words.now c.args.filled _ _ _ c.requires.some c.requires.widths c.total-width.ensures.value c.has_added-added.ensures in
    let h = numbers_are terms words c.args.filled _ _ _ _ _ _ _ m (spaces_at c.args.line.copy.now c.args.line.words.now _ _ c.spaces-spaces.ensures) c.rest-rest.ensures.value c.fills-fills.ensures.value (left_of _ _ _ _ _ c.as_slice.ensures.value c.left-left.ensures) refl in (
      record {
        added = h.added_found;
        fills = h.fills_found;
        number = omega (arith, c.fills-fills.ensures.number, fill_number terms);
        sum = ap pair_of (sym h.sum_found) ∙ c.in_ok-sum.ensures.0;
      },
      faulted terms c.args.n line _ _ _ _ _ h (sym c.in_ok-sum.ensures.1),
    )
