-- What a stored feed, a case and a wedge give.
use Rattle.std.proofs.Common.{◌≡◌, List, ℕ, subst}
use Rattle.std.specs.Prelude.{Err}
use Rattle.desk_ops.specs.OpSet.{OpSet}
use Rattle.desk_case.specs.Case.{CaseValues}
use Rattle.desk_wedge.specs.Wedge.{WedgeValues}
use Rattle.script_answers.specs.declared.failure.Failure.{Failure}
use Rattle.script_answers.specs.declared.failure.Failure.TheVariants as failures
use Rattle.feed_files.specs.Files.{Shelf}
use Rattle.feed_edit.specs.Exporting.{IsVersion}
use Rattle.script_answers.specs.Inputs.{Answers, BothGive, BothLackMemory}
use Rattle.view_preview.specs.Sources.{AreRefused, of_input}
use Rattle.view_preview.specs.Taking.{AreNoInputs}
use Rattle.view_preview.specs.declared.sources.Sources.{Sources}

-- the case or the wedge is not given, where nothing changed as the feed was opened
pub no_inputs : (from : Sources) (set : OpSet) (first mid last : Shelf) (end : Failure) → mid ≡ first → IsVersion from.version first set
    → Answers {V = CaseValues × WedgeValues} (λ given. BothGive from.case.now from.wedge.now mid given last) (BothLackMemory from.case.now from.wedge.now mid last) (Err end) → AreRefused from first last (of_input end)
no_inputs from set first mid last (failures.Refused why) same is given = (set, is, subst (λ (s : Shelf). BothGive from.case.now from.wedge.now s (Err why) last) same given)
no_inputs from set first mid last failures.NoMemory same is given = (set, is, subst (λ (s : Shelf). BothLackMemory from.case.now from.wedge.now s last) same given)

-- the same behind a text, which changed nothing
pub no_text_inputs : (case wedge : List ℕ) (first mid last : Shelf) (end : Failure) → mid ≡ first
    → Answers {V = CaseValues × WedgeValues} (λ given. BothGive case wedge mid given last) (BothLackMemory case wedge mid last) (Err end) → AreNoInputs case wedge first last (of_input end)
no_text_inputs case wedge first mid last (failures.Refused why) same given = subst (λ (s : Shelf). BothGive case wedge s (Err why) last) same given
no_text_inputs case wedge first mid last failures.NoMemory same given = subst (λ (s : Shelf). BothLackMemory case wedge s last) same given
