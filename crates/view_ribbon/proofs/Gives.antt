-- What a ribbon, a case and a wedge give.
use Rattle.std.proofs.Common.{◌≡◌, List, ℕ, inl, inr, subst}
use Rattle.std.specs.Prelude.{Ok, Err}
use Rattle.desk_case.specs.Case.{CaseValues}
use Rattle.desk_wedge.specs.Wedge.{WedgeValues}
use Rattle.script_answers.specs.declared.failure.Failure.{Failure}
use Rattle.script_answers.specs.declared.failure.Failure.TheVariants as failures
use Rattle.feed_files.specs.Files.{IsCounted, Reads, Shelf, Stays}
use Rattle.feed_files.specs.declared.files.FileRefusal.{FileRefusal}
use Rattle.feed_files.specs.declared.files.FileRefusal.TheVariants as files
use Rattle.script_answers.specs.Inputs.{Answers, BothGive, BothLackMemory}
use Rattle.feed_files.proofs.Shelves.{same_shelf}
use Rattle.view_ribbon.specs.Sources.{AreRefused, of_input, of_ribbon}
use Rattle.view_ribbon.specs.declared.sources.Sources.{Sources}

-- the ribbon is not read
pub no_ribbon : (from : Sources) (first last : Shelf) (why : FileRefusal) → Stays first last → Reads (first.kept from.ribbon.now) (Err why) → IsCounted why first last → AreRefused from first last (of_ribbon why)
no_ribbon from first last files.Missing stays reads counts = ((λ e. cc), reads, counts)
no_ribbon from first last files.Device stays reads counts = ((λ e. cc), reads, counts)
no_ribbon from first last files.Large stays reads counts = ((λ e. cc), reads, counts)
no_ribbon from first last files.NoMemory stays reads counts = inl (reads, same_shelf first last stays counts)

-- the case or the wedge is not given, where nothing changed as the ribbon was read
pub no_inputs : (from : Sources) (bytes : List ℕ) (first mid last : Shelf) (end : Failure) → mid ≡ first → Reads (first.kept from.ribbon.now) (Ok bytes)
    → Answers {V = CaseValues × WedgeValues} (λ given. BothGive from.case.now from.wedge.now mid given last) (BothLackMemory from.case.now from.wedge.now mid last) (Err end) → AreRefused from first last (of_input end)
no_inputs from bytes first mid last (failures.Refused why) same is given = (bytes, is, subst (λ (s : Shelf). BothGive from.case.now from.wedge.now s (Err why) last) same given)
no_inputs from bytes first mid last failures.NoMemory same is given = inr (bytes, is, subst (λ (s : Shelf). BothLackMemory from.case.now from.wedge.now s last) same given)
