-- The line of a correction.
use Rattle.std.specs.Prelude.{ℕ, ◌+◌, ◌==◌, Bool, List, [], ◌∷◌, ◌++◌, Option, Some, None, codes, is_some}
use Rattle.std.specs.Prelude.{if◌then◌else◌}
use Rattle.std.specs.List.{list_any}
use Rattle.std.specs.Fmt.{decimal}
use Rattle.desk_ops.specs.declared.op.Symbol.{Symbol}
use Rattle.desk_ops.specs.declared.op.Op.{Op}
use Rattle.desk_ops.specs.declared.op.Op.TheVariants.{Insert, Delete, Set}
use Rattle.desk_ops.specs.declared.fault.FaultKind.{FaultKind}
use Rattle.desk_ops.specs.declared.fault.FaultKind.TheVariants.{Forked, Void, Waiting}
use Rattle.desk_ops.specs.declared.fault.CopyFault.{CopyFault}
use Rattle.desk_ops.specs.Op.{target_of}
use Rattle.desk_ops.specs.Words.{key_words, kind_words, stamp_words}
use Rattle.feed_history.specs.declared.corrections.Correction.{Correction}
use Rattle.feed_history.specs.Rows.{at}
use Rattle.feed_history.specs.Texts.{shown_text}

-- the first and the last, or the one that there is
abbrev pub stamps_words : Correction → List ℕ
stamps_words c =
    (if c.first == c.last then [] else stamp_words (at c.site c.first) ++ codes "..") ++ stamp_words (at c.site c.last)

-- whether one inserts or deletes
abbrev pub edits : List Op → Bool
edits ops = list_any (λ op. is_some (target_of op)) ops

-- the place of operations, or that they are not shown; of settings alone nothing
abbrev pub place_words : Option ℕ → List Op → List ℕ
place_words (Some place) ops = codes " at " ++ decimal place
place_words None ops = if edits ops then codes " not shown" else []

-- behind a sign, where there are any
abbrev pub text_words : List ℕ → List Symbol → List ℕ
text_words sign [] = []
text_words sign (s ∷ symbols) = sign ++ shown_text (s ∷ symbols) ++ codes "\""

abbrev pub set_words : Op → List ℕ
set_words (Insert stamp parent symbol) = []
set_words (Delete stamp target) = []
set_words (Set stamp key value) = codes " " ++ key_words key ++ codes " " ++ decimal value

abbrev pub settings_words : List Op → List ℕ
settings_words [] = []
settings_words (op ∷ ops) = set_words op ++ settings_words ops

abbrev pub kind_code : FaultKind → ℕ
kind_code Forked = 0
kind_code Void = 1
kind_code Waiting = 2

abbrev pub is_kind : FaultKind → FaultKind → Bool
is_kind a b = kind_code a == kind_code b

abbrev pub count_of : FaultKind → List CopyFault → ℕ
count_of kind [] = 0
count_of kind (fault ∷ faults) = if is_kind fault.kind kind then count_of kind faults + 1 else count_of kind faults

abbrev pub count_words : FaultKind → ℕ → List ℕ
count_words kind count = if count == 0 then [] else codes " " ++ kind_words kind ++ codes " " ++ decimal count

-- how many are of each kind
abbrev pub faults_words : List CopyFault → List ℕ
faults_words faults =
    count_words Forked (count_of Forked faults) ++ count_words Void (count_of Void faults)
    ++ count_words Waiting (count_of Waiting faults)

-- of a correction at a place, by its operations, what they insert and delete, and its copy faults
abbrev pub line : Correction → Option ℕ → List Op → List Symbol → List Symbol → List CopyFault → List ℕ
line correction place ops inserted deleted faults =
    stamps_words correction ++ place_words place ops ++ text_words (codes " + \"") inserted
    ++ text_words (codes " - \"") deleted ++ settings_words ops ++ faults_words faults ++ codes "\n"
