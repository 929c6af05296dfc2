-- Lines answered or passed over, one after another.
use Rattle.std.proofs.Common.{◌≡◌, ℕ, ◌+◌, List, [], ◌∷◌, ◌++◌, length, length-append, append_assoc, refl, sym, ap, ◌∙◌, subst, arith}
use Rattle.desk_script.specs.Desk.{Desk}
use Rattle.desk_script.specs.Line.{Line}
use Rattle.std.specs.Prelude.{Option}
use Rattle.feed_files.specs.Input.{IsNotWhole, IsReadTo}
use Rattle.feed_files.specs.declared.input.ReaderFault.{ReaderFault}
use Rattle.feed_files.specs.declared.input.ReaderFault.TheVariants as readers
use Rattle.desk_script.specs.Fault.{of_reader}
use Rattle.desk_script.specs.Sheet.{AreReported, IsLeft, IsUnanswered, Reports, Stops, StopsAt, max_sheet}
use Rattle.desk_script.specs.declared.sheet.Mode.{Mode}

-- one line more
reported_more : (mode : Mode) (n k : ℕ) (old mid new : Desk) (before reported after : List ℕ) (done : List Line) (line : Line) → k ≡ n + length done → AreReported mode n old before done mid reported → Reports mode k mid reported line new after
    → AreReported mode n old before (done ++ line ∷ []) new after
reported_more mode n k old mid new before reported after [] line is (same, text) step =
    let at : k ≡ n = omega (arith, is) in
    let first : Reports mode n mid reported line new after = subst (λ m. Reports mode m mid reported line new after) at step in
    let second : Reports mode n old reported line new after = subst (λ (d : Desk). Reports mode n d reported line new after) same first in (
      new,
      after,
      subst (λ t. Reports mode n old t line new after) text second,
      (refl, refl),
    )
reported_more mode n k old mid new before reported after (next ∷ done) line is (one, text, first, rest) step =
    (one, text, first, reported_more mode (n + 1) k one mid new text reported after done line (omega (arith, is)) rest step)

-- so many lines of all are answered or passed over, and the rest is left
abbrev pub Reaches : Mode → Desk → Desk → List ℕ → List ℕ → List Line → List Line → ℕ → Type 0
Reaches mode old new before after all rest n = (done : List Line) × (length done ≡ n) × (all ≡ done ++ rest) × AreReported mode 1 old before done new after

pub reaches_none : (mode : Mode) (old : Desk) (before : List ℕ) (all : List Line) → Reaches mode old old before before all all 0
reaches_none mode old before all = ([], refl, refl, (refl, refl))

pub reaches_more : (mode : Mode) (old mid new : Desk) (before reported after : List ℕ) (all rest more : List Line) (line : Line) (n : ℕ) → Reaches mode old mid before reported all rest n → rest ≡ line ∷ more → Reports mode (n + 1) mid reported line new after
    → Reaches mode old new before after all more (n + 1)
reaches_more mode old mid new before reported after all rest more line n (done, many, split, so_far) next step = (
  done ++ line ∷ [],
  length-append done (line ∷ []) ∙ ap (λ m. m + 1) many,
  split ∙ ap (λ l. done ++ l) next ∙ sym (append_assoc done (line ∷ []) more),
  reported_more mode 1 (n + 1) old mid new before reported after done line (omega (arith, many)) so_far step,
)

pub reaches_stop : (mode : Mode) (old mid new : Desk) (before reported after : List ℕ) (all rest more : List Line) (line : Line) (n : ℕ) → Reaches mode old mid before reported all rest n → rest ≡ line ∷ more → Stops mode (n + 1) mid reported line new after
    → StopsAt mode old before all (n + 1) new after
reaches_stop mode old mid new before reported after all rest more line n (done, many, split, so_far) next stop =
    (done, more, line, split ∙ ap (λ l. done ++ l) next, ap (λ m. m + 1) (sym many), mid, reported, so_far, stop)

-- ---- a sheet that was not read

pub unread_sheet : (mode : Mode) (old : Desk) (input before : Option (List ℕ)) (why : ReaderFault) → IsNotWhole max_sheet input why → IsUnanswered mode old old input before before (of_reader why)
unread_sheet mode old input before readers.Failed h = (refl, refl)
unread_sheet mode old input before readers.TooLong h = (refl, refl, h)
unread_sheet mode old input before readers.NoMemory h = refl

pub left_sheet : (before after : Option (List ℕ)) (why : ReaderFault) → IsReadTo max_sheet before after why → IsLeft before after (of_reader why)
left_sheet before after readers.Failed h = h
left_sheet before after readers.TooLong h = h
left_sheet before after readers.NoMemory h = h
