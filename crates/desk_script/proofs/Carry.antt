-- A loop of reads over lines.
use Rattle.std.proofs.Common.{◌≡◌, ℕ, ◌==◌, true, false, List, [], ◌∷◌, ◌++◌, sym, ap, ◌∙◌, subst, append_assoc}
use Rattle.std.specs.Prelude.{Option, Some, None, Err, IfSome}
use Rattle.desk_script.specs.Fault.{IsOfLines}
use Rattle.desk_script.specs.declared.fault.RunFault.{RunFault}
use Rattle.desk_script.specs.declared.fault.RunFault.TheVariants as faults
use Rattle.std.specs.Io.KnownBytes.{Consumes, IsAtEnd}
use Rattle.std.proofs.lemmas.List.{append-nil}
use Rattle.desk_script.specs.Line.{Line, line_of}
use Rattle.desk_script.specs.Lines.{without_cr, lines}
use Rattle.script_answers.specs.Text.{output}
use Rattle.feed_files.specs.Files.{Shelf, Stays}
use Rattle.script_world.specs.Sites.{Sites}
use Rattle.desk_script.specs.Desk.{Desk, desk}
use Rattle.desk_script.specs.Script.{Turn, StopsWithin, StopsBefore, Answers, AnswersBefore, AnswersPrefix}
use Rattle.desk_script.specs.Pending.{Breaks, BreaksBefore, Carries, Moves, Progress, Takes, last_line, lines_from}
use Rattle.desk_script.proofs.Turns.{before_within, no_turn, turn_before, turn_turn, turn_prefix}
use Rattle.desk_script.proofs.Cutting.{from_byte, from_end, line_to_come, lines-from}

pub line_prefixes : (old : Desk) (last : Shelf) (a b : Option (List ℕ)) (line pending more : List ℕ) (byte : ℕ) → (byte == 10) ≡ true → line ≡ without_cr pending
    → ((rest : List Line) → StopsWithin old last a b (line_of line ∷ rest)) → StopsWithin old last a b (lines_from pending (byte ∷ more))
line_prefixes old last a b line pending more byte e cut h =
    subst (StopsWithin old last a b) (ap (λ l. line_of l ∷ lines_from [] more) cut ∙ sym (from_end pending more byte e)) (h (lines_from [] more))

pub line_moves : (line pending after more : List ℕ) (byte : ℕ) → (byte == 10) ≡ true → line ≡ without_cr pending → after ≡ [] → lines_from pending (byte ∷ more) ≡ (line_of line ∷ []) ++ lines_from after more
line_moves line pending after more byte e cut empty =
    from_end pending more byte e ∙ ap (λ l. line_of l ∷ lines_from [] more) (sym cut) ∙ ap (λ i. line_of line ∷ lines_from i more) (sym empty)

pub carries_more : (w : Desk) (p q : Progress) (i l m a : Option (List ℕ)) (chunk : List ℕ) → Carries w p.state i l a p.written p.pending → Consumes l m chunk → Moves p q chunk → Carries w q.state i m a q.written q.pending
carries_more w p q None l m a chunk h read turn = tt
carries_more w p q (Some input) None m a chunk h read turn = absurd h
carries_more w p q (Some input) (Some left) None a chunk h read turn = absurd read
carries_more w p q (Some input) (Some left) (Some rest) a chunk h read turn =
    (h.0 ++ turn.0, turn_turn w p.state q.state a p.written q.written h.0 turn.0 h.1 turn.1, h.2 ∙ ap (λ l. h.0 ++ lines_from p.pending l) read ∙ ap (λ l. h.0 ++ l) (turn.2 rest) ∙ sym (append_assoc h.0 turn.0 (lines_from q.pending rest)))

pub carries_prefix : (w : Desk) (p q : Progress) (i l m a : Option (List ℕ)) (chunk : List ℕ) → Carries w p.state i l a p.written p.pending → Consumes l m chunk → Breaks p q chunk → IfSome i (λ input. StopsWithin w q.state.shelf a q.written (lines input))
carries_prefix w p q None l m a chunk h read turn = tt
carries_prefix w p q (Some input) None m a chunk h read turn = absurd h
carries_prefix w p q (Some input) (Some left) None a chunk h read turn = absurd read
carries_prefix w p q (Some input) (Some left) (Some rest) a chunk h read turn =
    subst (StopsWithin w q.state.shelf a q.written) (sym (h.2 ∙ ap (λ l. h.0 ++ lines_from p.pending l) read) ∙ lines-from input)
    (turn_prefix w p.state q.state.shelf a p.written q.written h.0 (lines_from p.pending (chunk ++ rest)) h.1 (turn rest))

-- a line that is not kept
pub unkept : (w : Desk) (last : Shelf) (a : Option (List ℕ)) (pending more : List ℕ) (byte : ℕ) → Stays w.shelf last → (byte == 10) ≡ false → StopsBefore w last a a (lines_from pending (byte ∷ more))
unkept w last a pending more byte still e =
    let (next, tail, is) = line_to_come pending byte more in ([], tail, next, from_byte pending more byte e ∙ is, w, still, no_turn w a)

pub carries_before : (w : Desk) (p q : Progress) (i l m a : Option (List ℕ)) (chunk : List ℕ) → Carries w p.state i l a p.written p.pending → Consumes l m chunk → BreaksBefore p q chunk → IfSome i (λ input. StopsBefore w q.state.shelf a q.written (lines input))
carries_before w p q None l m a chunk h read turn = tt
carries_before w p q (Some input) None m a chunk h read turn = absurd h
carries_before w p q (Some input) (Some left) None a chunk h read turn = absurd read
carries_before w p q (Some input) (Some left) (Some rest) a chunk h read turn =
    subst (StopsBefore w q.state.shelf a q.written) (sym (h.2 ∙ ap (λ l. h.0 ++ lines_from p.pending l) read) ∙ lines-from input)
    (turn_before w p.state q.state.shelf a p.written q.written h.0 (lines_from p.pending (chunk ++ rest)) h.1 (turn rest))

-- the reader is at its end
pub carries_end : (w0 w1 w2 : Desk) (i l m a b c : Option (List ℕ)) (pending : List ℕ) → Carries w0 w1 i l a b pending → Consumes l m [] → IsAtEnd m → Turn w1 w2 b c (last_line pending) → IfSome i (λ input. Turn w0 w2 a c (lines input))
carries_end w0 w1 w2 None l m a b c pending h read end turn = tt
carries_end w0 w1 w2 (Some input) None m a b c pending h read end turn = absurd h
carries_end w0 w1 w2 (Some input) (Some left) None a b c pending h read end turn = absurd read
carries_end w0 w1 w2 (Some input) (Some left) (Some rest) a b c pending h read end turn =
    subst (Turn w0 w2 a c) (sym (h.2 ∙ ap (λ l. h.0 ++ lines_from pending l) (read ∙ end)) ∙ lines-from input) (turn_turn w0 w1 w2 a b c h.0 (last_line pending) h.1 turn)

pub carries_end_prefix : (w0 w1 : Desk) (last : Shelf) (i l m a b c : Option (List ℕ)) (pending : List ℕ) → Carries w0 w1 i l a b pending → Consumes l m [] → IsAtEnd m → StopsWithin w1 last b c (last_line pending) → IfSome i (λ input. StopsWithin w0 last a c (lines input))
carries_end_prefix w0 w1 last None l m a b c pending h read end turn = tt
carries_end_prefix w0 w1 last (Some input) None m a b c pending h read end turn = absurd h
carries_end_prefix w0 w1 last (Some input) (Some left) None a b c pending h read end turn = absurd read
carries_end_prefix w0 w1 last (Some input) (Some left) (Some rest) a b c pending h read end turn =
    subst (StopsWithin w0 last a c) (sym (h.2 ∙ ap (λ l. h.0 ++ lines_from pending l) (read ∙ end)) ∙ lines-from input) (turn_prefix w0 w1 last a b c h.0 (last_line pending) h.1 turn)

-- what was written so far
pub carries_stop : (w0 w1 : Desk) (last : Shelf) (i l a b : Option (List ℕ)) (pending : List ℕ) → Stays w1.shelf last → Carries w0 w1 i l a b pending → IfSome i (λ input. StopsWithin w0 last a b (lines input))
carries_stop w0 w1 last None l a b pending still h = tt
carries_stop w0 w1 last (Some input) None a b pending still h = absurd h
carries_stop w0 w1 last (Some input) (Some left) a b pending still (done, (replies, script, written), is) =
    (done, lines_from pending left, sym (lines-from input) ∙ is, w1, still, replies, script, (output replies, [], written, sym (append-nil (output replies))))

-- ---- a run, from a world that has no site

pub run_whole : (w none new : Sites) (m n : Shelf) (i a b : Option (List ℕ)) → w ≡ none → IfSome i (λ input. Answers (desk w m) (desk new n) input a b)
    → IfSome i (λ input. (x : Sites) × Answers (desk none m) (desk x n) input a b)
run_whole w none new m n None a b e h = tt
run_whole w none new m n (Some input) a b e h = (new, subst (λ s. Answers (desk s m) (desk new n) input a b) e h)

pub run_prefix : (w none : Sites) (m n : Shelf) (i a b : Option (List ℕ)) → w ≡ none → IfSome i (λ input. AnswersPrefix (desk w m) n input a b) → IfSome i (λ input. AnswersPrefix (desk none m) n input a b)
run_prefix w none m n None a b e h = tt
run_prefix w none m n (Some input) a b e h = subst (λ s. AnswersPrefix (desk s m) n input a b) e h

pub run_before : (w none : Sites) (m n : Shelf) (i a b : Option (List ℕ)) → w ≡ none → IfSome i (λ input. AnswersBefore (desk w m) n input a b) → IfSome i (λ input. AnswersBefore (desk none m) n input a b)
run_before w none m n None a b e h = tt
run_before w none m n (Some input) a b e h = subst (λ s. AnswersBefore (desk s m) n input a b) e h

-- ---- a run that stops among bytes

pub takes_within : (p q : Progress) (bytes : List ℕ) (fault : RunFault) → Takes (Err fault) p q bytes → Breaks p q bytes
takes_within p q bytes faults.Write h = h
takes_within p q bytes faults.NoMemory h = λ more. before_within p.state q.state.shelf p.written q.written (lines_from p.pending (bytes ++ more)) (h more)
takes_within p q bytes faults.Read h = absurd h
takes_within p q bytes faults.TooLong h = absurd h
takes_within p q bytes (faults.Feed why) h = absurd h
takes_within p q bytes (faults.File why) h = absurd h
takes_within p q bytes (faults.Opening why) h = absurd h

pub takes_own : (p q : Progress) (bytes : List ℕ) (fault : RunFault) → Takes (Err fault) p q bytes → IsOfLines fault
takes_own p q bytes faults.Write h = tt
takes_own p q bytes faults.NoMemory h = tt
takes_own p q bytes faults.Read h = tt
takes_own p q bytes faults.TooLong h = tt
takes_own p q bytes (faults.Feed why) h = absurd h
takes_own p q bytes (faults.File why) h = absurd h
takes_own p q bytes (faults.Opening why) h = absurd h

-- after lines that were answered
pub takes_after : (p q r : Progress) (done : List Line) (bytes first rest : List ℕ) (fault : RunFault) → Turn p.state q.state p.written q.written done
    → ((more : List ℕ) → lines_from p.pending (bytes ++ more) ≡ done ++ lines_from q.pending (first ++ (rest ++ more))) → Takes (Err fault) q r first → Takes (Err fault) p r bytes
takes_after p q r done bytes first rest faults.Write turn split h = λ more.
    subst (StopsWithin p.state r.state.shelf p.written r.written) (sym (split more)) (turn_prefix p.state q.state r.state.shelf p.written q.written r.written done (lines_from q.pending (first ++ (rest ++ more))) turn (h (rest ++ more)))
takes_after p q r done bytes first rest faults.NoMemory turn split h = λ more.
    subst (StopsBefore p.state r.state.shelf p.written r.written) (sym (split more)) (turn_before p.state q.state r.state.shelf p.written q.written r.written done (lines_from q.pending (first ++ (rest ++ more))) turn (h (rest ++ more)))
takes_after p q r done bytes first rest faults.Read turn split h = absurd h
takes_after p q r done bytes first rest faults.TooLong turn split h = absurd h
takes_after p q r done bytes first rest (faults.Feed why) turn split h = absurd h
takes_after p q r done bytes first rest (faults.File why) turn split h = absurd h
takes_after p q r done bytes first rest (faults.Opening why) turn split h = absurd h
