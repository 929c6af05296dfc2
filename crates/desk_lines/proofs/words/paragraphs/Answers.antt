use Rattle.std.proofs.Common.{arith, sym, ◌∙◌, inl, inr}
use Rattle.std.proofs.lemmas.Grind.{common_steps}
use Rattle.desk_lines.proofs.Splits.{read_space, read_feed, read_other, read_last, read_none}
use Rattle.desk_lines.proofs.words.paragraphs.Goals as goal
use Rattle.desk_lines.proofs.words.paragraphs.Goals.{then-is_line_feed+in_ok-push+in_ok-push-2, else-is_line_feed+then-is_space+in_ok-push-3, else-is_line_feed+else-is_space, then-from-copy+in_ok-push-4+in_ok-push-5, then-from-copy-via-then-from-copy, then-from-copy-via-else-from-copy+then-not-is_empty, else-from-copy+else-not-is_empty}

pub loop-i-preserved : goal.loop-i-preserved
loop-i-preserved g c =
    elim c.if-is_line_feed.branch [
      | then-is_line_feed+in_ok-push+in_ok-push-2 w ↦
          rw (w.found-is, w.words-is, w.from-is, w.in_ok-push-2.ensures.items, w.from_words.ensures, w.in_ok-push.ensures.items, w.new-words-then-is_line_feed.ensures.items)
          (read_feed _ _ _ _ _ c.loop-i-test.true (sym c.is_line_feed.ensures ∙ w.if-is_line_feed.true) c.loop-i.invariant)
      | else-is_line_feed+then-is_space+in_ok-push-3 w ↦
          rw (w.found-is, w.words-is, w.from-is, w.in_ok-push-3.ensures.items)
          (read_space _ _ _ _ _ c.loop-i-test.true (sym c.is_line_feed.ensures ∙ w.if-is_line_feed.false) (sym w.is_space.ensures ∙ w.if-is_space.true) c.loop-i.invariant)
      | else-is_line_feed+else-is_space w ↦
          rw (w.found-is, w.words-is, w.from-is)
          (read_other _ _ _ _ _ (sym c.is_line_feed.ensures ∙ w.if-is_line_feed.false) (sym w.is_space.ensures ∙ w.if-is_space.false) c.loop-i.invariant)
    ]

pub returns-clause-ok : goal.returns-clause-ok
returns-clause-ok g c =
    elim c.if-from-copy.branch [
      | then-from-copy+in_ok-push-4+in_ok-push-5 w ↦
          rw (w.found-is, w.in_ok-push-5.ensures.items, w.from_words-then-from-copy.ensures, w.in_ok-push-4.ensures.items)
          (read_last _ _ _ _ _ (omega arith)
          (elim w.then-from-copy.branch [
            | then-from-copy-via-then-from-copy w' ↦ inl w'.if-from-copy.true
            | then-from-copy-via-else-from-copy+then-not-is_empty w' ↦ inr (grind (arith, common_steps, w'.is_empty.ensures, w'.if-not-is_empty.true))
          ]) c.loop-i.invariant)
      | else-from-copy+else-not-is_empty w ↦
          rw w.found-is (read_none _ _ _ _ _ (omega arith) w.if-from-copy.false (grind (arith, common_steps, w.is_empty.ensures, w.if-not-is_empty.false)) c.loop-i.invariant)
    ]
