-- The lines of a galley have words that stand in the copy.
use Rattle.std.proofs.Common.{◌≡◌, ℕ, suc, ◌-◌, ◌≤◌, List, [], ◌∷◌, length, drop, ◌∙◌, subst, arith, length-take, length-drop}
use Rattle.std.specs.Prelude.{ℤ, pos, IfSome}
use Rattle.std.specs.List.{All}
use Rattle.std.proofs.lemmas.List.{length-map}
use Rattle.std.proofs.lemmas.List.Elements.{All-from_recursion, recursion_from_All}
use Rattle.desk_ops.specs.declared.op.Symbol.{Symbol}
use Rattle.desk_ops.proofs.Lists.{Each, Each-append, Each-drop, Each-take}
use Rattle.desk_lines.specs.declared.words.Word.{Word}
use Rattle.desk_lines.specs.declared.groups.Group.{Group}
use Rattle.desk_lines.specs.Words.{spelled, words_of, most_symbols}
use Rattle.desk_lines.specs.Groups.{groups_of}
use Rattle.desk_job.specs.Job.{Terms, measure, tight_space, widths, word_width, rest}
use Rattle.desk_job.specs.Making.{AreWordsOf, IsRange}
use Rattle.desk_job.specs.Setting.{IsWord, words_at}
use Rattle.desk_job.proofs.LineSizes.{fill_number, fills_number}
use Rattle.desk_job.proofs.Paragraphs.{groups_in_range, words_stand}
use Rattle.view_galley.specs.declared.line.Next.{Next}
use Rattle.view_galley.specs.Line.{Placed, free, line_of, next_at}
use Rattle.view_galley.specs.Galley.{Stands, all_placed, galley_of, numbered, placed_at, placed_in}

-- The place has words of the copy.
record IsPlace (copy : List Symbol) (placed : Placed) : Type 0 where
  some : 1 ≤ length placed.words
  words : Each (IsWord copy) placed.words
  after : Each (IsWord copy) placed.after

groups_stand : (copy : List Symbol) (words : List Word) (groups : List Group) → Each (IsWord copy) words → Each (IsRange (length words)) groups →
    Each (IsPlace copy) (placed_at words groups)
groups_stand copy words [] each ranges = tt
groups_stand copy words (group ∷ groups) each ranges =
    let order = ranges.0.order in
    let within = ranges.0.within in
    let a = length-take (group.to - group.from) (drop group.from words) in
    let b = length-drop group.from words in (
      record {
        some = omega (arith, order, within, a, b);
        words = Each-take (IsWord copy) (group.to - group.from) (drop group.from words) (Each-drop (IsWord copy) group.from words each);
        after = Each-drop (IsWord copy) group.to words each;
      },
      groups_stand copy words groups each ranges.1,
    )

paragraph_stands : (terms : Terms) (copy : List Symbol) (words : List Word) → AreWordsOf copy words → Each (IsPlace copy) (placed_in terms copy words)
paragraph_stands terms copy words are =
    let found = widths terms (words_at copy words) in
    let a = length-map (words_at copy words) (λ (w : List Symbol). pos (word_width terms w)) in
    let b = length-map words (spelled copy) in
    let long : length found ≡ length words = a ∙ b in
    let ranges = recursion_from_All (IsRange (length found)) (groups_of (tight_space terms) (pos (measure terms)) found) (groups_in_range (tight_space terms) (pos (measure terms)) found) in
    groups_stand copy words (groups_of (tight_space terms) (pos (measure terms)) found) (recursion_from_All (IsWord copy) words are.each)
    (subst (λ (n : ℕ). Each (IsRange n) (groups_of (tight_space terms) (pos (measure terms)) found)) long ranges)

paragraphs_stand : (terms : Terms) (copy : List Symbol) (found : List (List Word)) → Each (AreWordsOf copy) found → Each (IsPlace copy) (all_placed terms copy found)
paragraphs_stand terms copy [] each = tt
paragraphs_stand terms copy (words ∷ found) each =
    Each-append (IsPlace copy) (placed_in terms copy words) (all_placed terms copy found) (paragraph_stands terms copy words each.0) (paragraphs_stand terms copy found each.1)

next_stands : (copy : List Symbol) (room : ℤ) (after : List Word) (found : List ℤ) → Each (IsWord copy) after →
    IfSome (next_at room after found) (λ (next : Next). IsWord copy next.word)
next_stands copy room [] found each = tt
next_stands copy room (word ∷ after) [] each = tt
next_stands copy room (word ∷ after) (width ∷ found) each = each.0

numbered_stand : (terms : Terms) (copy : List Symbol) (n : ℕ) (ps : List Placed) → Each (IsPlace copy) ps → Each (Stands copy terms.case) (numbered terms copy n ps)
numbered_stand terms copy n [] each = tt
numbered_stand terms copy n (placed ∷ ps) each = (
  record {
    some = each.0.some;
    words = All-from_recursion (IsWord copy) placed.words each.0.words;
    next = next_stands copy (free terms (words_at copy placed.words)) placed.after (widths terms (words_at copy placed.after)) each.0.after;
    fills = let a = fills_number terms (rest terms (line_of copy placed)) placed.filled in let b = fill_number terms in omega (arith, a, b);
  },
  numbered_stand terms copy (suc n) ps each.1,
)

pub galley_stands : (terms : Terms) (copy : List Symbol) → length copy ≤ most_symbols → All (Stands copy terms.case) (galley_of terms copy)
galley_stands terms copy small =
    All-from_recursion (Stands copy terms.case) (galley_of terms copy)
    (numbered_stand terms copy 1 (all_placed terms copy (words_of copy))
    (paragraphs_stand terms copy (words_of copy) (recursion_from_All (AreWordsOf copy) (words_of copy) (words_stand copy small))))
