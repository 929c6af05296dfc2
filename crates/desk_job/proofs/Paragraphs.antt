-- The lines of a copy, by the places of its words.
use Rattle.std.proofs.Common.{◌≡◌, ℕ, ◌+◌, ◌-◌, ◌<◌, ◌≤◌, Bool, false, List, [], ◌∷◌, ◌++◌, length, take, drop, refl, sym, ap, ◌∙◌, arith, length-drop, length-take, length-append, get_or, drop-cons, add-one, subst}
use Rattle.std.specs.Prelude.{◌||◌, ◌==◌, ℤ, pos}
use Rattle.std.specs.List.{All, AllByRecursion, flat_map}
use Rattle.std.proofs.lemmas.List.{length-map, drop-drop}
use Rattle.std.proofs.lemmas.List.Elements.{All-from_recursion}
use Rattle.std.proofs.lemmas.Bool.Decides.{nat_tests}
use Rattle.desk_ops.specs.declared.op.Symbol.{Symbol}
use Rattle.desk_lines.specs.declared.words.Word.{Word}
use Rattle.desk_lines.specs.declared.groups.Group.{Group}
use Rattle.desk_ops.specs.Op.{is_line_feed, is_space}
use Rattle.desk_lines.specs.Words.{spelled, words, words_of, AreSplit, StandInTurn, joined, drop_empty_last, most_symbols, most_words}
use Rattle.desk_lines.specs.Groups.{AreGroups, groups, groups_of, ranges}
use Rattle.desk_lines.proofs.GroupLaws.{groups_are_groups}
use Rattle.desk_lines.proofs.WordLaws.{words_are_words, split_only}
use Rattle.desk_job.specs.Job.{Terms, SetLine, widths, word_width, tight_space, measure, cut, marked, lines, lines_of_words}
use Rattle.desk_job.specs.Setting.{IsWord, words_at}
use Rattle.desk_job.specs.Making.{Found, AreWordsOf, IsRange, all_lines, group_words, lines_at, paragraph_lines}
use Rattle.desk_job.proofs.Adding.{IsAdding, each_part}
use Rattle.desk_job.proofs.Parts.{take_map, drop_map}

-- ---- groups

in_range : (space limit : ℤ) (here : ℕ) (ws : List ℤ) (gs : List Group) (all : ℕ) → all ≡ here + length ws → AreGroups space limit here ws gs → AllByRecursion (IsRange all) gs
in_range space limit here ws [] all e is = tt
in_range space limit here ws (group ∷ gs) all e is =
    let size = is.0 in
    let first = is.2 in
    let some = first.some in
    let within = first.within in
    let long = length-drop size ws in
    let f : all ≡ (here + size) + length (drop size ws) = omega (arith, e, long, within) in
    let h : IsRange all (record { from = here; to = here + size }) = record { order = omega (arith, some); within = omega (arith, e, within) } in
    (rw is.1 h, in_range space limit (here + size) (drop size ws) gs all f is.3)

pub groups_in_range : (space limit : ℤ) (ws : List ℤ) → All (IsRange (length ws)) (groups_of space limit ws)
groups_in_range space limit ws =
    All-from_recursion (IsRange (length ws)) (groups_of space limit ws)
    (in_range space limit 0 ws (groups_of space limit ws) (length ws) (let e : length ws ≡ 0 + length ws = omega arith in e) (groups_are_groups space limit ws).0)

-- The sizes are at least one each, and together at most so many.
abbrev pub Fit : List ℕ → ℕ → Type 0
Fit [] n = Unit {0}
Fit (size ∷ sizes) n = (1 ≤ size) × (size ≤ n) × Fit sizes (n - size)

fit : (space limit : ℤ) (here : ℕ) (ws : List ℤ) (sizes : List ℕ) (n : ℕ) → n ≡ length ws → AreGroups space limit here ws (ranges here sizes) → Fit sizes n
fit space limit here ws [] n e is = tt
fit space limit here ws (size ∷ sizes) n e is =
    let same : here + size ≡ here + is.0 = ap (λ (g : Group). g.to) is.1 in
    let k : is.0 ≡ size = omega (arith, same) in
    let some = is.2.some in
    let within = is.2.within in
    let long = length-drop size ws in (
      omega (arith, some, k),
      omega (arith, within, k, e),
      fit space limit (here + size) (drop size ws) sizes (n - size) (omega (arith, e, long)) (rw k at is.3),
    )

pub groups_fit : (space limit : ℤ) (ws : List ℤ) → Fit (groups space limit ws) (length ws)
groups_fit space limit ws = fit space limit 0 ws (groups space limit ws) (length ws) refl (groups_are_groups space limit ws).0

part_is : (copy : List Symbol) (places : List Word) (here size : ℕ) →
    words_at copy (group_words places (record { from = here; to = here + size })) ≡ take size (drop here (words_at copy places))
part_is copy places here size =
    let e : here + size - here ≡ size = omega arith in
    rw e (sym (ap (take size) (drop_map (spelled copy) here places) ∙ take_map (spelled copy) size (drop here places)))

some_more : {A : Type 0} (x : A) (xs : List A) → (length (x ∷ xs) == 0) ≡ false
some_more x xs = grind (arith, nat_tests)

head_and_tail : (ws vs : List (List Symbol)) (a b : Bool) (ls ms : List SetLine) → ws ≡ vs → a ≡ b → ls ≡ ms →
    (let line : SetLine = record { words = ws; filled = a } in line ∷ ls) ≡ (let line : SetLine = record { words = vs; filled = b } in line ∷ ms)
head_and_tail ws vs a b ls ms e f g = rw (e, f, g) refl

lines_are : (copy : List Symbol) (places : List Word) (here : ℕ) (sizes : List ℕ) → Fit sizes (length places - here) →
    lines_at copy places (ranges here sizes) ≡ marked (cut sizes (drop here (words_at copy places)))
lines_are copy places here [] fits = refl
lines_are copy places here (size ∷ []) fits = rw (part_is copy places here size) refl
lines_are copy places here (size ∷ next ∷ sizes) fits =
    let all = words_at copy places in
    let e : here + size - here ≡ size = omega arith in
    let long = length_of copy places here size fits.1 in
    let less : length places - here - size ≡ length places - (here + size) = omega arith in
    let more = lines_are copy places (here + size) (next ∷ sizes) (rw less at fits.2) in
    let after : drop size (drop here all) ≡ drop (here + size) all = drop-drop size here all in
    let tail : lines_at copy places (ranges (here + size) (next ∷ sizes)) ≡ marked (cut (next ∷ sizes) (drop size (drop here all))) =
    more ∙ ap (λ (l : List (List Symbol)). marked (cut (next ∷ sizes) l)) (sym after) in
    let flag : ((length (ranges (here + size) (next ∷ sizes)) == 0) || (here + size - here == 1)) ≡ (length (take size (drop here all)) == 1) =
    rw (some_more (record { from = here + size; to = here + size + next }) (ranges (here + size + next) sizes), e, long) refl in
    head_and_tail (words_at copy (group_words places (record { from = here; to = here + size }))) (take size (drop here all))
    ((length (ranges (here + size) (next ∷ sizes)) == 0) || (here + size - here == 1)) (length (take size (drop here all)) == 1)
    (lines_at copy places (ranges (here + size) (next ∷ sizes))) (marked (cut (next ∷ sizes) (drop size (drop here all))))
    (part_is copy places here size) flag tail
  where
    length_of : (copy : List Symbol) (places : List Word) (here size : ℕ) → size ≤ length places - here →
        length (take size (drop here (words_at copy places))) ≡ size
    length_of copy places here size within =
        let a = length-take size (drop here (words_at copy places)) in
        let b = length-drop here (words_at copy places) in
        let c = length-map places (spelled copy) in
        omega (arith, a, b, c, within)

-- the lines by their groups are the lines of the words
pub paragraph_is : (terms : Terms) (copy : List Symbol) (places : List Word) (found : List ℤ) → found ≡ widths terms (words_at copy places) →
    lines_at copy places (groups_of (tight_space terms) (pos (measure terms)) found) ≡ paragraph_lines terms copy places
paragraph_is terms copy places found is =
    let ws = widths terms (words_at copy places) in
    let a = length-map (words_at copy places) (λ (w : List Symbol). pos (word_width terms w)) in
    let b = length-map places (spelled copy) in
    let e : length ws ≡ length places - 0 = omega (arith, a, b) in
    ap (λ (l : List ℤ). lines_at copy places (groups_of (tight_space terms) (pos (measure terms)) l)) is
    ∙ lines_are copy places 0 (groups (tight_space terms) (pos (measure terms)) ws) (subst (Fit (groups (tight_space terms) (pos (measure terms)) ws)) e (groups_fit (tight_space terms) (pos (measure terms)) ws))

pub paragraph_from : (terms : Terms) (copy : List Symbol) (places : List Word) (found given : List ℤ) (gs seen : List Group) (space limit : ℤ) →
    given ≡ found → found ≡ widths terms (words_at copy places) → space ≡ tight_space terms → limit ≡ pos (measure terms) →
    seen ≡ gs → gs ≡ groups_of space limit given →
    (lines_at copy places seen ≡ paragraph_lines terms copy places) × All (IsRange (length places)) seen
paragraph_from terms copy places found given gs seen space limit a b c d e f =
    let ws = widths terms (words_at copy places) in
    let is : seen ≡ groups_of (tight_space terms) (pos (measure terms)) ws =
    e ∙ (f ∙ (ap (λ (z : ℤ). groups_of z limit given) c ∙ (ap (λ (z : ℤ). groups_of (tight_space terms) z given) d
    ∙ ap (groups_of (tight_space terms) (pos (measure terms))) (a ∙ b)))) in
    let m = length-map (words_at copy places) (λ (w : List Symbol). pos (word_width terms w)) in
    let n = length-map places (spelled copy) in
    let long : length ws ≡ length places = omega (arith, m, n) in (
      ap (lines_at copy places) is ∙ paragraph_is terms copy places ws refl,
      rw (is, ← long) (groups_in_range (tight_space terms) (pos (measure terms)) ws),
    )

-- ---- paragraphs

-- the next paragraph, where all lines up to it are added
pub next_paragraph : (terms : Terms) (copy : List Symbol) (found : List (List Word)) (i : ℕ) (d ws : List Word) (all : List SetLine) (old now : Found) →
    i < length found → ws ≡ get_or found i d → IsAdding terms (all_lines terms copy (drop i found)) all old now →
    IsAdding terms (paragraph_lines terms copy ws ++ all_lines terms copy (drop (i + 1) found)) all old now
next_paragraph terms copy found i d ws all old now below is adding =
    rw is (rw (paragraphs_step terms copy found i d below) at adding)
  where
    paragraphs_step : (terms : Terms) (copy : List Symbol) (found : List (List Word)) (i : ℕ) (d : List Word) → i < length found →
        all_lines terms copy (drop i found) ≡ paragraph_lines terms copy (get_or found i d) ++ all_lines terms copy (drop (i + 1) found)
    paragraphs_step terms copy found i d below = rw (add-one, drop-cons found i d below) refl

lines_split : (terms : Terms) (copy : List Symbol) (ps : List (List Symbol)) (found : List (List Word)) → AreSplit copy ps found →
    all_lines terms copy found ≡ flat_map (λ p. lines_of_words terms (words p)) ps
lines_split terms copy [] [] is = refl
lines_split terms copy [] (ws ∷ found) is = absurd is
lines_split terms copy (p ∷ ps) [] is = absurd is
lines_split terms copy (p ∷ ps) (ws ∷ found) is =
    let one : words p ≡ words_at copy ws = split_only is_space p (words_at copy ws) is.0 in
    rw (one, lines_split terms copy ps found is.1) refl

-- the lines of the words found are those of the copy
pub copy_is : (terms : Terms) (copy : List Symbol) → all_lines terms copy (words_of copy) ≡ lines terms copy
copy_is terms copy =
    let are = (words_are_words copy).0 in
    let e = split_only is_line_feed copy are.parts are.cut in
    lines_split terms copy (drop_empty_last are.parts) (words_of copy) are.split
    ∙ ap (λ (ps : List (List Symbol)). flat_map (λ p. lines_of_words terms (words p)) (drop_empty_last ps)) (sym e)

in_turn : (copy : List Symbol) (here : ℕ) (ws : List Word) → StandInTurn copy here ws → AllByRecursion (IsWord copy) ws
in_turn copy here [] turn = tt
in_turn copy here (word ∷ ws) turn = (record { order = turn.1; within = turn.2 }, in_turn copy (word.to + 1) ws turn.3)

few_words : (copy : List Symbol) (here : ℕ) (ws : List Word) → here ≤ length copy + 1 → StandInTurn copy here ws → here + length ws ≤ length copy + 1
few_words copy here [] low turn = omega (arith, low)
few_words copy here (word ∷ ws) low turn =
    let more = few_words copy (word.to + 1) ws (let a = turn.2 in omega (arith, a)) turn.3 in
    let a = turn.0 in let b = turn.1 in
    omega (arith, more, a, b)

all_words : (copy : List Symbol) (found : List (List Word)) → AllByRecursion (IsWord copy) (joined found) → length (joined found) ≤ most_words →
    AllByRecursion (AreWordsOf copy) found
all_words copy [] each few = tt
all_words copy (ws ∷ found) each few =
    let parts = each_part (IsWord copy) ws (joined found) each in
    let long = length-append ws (joined found) in
    (record { number = omega (arith, few, long); each = All-from_recursion (IsWord copy) ws parts.0 }, all_words copy found parts.1 (omega (arith, few, long)))

-- the words found stand in the copy
pub words_stand : (copy : List Symbol) → length copy ≤ most_symbols → All (AreWordsOf copy) (words_of copy)
words_stand copy small =
    let are = (words_are_words copy).0 in
    let few = few_words copy 0 (joined (words_of copy)) (omega arith) are.places in
    All-from_recursion (AreWordsOf copy) (words_of copy)
    (all_words copy (words_of copy) (in_turn copy 0 (joined (words_of copy)) are.places) (omega (arith, few, small)))
