-- Groups of words as lines, one by one.
use Rattle.std.proofs.Common.{◌≡◌, ℕ, zero, suc, ◌+◌, ◌-◌, ◌<◌, List, [], ◌∷◌, ◌++◌, map, length, take, drop, get_or, refl, ap, ◌∙◌, drop-cons, add-one}
use Rattle.std.specs.Prelude.{Bool, ◌||◌, ◌==◌, ℤ, pos}
use Rattle.desk_ops.specs.declared.op.Symbol.{Symbol}
use Rattle.desk_lines.specs.declared.words.Word.{Word}
use Rattle.desk_lines.specs.declared.groups.Group.{Group}
use Rattle.desk_lines.specs.Words.{spelled}
use Rattle.desk_job.specs.Job.{Terms, SetLine, widths, word_width}
use Rattle.desk_job.specs.Setting.{line_at, words_at}
use Rattle.desk_job.specs.Making.{Found, group_words, lines_at}
use Rattle.desk_job.proofs.Adding.{IsAdding}

pub take_map : {A B : Type 0} (f : A → B) (n : ℕ) (xs : List A) → take n (map f xs) ≡ map f (take n xs)
take_map f zero xs = refl
take_map f (suc n) [] = refl
take_map f (suc n) (x ∷ xs) = ap (λ (l : List _). f x ∷ l) (take_map f n xs)

pub drop_map : {A B : Type 0} (f : A → B) (n : ℕ) (xs : List A) → drop n (map f xs) ≡ map f (drop n xs)
drop_map f zero xs = refl
drop_map f (suc n) [] = refl
drop_map f (suc n) (x ∷ xs) = drop_map f n xs

-- the line of the group at a place, and those after it
pub lines_step : (copy : List Symbol) (words : List Word) (groups : List Group) (i : ℕ) (d : Group) → i < length groups →
    lines_at copy words (drop i groups)
    ≡ line_at copy (group_words words (get_or groups i d)) ((length (drop (i + 1) groups) == 0) || ((get_or groups i d).to - (get_or groups i d).from == 1))
    ∷ lines_at copy words (drop (i + 1) groups)
lines_step copy words groups i d below = rw (add-one, drop-cons groups i d below) refl

-- widths of a group are those of its words
pub widths_part : (terms : Terms) (copy : List Symbol) (words : List Word) (found : List ℤ) (n m : ℕ) → found ≡ widths terms (words_at copy words) →
    take n (drop m found) ≡ widths terms (words_at copy (take n (drop m words)))
widths_part terms copy words found n m is =
    ap (λ (l : List ℤ). take n (drop m l)) is
    ∙ (ap (take n) (drop_map (λ (w : List Symbol). pos (word_width terms w)) m (words_at copy words) ∙ ap (widths terms) (drop_map (spelled copy) m words))
    ∙ (take_map (λ (w : List Symbol). pos (word_width terms w)) n (words_at copy (drop m words)) ∙ ap (widths terms) (take_map (spelled copy) n (drop m words))))

-- the next line, where all lines up to its group are added
pub next_line : (terms : Terms) (copy : List Symbol) (words : List Word) (groups : List Group) (i : ℕ) (d : Group) (filled : Bool) (all : List SetLine) (old now : Found) →
    i < length groups → filled ≡ (length (drop (i + 1) groups) == 0) || ((get_or groups i d).to - (get_or groups i d).from == 1) →
    IsAdding terms (lines_at copy words (drop i groups)) all old now →
    IsAdding terms ((line_at copy (group_words words (get_or groups i d)) filled ∷ []) ++ lines_at copy words (drop (i + 1) groups)) all old now
next_line terms copy words groups i d filled all old now below reported is =
    rw reported (rw (lines_step copy words groups i d below) at is)
