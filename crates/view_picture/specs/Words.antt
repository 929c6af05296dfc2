-- The words of a line: each character where its matrix stands.
use Rattle.std.specs.Prelude.{ℕ, ◌+◌, List, [], ◌∷◌, ◌++◌, codes}
use Rattle.desk_ops.specs.declared.op.Symbol.{Symbol}
use Rattle.desk_units.specs.declared.Pica.{Pica}
use Rattle.desk_lines.specs.declared.words.Word.{Word}
use Rattle.desk_lines.specs.Words.{spelled}
use Rattle.desk_job.specs.Job.{Terms}
use Rattle.view_picture.specs.Places.{word_places, after_word}
use Rattle.view_picture.specs.Letters.{word_letters}

-- a word that begins here, and a space after it
abbrev pub word_text : Terms → Pica → ℕ → List Symbol → List ℕ
word_text terms pica here word =
    codes "<tspan x=\""
    ++ (word_places terms pica here word ++ (codes "\">" ++ (word_letters terms.case word ++ codes " </tspan>")))

-- words, the first of which begins here, with a space of this width after each
abbrev pub words_text : Terms → List Symbol → Pica → (space here : ℕ) → List Word → List ℕ
words_text terms copy pica space here [] = []
words_text terms copy pica space here (word ∷ words) =
    word_text terms pica here (spelled copy word)
    ++ words_text terms copy pica space (after_word terms here (spelled copy word) + space) words

-- where these end, the space after the last too
abbrev pub after_words : Terms → List Symbol → (space here : ℕ) → List Word → ℕ
after_words terms copy space here [] = here
after_words terms copy space here (word ∷ words) =
    after_words terms copy space (after_word terms here (spelled copy word) + space) words
