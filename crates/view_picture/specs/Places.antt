-- Where the characters of a line stand: each where its matrix begins, one matrix after the other.
use Rattle.std.specs.Prelude.{ℕ, ◌+◌, List, [], ◌∷◌, ◌++◌, codes}
use Rattle.desk_ops.specs.declared.op.Symbol.{Symbol}
use Rattle.desk_units.specs.declared.Pica.{Pica}
use Rattle.desk_job.specs.Job.{Terms, symbol_width}
use Rattle.view_galley.specs.Svg.{hundredths_text}
use Rattle.view_picture.specs.Paper.{across}

-- the place of a matrix that begins here
abbrev pub place_text : Pica → ℕ → List ℕ
place_text pica here = hundredths_text (across pica here)

-- one of more
abbrev pub next_place : Pica → ℕ → List ℕ
next_place pica here = place_text pica here ++ codes " "

-- the places of the symbols of a word that begins here; one that the case lacks has no width
abbrev pub symbol_places : Terms → Pica → ℕ → List Symbol → List ℕ
symbol_places terms pica here [] = []
symbol_places terms pica here (symbol ∷ word) = next_place pica here
    ++ symbol_places terms pica (here + symbol_width terms symbol) word

-- where it ends
abbrev pub after_word : Terms → ℕ → List Symbol → ℕ
after_word terms here [] = here
after_word terms here (symbol ∷ word) = after_word terms (here + symbol_width terms symbol) word

-- the places of a word and of the space after it
abbrev pub word_places : Terms → Pica → ℕ → List Symbol → List ℕ
word_places terms pica here word = symbol_places terms pica here word ++ place_text pica (after_word terms here word)
