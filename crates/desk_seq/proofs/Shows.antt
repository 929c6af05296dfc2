-- The symbols that entries show.
use Rattle.std.proofs.Common.{◌≡◌, ℕ, ◌+◌, true, false, cond, List, [], ◌∷◌, ◌++◌, map, length, take, drop, refl, sym, ap, ◌∙◌}
use Rattle.std.specs.List.{filter}
use Rattle.std.proofs.Math.Seq.{take-add}
use Rattle.desk_ops.specs.declared.op.Symbol.{Symbol}
use Rattle.desk_seq.specs.declared.Entry.{Entry}
use Rattle.desk_seq.specs.Entries.{is_shown, shown_symbols}

abbrev pub symbols : List Entry → List Symbol
symbols es = map (λ (e : Entry). e.symbol) es

pub symbols-append : (xs ys : List Entry) → shown_symbols (xs ++ ys) ≡ shown_symbols xs ++ shown_symbols ys
symbols-append [] ys = refl
symbols-append (e ∷ xs) ys =
    elim (is_shown e) as (λ b. symbols (cond b (e ∷ filter is_shown (xs ++ ys)) (filter is_shown (xs ++ ys))) ≡ symbols (cond b (e ∷ filter is_shown xs) (filter is_shown xs)) ++ shown_symbols ys) [
      | true ↦ ap (λ l. e.symbol ∷ l) (symbols-append xs ys)
      | false ↦ symbols-append xs ys
    ]

-- the symbols of some more entries
pub part-more : (es part : List Entry) (at : ℕ) (old new : List Symbol) → part ≡ take (length part) (drop at es) → old ≡ shown_symbols (take at es) → new ≡ old ++ shown_symbols part → new ≡ shown_symbols (take (at + length part) es)
part-more es part at old new is was now =
    now ∙ ap (λ l. l ++ shown_symbols part) was
    ∙ ap (λ l. shown_symbols (take at es) ++ shown_symbols l) is
    ∙ sym (symbols-append (take at es) (take (length part) (drop at es)))
    ∙ ap shown_symbols (sym (take-add at (length part) es))
