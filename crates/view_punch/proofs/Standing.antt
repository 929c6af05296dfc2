-- Where a symbol stands, by the list of its places.
use Rattle.std.proofs.Common.{◌≡◌, ℕ, zero, suc, ◌+◌, ◌<◌, ◌≤◌, Bool, true, false, cond, List, [], ◌∷◌, ◌++◌, length, take, get_or, refl, sym, ap, ◌∙◌, subst, arith, add-one, add-zero}
use Rattle.std.specs.Prelude.{Some, slice_get}
use Rattle.std.specs.List.{range_with_len}
use Rattle.std.proofs.Math.Seq.{take-length}
use Rattle.std.proofs.lemmas.List.{length-append}
use Rattle.std.proofs.lemmas.Option.{slice_get_within, slice_get-get_or}
use Rattle.desk_ops.proofs.Lists.{among-filter, among-filter_from}
use Rattle.desk_ops.proofs.Ranges.{among_range, rise_of}
use Rattle.desk_ops.specs.Lists.{Among}
use Rattle.desk_ops.specs.declared.op.Style.TheVariants.{Roman}
use Rattle.desk_ops.specs.declared.op.Symbol.{Symbol}
use Rattle.desk_case.specs.Case.{is_held, same_symbol}
use Rattle.desk_case.proofs.Grids.{held_is, held_itself}
use Rattle.desk_ops.proofs.Symbols.{symbol_same}
use Rattle.view_punch.specs.SortsLaws.{AreAllPlaces}
use Rattle.view_punch.specs.Places.{places_of, places_to}
use Rattle.view_punch.specs.Sorts.{StandsAt, wanted_of}
use Rattle.view_punch.proofs.PlaceByPlace.{places_more}
use Rattle.view_punch.proofs.Tallies.{wanted_no, wanted_yes}

-- ---- they are those at which it stands

stands : (copy : List Symbol) (symbol : Symbol) (place : ℕ) → Among place (places_of copy symbol) → StandsAt copy symbol place
unfolding places_to
stands copy symbol place m =
    let h = among-filter (λ at. is_held symbol (slice_get copy at)) (range_with_len 0 (length copy)) place m in
    held_is symbol (slice_get copy place) h.1

among : (copy : List Symbol) (symbol : Symbol) (place : ℕ) → StandsAt copy symbol place → Among place (places_of copy symbol)
unfolding places_to
among copy symbol place is =
    let within = slice_get_within copy place symbol is in
    among-filter_from (λ at. is_held symbol (slice_get copy at)) (range_with_len 0 (length copy)) place (among_range 0 (length copy) place (omega arith) (omega (arith, within)))
    (held_itself symbol (slice_get copy place) is)

-- ---- they are as many as it is wanted

counted_more : (copy : List Symbol) (n : ℕ) (s q : Symbol) → StandsAt copy s n → length (places_to copy n q) ≡ wanted_of (take n copy) q → length (places_to copy (n + 1) q) ≡ wanted_of (take (n + 1) copy) q
counted_more copy n s q here so_far = by (same_symbol q s) refl
  where
    grows : length (places_to copy (n + 1) q) ≡ length (places_to copy n q) + length (cond (same_symbol q s) (n ∷ []) [])
    grows = ap length (places_more copy n q ∙ ap (λ o. places_to copy n q ++ cond (is_held q o) (n ∷ []) []) here) ∙ length-append (places_to copy n q) (cond (same_symbol q s) (n ∷ []) [])

    by : (b : Bool) → same_symbol q s ≡ b → length (places_to copy (n + 1) q) ≡ wanted_of (take (n + 1) copy) q
    by true e =
        let one : q ≡ s = symbol_same q s e in
        grows ∙ ap (λ b. length (places_to copy n q) + length (cond b (n ∷ []) [])) e ∙ ap (λ k. k + 1) so_far ∙ sym (wanted_yes copy n q (here ∙ ap Some (sym one)))
    by false e = grows ∙ ap (λ b. length (places_to copy n q) + length (cond b (n ∷ []) [])) e ∙ add-zero (length (places_to copy n q)) ∙ so_far ∙ sym (wanted_no copy n s q here e)

counted_to : (copy : List Symbol) (q : Symbol) (n : ℕ) → n ≤ length copy → length (places_to copy n q) ≡ wanted_of (take n copy) q
unfolding places_to
counted_to copy q zero within = refl
counted_to copy q (suc n) within =
    let d : Symbol = record { style = Roman; ch = 0 } in
    let before : n ≤ length copy = omega arith in
    let below : n < length copy = omega arith in
    subst (λ k. length (places_to copy k q) ≡ wanted_of (take k copy) q) (add-one n)
    (counted_more copy n (get_or copy n d) q (slice_get-get_or copy n d below) (counted_to copy q n before))

as_many : (copy : List Symbol) (q : Symbol) → length (places_of copy q) ≡ wanted_of copy q
as_many copy q =
    let all : length copy ≤ length copy = omega arith in
    counted_to copy q (length copy) all ∙ ap (λ l. wanted_of l q) (take-length copy)

pub all_places : AreAllPlaces
unfolding places_to
all_places copy symbol = record {
  rise = rise_of (λ at. is_held symbol (slice_get copy at)) 0 (length copy);
  among = λ place. (stands copy symbol place, among copy symbol place);
  wanted = as_many copy symbol;
}
