-- The entries that index a grid, put in place by place.
use Rattle.std.proofs.Common.{◌≡◌, ◌∙◌, ℕ, ◌+◌, ◌<◌, Bool, true, false, cond, if◌then◌else◌, List, [], ◌∷◌, ◌++◌, length, take, drop, get_or, Option, Some, None, refl, sym, ap, arith}
use Rattle.std.specs.Prelude.{is_some, option_map}
use Rattle.std.specs.List.{position_from}
use Rattle.std.specs.Map.{lookup}
use Rattle.std.proofs.lemmas.List.{drop_more, take_more, length-take-le}
use Rattle.desk_signals.specs.declared.Cell.{Cell}
use Rattle.desk_ops.specs.declared.op.Symbol.{Symbol}
use Rattle.desk_case.specs.Names.{cell_of_place}
use Rattle.desk_case.specs.Case.{same_symbol, is_held, place_in, cell_in, IsIndexOf}
use Rattle.desk_case.specs.File.{or_else, doubled_after, first_doubled}
use Rattle.desk_case.proofs.Grids.{Grid}

abbrev pub Entries : Type 0
Entries = List (Symbol × Cell)

-- a look-up among entries with one more
lookup_here : (b : Bool) (c : Cell) (rest last : Option Cell) → cond b (Some c) (or_else rest last) ≡ or_else (cond b (Some c) rest) last
lookup_here true c rest last = refl
lookup_here false c rest last = refl

lookup_pushed : (test : Symbol → Bool) (es : Entries) (s : Symbol) (c : Cell) → lookup test (es ++ (s, c) ∷ []) ≡ or_else (lookup test es) (cond (test s) (Some c) None)
lookup_pushed test [] s c = refl
lookup_pushed test (e ∷ es) s c =
    ap (λ r. cond (test e.0) (Some e.1) r) (lookup_pushed test es s c) ∙ lookup_here (test e.0) e.1 (lookup test es) (cond (test s) (Some c) None)

-- a place in a grid with one more
place_here : (b : Bool) (k : ℕ) (rest last : Option ℕ) → cond b (Some k) (or_else rest last) ≡ or_else (cond b (Some k) rest) last
place_here true k rest last = refl
place_here false k rest last = refl

place_pushed : (s : Symbol) (k : ℕ) (ms : Grid) (m : Option Symbol)
    → position_from (is_held s) k (ms ++ m ∷ []) ≡ or_else (position_from (is_held s) k ms) (cond (is_held s m) (Some (k + length ms)) None)
place_pushed s k [] m = let same : k + 0 ≡ k = omega arith in rw same refl
place_pushed s k (x ∷ ms) m =
    let on : k + 1 + length ms ≡ k + length (x ∷ ms) = omega arith in
    ap (λ r. cond (is_held s x) (Some k) r) (place_pushed s (k + 1) ms m ∙ ap (λ n. or_else (position_from (is_held s) (k + 1) ms) (cond (is_held s m) (Some n) None)) on)
    ∙ place_here (is_held s x) k (position_from (is_held s) (k + 1) ms) (cond (is_held s m) (Some (k + length (x ∷ ms))) None)

mapped : (o last : Option ℕ) → option_map cell_of_place (or_else o last) ≡ or_else (option_map cell_of_place o) (option_map cell_of_place last)
mapped None last = refl
mapped (Some n) last = refl

or_none : {A : Type 0} (o : Option A) → or_else o None ≡ o
or_none None = refl
or_none (Some a) = refl

mapped_test : (b : Bool) (n : ℕ) → option_map cell_of_place (cond b (Some n) None) ≡ cond b (Some (cell_of_place n)) None
mapped_test true n = refl
mapped_test false n = refl

index_blank : (es : Entries) (g : Grid) → IsIndexOf es g → IsIndexOf es (g ++ None ∷ [])
index_blank es g h = record { found = λ s. h.found s ∙ sym (ap (option_map cell_of_place) (place_pushed s 0 g None ∙ or_none (place_in g s))) }

index_pushed : (es : Entries) (g : Grid) (s : Symbol) (n : ℕ) → n ≡ length g → IsIndexOf es g → IsIndexOf (es ++ (s, cell_of_place n) ∷ []) (g ++ Some s ∷ [])
index_pushed es g s n is h = record {
  found = λ t.
      let here : n ≡ 0 + length g = omega arith in
      lookup_pushed (same_symbol t) es s (cell_of_place n)
      ∙ ap (λ o. or_else o (cond (same_symbol t s) (Some (cell_of_place n)) None)) (h.found t)
      ∙ ap (λ o. or_else (cell_in g t) o) (sym (mapped_test (same_symbol t s) n))
      ∙ sym (mapped (place_in g t) (cond (same_symbol t s) (Some n) None))
      ∙ ap (λ i. option_map cell_of_place (or_else (place_in g t) (cond (same_symbol t s) (Some i) None))) here
      ∙ sym (ap (option_map cell_of_place) (place_pushed t 0 g (Some s)));
}

-- what the loop over a grid keeps
pub record IsIndexedTo (grid : Grid) (i : ℕ) (es : Entries) : Type 0 where
  pub index : IsIndexOf es (take i grid)
  pub apart : first_doubled grid ≡ doubled_after (take i grid) (drop i grid)

next_taken : (grid : Grid) (i : ℕ) (d m : Option Symbol) → i < length grid → get_or grid i d ≡ m → take (i + 1) grid ≡ take i grid ++ m ∷ []
next_taken grid i d m within is = take_more grid i d within ∙ ap (λ x. take i grid ++ x ∷ []) is

next_dropped : (grid : Grid) (i : ℕ) (d m : Option Symbol) → i < length grid → get_or grid i d ≡ m → drop i grid ≡ m ∷ drop (i + 1) grid
next_dropped grid i d m within is = drop_more grid i d within ∙ ap (λ x. x ∷ drop (i + 1) grid) is

pub blank_indexed : (grid : Grid) (i : ℕ) (es : Entries) (d : Option Symbol) → i < length grid → get_or grid i d ≡ None → IsIndexedTo grid i es → IsIndexedTo grid (i + 1) es
blank_indexed grid i es d within blank h =
    let taken = next_taken grid i d None within blank in
    let dropped = next_dropped grid i d None within blank in
    record {
      index = rw taken (index_blank es (take i grid) h.index);
      apart = h.apart ∙ ap (doubled_after (take i grid)) dropped ∙ ap (λ g. doubled_after g (drop (i + 1) grid)) (sym taken);
    }

is_some_mapped : (o : Option ℕ) → is_some (option_map cell_of_place o) ≡ is_some o
is_some_mapped None = refl
is_some_mapped (Some n) = refl

seen : (grid : Grid) (i : ℕ) (es : Entries) (s : Symbol) → IsIndexedTo grid i es → is_some (lookup (same_symbol s) es) ≡ is_some (place_in (take i grid) s)
seen grid i es s h = ap is_some (h.index.found s) ∙ is_some_mapped (place_in (take i grid) s)

pub symbol_indexed : (grid : Grid) (i : ℕ) (es more : Entries) (d : Option Symbol) (s : Symbol) → i < length grid → get_or grid i d ≡ Some s
    → is_some (lookup (same_symbol s) es) ≡ false → more ≡ es ++ (s, cell_of_place i) ∷ [] → IsIndexedTo grid i es → IsIndexedTo grid (i + 1) more
symbol_indexed grid i es more d s within held new grown h =
    let taken = next_taken grid i d (Some s) within held in
    let dropped = next_dropped grid i d (Some s) within held in
    let long : i ≡ length (take i grid) = sym (length-take-le i grid (omega arith)) in
    let not_seen = sym (seen grid i es s h) ∙ new in
    record {
      index = rw (taken, grown) (index_pushed es (take i grid) s i long h.index);
      apart = h.apart ∙ ap (doubled_after (take i grid)) dropped
          ∙ ap (λ b. or_else (if b then Some s else None) (doubled_after (take i grid ++ Some s ∷ []) (drop (i + 1) grid))) not_seen
          ∙ ap (λ g. doubled_after g (drop (i + 1) grid)) (sym taken);
    }
