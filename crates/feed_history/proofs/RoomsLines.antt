-- The lines of sites, one after the other.
use Rattle.std.proofs.Common.{◌≡◌, ℕ, ◌+◌, ◌<◌, ◌≤◌, Bool, true, false, cond, not, List, [], ◌∷◌, ◌++◌, length, get_or, drop, map, refl, sym, ap, subst, ◌∙◌, arith}
use Rattle.std.specs.Prelude.{filter, flat_map}
use Rattle.std.specs.List.{range_with_len}
use Rattle.std.proofs.lemmas.List.{append_assoc, append-nil, at_drop_all, at_drop_more}
use Rattle.std.proofs.lemmas.List.FromFn.{get_or-range_with_len, length-range_with_len}
use Rattle.desk_ops.specs.Op.{Insertion}
use Rattle.desk_ops.specs.declared.op.Op.{Op}
use Rattle.desk_ops.specs.OpSet.{OpSet, in_order}
use Rattle.desk_ops.specs.Shown.{is_deleted_in, shown}
use Rattle.desk_ops.specs.Walk.{walk_of}
use Rattle.desk_seq.specs.declared.Entry.{Entry}
use Rattle.desk_seq.specs.Entries.{is_shown}
use Rattle.desk_walk.specs.Following.{entries_of, entry_of}
use Rattle.feed_history.specs.declared.rooms_made.Made.{Made}
use Rattle.feed_history.specs.Rooms.{line_of, site_line, site_lines, sites, sites_at_fault, sites_shown}
use Rattle.feed_history.specs.RoomsTables.{AreMade, AreRooms, AreTimes, sites_in}

-- ---- the numbers of sites

pub sites_are : sites ≡ range_with_len 0 65536
unfolding sites
sites_are = refl

-- a function of the numbers from one on
step : {Y : Type 0} (F : List ℕ → Y) (list : List ℕ) (n i : ℕ) → list ≡ range_with_len 0 n → i < n → F (drop i list) ≡ F (i ∷ drop (i + 1) list)
step F list n i e l =
    let all : length list ≡ n = ap length e ∙ length-range_with_len 0 n in
    let at : get_or list i 0 ≡ i = ap (λ r. get_or r i 0) e ∙ get_or-range_with_len 0 n i 0 l ∙ (let z : 0 + i ≡ i = omega arith in z) in
    at_drop_more F list i 0 (omega (arith, all, l)) ∙ ap (λ k. F (k ∷ drop (i + 1) list)) at

-- ---- the rows of a set

pub rooms_from : (set : OpSet) (ops : List Op) (fails : List ℕ) (m made : List Made) (s shown f faults : List ℕ) → ops ≡ in_order set → fails ≡ sites_at_fault set
    → AreMade ops m → AreTimes (sites_shown set) s → AreTimes fails f → made ≡ m → shown ≡ s → faults ≡ f → AreRooms set made shown faults
rooms_from set ops fails m made s shown f faults held failed one two three a b c = record {
  made = subst (AreMade (in_order set)) (sym a) (subst (λ list. AreMade list m) held one);
  shown = subst (AreTimes (sites_shown set)) (sym b) two;
  faults = subst (AreTimes (sites_at_fault set)) (sym c) (subst (λ list. AreTimes list f) failed three);
}

-- ---- lines

-- the line of the row of a site
row_line : (set : OpSet) (made : List Made) (shown faults : List ℕ) (site : ℕ) (d : Made) → AreRooms set made shown faults → site < 65536
    → line_of site (get_or made site d) (get_or shown site 0) (get_or faults site 0) ≡ site_line set site
row_line set made shown faults site d h few = λ i. line_of site (h.made.each site d few i) (h.shown.each site few i) (h.faults.each site few i)

pub next_line : (set : OpSet) (made : List Made) (shown faults : List ℕ) (site : ℕ) (d : Made) (old out new : List ℕ) → AreRooms set made shown faults → site < 65536
    → new ≡ out ++ line_of site (get_or made site d) (get_or shown site 0) (get_or faults site 0)
    → out ++ flat_map (site_line set) (drop site sites) ≡ old ++ site_lines set
    → new ++ flat_map (site_line set) (drop (site + 1) sites) ≡ old ++ site_lines set
next_line set made shown faults site d old out new h few put so_far =
    ap (λ t. t ++ flat_map (site_line set) (drop (site + 1) sites)) (put ∙ ap (λ t. out ++ t) (row_line set made shown faults site d h few))
    ∙ append_assoc out (site_line set site) (flat_map (site_line set) (drop (site + 1) sites))
    ∙ ap (λ t. out ++ t) (sym (step (flat_map (site_line set)) sites 65536 site sites_are few)) ∙ so_far

pub last_line : (set : OpSet) (out all : List ℕ) (site : ℕ) → 65536 ≤ site → out ++ flat_map (site_line set) (drop site sites) ≡ all → out ≡ all
last_line set out all site past so_far =
    let few : length sites ≡ 65536 = ap length sites_are ∙ length-range_with_len 0 65536 in
    sym (append-nil out) ∙ ap (λ t. out ++ t) (sym (at_drop_all (flat_map (site_line set)) sites site (omega (arith, few, past)))) ∙ so_far

-- ---- what the copy shows

shown_walk : (h : OpSet) (xs : List Insertion) → sites_in (map (entry_of h) xs) ≡ map (λ (x : Insertion). x.stamp.site) (filter (λ x. not (is_deleted_in h x.stamp)) xs)
shown_walk h [] = refl
shown_walk h (x ∷ xs) = by (shown_walk h xs) (is_deleted_in h x.stamp)
  where
    by : sites_in (map (entry_of h) xs) ≡ map (λ (x : Insertion). x.stamp.site) (filter (λ x. not (is_deleted_in h x.stamp)) xs)
        → (b : Bool) → map (λ (e : Entry). e.stamp.site) (cond (not b) ((record { stamp = x.stamp; symbol = x.symbol; deleted = b }) ∷ filter is_shown (map (entry_of h) xs)) (filter is_shown (map (entry_of h) xs)))
        ≡ map (λ (x : Insertion). x.stamp.site) (cond (not b) (x ∷ filter (λ x. not (is_deleted_in h x.stamp)) xs) (filter (λ x. not (is_deleted_in h x.stamp)) xs))
    by rest true = rest
    by rest false = ap (λ (l : List ℕ). x.stamp.site ∷ l) rest

pub shown_sites : (h : OpSet) (es : List Entry) → es ≡ entries_of h → sites_in es ≡ sites_shown h
unfolding shown
shown_sites h es e = ap sites_in e ∙ shown_walk h (walk_of h)
