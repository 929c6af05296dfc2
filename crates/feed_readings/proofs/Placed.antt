-- The places of white elements, found from the end of a list on.
use Rattle.std.proofs.Common.{◌≡◌, ◌∙◌, ℕ, ◌+◌, ◌<◌, Bool, true, false, ◌&&◌, cond, List, length, get_or, drop, sym, ap}
use Rattle.std.specs.Prelude.{Option, Some}
use Rattle.std.specs.Ordering.{is_eq}
use Rattle.std.specs.BTreeMap.{BTreeMap}
use Rattle.std.proofs.lemmas.List.{drop_more}
use Rattle.desk_ops.specs.declared.op.Stamp.{Stamp}
use Rattle.desk_ops.specs.contracts.op.StampOrd.TheImpl as stamp_ord
use Rattle.desk_ops.specs.Stamp.{same, stamp_cmp}
use Rattle.desk_ops.proofs.Stamps.{same-cmp}
use Rattle.feed_readings.specs.declared.reading.Shown.{Shown}
use Rattle.feed_readings.specs.Cuts.{is_white, place_from}
use Rattle.feed_readings.specs.Finding.{place_in}

-- stamps that compare as equal are the same
pub order_same : (s q : Stamp) → is_eq ((stamp_ord.ghosts).cmp s q) ≡ same s q
unfolding stamp_cmp
order_same s q = same-cmp s q

-- one white element more
pub placed : (list : List Shown) (n : ℕ) (d : Shown) (before after : BTreeMap Stamp ℕ) → n < length list → is_white (get_or list n d).symbol ≡ true
    → ((q : Stamp) → place_in after q ≡ cond (is_eq ((stamp_ord.ghosts).cmp (get_or list n d).stamp q)) (Some n) (place_in before q))
    → ((q : Stamp) → place_in before q ≡ place_from (n + 1) (drop (n + 1) list) q)
    → (q : Stamp) → place_in after q ≡ place_from n (drop n list) q
placed list n d before after lt white updates was q =
    let x : Shown = get_or list n d in
    updates q
    ∙ ap (λ (o : Option ℕ). cond (is_eq ((stamp_ord.ghosts).cmp x.stamp q)) (Some n) o) (was q)
    ∙ ap (λ (b : Bool). cond b (Some n) (place_from (n + 1) (drop (n + 1) list) q)) (order_same x.stamp q ∙ ap (λ (b : Bool). b && same x.stamp q) (sym white))
    ∙ ap (λ (l : List Shown). place_from n l q) (sym (drop_more list n d lt))

-- one that is not white
pub skipped : (list : List Shown) (n : ℕ) (d : Shown) (places : BTreeMap Stamp ℕ) → n < length list → is_white (get_or list n d).symbol ≡ false
    → ((q : Stamp) → place_in places q ≡ place_from (n + 1) (drop (n + 1) list) q)
    → (q : Stamp) → place_in places q ≡ place_from n (drop n list) q
skipped list n d places lt white was q =
    let x : Shown = get_or list n d in
    was q
    ∙ ap (λ (b : Bool). cond (b && same x.stamp q) (Some n) (place_from (n + 1) (drop (n + 1) list) q)) (sym white)
    ∙ ap (λ (l : List Shown). place_from n l q) (sym (drop_more list n d lt))
