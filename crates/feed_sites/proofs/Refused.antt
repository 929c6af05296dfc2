-- A number that is free, by the lists of the sets.
use Rattle.std.proofs.Common.{◌≡◌, ◌∙◌, ℕ, Bool, false, List, sym, ap}
use Rattle.std.specs.List.{list_any}
use Rattle.desk_ops.specs.declared.op.Op.{Op}
use Rattle.desk_ops.specs.OpSet.{OpSet, in_order}
use Rattle.feed_sites.specs.Refusing.{IsFree, uses}

pub free : (site : ℕ) (feed other : OpSet) (ops others : List Op) (a b : Bool) → ops ≡ in_order feed → others ≡ in_order other → a ≡ list_any (uses site) ops → b ≡ list_any (uses site) others → a ≡ false → b ≡ false
    → IsFree site feed other
free site feed other ops others a b is are first second none no_other =
    record { of_feed = ap (list_any (uses site)) (sym is) ∙ sym first ∙ none; of_other = ap (list_any (uses site)) (sym are) ∙ sym second ∙ no_other }
