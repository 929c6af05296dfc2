-- Lists that are passed, from place to place.
use Rattle.std.proofs.Common.{◌≡◌, ◌∙◌, ℕ, ◌+◌, ◌<◌, Bool, true, false, cond, ◌||◌, List, [], ◌∷◌, ◌++◌, length, drop, get_or, refl, sym, ap, subst, append_assoc}
use Rattle.std.specs.Prelude.{if◌then◌else◌, Option, Some, None}
use Rattle.std.specs.List.{filter, list_any}
use Rattle.std.proofs.lemmas.List.{drop_more}
use Rattle.desk_ops.specs.declared.op.Op.{Op}
use Rattle.desk_ops.specs.declared.op.Stamp.{Stamp}
use Rattle.desk_ops.specs.Op.{stamp_of}
use Rattle.feed_sites.specs.Refusing.{first_stamp, has_clash, clashes_with}

module _ {A : Type 0} (p : A → Bool) (xs : List A) (k : ℕ) (d : A) (lt : k < length xs) where
  pub any_here : list_any p (drop k xs) ≡ (p (get_or xs k d) || list_any p (drop (k + 1) xs))
  any_here = ap (list_any p) (drop_more xs k d lt)
