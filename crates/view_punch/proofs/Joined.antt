-- Ribbons one after the other are the ribbon of all their rows.
use Rattle.std.proofs.Common.{◌≡◌, ℕ, suc, ◌+◌, ◌*◌, ◌-◌, List, ◌++◌, length, take, drop, refl, sym, ap, ap₂, subst, ◌∙◌, arith, length-append}
use Rattle.std.specs.Prelude.{◌/◌, codes}
use Rattle.std.specs.Int.{to_be_bytes, w32}
use Rattle.std.specs.List.{flat_map}
use Rattle.std.proofs.Math.Seq.{take-length}
use Rattle.std.proofs.lemmas.Grind.{flat_map-append}
use Rattle.std.proofs.lemmas.List.{length-drop}
use Rattle.desk_signals.specs.declared.RibbonRow.{RibbonRow}
use Rattle.desk_ribbon.specs.Ribbon.{image_bytes, ribbon}
use Rattle.desk_caster.proofs.Ribbons.{length-images}
use Rattle.view_punch.specs.Joining.{AreJoined}

pub length-ribbon : (rows : List RibbonRow) → length (ribbon rows) ≡ 8 + 4 * length rows
length-ribbon rows =
    let images = length-images rows in
    let whole : length (ribbon rows) ≡ suc (suc (suc (suc (suc (suc (suc (suc (length (flat_map image_bytes rows))))))))) = refl in
    omega (arith, images, whole)

-- what the bytes of a ribbon become, where those of rows come after them
abbrev pub recounted : List ℕ → List ℕ
recounted bytes = take 4 bytes ++ (to_be_bytes w32 ((length bytes - 8) / 4) ++ drop 8 bytes)

number_of : (rows more : List RibbonRow) → (length (ribbon rows ++ drop 8 (ribbon more)) - 8) / 4 ≡ length (rows ++ more)
number_of rows more =
    let first = length-ribbon rows in
    let images : length (drop 8 (ribbon more)) ≡ 4 * length more = length-images more in
    let all = length-append (ribbon rows) (drop 8 (ribbon more)) in
    let sum = length-append rows more in
    omega (arith, first, images, all, sum)

join_rows : (rows more : List RibbonRow) → recounted (ribbon rows ++ drop 8 (ribbon more)) ≡ ribbon (rows ++ more)
join_rows rows more =
    ap₂ (λ n l. codes "MRB1" ++ (to_be_bytes w32 n ++ l)) (number_of rows more) (sym (flat_map-append image_bytes rows more))

-- all behind the eighth byte
pub tail_of : (bytes : List ℕ) → take (length bytes - 8) (drop 8 bytes) ≡ drop 8 bytes
tail_of bytes = ap (λ n. take n (drop 8 bytes)) (sym (length-drop 8 bytes)) ∙ take-length (drop 8 bytes)

pub joined : (one next bytes : List ℕ) → bytes ≡ recounted (one ++ drop 8 next) → AreJoined one next bytes
joined one next bytes is rows more first second =
    is ∙ (ap₂ (λ (a b : List ℕ). recounted (a ++ drop 8 b)) first second ∙ join_rows rows more)
