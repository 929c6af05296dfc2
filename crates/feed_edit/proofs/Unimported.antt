-- A text that does not become the copy of a stored feed.
use Rattle.std.proofs.Common.{ℕ, Bool, List, refl}
use Rattle.std.specs.Prelude.{Err, IfOk, Ok, Option, Result}
use Rattle.desk_ops.specs.OpSet.{OpSet}
use Rattle.feed_files.specs.Files.{Shelf}
use Rattle.desk_ops.specs.declared.op.Symbol.{Symbol}
use Rattle.feed_edit.specs.Importing.{IsReadAs, IsReadOut, IsUnimported, IsUnspared, LeavesOff, RefusesText}
use Rattle.feed_edit.specs.Room.{IsOpenedHere}
use Rattle.feed_edit.specs.declared.room.Room.{Room}
use Rattle.feed_edit.specs.declared.importing.ImportMode.{ImportMode}
use Rattle.feed_edit.specs.declared.fault.ImportFault.{ImportFault}
use Rattle.feed_edit.specs.declared.fault.ImportFault.TheVariants as imports

-- where the text is refused nothing was written
pub unimported : (room : Room) (mode : ImportMode) (first last : Shelf) (read : Option (List ℕ)) (old : OpSet) (input now : Option (List ℕ)) (why : ImportFault) → IsOpenedHere room first last read old
    → RefusesText room.site mode.plain mode.all input old why → IsUnimported room mode first last input now now why
unimported room mode first last read old input now (imports.Take why) opened never = absurd never
unimported room mode first last read old input now (imports.Last why) opened never = absurd never
unimported room mode first last read old input now (imports.Input why) opened none = (refl, read, old, opened, none)
unimported room mode first last read old input now (imports.Revision why) opened (text, is, set, none, value) = (refl, read, old, opened, text, is, set, none, value)
unimported room mode first last read old input now (imports.Wipes deleted of) opened (text, is, wipes) = (refl, read, old, opened, text, is, wipes)
unimported room mode first last read old input now (imports.Keep why) opened never = absurd never

-- nor was anything where the copy is not made a text that was read
pub unspared : (site : ℕ) (plain all : Bool) (input : Option (List ℕ)) (old : OpSet) (text : List Symbol) (why : ImportFault) → IsReadAs plain input text → IsUnspared site all old text why → RefusesText site plain all input old why
unspared site plain all input old text (imports.Take why) is never = absurd never
unspared site plain all input old text (imports.Last why) is never = absurd never
unspared site plain all input old text (imports.Input why) is never = absurd never
unspared site plain all input old text (imports.Revision why) is none = (text, is, none.0, none.1, none.2)
unspared site plain all input old text (imports.Wipes deleted of) is wipes = (text, is, wipes)
unspared site plain all input old text (imports.Keep why) is never = absurd never

-- and the reader was read to its end
pub left_off : (site : ℕ) (all : Bool) (before after : Option (List ℕ)) (old : OpSet) (text : List Symbol) (why : ImportFault) → IsUnspared site all old text why → IsReadOut before after → LeavesOff before after why
left_off site all before after old text (imports.Take why) never end = absurd never
left_off site all before after old text (imports.Last why) never end = absurd never
left_off site all before after old text (imports.Input why) never end = absurd never
left_off site all before after old text (imports.Revision why) none end = end
left_off site all before after old text (imports.Wipes deleted of) wipes end = end
left_off site all before after old text (imports.Keep why) never end = absurd never

-- two facts of one value
pub both_ok : {T E : Type 0} (r : Result T E) (P Q R : T → Type 0) → ((x : T) → P x → Q x → R x) → IfOk r P → IfOk r Q → IfOk r R
both_ok (Ok x) P Q R f p q = f x p q
both_ok (Err e) P Q R f p q = tt
