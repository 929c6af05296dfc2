-- A renumbering that was done, or was not.
use Rattle.std.proofs.Common.{◌≡◌, ◌∙◌, ◌<◌, ◌⊎◌, inl, inr, ℕ, zero, suc, Bool, true, false, List, refl, sym, subst, arith}
use Rattle.std.specs.Prelude.{◌↔◌, IsTrue, Option}
use Rattle.std.proofs.lemmas.Bool.{true≢false}
use Rattle.desk_ops.specs.OpSet.{OpSet, size}
use Rattle.feed_files.specs.Files.{IsHeldAlone, Shelf, Stays}
use Rattle.feed_edit.specs.Keeping.{IsUnkept}
use Rattle.feed_edit.specs.declared.fault.KeepFault.{KeepFault}
use Rattle.feed_edit.specs.declared.fault.KeepFault.TheVariants as keeps
use Rattle.feed_sites.specs.Renumbering.{IsUndone, IsUnopened, IsUnrenumbered, IsUnwritten, Reports}
use Rattle.feed_sites.specs.declared.fault.RenumberFault.{RenumberFault}
use Rattle.feed_sites.specs.declared.fault.RenumberFault.TheVariants as faults

pub some_there : (b : Bool) (n : ℕ) → (IsTrue b ↔ (n ≡ 0)) → b ≡ false → 0 < n
some_there b zero h e = absurd (true≢false (sym (h.1 refl) ∙ e))
some_there b (suc n) h e = omega arith

-- the line that nothing was moved is not written
pub none_unwritten : (name : List ℕ) (feed now moved : OpSet) (held : Shelf) (before after : Option (List ℕ)) (why : KeepFault) → size moved ≡ 0 → IsUnwritten before after why → IsUndone name feed now moved held held before after why
none_unwritten name feed now moved held before after keeps.Write none prefix = (refl, inl (none, prefix))
none_unwritten name feed now moved held before after (keeps.Unstored why) none never = absurd never
none_unwritten name feed now moved held before after keeps.NoMemory none same = (refl, same)

-- what was done is not written, or not stored
pub unkept : (name : List ℕ) (feed now moved : OpSet) (reported : List ℕ) (held last : Shelf) (before after : Option (List ℕ)) (why : KeepFault) → 0 < size moved → Reports feed now moved reported
    → IsUnkept name reported held last before after why → IsUndone name feed now moved held last before after why
unkept name feed now moved reported held last before after keeps.Write some reports (same, prefix) = (same, inr (some, reported, reports, prefix))
unkept name feed now moved reported held last before after (keeps.Unstored why) some reports (written, unstored) = (some, reported, reports, written, unstored)
unkept name feed now moved reported held last before after keeps.NoMemory some reports both = both

-- where the feeds are not opened nothing is written
pub unopened : (name other : List ℕ) (site : ℕ) (first last : Shelf) (now : Option (List ℕ)) (why : RenumberFault) → IsUnopened name other first last why → IsUnrenumbered name other site first last now now why
unopened name other site first last now (faults.Take why) barred = (refl, barred)
unopened name other site first last now (faults.Other why) closed = (refl, closed)
unopened name other site first last now (faults.Number why) never = absurd never
unopened name other site first last now (faults.Keep why) never = absurd never

pub held_or_same : {W : Type 0} (name : List ℕ) (first last : Shelf) (writer : W) → IsHeldAlone name first last ⊎ Stays first last → IsHeldAlone name first last ⊎ ((writer ≡ writer) × Stays first last)
held_or_same name first last writer (inl held) = inl held
held_or_same name first last writer (inr stays) = inr (refl, stays)
