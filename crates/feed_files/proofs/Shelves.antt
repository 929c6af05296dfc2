-- Files that stay, and a name that is held on.
use Rattle.std.proofs.Common.{◌≡◌, le_refl, refl, subst, ap, ap₂, ◌∙◌, List, ℕ, inl, inr}
use Rattle.std.proofs.Math.Nat.{le_trans}
use Rattle.feed_files.specs.Files.{Hold, HoldsOn, IsHeldAlone, IsNowHeld, Shelf, Stays, shelf, touched}

pub stays_same : (s : Shelf) → Stays s s
stays_same s = (refl, le_refl _, refl)

pub stays_trans : {a b c : Shelf} → Stays a b → Stays b c → Stays a c
stays_trans first second = (second.0 ∙ first.0, le_trans first.1 second.1, second.2 ∙ first.2)

-- where nothing has changed and nothing failed
pub same_shelf : (before after : Shelf) → Stays before after → after.failures ≡ before.failures → after ≡ before
same_shelf before after stays fails = ap (λ kept. shelf kept after.failures after.held) stays.0 ∙ ap₂ (shelf before.kept) fails stays.2

pub holds_on : (a b c : Hold) → b ≡ a → HoldsOn b c → HoldsOn a c
holds_on a b c same on = subst (λ (h : Hold). HoldsOn h c) same on

pub held_alone : (name : List ℕ) (first held last : Shelf) → IsNowHeld name first held → HoldsOn held.held last.held → IsHeldAlone name first last
held_alone name first held last taken (inl same) = (taken.free, inl (same ∙ taken.held))
held_alone name first held last taken (inr on) = (taken.free, inr (on ∙ ap touched taken.held))
