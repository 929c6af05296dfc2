-- Runs in a room.
use Rattle.std.proofs.Common.{◌≡◌, ap, refl, inl, inr, ◌∙◌}
use Rattle.std.specs.Prelude.{◌⊎◌, OnErr, OnOk, Result, Ok, Err}
use Rattle.feed_files.specs.Files.{Hold, Free, HoldsOn, Touched, Untouched, touched}

-- either way a call went
pub either : {V E P Q : Type 0} (result : Result V E) → OnOk result P → OnErr result Q → P ⊎ Q
either (Ok v) p q = inl p
either (Err e) p q = inr q

touched_again : (h : Hold) → touched (touched h) ≡ touched h
touched_again Free = refl
touched_again (Untouched name) = refl
touched_again (Touched name) = refl

pub holds_through : (a b c : Hold) → HoldsOn a b → HoldsOn b c → HoldsOn a c
holds_through a b c (inl first) (inl second) = inl (second ∙ first)
holds_through a b c (inl first) (inr second) = inr (second ∙ ap touched first)
holds_through a b c (inr first) (inl second) = inr (second ∙ first)
holds_through a b c (inr first) (inr second) = inr (second ∙ ap touched first ∙ touched_again a)
