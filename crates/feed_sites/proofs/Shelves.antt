-- What a renewal leaves of the files.
use Rattle.std.proofs.Common.{◌≡◌, ◌∙◌, ℕ, Bool, false, IsTrue, List, ap, sym}
use Rattle.std.specs.Prelude.{◌≢◌, ◌↔◌}
use Rattle.std.proofs.lemmas.Bool.{false≢true}
use Rattle.feed_files.specs.Files.{Names, new_name}

-- other names stand for what they stood for, over three calls of which the one between changes nothing
pub others_stay : (new : List ℕ) (first held opened last : Names) → ((other : List ℕ) → other ≢ new → other ≢ new_name new → held other ≡ first other) → opened ≡ held
    → ((other : List ℕ) → other ≢ new → other ≢ new_name new → last other ≡ opened other) → (other : List ℕ) → other ≢ new → other ≢ new_name new → last other ≡ first other
others_stay new first held opened last taken same kept other apart away = kept other apart away ∙ ap (λ (names : Names). names other) same ∙ taken other apart away

-- a name that was looked at is not that of the writing
pub not_writing : (new feed as_new as_feed : List ℕ) (is : Bool) → as_new ≡ new → as_feed ≡ feed → IsTrue is ↔ (as_feed ≡ new_name as_new) → is ≡ false → feed ≢ new_name new
not_writing new feed as_new as_feed is one other decides apart named = false≢true (sym apart ∙ decides.1 (other ∙ named ∙ ap new_name (sym one)))
