-- What is said of bytes, by what they mean.
use Rattle.std.proofs.Common.{◌≡◌, ℕ, ◌<◌, Bool, List, sym, subst}
use Rattle.std.specs.Prelude.{IfOk, Option, Some, None, Result, Ok, Err, string_bytes}
use Rattle.desk_ops.specs.declared.op.Op.{Op}
use Rattle.desk_ops.specs.OpSet.{max_ops, no_ops, size, with_all}
use Rattle.desk_codec.specs.Fault.{IsFirstFault}
use Rattle.desk_codec.specs.Feed.{IsFeed}
use Rattle.desk_codec.specs.declared.fault.FeedFault.{FeedFault}
use Rattle.desk_held.specs.declared.join.Stopped.{Stopped}
use Rattle.feed_stored.specs.Fault.{IsUnopened}
use Rattle.feed_stored.specs.declared.fault.OpenFault.TheVariants as openings
use Rattle.feed_check.specs.declared.reported.Reported.{Reported}

-- it holds of what is said, where it holds of the words
pub said : {A E : Type 0} (r : Result (Reported A) E) (words : List ℕ) (well : Bool) (Q : List ℕ → Bool → Type 0) → Q words well → IfOk r (λ t. string_bytes t.text ≡ words) → IfOk r (λ t. t.well ≡ well)
    → IfOk r (λ t. Q (string_bytes t.text) t.well)
said (Ok t) words well Q q text is = subst (λ b. Q (string_bytes t.text) b) (sym is) (subst (λ l. Q l well) (sym text) q)
said (Err e) words well Q q text is = tt

-- the same of words that there may be none of
pub said_words : {A E : Type 0} (r : Result (Reported A) E) (words : Option (List ℕ)) (well : Bool) (Q : List ℕ → Bool → Type 0) → ((l : List ℕ) → words ≡ Some l → Q l well) → IfOk r (λ t. words ≡ Some (string_bytes t.text))
    → IfOk r (λ t. t.well ≡ well) → IfOk r (λ t. Q (string_bytes t.text) t.well)
said_words (Ok t) words well Q q text is = subst (λ b. Q (string_bytes t.text) b) (sym is) (q (string_bytes t.text) text)
said_words (Err e) words well Q q text is = tt

-- none are not some
pub no_words : {l : List ℕ} → None ≡ Some l → ⊥
no_words e = cc

pub first_fault : (bytes : List ℕ) (fault : FeedFault) → IsUnopened (Some bytes) (openings.Feed fault) → IsFirstFault bytes fault
first_fault bytes fault (other, is, first) =
    let same : other ≡ bytes = cc in
    subst (λ l. IsFirstFault l fault) same first

pub crowded : (bytes : List ℕ) (stop : Stopped) → IsUnopened (Some bytes) (openings.Opening stop) → (ops : List Op) × IsFeed bytes ops × (max_ops < size (with_all no_ops ops))
crowded bytes stop (other, is, ops, feed, many) =
    let same : other ≡ bytes = cc in
    (ops, subst (λ l. IsFeed l ops) same feed, many.0)
