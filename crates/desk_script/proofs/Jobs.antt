-- What a job by two files leaves.
use Rattle.std.proofs.Common.{◌≡◌, ℕ, ◌⊎◌, inl, inr, List, refl, ap, subst}
use Rattle.std.specs.Prelude.{Some, Err, MatchOption}
use Rattle.desk_ops.specs.OpSet.{OpSet}
use Rattle.feed_files.specs.Files.{Shelf}
use Rattle.script_answers.specs.Failure.{IfReplied, refusal_of}
use Rattle.script_answers.specs.Reply.{ReplyValues, Refused}
use Rattle.script_answers.specs.declared.text.Refusal.TheVariants as refusals
use Rattle.script_answers.specs.declared.failure.Failure.{Failure}
use Rattle.script_answers.specs.declared.failure.Failure.TheVariants as failures
use Rattle.script_answers.specs.Job.{IsJobByFiles, JobLacksMemory}
use Rattle.script_answers.specs.declared.job.Wanted.{Wanted}
use Rattle.script_world.specs.Sites.{Sites}
use Rattle.desk_script.specs.Act.{Jobs, LacksMemory, Refuses}
use Rattle.desk_script.specs.Desk.{desk}
use Rattle.desk_script.specs.Event.{set_of}

lacked : (of_case of_wedge : List ℕ) (before after : Shelf) → JobLacksMemory of_case of_wedge before after → after ≡ before
lacked of_case of_wedge before after (inl (inl lacks)) = lacks.0
lacked of_case of_wedge before after (inl (inr (case, gives, lacks))) = lacks.0
lacked of_case of_wedge before after (inr given) = given.0

module _ (wanted : Wanted) (sites : Sites) (before after : Shelf) (n : ℕ) (of_case of_wedge : List ℕ) (set : OpSet) (there : Some set ≡ set_of sites n) where
  pub replied : (reply : ReplyValues) → IsJobByFiles wanted set of_case of_wedge before reply after → Jobs wanted (desk sites before) n of_case of_wedge reply (desk sites after)
  replied reply is =
      subst (λ o. MatchOption o (Refuses (desk sites before) refusals.Site reply (desk sites after)) (λ held. (sites ≡ sites) × IsJobByFiles wanted held of_case of_wedge before reply after)) there (refl, is)

  -- it is refused, or memory ran out
  pub refused : (why : Failure) → IfReplied {A = Unit {0}} (Err why) (λ reply. IsJobByFiles wanted set of_case of_wedge before reply after)
      → (why ≡ failures.NoMemory → JobLacksMemory of_case of_wedge before after)
      → Jobs wanted (desk sites before) n of_case of_wedge (Refused (refusal_of why)) (desk sites after) ⊎ LacksMemory (desk sites before) (Refused (refusal_of why)) (desk sites after)
  refused (failures.Refused why) made memory = inl (replied (Refused why) made)
  refused failures.NoMemory made memory = inr (refl, ap (desk sites) (lacked of_case of_wedge before after (memory refl)))
