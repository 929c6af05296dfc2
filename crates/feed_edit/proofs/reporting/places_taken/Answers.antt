use Rattle.std.proofs.Common.{ℕ, List, ◌∙◌, arith, length, subst, sym}
use Rattle.std.specs.Prelude.{slice_index_or}
use Rattle.desk_ops.specs.Lists.{Among}
use Rattle.desk_ops.proofs.Lists.{among-at}
use Rattle.text_copy.specs.Places.{places_of}
use Rattle.feed_edit.specs.Reporting.{AreApart, taken_of}
use Rattle.feed_edit.proofs.Apart.{ends_within, taken_apart}
use Rattle.feed_edit.proofs.reporting.places_taken.Goals as goal

pub taken_of-requires : goal.taken_of-requires
taken_of-requires g c = λ k d below.
    let is = c.deref.ensures.value ∙ c.in_ok-places.ensures in
    let among = subst (λ (l : List ℕ). Among (slice_index_or c.deref.result.now k d) l) is (among-at c.deref.result.now k d below) in
    omega (arith, ends_within c.args.old.now c.args.copy.now (slice_index_or c.deref.result.now k d) among)

pub returns-clause-apart : goal.returns-clause-apart
returns-clause-apart g c =
    let is = c.deref.ensures.value ∙ c.in_ok-places.ensures in
    let end = length c.args.copy.now in
    let all = taken_apart (length c.args.old.now) end c.args.at (places_of c.args.old.now c.args.copy.now) (ends_within c.args.old.now c.args.copy.now) in
    let reached = subst (λ (l : List ℕ). AreApart (length c.args.old.now) 0 end (taken_of c.args.at (length c.args.old.now) l)) (sym is) all in
    subst (λ (l : List ℕ). AreApart (length c.args.old.now) 0 end l) (sym c.in_ok-taken.ensures) reached
