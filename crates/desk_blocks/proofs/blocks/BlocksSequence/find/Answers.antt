use Rattle.std.proofs.Common.{◌≡◌, ◌+◌, subst, refl, arith}
use Rattle.std.specs.List.{count_by}
use Rattle.desk_seq.specs.Entries.{Listing, IsAbsent}
use Rattle.desk_blocks.specs.Tally.{is_of}
use Rattle.desk_blocks.proofs.Ranks.{none-absent}
use Rattle.desk_blocks.proofs.Places.{nth-at, at-part, found-distinct, count-none}
use Rattle.desk_blocks.proofs.blocks.BlocksSequence.find.Goals as goal

pub returns-in_default-clause-none : goal.returns-in_default-clause-none
returns-in_default-clause-none g c = λ _.
    let es = c.self.inside.pages.entries in
    let none : IsAbsent c.args.stamp es = none-absent c.args.stamp es (c.self.invariant.1.all c.args.stamp (c.in_default.ensures.none refl)) in
    subst (λ (v : Listing). IsAbsent c.args.stamp v.entries) c.self.view_is none

pub returns-in-Some-spot_in-clause-fits : goal.returns-in-Some-spot_in-clause-fits
returns-in-Some-spot_in-clause-fits g c =
    let es = c.self.inside.pages.entries in
    let at = at-part es c.in-Some-named.items.now c.args.stamp c.in-Some-named.start c.in-Some-spot_in.j c.in-Some-named.ensures.is c.in-Some-spot_in.ensures in
    omega (arith, at.within, c.in-Some-named.ensures.few)

pub returns-in-Ok-clause-fits : goal.returns-in-Ok-clause-fits
returns-in-Ok-clause-fits g c = omega (arith, c.in-Ok.ensures.found.within, c.named.ensures.few)

pub returns-in-Some-spot_in-clause-found : goal.returns-in-Some-spot_in-clause-found
returns-in-Some-spot_in-clause-found g c =
    let es = c.self.inside.pages.entries in
    rw (← c.self.view_is) (found-distinct es c.args.stamp (c.in-Some-named.start + c.in-Some-spot_in.j) c.self.invariant.0 (at-part es c.in-Some-named.items.now c.args.stamp c.in-Some-named.start c.in-Some-spot_in.j c.in-Some-named.ensures.is c.in-Some-spot_in.ensures))

pub returns-in-Ok-clause-found : goal.returns-in-Ok-clause-found
returns-in-Ok-clause-found g c =
    let es = c.self.inside.pages.entries in
    rw (← c.self.view_is) (found-distinct es c.args.stamp c.in-Ok.place c.self.invariant.0 (nth-at es c.args.stamp c.in-Ok.place c.in-Ok.ensures.found))

pub returns-in-Err-clause-none : goal.returns-in-Err-clause-none
returns-in-Err-clause-none g c = λ _.
    let es = c.self.inside.pages.entries in
    let s = c.in-Err.ensures.short in
    let z : count_by (is_of c.args.stamp) es ≡ 0 = omega (arith, s.0, s.1) in
    rw (← c.self.view_is) (count-none c.args.stamp es z)
