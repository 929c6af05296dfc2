use Rattle.std.proofs.Common.{◌≤◌, length, subst, sym}
use Rattle.desk_seq.specs.Entries.{Listing}
use Rattle.desk_blocks.proofs.Places.{nth-below, short-below}
use Rattle.desk_blocks.proofs.blocks.BlocksSequence.first_below.Goals as goal

pub returns-in-Ok : goal.returns-in-Ok
returns-in-Ok g c = rw (← c.self.view_is) (nth-below c.self.inside.pages.entries c.args.stamp c.args.from c.in-Ok.place c.in-Ok.ensures.found)

pub returns-in-Err : goal.returns-in-Err
returns-in-Err g c =
    let es = c.self.inside.pages.entries in
    let l : c.args.from ≤ length es = subst (λ (v : Listing). c.args.from ≤ length v.entries) (sym c.self.view_is) c.requires in
    rw (← c.self.view_is, c.len.ensures) (short-below es c.args.stamp c.args.from _ l c.in-Err.ensures.short)
