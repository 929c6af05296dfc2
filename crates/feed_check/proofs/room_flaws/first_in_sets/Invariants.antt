use Rattle.std.proofs.Common.{◌≡◌}
use Rattle.toml.specs.View.{members_view}
use Rattle.feed_check.specs.RoomFlaws.{first_flaw, setting_flaw}
use Rattle.feed_check.proofs.room_flaws.first_in_sets.Given as goal

abbrev pub invariant-members : goal.invariant-members
invariant-members l =
    (goal.iterator-members).can_next l.name-iterator × (goal.iterator-members).is_finite l.name-iterator
    × (first_flaw setting_flaw (members_view l.name-iterator) ≡ first_flaw setting_flaw (members_view l.sets.entries))
