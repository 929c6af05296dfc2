use Rattle.std.proofs.Common.{◌≡◌, ◌≢◌, ◌⊎◌, true, arith, Ok, Err, inl, inr, map, refl, string_bytes, subst}
use Rattle.std.proofs.lemmas.Grind.{common_steps}
use Rattle.feed_files.specs.Files.{Reads}
use Rattle.feed_files.specs.declared.files.FileRefusal.TheVariants as refusals
use Rattle.feed_check.specs.Room.{room_name}
use Rattle.program_desk.specs.Completed.{wants_room}
use Rattle.program_desk.specs.Explained.{TellsOf}
use Rattle.program_desk.specs.Rooms.{AreAll, IsFilled, IsRefused, TellsNoMemory, TellsWrong, all_or}
use Rattle.program_desk.proofs.InRooms.{are_all, counted_stays, err_map, kept_shelf, missing_shelf, ok_map, stays_so}
use Rattle.program_desk.proofs.rooms.filled.Goals as goal

pub returns-then-eq-clause-ok : goal.returns-then-eq-clause-ok
returns-then-eq-clause-ok g c =
    let words = map string_bytes c.args.words.now in
    let first = g.F.Files.shelf c.args.files.now in
    let wanted : wants_room words ≡ true = grind (arith, common_steps) in
    let missing : c.in-Err.why ≡ refusals.Missing = grind (arith, common_steps) in
    (are_all first words words (Err refusals.Missing) wanted (subst (λ w. Reads (first.kept room_name) (Err w)) missing c.in-Err.ensures.given) refl, missing_shelf c.in-Err.why first (g.F.Files.shelf c.read.new.self) missing c.in-Err.ensures.kept c.in-Err.ensures.counted c.in-Err.ensures.held, refl)

pub returns-in-Ok-clause-ok : goal.returns-in-Ok-clause-ok
returns-in-Ok-clause-ok g c =
    let words = map string_bytes c.args.words.now in
    let first = g.F.Files.shelf c.args.files.now in
    let last = g.F.Files.shelf c.read.new.self in
    let wanted : wants_room words ≡ true = grind (arith, common_steps) in
    let same = kept_shelf first last c.in-Ok.ensures.kept c.in-Ok.ensures.counted c.in-Ok.ensures.held in
    ok_map (λ o. IsFilled (Ok c.deref.result.now) words (all_or words o) × (c.filled_by.new.faults ≡ c.args.faults.now))
    (λ o. AreAll first words (all_or words o) × (last ≡ first) × (c.filled_by.new.faults ≡ c.args.faults.now))
    (λ o filled. (are_all first words (all_or words o) (Ok c.in-Ok.bytes.items) wanted c.in-Ok.ensures.given (subst (λ bytes. IsFilled (Ok bytes) words (all_or words o)) c.deref.ensures.value filled.0), same, filled.1))
    c.filled_by.result c.filled_by.ensures.ok

pub returns-in-Ok-clause-err : goal.returns-in-Ok-clause-err
returns-in-Ok-clause-err g c =
    let first = g.F.Files.shelf c.args.files.now in
    let last = g.F.Files.shelf c.read.new.self in
    let quiet = g.E.Write.contents c.args.faults.now in
    let said = g.E.Write.contents c.filled_by.new.faults in
    let stays = stays_so first last (kept_shelf first last c.in-Ok.ensures.kept c.in-Ok.ensures.counted c.in-Ok.ensures.held) in
    err_map (λ e. (e.status ≡ 1) × (TellsWrong c.deref.result.now e.told.is_whole quiet said ⊎ TellsNoMemory e.told.is_whole quiet said))
    (λ e. (e.status ≡ 1) × IsRefused first last e.told.is_whole quiet said)
    (λ e told. (
      told.0,
      (
        stays,
        elim told.1 [
          | inl wrong ↦ inl (Ok c.in-Ok.bytes.items, c.in-Ok.ensures.given, subst (λ bytes. TellsWrong bytes e.told.is_whole quiet said) c.deref.ensures.value wrong)
          | inr lacks ↦ inr lacks
        ],
      ),
    ))
    c.filled_by.result c.filled_by.ensures.err

pub returns-else-eq-clause-err : goal.returns-else-eq-clause-err
returns-else-eq-clause-err g c =
    let first = g.F.Files.shelf c.args.files.now in
    let last = g.F.Files.shelf c.read.new.self in
    let other : c.in-Err.why ≢ refusals.Missing = grind (arith, common_steps) in
    (c.stopped.ensures.0, (counted_stays c.in-Err.why first last c.in-Err.ensures.kept c.in-Err.ensures.counted c.in-Err.ensures.held, inl (Err c.in-Err.why, c.in-Err.ensures.given, (other, _, refl, subst (λ cause. TellsOf true cause c.stopped.result.told.is_whole (g.E.Write.contents c.args.faults.now) (g.E.Write.contents c.stopped.new.faults)) c.file_cause-cause.ensures c.stopped.ensures.1))))
