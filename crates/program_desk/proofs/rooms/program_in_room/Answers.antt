use Rattle.std.proofs.Common.{◌≡◌, ap, map, refl, string_bytes, subst}
use Rattle.program_desk.specs.Rooms.{AreAll, all_or}
use Rattle.program_desk.proofs.InRooms.{refused_so, stops_so}
use Rattle.program_desk.proofs.rooms.program_in_room.Goals as goal

pub returns-in-Ok-Some-clause-stopped : goal.returns-in-Ok-Some-clause-stopped
returns-in-Ok-Some-clause-stopped g c one =
    let (are_of, same, silent) = c.in-Ok-Some.ensures.ok in
    let are = subst (λ o. AreAll (g.F.Files.shelf c.args.files.now) (map string_bytes c.args.words.now) (all_or (map string_bytes c.args.words.now) o)) c.in-Ok-Some.field-0-is are_of in
    stops_so (map string_bytes c.args.words.now) (map string_bytes c.deref.result.now) (map string_bytes c.in-Ok-Some.all.items) (g.F.Files.shelf c.args.files.now) (g.F.Files.shelf c.filled.new.files) (g.F.Files.shelf c.program.new.files)
    (g.R.Read.remaining c.args.reader.now) (g.W.Write.contents c.args.writer.now) (g.W.Write.contents c.program.new.writer) (g.E.Write.contents c.args.faults.now) (g.E.Write.contents c.filled.new.faults) (g.E.Write.contents c.program.new.faults)
    (c.program.new.reader ≡ c.args.reader.now) (c.program.new.writer ≡ c.args.writer.now) (c.program.new.files ≡ c.filled.new.files) are (ap (map string_bytes) c.deref.ensures.value) same (ap g.E.Write.contents silent) (λ k. ap g.F.Files.shelf k) (c.program.ensures.stopped one)

pub returns-in-Ok-Some-clause-refused : goal.returns-in-Ok-Some-clause-refused
returns-in-Ok-Some-clause-refused g c two =
    let (are_of, same, silent) = c.in-Ok-Some.ensures.ok in
    let are = subst (λ o. AreAll (g.F.Files.shelf c.args.files.now) (map string_bytes c.args.words.now) (all_or (map string_bytes c.args.words.now) o)) c.in-Ok-Some.field-0-is are_of in
    refused_so (map string_bytes c.args.words.now) (map string_bytes c.deref.result.now) (map string_bytes c.in-Ok-Some.all.items) (g.F.Files.shelf c.args.files.now) (g.F.Files.shelf c.filled.new.files) (g.F.Files.shelf c.program.new.files)
    (c.program.new.reader ≡ c.args.reader.now) (c.program.new.writer ≡ c.args.writer.now) (c.program.new.files ≡ c.filled.new.files) are (ap (map string_bytes) c.deref.ensures.value) same (λ k. ap g.F.Files.shelf k) (c.program.ensures.refused two)

pub returns-in-Ok-None-clause-stopped : goal.returns-in-Ok-None-clause-stopped
returns-in-Ok-None-clause-stopped g c one =
    let (are_of, same, silent) = c.in-Ok-None.ensures.ok in
    let are = subst (λ o. AreAll (g.F.Files.shelf c.args.files.now) (map string_bytes c.args.words.now) (all_or (map string_bytes c.args.words.now) o)) c.in-Ok-None.field-0-is are_of in
    stops_so (map string_bytes c.args.words.now) (map string_bytes c.args.words.now) (map string_bytes c.args.words.now) (g.F.Files.shelf c.args.files.now) (g.F.Files.shelf c.filled.new.files) (g.F.Files.shelf c.program-in-Ok-None.new.files)
    (g.R.Read.remaining c.args.reader.now) (g.W.Write.contents c.args.writer.now) (g.W.Write.contents c.program-in-Ok-None.new.writer) (g.E.Write.contents c.args.faults.now) (g.E.Write.contents c.filled.new.faults) (g.E.Write.contents c.program-in-Ok-None.new.faults)
    (c.program-in-Ok-None.new.reader ≡ c.args.reader.now) (c.program-in-Ok-None.new.writer ≡ c.args.writer.now) (c.program-in-Ok-None.new.files ≡ c.filled.new.files) are refl same (ap g.E.Write.contents silent) (λ k. ap g.F.Files.shelf k) (c.program-in-Ok-None.ensures.stopped one)

pub returns-in-Ok-None-clause-refused : goal.returns-in-Ok-None-clause-refused
returns-in-Ok-None-clause-refused g c two =
    let (are_of, same, silent) = c.in-Ok-None.ensures.ok in
    let are = subst (λ o. AreAll (g.F.Files.shelf c.args.files.now) (map string_bytes c.args.words.now) (all_or (map string_bytes c.args.words.now) o)) c.in-Ok-None.field-0-is are_of in
    refused_so (map string_bytes c.args.words.now) (map string_bytes c.args.words.now) (map string_bytes c.args.words.now) (g.F.Files.shelf c.args.files.now) (g.F.Files.shelf c.filled.new.files) (g.F.Files.shelf c.program-in-Ok-None.new.files)
    (c.program-in-Ok-None.new.reader ≡ c.args.reader.now) (c.program-in-Ok-None.new.writer ≡ c.args.writer.now) (c.program-in-Ok-None.new.files ≡ c.filled.new.files) are refl same (λ k. ap g.F.Files.shelf k) (c.program-in-Ok-None.ensures.refused two)
