use Rattle.feed_files.proofs.Shelves.{stays_same, stays_trans}
use Rattle.std.proofs.Common.{rules, arith, ◌<◌, ◌+◌, length, refl, sym, take, subst}
use Rattle.std.specs.Io.KnownBytes.{Consumes}
use Rattle.std.proofs.lemmas.Result.{IfErr-weaker, err_from_is_err_and, on_err_weaker, on_ok_weaker}
use Rattle.desk_script.specs.Fault.{IsOfLines}
use Rattle.desk_script.specs.declared.fault.RunFault.{RunFault}
use Rattle.std.specs.Prelude.{Err}
use Rattle.desk_script.specs.Desk.{desk}
use Rattle.desk_script.specs.Script.{Turn, StopsWithin}
use Rattle.desk_script.specs.Pending.{Takes, last_line, progress}
use Rattle.desk_script.proofs.Keeping.{keeps_same, keeps_trans}
use Rattle.desk_script.proofs.Bytes.{on_err, reported_fault}
use Rattle.desk_script.proofs.Carry.{carries_before, carries_more, carries_prefix, carries_end, carries_end_prefix, carries_stop, takes_own, takes_within}
use Rattle.desk_script.proofs.Taking.{none_taken, given_more, still_taken, end_taken}
use Rattle.desk_script.proofs.stream.answer_all.Goals as goal

pub reads-init : goal.reads-init
reads-init g c = record { kept = search rules; stays = stays_same _; sites = keeps_same _ _ refl; taken = none_taken _; carries = search rules }

pub returns-in-Err-clause-err : goal.returns-in-Err-clause-err
returns-in-Err-clause-err g c = carries_stop (desk c.args.world.now (g.F.Files.shelf c.args.files.now)) (desk c.reads.world (g.F.Files.shelf c.reads.files)) _ _ _ _ _ c.reads.line.items (stays_same _) c.reads.invariant.carries

pub returns-in-Ok-eq0-clause-ok : goal.returns-in-Ok-eq0-clause-ok
returns-in-Ok-eq0-clause-ok g c =
    let read = subst (λ n. Consumes (g.R.Read.remaining c.reads.reader) (g.R.Read.remaining c.read.new.self) (take n c.read.new.buf)) c.in-Ok-eq0.field-0-test c.in-Ok-eq0.ensures.bytes.0 in
    let room : 0 < length c.read.new.buf = search rules in
    let end = c.in-Ok-eq0.ensures.bytes.1 c.in-Ok-eq0.field-0-test room in
    on_ok_weaker c.finish.result (λ turn. carries_end (desk c.args.world.now (g.F.Files.shelf c.args.files.now)) (desk c.reads.world (g.F.Files.shelf c.reads.files)) (desk c.finish.new.world (g.F.Files.shelf c.finish.new.files)) _ _ _ _ (g.W.Write.contents c.reads.writer) _ c.reads.line.items c.reads.invariant.carries read end
    (subst (λ l. Turn (desk c.reads.world (g.F.Files.shelf c.reads.files)) (desk c.finish.new.world (g.F.Files.shelf c.finish.new.files)) (g.W.Write.contents c.reads.writer) (g.W.Write.contents c.finish.new.writer) (last_line l)) c.deref.ensures.value turn)) c.finish.ensures.ok

pub returns-in-Ok-eq0-clause-err : goal.returns-in-Ok-eq0-clause-err
returns-in-Ok-eq0-clause-err g c =
    let read = subst (λ n. Consumes (g.R.Read.remaining c.reads.reader) (g.R.Read.remaining c.read.new.self) (take n c.read.new.buf)) c.in-Ok-eq0.field-0-test c.in-Ok-eq0.ensures.bytes.0 in
    let room : 0 < length c.read.new.buf = search rules in
    let end = c.in-Ok-eq0.ensures.bytes.1 c.in-Ok-eq0.field-0-test room in
    on_err_weaker c.finish.result (λ turn. carries_end_prefix (desk c.args.world.now (g.F.Files.shelf c.args.files.now)) (desk c.reads.world (g.F.Files.shelf c.reads.files)) (g.F.Files.shelf c.finish.new.files) _ _ _ _ (g.W.Write.contents c.reads.writer) _ c.reads.line.items c.reads.invariant.carries read end
    (subst (λ l. StopsWithin (desk c.reads.world (g.F.Files.shelf c.reads.files)) (g.F.Files.shelf c.finish.new.files) (g.W.Write.contents c.reads.writer) (g.W.Write.contents c.finish.new.writer) (last_line l)) c.deref.ensures.value turn)) c.finish.ensures.err

pub returns-in_err-take_bytes-in-Ok-clause-err : goal.returns-in_err-take_bytes-in-Ok-clause-err
returns-in_err-take_bytes-in-Ok-clause-err g c =
    let p = progress c.reads.world (g.F.Files.shelf c.reads.files) (g.W.Write.contents c.reads.writer) c.reads.line.items in
    let q = progress c.take_bytes.new.world (g.F.Files.shelf c.take_bytes.new.files) (g.W.Write.contents c.take_bytes.new.writer) c.take_bytes.new.line.items in
    on_err c.from_residual.result
    (carries_prefix (desk c.args.world.now (g.F.Files.shelf c.args.files.now)) p q _ _ _ _ (take c.in-Ok.n c.read.new.buf) c.reads.invariant.carries c.in-Ok.ensures.bytes.0 (takes_within p q _ c.in_err-take_bytes-in-Ok.field-0.0 c.in_err-take_bytes-in-Ok.ensures.taken))

pub returns-in_err-take_bytes-in-Ok-clause-memory : goal.returns-in_err-take_bytes-in-Ok-clause-memory
returns-in_err-take_bytes-in-Ok-clause-memory g c is =
    let p = progress c.reads.world (g.F.Files.shelf c.reads.files) (g.W.Write.contents c.reads.writer) c.reads.line.items in
    let q = progress c.take_bytes.new.world (g.F.Files.shelf c.take_bytes.new.files) (g.W.Write.contents c.take_bytes.new.writer) c.take_bytes.new.line.items in
    let e = err_from_is_err_and c.from_residual.result c.from_residual.ensures.1 in
    carries_before (desk c.args.world.now (g.F.Files.shelf c.args.files.now)) p q _ _ _ _ (take c.in-Ok.n c.read.new.buf) c.reads.invariant.carries c.in-Ok.ensures.bytes.0
    (subst (λ (f : RunFault). Takes (Err f) p q (take c.in-Ok.n c.read.new.buf)) (reported_fault _ _ _ _ e.1 e.2 is) c.in_err-take_bytes-in-Ok.ensures.taken)

pub returns-in_err-take_bytes-in-Ok-clause-long : goal.returns-in_err-take_bytes-in-Ok-clause-long
returns-in_err-take_bytes-in-Ok-clause-long g c is =
    let e = err_from_is_err_and c.from_residual.result c.from_residual.ensures.1 in
    absurd (subst (λ (f : RunFault). Takes (Err f) (progress c.reads.world (g.F.Files.shelf c.reads.files) (g.W.Write.contents c.reads.writer) c.reads.line.items) (progress c.take_bytes.new.world (g.F.Files.shelf c.take_bytes.new.files) (g.W.Write.contents c.take_bytes.new.writer) c.take_bytes.new.line.items) (take c.in-Ok.n c.read.new.buf)) (reported_fault _ _ _ _ e.1 e.2 is) c.in_err-take_bytes-in-Ok.ensures.taken)

pub returns-in_err-take_bytes-in-Ok-clause-own : goal.returns-in_err-take_bytes-in-Ok-clause-own
returns-in_err-take_bytes-in-Ok-clause-own g c =
    let e = err_from_is_err_and c.from_residual.result c.from_residual.ensures.1 in
    rw e.1 (subst IsOfLines (sym e.2) (takes_own (progress c.reads.world (g.F.Files.shelf c.reads.files) (g.W.Write.contents c.reads.writer) c.reads.line.items) (progress c.take_bytes.new.world (g.F.Files.shelf c.take_bytes.new.files) (g.W.Write.contents c.take_bytes.new.writer) c.take_bytes.new.line.items) (take c.in-Ok.n c.read.new.buf) c.in_err-take_bytes-in-Ok.field-0.0 c.in_err-take_bytes-in-Ok.ensures.taken))

pub returns-in-Ok-eq0-clause-own : goal.returns-in-Ok-eq0-clause-own
returns-in-Ok-eq0-clause-own g c = IfErr-weaker c.finish.result _ _ (λ f is. subst IsOfLines (sym is) tt) c.finish.ensures.fault

pub reads-preserved : goal.reads-preserved
reads-preserved g c = record {
  kept = c.take_bytes.ensures.kept;
  stays = stays_trans c.reads.invariant.stays c.take_bytes.ensures.stays;
  sites = keeps_trans c.args.world.now c.reads.world c.take_bytes.new.world c.reads.invariant.sites c.in_ok-take_bytes-in-Ok.ensures.sites;
  taken = given_more c.reads.counter _ _ _ c.in-Ok.n c.read.new.buf c.reads.invariant.taken c.in-Ok.ensures.bytes.0 (grind (arith, c.in-Ok.n-test)) (search rules) (search rules);
  carries = carries_more (desk c.args.world.now (g.F.Files.shelf c.args.files.now)) (progress c.reads.world (g.F.Files.shelf c.reads.files) (g.W.Write.contents c.reads.writer) c.reads.line.items) (progress c.take_bytes.new.world (g.F.Files.shelf c.take_bytes.new.files) (g.W.Write.contents c.take_bytes.new.writer) c.take_bytes.new.line.items) _ _ _ _ (take c.in-Ok.n c.read.new.buf) c.reads.invariant.carries c.in-Ok.ensures.bytes.0 c.in_ok-take_bytes-in-Ok.ensures.taken;
}

pub returns-clause-err : goal.returns-clause-err
returns-clause-err g c = carries_stop (desk c.args.world.now (g.F.Files.shelf c.args.files.now)) (desk c.reads.world (g.F.Files.shelf c.reads.files)) _ _ _ _ _ c.reads.line.items (stays_same _) c.reads.invariant.carries

pub returns-in-Ok-eq0-clause-sites : goal.returns-in-Ok-eq0-clause-sites
returns-in-Ok-eq0-clause-sites g c = on_ok_weaker c.finish.result (λ kept. keeps_trans c.args.world.now c.reads.world c.finish.new.world c.reads.invariant.sites kept) c.finish.ensures.sites

-- ---- what was taken

pub returns-in-Err-clause-taken : goal.returns-in-Err-clause-taken
returns-in-Err-clause-taken g c = (c.reads.counter, omega (arith, c.reads-test.true), still_taken c.reads.counter _ _ _ c.reads.invariant.taken c.in-Err.ensures.bytes)

pub returns-in-Ok-eq0-clause-taken : goal.returns-in-Ok-eq0-clause-taken
returns-in-Ok-eq0-clause-taken g c =
    let read = subst (λ n. Consumes (g.R.Read.remaining c.reads.reader) (g.R.Read.remaining c.read.new.self) (take n c.read.new.buf)) c.in-Ok-eq0.field-0-test c.in-Ok-eq0.ensures.bytes.0 in
    (c.reads.counter, omega (arith, c.reads-test.true), end_taken c.reads.counter _ _ _ c.reads.invariant.taken read)

pub returns-in_err-take_bytes-in-Ok-clause-taken : goal.returns-in_err-take_bytes-in-Ok-clause-taken
returns-in_err-take_bytes-in-Ok-clause-taken g c =
    (c.reads.counter + 1, omega (arith, c.reads-test.true), given_more c.reads.counter _ _ _ c.in-Ok.n c.read.new.buf c.reads.invariant.taken c.in-Ok.ensures.bytes.0 (grind (arith, c.in-Ok.n-test)) (search rules) (search rules))

pub returns-clause-taken : goal.returns-clause-taken
returns-clause-taken g c = (c.reads.counter, search rules, c.reads.invariant.taken)

pub returns-clause-long : goal.returns-clause-long
returns-clause-long g c is =
    let (bytes, gave, low, high) = c.reads.invariant.taken in
    (bytes, gave, grind (arith, low, c.reads-test.false), grind (arith, high, c.reads.auto.counter-end))
