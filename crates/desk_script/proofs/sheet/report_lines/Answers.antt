use Rattle.std.proofs.Common.{◌≡◌, false, true, ◌+◌, arith, refl, rules, string_bytes}
use Rattle.feed_files.proofs.Shelves.{stays_same, stays_trans}
use Rattle.desk_script.specs.Lines.{lines}
use Rattle.desk_script.specs.Desk.{desk}
use Rattle.desk_script.specs.Line.{line_of}
use Rattle.desk_script.proofs.Keeping.{keeps_same, keeps_trans}
use Rattle.desk_script.specs.Sheet.{Stops, Reports}
use Rattle.desk_script.proofs.Reporting.{reaches_more, reaches_none, reaches_stop}
use Rattle.desk_script.proofs.sheet.report_lines.Goals as goal

pub lines-init : goal.lines-init
lines-init g c = record { room = omega arith; stays = stays_same _; sites = keeps_same _ _ refl; reported = reaches_none _ _ _ _ }

pub returns-in_err-report_line-clause-sites : goal.returns-in_err-report_line-clause-sites
returns-in_err-report_line-clause-sites g c = keeps_trans c.args.world.now c.lines.world c.report_line.new.world c.lines.invariant.sites c.report_line.ensures.sites

pub returns-then-not-branch-clause-ok : goal.returns-then-not-branch-clause-ok
returns-then-not-branch-clause-ok g c =
    let mid = desk c.lines.world (g.F.Files.shelf c.lines.files) in
    let new = desk c.report_line.new.world (g.F.Files.shelf c.report_line.new.files) in
    let ends : c.in_ok-report_line.field-0 ≡ false = search rules in
    let stop : Stops c.args.mode (c.lines.number + 1) mid (string_bytes c.lines.reported) (line_of c.in-Some.line.now) new (string_bytes c.report_line.new.reported) = search (rules, ends) in
    reaches_stop c.args.mode _ mid new _ (string_bytes c.lines.reported) _ _ (lines c.lines.rest.now) (lines c.in-Some.more.now) (line_of c.in-Some.line.now) c.lines.number c.lines.invariant.reported c.in-Some.ensures.first stop

pub returns-then-not-branch-clause-sites : goal.returns-then-not-branch-clause-sites
returns-then-not-branch-clause-sites g c = keeps_trans c.args.world.now c.lines.world c.report_line.new.world c.lines.invariant.sites c.report_line.ensures.sites

pub lines-preserved : goal.lines-preserved
lines-preserved g c =
    let mid = desk c.lines.world (g.F.Files.shelf c.lines.files) in
    let new = desk c.report_line.new.world (g.F.Files.shelf c.report_line.new.files) in
    let goes_on : c.in_ok-report_line.field-0 ≡ true = search rules in
    let step : Reports c.args.mode (c.lines.number + 1) mid (string_bytes c.lines.reported) (line_of c.in-Some.line.now) new (string_bytes c.report_line.new.reported) = search (rules, goes_on) in record {
      room = omega (arith, c.in-Some.ensures.shorter, c.lines.invariant.room);
      stays = stays_trans c.lines.invariant.stays c.report_line.ensures.stays;
      sites = keeps_trans c.args.world.now c.lines.world c.report_line.new.world c.lines.invariant.sites c.report_line.ensures.sites;
      reported = reaches_more c.args.mode _ mid new _ (string_bytes c.lines.reported) _ _ (lines c.lines.rest.now) (lines c.in-Some.more.now) (line_of c.in-Some.line.now) c.lines.number c.lines.invariant.reported c.in-Some.ensures.first step;
    }
