use Rattle.std.proofs.Common.{subst, sym}
use Rattle.program_desk.specs.Headlines.{head_line}
use Rattle.program_desk.specs.Told.{GoesOn}
use Rattle.program_desk.proofs.headlines.tell_head.Goals as goal

pub returns-in-NoMemory : goal.returns-in-NoMemory
returns-in-NoMemory g c = subst (λ cause. GoesOn c.args.told.is_whole c.tell_more.result.is_whole (g.E.Write.contents c.args.faults.now) (g.E.Write.contents c.tell_more.new.faults) (head_line cause)) (sym c.in-NoMemory.is) c.tell_more.ensures

pub returns-in-File : goal.returns-in-File
returns-in-File g c = subst (λ cause. GoesOn c.args.told.is_whole c.tell_more-in-File.result.is_whole (g.E.Write.contents c.args.faults.now) (g.E.Write.contents c.tell_more-in-File.new.faults) (head_line cause)) (sym c.in-File.is) c.tell_more-in-File.ensures

pub returns-in-Feed : goal.returns-in-Feed
returns-in-Feed g c = subst (λ cause. GoesOn c.args.told.is_whole c.tell_more-in-Feed.result.is_whole (g.E.Write.contents c.args.faults.now) (g.E.Write.contents c.tell_more-in-Feed.new.faults) (head_line cause)) (sym c.in-Feed.is) c.tell_more-in-Feed.ensures

pub returns-in-TooMany : goal.returns-in-TooMany
returns-in-TooMany g c = subst (λ cause. GoesOn c.args.told.is_whole c.tell_more-in-TooMany.result.is_whole (g.E.Write.contents c.args.faults.now) (g.E.Write.contents c.tell_more-in-TooMany.new.faults) (head_line cause)) (sym c.in-TooMany.is) c.tell_more-in-TooMany.ensures

pub returns-in-Full : goal.returns-in-Full
returns-in-Full g c = subst (λ cause. GoesOn c.args.told.is_whole c.tell_more-in-Full.result.is_whole (g.E.Write.contents c.args.faults.now) (g.E.Write.contents c.tell_more-in-Full.new.faults) (head_line cause)) (sym c.in-Full.is) c.tell_more-in-Full.ensures

pub returns-in-Older : goal.returns-in-Older
returns-in-Older g c = subst (λ cause. GoesOn c.args.told.is_whole c.tell_more-in-Older.result.is_whole (g.E.Write.contents c.args.faults.now) (g.E.Write.contents c.tell_more-in-Older.new.faults) (head_line cause)) (sym c.in-Older.is) c.tell_more-in-Older.ensures

pub returns-in-Taken : goal.returns-in-Taken
returns-in-Taken g c = subst (λ cause. GoesOn c.args.told.is_whole c.tell_more-in-Taken.result.is_whole (g.E.Write.contents c.args.faults.now) (g.E.Write.contents c.tell_more-in-Taken.new.faults) (head_line cause)) (sym c.in-Taken.is) c.tell_more-in-Taken.ensures

pub returns-in-There : goal.returns-in-There
returns-in-There g c = subst (λ cause. GoesOn c.args.told.is_whole c.tell_more-in-There.result.is_whole (g.E.Write.contents c.args.faults.now) (g.E.Write.contents c.tell_more-in-There.new.faults) (head_line cause)) (sym c.in-There.is) c.tell_more-in-There.ensures

pub returns-in-Source : goal.returns-in-Source
returns-in-Source g c = subst (λ cause. GoesOn c.args.told.is_whole c.tell_more-in-Source.result.is_whole (g.E.Write.contents c.args.faults.now) (g.E.Write.contents c.tell_more-in-Source.new.faults) (head_line cause)) (sym c.in-Source.is) c.tell_more-in-Source.ensures

pub returns-in-CaseOrWedge : goal.returns-in-CaseOrWedge
returns-in-CaseOrWedge g c = subst (λ cause. GoesOn c.args.told.is_whole c.tell_more-in-CaseOrWedge.result.is_whole (g.E.Write.contents c.args.faults.now) (g.E.Write.contents c.tell_more-in-CaseOrWedge.new.faults) (head_line cause)) (sym c.in-CaseOrWedge.is) c.tell_more-in-CaseOrWedge.ensures

pub returns-in-Case : goal.returns-in-Case
returns-in-Case g c = subst (λ cause. GoesOn c.args.told.is_whole c.tell_more-in-Case.result.is_whole (g.E.Write.contents c.args.faults.now) (g.E.Write.contents c.tell_more-in-Case.new.faults) (head_line cause)) (sym c.in-Case.is) c.tell_more-in-Case.ensures

pub returns-in-CopyFaults : goal.returns-in-CopyFaults
returns-in-CopyFaults g c = subst (λ cause. GoesOn c.args.told.is_whole c.tell_more-in-CopyFaults.result.is_whole (g.E.Write.contents c.args.faults.now) (g.E.Write.contents c.tell_more-in-CopyFaults.new.faults) (head_line cause)) (sym c.in-CopyFaults.is) c.tell_more-in-CopyFaults.ensures

pub returns-in-NoRibbon : goal.returns-in-NoRibbon
returns-in-NoRibbon g c = subst (λ cause. GoesOn c.args.told.is_whole c.tell_more-in-NoRibbon.result.is_whole (g.E.Write.contents c.args.faults.now) (g.E.Write.contents c.tell_more-in-NoRibbon.new.faults) (head_line cause)) (sym c.in-NoRibbon.is) c.tell_more-in-NoRibbon.ensures

pub returns-in-Other : goal.returns-in-Other
returns-in-Other g c = subst (λ cause. GoesOn c.args.told.is_whole c.tell_more-in-Other.result.is_whole (g.E.Write.contents c.args.faults.now) (g.E.Write.contents c.tell_more-in-Other.new.faults) (head_line cause)) (sym c.in-Other.is) c.tell_more-in-Other.ensures

pub returns-in-NoSetting : goal.returns-in-NoSetting
returns-in-NoSetting g c = subst (λ cause. GoesOn c.args.told.is_whole c.tell_more-in-NoSetting.result.is_whole (g.E.Write.contents c.args.faults.now) (g.E.Write.contents c.tell_more-in-NoSetting.new.faults) (head_line cause)) (sym c.in-NoSetting.is) c.tell_more-in-NoSetting.ensures

pub returns-in-Line : goal.returns-in-Line
returns-in-Line g c = subst (λ cause. GoesOn c.args.told.is_whole c.tell_count.result.is_whole (g.E.Write.contents c.args.faults.now) (g.E.Write.contents c.tell_count.new.faults) (head_line cause)) (sym c.in-Line.is) c.tell_count.ensures

pub returns-in-Input : goal.returns-in-Input
returns-in-Input g c = subst (λ cause. GoesOn c.args.told.is_whole c.tell_more-in-Input.result.is_whole (g.E.Write.contents c.args.faults.now) (g.E.Write.contents c.tell_more-in-Input.new.faults) (head_line cause)) (sym c.in-Input.is) c.tell_more-in-Input.ensures

pub returns-in-Endless : goal.returns-in-Endless
returns-in-Endless g c = subst (λ cause. GoesOn c.args.told.is_whole c.tell_more-in-Endless.result.is_whole (g.E.Write.contents c.args.faults.now) (g.E.Write.contents c.tell_more-in-Endless.new.faults) (head_line cause)) (sym c.in-Endless.is) c.tell_more-in-Endless.ensures

pub returns-in-TooLong : goal.returns-in-TooLong
returns-in-TooLong g c = subst (λ cause. GoesOn c.args.told.is_whole c.tell_more-in-TooLong.result.is_whole (g.E.Write.contents c.args.faults.now) (g.E.Write.contents c.tell_more-in-TooLong.new.faults) (head_line cause)) (sym c.in-TooLong.is) c.tell_more-in-TooLong.ensures

pub returns-in-Output : goal.returns-in-Output
returns-in-Output g c = subst (λ cause. GoesOn c.args.told.is_whole c.tell_more-in-Output.result.is_whole (g.E.Write.contents c.args.faults.now) (g.E.Write.contents c.tell_more-in-Output.new.faults) (head_line cause)) (sym c.in-Output.is) c.tell_more-in-Output.ensures

pub returns-in-ReportOutput : goal.returns-in-ReportOutput
returns-in-ReportOutput g c = subst (λ cause. GoesOn c.args.told.is_whole c.tell_more-in-ReportOutput.result.is_whole (g.E.Write.contents c.args.faults.now) (g.E.Write.contents c.tell_more-in-ReportOutput.new.faults) (head_line cause)) (sym c.in-ReportOutput.is) c.tell_more-in-ReportOutput.ensures

pub returns-in-Unread : goal.returns-in-Unread
returns-in-Unread g c = subst (λ cause. GoesOn c.args.told.is_whole c.tell_more-in-Unread.result.is_whole (g.E.Write.contents c.args.faults.now) (g.E.Write.contents c.tell_more-in-Unread.new.faults) (head_line cause)) (sym c.in-Unread.is) c.tell_more-in-Unread.ensures

pub returns-in-LongText : goal.returns-in-LongText
returns-in-LongText g c = subst (λ cause. GoesOn c.args.told.is_whole c.tell_more-in-LongText.result.is_whole (g.E.Write.contents c.args.faults.now) (g.E.Write.contents c.tell_more-in-LongText.new.faults) (head_line cause)) (sym c.in-LongText.is) c.tell_more-in-LongText.ensures

pub returns-in-LongRibbon : goal.returns-in-LongRibbon
returns-in-LongRibbon g c = subst (λ cause. GoesOn c.args.told.is_whole c.tell_more-in-LongRibbon.result.is_whole (g.E.Write.contents c.args.faults.now) (g.E.Write.contents c.tell_more-in-LongRibbon.new.faults) (head_line cause)) (sym c.in-LongRibbon.is) c.tell_more-in-LongRibbon.ensures
