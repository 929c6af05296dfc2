use Rattle.std.proofs.Common.{refl, sym, subst, ◌∙◌, ◌++◌, []}
use Rattle.program_desk.specs.Explained.{IsExplainedBy, older_words, other_words, place_words}
use Rattle.program_desk.specs.Told.{IsNamed}
use Rattle.program_desk.proofs.Telling.{goes_on_twice, stays}
use Rattle.program_desk.proofs.explained.explain.Goals as goal

pub returns-in-Said : goal.returns-in-Said
returns-in-Said g c = subst (λ cause. IsExplainedBy cause c.args.told.is_whole c.args.told.is_whole (g.E.Write.contents c.args.faults.now) (g.E.Write.contents c.args.faults.now)) (sym c.in-Said.is) ([], refl, stays c.args.told.is_whole (g.E.Write.contents c.args.faults.now))

pub returns-in-NoMemory : goal.returns-in-NoMemory
returns-in-NoMemory g c = subst (λ cause. IsExplainedBy cause c.args.told.is_whole c.tell_named.result.is_whole (g.E.Write.contents c.args.faults.now) (g.E.Write.contents c.tell_named.new.faults)) (sym c.in-NoMemory.is) (c.tell_named.ensures)

pub returns-in-Feed : goal.returns-in-Feed
returns-in-Feed g c = subst (λ cause. IsExplainedBy cause c.args.told.is_whole c.tell_of.result.is_whole (g.E.Write.contents c.args.faults.now) (g.E.Write.contents c.tell_of.new.faults)) (sym c.in-Feed.is) (c.tell_of.ensures.1, (c.tell_of.ensures.0, c.tell_of.ensures.2), c.tell_of.ensures.3)

pub returns-in-TooMany : goal.returns-in-TooMany
returns-in-TooMany g c = subst (λ cause. IsExplainedBy cause c.args.told.is_whole c.tell_named-in-TooMany.result.is_whole (g.E.Write.contents c.args.faults.now) (g.E.Write.contents c.tell_named-in-TooMany.new.faults)) (sym c.in-TooMany.is) (c.tell_named-in-TooMany.ensures)

pub returns-in-Full : goal.returns-in-Full
returns-in-Full g c = subst (λ cause. IsExplainedBy cause c.args.told.is_whole c.tell_named-in-Full.result.is_whole (g.E.Write.contents c.args.faults.now) (g.E.Write.contents c.tell_named-in-Full.new.faults)) (sym c.in-Full.is) (c.tell_named-in-Full.ensures)

pub returns-in-Unfit : goal.returns-in-Unfit
returns-in-Unfit g c = subst (λ cause. IsExplainedBy cause c.args.told.is_whole c.tell_named-in-Unfit.result.is_whole (g.E.Write.contents c.args.faults.now) (g.E.Write.contents c.tell_named-in-Unfit.new.faults)) (sym c.in-Unfit.is) (c.tell_named-in-Unfit.ensures)

pub returns-in-Taken : goal.returns-in-Taken
returns-in-Taken g c = subst (λ cause. IsExplainedBy cause c.args.told.is_whole c.tell_of-in-Taken.result.is_whole (g.E.Write.contents c.args.faults.now) (g.E.Write.contents c.tell_of-in-Taken.new.faults)) (sym c.in-Taken.is) (c.tell_of-in-Taken.ensures.1, (c.tell_of-in-Taken.ensures.0, c.tell_of-in-Taken.ensures.2), c.tell_of-in-Taken.ensures.3)

pub returns-in-There : goal.returns-in-There
returns-in-There g c = subst (λ cause. IsExplainedBy cause c.args.told.is_whole c.tell_named-in-There.result.is_whole (g.E.Write.contents c.args.faults.now) (g.E.Write.contents c.tell_named-in-There.new.faults)) (sym c.in-There.is) (c.tell_named-in-There.ensures)

pub returns-in-CopyFaults : goal.returns-in-CopyFaults
returns-in-CopyFaults g c = subst (λ cause. IsExplainedBy cause c.args.told.is_whole c.tell_named-in-CopyFaults.result.is_whole (g.E.Write.contents c.args.faults.now) (g.E.Write.contents c.tell_named-in-CopyFaults.new.faults)) (sym c.in-CopyFaults.is) (c.tell_named-in-CopyFaults.ensures)

pub returns-in-NoRibbon : goal.returns-in-NoRibbon
returns-in-NoRibbon g c = subst (λ cause. IsExplainedBy cause c.args.told.is_whole c.tell_named-in-NoRibbon.result.is_whole (g.E.Write.contents c.args.faults.now) (g.E.Write.contents c.tell_named-in-NoRibbon.new.faults)) (sym c.in-NoRibbon.is) (c.tell_named-in-NoRibbon.ensures)

pub returns-in-Other : goal.returns-in-Other
returns-in-Other g c =
    let shown = c.tell_name-named-in-Other.ensures in
    let owner = c.tell_other.ensures in
    let words = other_words c.in-Other.other owner.0 in
    subst (λ cause. IsExplainedBy cause c.args.told.is_whole c.tell_other.result.is_whole (g.E.Write.contents c.args.faults.now) (g.E.Write.contents c.tell_other.new.faults)) (sym c.in-Other.is)
    (shown.0 ++ words, (shown.0, owner.0, shown.1, owner.1, refl), goes_on_twice c.args.told.is_whole c.tell_name-named-in-Other.result.is_whole c.tell_other.result.is_whole (g.E.Write.contents c.args.faults.now) (g.E.Write.contents c.tell_name-named-in-Other.new.faults) (g.E.Write.contents c.tell_other.new.faults) shown.0 words shown.2 owner.2)

pub returns-in-Older : goal.returns-in-Older
returns-in-Older g c =
    let shown = c.tell_name-named.ensures in
    let words = older_words c.in-Older.site c.in-Older.made c.in-Older.held in
    subst (λ cause. IsExplainedBy cause c.args.told.is_whole c.tell_counters.result.is_whole (g.E.Write.contents c.args.faults.now) (g.E.Write.contents c.tell_counters.new.faults)) (sym c.in-Older.is)
    (shown.0 ++ words, (shown.0, shown.1, refl), goes_on_twice c.args.told.is_whole c.tell_name-named.result.is_whole c.tell_counters.result.is_whole (g.E.Write.contents c.args.faults.now) (g.E.Write.contents c.tell_name-named.new.faults) (g.E.Write.contents c.tell_counters.new.faults) shown.0 words shown.2 c.tell_counters.ensures)

pub returns-in-Line : goal.returns-in-Line
returns-in-Line g c = subst (λ cause. IsExplainedBy cause c.args.told.is_whole c.tell_line.result.is_whole (g.E.Write.contents c.args.faults.now) (g.E.Write.contents c.tell_line.new.faults)) (sym c.in-Line.is) (c.tell_line.ensures)

pub returns-in-TooLong : goal.returns-in-TooLong
returns-in-TooLong g c = subst (λ cause. IsExplainedBy cause c.args.told.is_whole c.tell_limit.result.is_whole (g.E.Write.contents c.args.faults.now) (g.E.Write.contents c.tell_limit.new.faults)) (sym c.in-TooLong.is) (_, refl, c.tell_limit.ensures)

pub returns-in-Input : goal.returns-in-Input
returns-in-Input g c = subst (λ cause. IsExplainedBy cause c.args.told.is_whole c.tell_more.result.is_whole (g.E.Write.contents c.args.faults.now) (g.E.Write.contents c.tell_more.new.faults)) (sym c.in-Input.is) (_, refl, c.tell_more.ensures)

pub returns-in-Endless : goal.returns-in-Endless
returns-in-Endless g c = subst (λ cause. IsExplainedBy cause c.args.told.is_whole c.tell_more-in-Endless.result.is_whole (g.E.Write.contents c.args.faults.now) (g.E.Write.contents c.tell_more-in-Endless.new.faults)) (sym c.in-Endless.is) (_, refl, c.tell_more-in-Endless.ensures)

pub returns-in-Output : goal.returns-in-Output
returns-in-Output g c = subst (λ cause. IsExplainedBy cause c.args.told.is_whole c.tell_more-in-Output.result.is_whole (g.E.Write.contents c.args.faults.now) (g.E.Write.contents c.tell_more-in-Output.new.faults)) (sym c.in-Output.is) (_, refl, c.tell_more-in-Output.ensures)

pub returns-in-ReportOutput : goal.returns-in-ReportOutput
returns-in-ReportOutput g c = subst (λ cause. IsExplainedBy cause c.args.told.is_whole c.tell_more-in-ReportOutput.result.is_whole (g.E.Write.contents c.args.faults.now) (g.E.Write.contents c.tell_more-in-ReportOutput.new.faults)) (sym c.in-ReportOutput.is) (_, refl, c.tell_more-in-ReportOutput.ensures)

pub returns-in-File : goal.returns-in-File
returns-in-File g c = subst (λ cause. IsExplainedBy cause c.args.told.is_whole c.tell_more-in-File.result.is_whole (g.E.Write.contents c.args.faults.now) (g.E.Write.contents c.tell_more-in-File.new.faults)) (sym c.in-File.is) (_, tt, c.tell_more-in-File.ensures)

pub returns-in-Number : goal.returns-in-Number
returns-in-Number g c = subst (λ cause. IsExplainedBy cause c.args.told.is_whole c.tell_more-in-Number.result.is_whole (g.E.Write.contents c.args.faults.now) (g.E.Write.contents c.tell_more-in-Number.new.faults)) (sym c.in-Number.is) (_, tt, c.tell_more-in-Number.ensures)

pub returns-in-CaseOrWedge : goal.returns-in-CaseOrWedge
returns-in-CaseOrWedge g c = subst (λ cause. IsExplainedBy cause c.args.told.is_whole c.tell_more-in-CaseOrWedge.result.is_whole (g.E.Write.contents c.args.faults.now) (g.E.Write.contents c.tell_more-in-CaseOrWedge.new.faults)) (sym c.in-CaseOrWedge.is) (_, tt, c.tell_more-in-CaseOrWedge.ensures)

pub returns-in-Case : goal.returns-in-Case
returns-in-Case g c = subst (λ cause. IsExplainedBy cause c.args.told.is_whole c.tell_more-in-Case.result.is_whole (g.E.Write.contents c.args.faults.now) (g.E.Write.contents c.tell_more-in-Case.new.faults)) (sym c.in-Case.is) (_, tt, c.tell_more-in-Case.ensures)

pub returns-in-Source : goal.returns-in-Source
returns-in-Source g c = subst (λ cause. IsExplainedBy cause c.args.told.is_whole c.tell_named-in-Source.result.is_whole (g.E.Write.contents c.args.faults.now) (g.E.Write.contents c.tell_named-in-Source.new.faults)) (sym c.in-Source.is)
    (c.tell_named-in-Source.ensures.0, subst (λ words. IsNamed c.in-Source.name.now words c.tell_named-in-Source.ensures.0) (c.as_bytes.ensures.value ∙ c.source_words.ensures) c.tell_named-in-Source.ensures.1, c.tell_named-in-Source.ensures.2)

pub returns-in-NoSetting : goal.returns-in-NoSetting
returns-in-NoSetting g c = subst (λ cause. IsExplainedBy cause c.args.told.is_whole c.tell_setting.result.is_whole (g.E.Write.contents c.args.faults.now) (g.E.Write.contents c.tell_setting.new.faults)) (sym c.in-NoSetting.is) (c.tell_setting.ensures)

pub returns-in-Unread : goal.returns-in-Unread
returns-in-Unread g c =
    let shown = c.tell_name-named-in-Unread.ensures in
    let words = place_words c.in-Unread.line c.in-Unread.column c.in-Unread.why in
    subst (λ cause. IsExplainedBy cause c.args.told.is_whole c.tell_place.result.is_whole (g.E.Write.contents c.args.faults.now) (g.E.Write.contents c.tell_place.new.faults)) (sym c.in-Unread.is)
    (shown.0 ++ words, (shown.0, shown.1, refl), goes_on_twice c.args.told.is_whole c.tell_name-named-in-Unread.result.is_whole c.tell_place.result.is_whole (g.E.Write.contents c.args.faults.now) (g.E.Write.contents c.tell_name-named-in-Unread.new.faults) (g.E.Write.contents c.tell_place.new.faults) shown.0 words shown.2 c.tell_place.ensures)
