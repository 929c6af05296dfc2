-- What is said of sets and of copies that are one.
use Rattle.std.proofs.Common.{◌≡◌, ◌∙◌, ◌-◌, ℕ, List, [], ◌∷◌, ◌++◌, length, refl, sym, ap, ap₂, subst, inl, arith}
use Rattle.std.specs.List.{slice_range}
use Rattle.std.proofs.lemmas.Bool.{true≢false}
use Rattle.std.proofs.lemmas.List.{append-nil, take_all}
use Rattle.desk_ops.specs.declared.op.Symbol.{Symbol}
use Rattle.desk_ops.specs.OpSet.{OpSet}
use Rattle.desk_ops.specs.Shown.{copy_of}
use Rattle.feed_edit.specs.declared.stamps.SiteStamp.{SiteStamp}
use Rattle.feed_sites.specs.declared.stretch.Stretch.{Stretch}
use Rattle.feed_sites.specs.Alone.{AreAlone}
use Rattle.feed_sites.specs.Counters.{alone_line}
use Rattle.feed_sites.specs.Stretches.{AreStretches}
use Rattle.feed_sites.specs.Words.{stretches_lines}
use Rattle.feed_sites.proofs.Readable.{own_lines}
use Rattle.feed_sites.specs.DifferenceLaws.{EqualCopiesHaveNoWords, EqualSetsAreReportedSo}

-- a set has nothing that it has not
none_alone : (set : OpSet) (stamps : List SiteStamp) → AreAlone set set stamps → stamps ≡ []
none_alone set [] alone = refl
none_alone set (stamp ∷ stamps) alone = let held = (alone.all stamp).0 (inl refl) in absurd (true≢false (sym held.1 ∙ held.2))

whole : (copy : List Symbol) → slice_range copy 0 (length copy) ≡ copy
whole copy = let e : length copy - 0 ≡ length copy = omega arith in rw e (take_all (length copy) copy (omega arith))

copies_one : (one other : List Symbol) → AreStretches one other [] → one ≡ other
copies_one one other none = sym (whole one) ∙ none.differ.same ∙ whole other

no_lines : (one other : List Symbol) (stretches : List Stretch) → stretches_lines one other stretches ≡ [] → stretches ≡ []
no_lines one other [] e = refl
no_lines one other (s ∷ stretches) e = cc

pub equal_copies_reported : EqualCopiesHaveNoWords
equal_copies_reported first second lines (stretches, reported, is) = (
  λ none. copies_one (copy_of first) (copy_of second) (subst (AreStretches (copy_of first) (copy_of second)) (no_lines (copy_of first) (copy_of second) stretches (sym is ∙ none)) reported),
  λ same. is ∙ ap (stretches_lines (copy_of first) (copy_of second)) (reported.none same),
)

pub equal_sets_reported : EqualSetsAreReportedSo
equal_sets_reported one other set reported same reports =
    let t = reports.text in
    let alone = t.2 in
    let ones : alone.0 ≡ [] = none_alone set alone.0 alone.2 in
    let others : alone.1 ≡ [] = none_alone set alone.1 alone.3 in
    let words : t.1 ≡ [] = (equal_copies_reported set set t.1 t.3).1 refl in
    let lines = alone_line one [] ++ alone_line other [] in
    let said : t.0 ++ t.1 ≡ lines = ap₂ (λ l w. l ++ w) (alone.4 ∙ ap₂ (λ l m. alone_line one l ++ alone_line other m) ones others) words ∙ append-nil lines in
    (reports.are_one.1 refl, t.4 ∙ ap₂ (λ (l r : List ℕ). l ++ r) said (own_lines set) ∙ append-nil lines)
