use Rattle.std.proofs.Common.{◌≡◌, ◌∙◌, ap, codes, refl, rules, subst, true, false}
use Rattle.std.specs.Prelude.{Some, None, option_map}
use Rattle.clap.specs.Words.{found_of, rows_of}
use Rattle.program_words.specs.Words.{AreMetal, ChoosesMetal}
use Rattle.program_words.specs.declared.wishes.Subcommand.TheVariants as subcommands
use Rattle.program_words.proofs.Asked.{is_given, named, no_wish, none_given, nothing_to_compare, unnamed, with_metal}
use Rattle.program_words.proofs.wishes.diff_wish.Goals as goal

pub returns-in_default : goal.returns-in_default
returns-in_default c = no_wish (rows_of (found_of c.args.matches.now)) subcommands.Diff (
  (λ feed until other one upto two some metal. unnamed (codes "feed") (found_of c.args.matches.now) c.get_str.result c.get_str.ensures c.in_default.is feed one),
  (λ one other case wedge feed two upto three four. unnamed (codes "feed") (found_of c.args.matches.now) c.get_str.result c.get_str.ensures c.in_default.is one.now feed),
)

pub returns-then-is_some : goal.returns-then-is_some
returns-then-is_some c =
    let both : ChoosesMetal (rows_of (found_of c.args.matches.now)) (Some (c.in-Some-Some.case, c.in-Some-Some.wedge)) = subst (AreMetal (rows_of (found_of c.args.matches.now))) (c.in-Some-Some.is ∙ ap Some c.in-Some-Some.field-0-is) c.metal_of.ensures in
    no_wish (rows_of (found_of c.args.matches.now)) subcommands.Diff (
      (λ feed until other one upto two some metal. with_metal (rows_of (found_of c.args.matches.now)) c.in-Some-Some.case.now both.0 metal),
      (λ one other case wedge feed two upto three four.
          let bad : false ≡ true = is_given (codes "at") (rows_of (found_of c.args.matches.now)) c.number_of-until.result None c.number_of-until.ensures upto (search rules) in
          cc),
    )

pub returns-then-is_none-2 : goal.returns-then-is_none-2
returns-then-is_none-2 c =
    let neither : ChoosesMetal (rows_of (found_of c.args.matches.now)) None = subst (AreMetal (rows_of (found_of c.args.matches.now))) (c.in-Some-None.is ∙ ap Some c.in-Some-None.field-0-is) c.metal_of.ensures in
    no_wish (rows_of (found_of c.args.matches.now)) subcommands.Diff (
      (λ feed until other one upto two some metal. nothing_to_compare (rows_of (found_of c.args.matches.now)) c.number_of-until.result until c.choice_of-other.result other (search rules) (search rules) c.number_of-until.ensures c.choice_of-other.ensures upto two some),
      (λ one other case wedge feed two upto three four. with_metal (rows_of (found_of c.args.matches.now)) case.now three neither),
    )

pub returns-in-Some-other : goal.returns-in-Some-other
returns-in-Some-other c =
    let both : ChoosesMetal (rows_of (found_of c.args.matches.now)) (Some (c.in-Some-Some.case, c.in-Some-Some.wedge)) = subst (AreMetal (rows_of (found_of c.args.matches.now))) (c.in-Some-Some.is ∙ ap Some c.in-Some-Some.field-0-is) c.metal_of.ensures in (
      refl,
      (
        named (codes "feed") (found_of c.args.matches.now) c.get_str.result c.in-Some.one c.get_str.ensures c.in-Some.is,
        c.choice_of-other.ensures ∙ ap (option_map (λ t. t.now)) c.in-Some-other.is,
        none_given (codes "at") (rows_of (found_of c.args.matches.now)) c.number_of-until.result c.number_of-until.ensures (search rules),
        both.0,
        both.1,
      ),
    )

pub returns-else-is_none : goal.returns-else-is_none
returns-else-is_none c =
    let neither : ChoosesMetal (rows_of (found_of c.args.matches.now)) None = subst (AreMetal (rows_of (found_of c.args.matches.now))) (c.in-Some-None.is ∙ ap Some c.in-Some-None.field-0-is) c.metal_of.ensures in (
      refl,
      (
        named (codes "feed") (found_of c.args.matches.now) c.get_str.result c.in-Some.one c.get_str.ensures c.in-Some.is,
        c.number_of-until.ensures,
        c.choice_of-other.ensures,
        search rules,
        neither,
      ),
    )

pub returns-in-None : goal.returns-in-None
returns-in-None c =
    let half = subst (AreMetal (rows_of (found_of c.args.matches.now))) c.in-None.is c.metal_of.ensures in
    no_wish (rows_of (found_of c.args.matches.now)) subcommands.Diff (
      (λ feed until other one upto two some metal. half None metal),
      (λ one other case wedge feed two upto three four. half (Some (case, wedge)) (three, four)),
    )
