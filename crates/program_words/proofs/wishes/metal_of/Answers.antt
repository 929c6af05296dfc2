use Rattle.std.proofs.Common.{◌∙◌, ap, codes, sym}
use Rattle.std.specs.Prelude.{option_map}
use Rattle.clap.specs.Words.{found_of, rows_of}
use Rattle.clap.proofs.WalkLemmas.{first_value-rows}
use Rattle.program_words.proofs.Asked.{half_metal, named, other_half}
use Rattle.program_words.proofs.wishes.metal_of.Goals as goal

pub returns-in-Some-get_str : goal.returns-in-Some-get_str
returns-in-Some-get_str c = (
  named (codes "case") (found_of c.args.matches.now) c.get_str.result c.in-Some.case c.get_str.ensures c.in-Some.is,
  named (codes "wedge") (found_of c.args.matches.now) c.get_str-in-Some.result c.in-Some-get_str.wedge c.get_str-in-Some.ensures c.in-Some-get_str.is,
)

pub returns-in-None-get_str : goal.returns-in-None-get_str
returns-in-None-get_str c = λ metal chosen.
    let case = named (codes "case") (found_of c.args.matches.now) c.get_str.result c.in-Some.case c.get_str.ensures c.in-Some.is in
    let wedge = sym (first_value-rows (found_of c.args.matches.now) (codes "wedge")) ∙ sym c.get_str-in-Some.ensures ∙ ap (option_map (λ s. s.now)) c.in-None-get_str.is in
    half_metal (rows_of (found_of c.args.matches.now)) metal chosen (λ none. let bad = sym none ∙ case in cc) wedge

pub returns-in-Some-get_str-2 : goal.returns-in-Some-get_str-2
returns-in-Some-get_str-2 c = λ metal chosen.
    let case = sym (first_value-rows (found_of c.args.matches.now) (codes "case")) ∙ sym c.get_str.ensures ∙ ap (option_map (λ s. s.now)) c.in-None.is in
    let wedge = named (codes "wedge") (found_of c.args.matches.now) c.get_str-in-None.result _ c.get_str-in-None.ensures c.in-Some-get_str-2.is in
    other_half (rows_of (found_of c.args.matches.now)) metal chosen case (λ none. let bad = sym none ∙ wedge in cc)

pub returns-in-None-get_str-2 : goal.returns-in-None-get_str-2
returns-in-None-get_str-2 c = (
  sym (first_value-rows (found_of c.args.matches.now) (codes "case")) ∙ sym c.get_str.ensures ∙ ap (option_map (λ s. s.now)) c.in-None.is,
  sym (first_value-rows (found_of c.args.matches.now) (codes "wedge")) ∙ sym c.get_str-in-None.ensures ∙ ap (option_map (λ s. s.now)) c.in-None-get_str-2.is,
)
