use Rattle.std.proofs.Common.{rules, ◌≡◌, ◌≤◌, ◌<◌, ap, ◌∙◌, codes}
use Rattle.std.specs.Prelude.{Some}
use Rattle.std.specs.Str.Parse.{ParsesUnsigned, ExplainsUnsignedError, HasUnsignedDigitsIfOk}
use Rattle.clap.specs.Words.{found_of, one_text, rows_of}
use Rattle.clap.proofs.WalkLemmas.{one_text-rows}
use Rattle.program_words.proofs.Asked.{held_site, no_site, zero_site}
use Rattle.program_words.proofs.wishes.site_of.Goals as goal

pub returns-then-site-eq0-clause-none : goal.returns-then-site-eq0-clause-none
returns-then-site-eq0-clause-none c none =
    let zero : c.in-Some.site ≡ 0 = search rules in
    zero_site _ (λ bs r. ParsesUnsigned 16 10 bs r × ExplainsUnsignedError 10 bs r × HasUnsignedDigitsIfOk bs r) (λ t r h. h.0) (rows_of (found_of c.args.matches.now)) (one_text (found_of c.args.matches.now) (codes "site"))
    c.get_one.result (c.in-Some.is ∙ ap Some zero) (one_text-rows (found_of c.args.matches.now) (codes "site")) c.get_one.ensures.value

pub returns-else-site-eq0-clause-some : goal.returns-else-site-eq0-clause-some
returns-else-site-eq0-clause-some c =
    let least : 1 ≤ c.in-Some.site = search rules in
    let most : c.in-Some.site < 65536 = search rules in
    held_site _ (λ bs r. ParsesUnsigned 16 10 bs r × ExplainsUnsignedError 10 bs r × HasUnsignedDigitsIfOk bs r) (λ t r h. h.0) (rows_of (found_of c.args.matches.now)) (one_text (found_of c.args.matches.now) (codes "site"))
    c.in-Some.site c.get_one.result c.in-Some.is (one_text-rows (found_of c.args.matches.now) (codes "site")) c.get_one.ensures.none c.get_one.ensures.value least most

pub returns-in-None-clause-none : goal.returns-in-None-clause-none
returns-in-None-clause-none c none =
    no_site _ (λ bs r. ParsesUnsigned 16 10 bs r × ExplainsUnsignedError 10 bs r × HasUnsignedDigitsIfOk bs r) (λ t r h. h.0) (rows_of (found_of c.args.matches.now)) (one_text (found_of c.args.matches.now) (codes "site"))
    c.get_one.result c.in-None.is (one_text-rows (found_of c.args.matches.now) (codes "site")) c.get_one.ensures.value
