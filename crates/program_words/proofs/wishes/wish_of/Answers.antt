use Rattle.std.proofs.Common.{◌≡◌, Some, rules}
use Rattle.std.proofs.lemmas.Result.{IfOk-weaker}
use Rattle.clap.specs.Words.{found_of, rows_of, subcommand_rows_of}
use Rattle.program_words.specs.Words.{name_of}
use Rattle.program_words.proofs.Asked.{wished}
use Rattle.program_words.proofs.wishes.wish_of.Goals as goal

pub returns-in-Some-subcommand_named-clause-wish : goal.returns-in-Some-subcommand_named-clause-wish
returns-in-Some-subcommand_named-clause-wish c =
    let held : subcommand_rows_of c.args.matches.now ≡ Some (name_of c.in-Some-subcommand_named.subcommand, rows_of (found_of c.in-Some.inner.now)) = search rules in
    IfOk-weaker c.reported.result _ _ (λ o is. wished (subcommand_rows_of c.args.matches.now) c.in-Some-subcommand_named.subcommand (rows_of (found_of c.in-Some.inner.now)) o held is) c.reported.ensures.wish

pub returns-in-Some-subcommand_named-clause-memory : goal.returns-in-Some-subcommand_named-clause-memory
returns-in-Some-subcommand_named-clause-memory c err =
    let held : subcommand_rows_of c.args.matches.now ≡ Some (name_of c.in-Some-subcommand_named.subcommand, rows_of (found_of c.in-Some.inner.now)) = search rules in
    (c.in-Some-subcommand_named.subcommand, rows_of (found_of c.in-Some.inner.now), held, c.reported.ensures.memory err)
