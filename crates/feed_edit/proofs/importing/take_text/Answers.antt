use Rattle.std.proofs.lemmas.Result.{IfErr-weaker, err_from_is_err_and}
use Rattle.std.proofs.Common.{subst}
use Rattle.feed_edit.specs.Editing.{IsRevised}
use Rattle.feed_edit.specs.Importing.{IsSpared, IsUnspared, LeavesOff, RefusesText, TakesText}
use Rattle.feed_edit.proofs.Unimported.{both_ok, left_off, unspared}
use Rattle.feed_edit.proofs.importing.take_text.Goals as goal

pub returns-in_err-text-clause-err : goal.returns-in_err-text-clause-err
returns-in_err-text-clause-err g c =
    let p = err_from_is_err_and c.from_residual.result c.from_residual.ensures.1 in
    rw p.1 (rw p.2 c.in_err-text.ensures.err)

pub returns-in_err-text-clause-left : goal.returns-in_err-text-clause-left
returns-in_err-text-clause-left g c =
    let p = err_from_is_err_and c.from_residual.result c.from_residual.ensures.1 in
    rw p.1 (rw p.2 c.in_err-text.ensures.left)

pub returns-clause-ok : goal.returns-clause-ok
returns-clause-ok g c =
    let old = c.args.replica.now.ops in
    let now = c.revise_spared.new.replica.ops in
    both_ok c.revise_spared.result (λ t. IsRevised c.args.replica.now.site old now c.deref.result.now t.inserted t.deleted) (λ t. IsSpared c.args.all old c.deref.result.now t.deleted)
    (λ t. TakesText c.args.replica.now.site c.args.plain c.args.all (g.R.Read.remaining c.args.reader.now) old now t.inserted t.deleted)
    (λ t revised spared. (
      c.in_ok-text.text.items,
      c.in_ok-text.ensures.ok,
      subst (λ l. IsRevised c.args.replica.now.site old now l t.inserted t.deleted) c.deref.ensures.value revised,
      subst (λ l. IsSpared c.args.all old l t.deleted) c.deref.ensures.value spared,
    )) c.revise_spared.ensures.ok c.revise_spared.ensures.spared

pub returns-clause-err : goal.returns-clause-err
returns-clause-err g c =
    let old = c.args.replica.now.ops in
    let input = g.R.Read.remaining c.args.reader.now in
    IfErr-weaker c.revise_spared.result (IsUnspared c.args.replica.now.site c.args.all old c.deref.result.now) (RefusesText c.args.replica.now.site c.args.plain c.args.all input old)
    (λ why none. unspared c.args.replica.now.site c.args.plain c.args.all input old c.in_ok-text.text.items why c.in_ok-text.ensures.ok (subst (λ l. IsUnspared c.args.replica.now.site c.args.all old l why) c.deref.ensures.value none))
    c.revise_spared.ensures.err

pub returns-clause-left : goal.returns-clause-left
returns-clause-left g c =
    let old = c.args.replica.now.ops in
    IfErr-weaker c.revise_spared.result (IsUnspared c.args.replica.now.site c.args.all old c.deref.result.now) (LeavesOff (g.R.Read.remaining c.args.reader.now) (g.R.Read.remaining c.text_from.new.reader))
    (λ why none. left_off c.args.replica.now.site c.args.all (g.R.Read.remaining c.args.reader.now) (g.R.Read.remaining c.text_from.new.reader) old c.deref.result.now why none c.in_ok-text.ensures.end) c.revise_spared.ensures.err
