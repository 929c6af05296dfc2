use Rattle.std.proofs.Common.{◌+◌, ◌∙◌, ap, sym}
use Rattle.desk_ops.specs.OpSet.{size}
use Rattle.desk_replica.specs.Edits.{IsSetTo}
use Rattle.feed_files.proofs.Behind.{ok_behind}
use Rattle.feed_sites.specs.Anew.{one_if}
use Rattle.feed_sites.proofs.Edited.{set_own, set_size}
use Rattle.feed_sites.proofs.anew.give.Goals as goal

pub returns-in_ok-map_err-clause-own : goal.returns-in_ok-map_err-clause-own
returns-in_ok-map_err-clause-own g c =
    let is = ok_behind (λ op. IsSetTo c.args.replica.now c.set.new.self c.args.key c.in-Some.value op) _ c.set.result c.map_err.result c.in_ok-map_err.field-0 c.map_err.ensures.cases c.map_err.ensures.variant c.in_ok-map_err.was c.set.ensures.made in
    set_own c.args.replica.now c.set.new.self c.args.key c.in-Some.value c.in_ok-map_err.field-0 c.requires.own is

pub returns-in_ok-map_err-clause-count : goal.returns-in_ok-map_err-clause-count
returns-in_ok-map_err-clause-count g c =
    let is = ok_behind (λ op. IsSetTo c.args.replica.now c.set.new.self c.args.key c.in-Some.value op) _ c.set.result c.map_err.result c.in_ok-map_err.field-0 c.map_err.ensures.cases c.map_err.ensures.variant c.in_ok-map_err.was c.set.ensures.made in
    set_size c.args.replica.now c.set.new.self c.args.key c.in-Some.value c.in_ok-map_err.field-0 c.requires.own is ∙ ap (λ v. size c.args.replica.now.ops + one_if v) (sym c.in-Some.is)
