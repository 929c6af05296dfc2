use Rattle.desk_replica.specs.Edits.{IsInserted}
use Rattle.feed_files.proofs.Behind.{ok_behind}
use Rattle.feed_sites.proofs.Edited.{insert_own, insert_size}
use Rattle.feed_sites.proofs.anew.put_last.Goals as goal

pub returns-clause-own : goal.returns-clause-own
returns-clause-own g c =
    let is = ok_behind (λ op. IsInserted c.args.replica.now c.insert_at.new.self c.copy_len-place.result c.args.symbol op) _ c.insert_at.result c.map_err.result c.in_ok-map_err.field-0 c.map_err.ensures.cases c.map_err.ensures.variant c.in_ok-map_err.was c.insert_at.ensures.made in
    insert_own c.args.replica.now c.insert_at.new.self c.copy_len-place.result c.args.symbol c.in_ok-map_err.field-0 c.copy_len-place.ensures c.requires.own is

pub returns-clause-count : goal.returns-clause-count
returns-clause-count g c =
    let is = ok_behind (λ op. IsInserted c.args.replica.now c.insert_at.new.self c.copy_len-place.result c.args.symbol op) _ c.insert_at.result c.map_err.result c.in_ok-map_err.field-0 c.map_err.ensures.cases c.map_err.ensures.variant c.in_ok-map_err.was c.insert_at.ensures.made in
    insert_size c.args.replica.now c.insert_at.new.self c.copy_len-place.result c.args.symbol c.in_ok-map_err.field-0 c.copy_len-place.ensures c.requires.own is
