use Rattle.std.proofs.Common.{◌∙◌, ap, sym, subst}
use Rattle.desk_ops.specs.declared.op.Op.TheVariants.{Delete}
use Rattle.desk_ops.specs.Op.{IsLawful}
use Rattle.desk_replica.specs.Edits.{IsDeleted, new_stamp}
use Rattle.desk_replica.proofs.Made.{delete-lawful, deleted, on_made}
use Rattle.desk_replica.proofs.Replica.delete_at.Goals as goal

pub make-requires-clause-lawful : goal.make-requires-clause-lawful
make-requires-clause-lawful g c =
    subst IsLawful (sym (ap (λ s. Delete s c.in-Some.target) c.in_ok-stamp.ensures.stamp ∙ ap (Delete (new_stamp c.args.self.now)) c.in-Some.ensures.is))
    (delete-lawful c.args.self.now c.args.place c.in_ok-stamp.ensures.kept c.in_ok-stamp.ensures.clock c.in-Some.ensures.within)

pub returns-clause-made : goal.returns-clause-made
returns-clause-made g c =
    on_made (IsDeleted c.args.self.now c.make.new.self c.args.place) c.make.result c.args.self.now.ops c.make.new.self.ops _ c.make.ensures.op c.make.ensures.ok
    (deleted c.args.self.now c.make.new.self c.args.place _ c.in_ok-stamp.ensures.kept c.in_ok-stamp.ensures.clock c.in-Some.ensures.within
    (ap (λ s. Delete s c.in-Some.target) c.in_ok-stamp.ensures.stamp ∙ ap (Delete (new_stamp c.args.self.now)) c.in-Some.ensures.is))
