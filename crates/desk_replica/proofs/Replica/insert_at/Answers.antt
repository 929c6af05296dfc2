use Rattle.std.proofs.Common.{◌∙◌, ap, sym, subst}
use Rattle.std.specs.Prelude.{is_err}
use Rattle.desk_ops.specs.declared.op.Op.TheVariants.{Insert}
use Rattle.desk_ops.specs.Op.{IsLawful}
use Rattle.desk_replica.specs.Edits.{IsInserted, new_stamp}
use Rattle.desk_replica.proofs.Made.{symbol_is, inserted, new-lawful, on_made}
use Rattle.desk_replica.proofs.Replica.insert_at.Goals as goal

pub make-requires-clause-lawful : goal.make-requires-clause-lawful
make-requires-clause-lawful g c =
    subst IsLawful (sym (ap (λ s. Insert s c.in-Some.parent c.args.symbol) c.in_ok-stamp.ensures.stamp ∙ ap (λ p. Insert (new_stamp c.args.self.now) p c.args.symbol) c.in-Some.ensures.is))
    (new-lawful c.args.self.now c.args.place c.args.symbol c.in_ok-stamp.ensures.kept c.in_ok-stamp.ensures.clock
    (symbol_is c.args.symbol c.is_err.result (c.is_err.ensures.value ∙ ap is_err c.check.ensures.cause) c.if-is_err.false))

pub returns-clause-made : goal.returns-clause-made
returns-clause-made g c =
    on_made (IsInserted c.args.self.now c.make.new.self c.args.place c.args.symbol) c.make.result c.args.self.now.ops c.make.new.self.ops _ c.make.ensures.op c.make.ensures.ok
    (inserted c.args.self.now c.make.new.self c.args.place c.args.symbol _ c.in_ok-stamp.ensures.kept c.in_ok-stamp.ensures.clock
    (symbol_is c.args.symbol c.is_err.result (c.is_err.ensures.value ∙ ap is_err c.check.ensures.cause) c.if-is_err.false)
    c.in-Some.ensures.within
    (ap (λ s. Insert s c.in-Some.parent c.args.symbol) c.in_ok-stamp.ensures.stamp ∙ ap (λ p. Insert (new_stamp c.args.self.now) p c.args.symbol) c.in-Some.ensures.is))
