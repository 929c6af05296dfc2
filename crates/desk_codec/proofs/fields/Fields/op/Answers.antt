use Rattle.std.proofs.Common.{◌≡◌, sym, ap, ◌∙◌, Ok, subst, rules}
use Rattle.desk_codec.specs.Spelling.{IsValue}
use Rattle.desk_ops.specs.Op.{verdict}
use Rattle.desk_ops.proofs.Lawful.{lawful_from}
use Rattle.desk_codec.specs.Fault.{fields_of}
use Rattle.desk_codec.proofs.FieldLaws.{insert_back, set_back}
use Rattle.desk_codec.proofs.fields.Fields.op.Goals.{in-Insert, in-Delete, in-Set+in-Some}
use Rattle.desk_codec.proofs.fields.Fields.op.Goals as goal

pub returns-clause-ok : goal.returns-clause-ok
returns-clause-ok c =
    let reported : c.check.result ≡ verdict c.match-self.op = cc in
    let v : verdict c.match-self.op ≡ Ok tt = sym reported ∙ c.in_ok-check.was in
    let back : fields_of c.match-self.op ≡ c.args.self =
    elim c.match-self.branch [
      | in-Insert w ↦ insert_back w.in-Insert.stamp w.in-Insert.parent w.in-Insert.style w.in-Insert.ch c.match-self.op (cc) v ∙ sym w.in-Insert.is
      | in-Delete w ↦ ap fields_of w.op-is ∙ sym w.in-Delete.is
      | in-Set+in-Some w ↦ set_back w.in-Set.stamp w.in-Set.key w.in-Set.value w.in-Some.key c.match-self.op w.op-is (sym w.key_of.ensures ∙ w.in-Some.is) ∙ sym w.in-Set.is
    ]
    in (
      record {
        lawful = lawful_from c.match-self.op v;
        value = elim c.match-self.branch as (λ _. IsValue c.match-self.op) [
          | in-Insert w ↦ subst IsValue (sym w.op-is) (search rules)
          | in-Delete w ↦ subst IsValue (sym w.op-is) (search rules)
          | in-Set+in-Some w ↦ subst IsValue (sym w.op-is) (search rules)
        ];
      },
      back,
    )
