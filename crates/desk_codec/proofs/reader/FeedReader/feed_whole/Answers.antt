use Rattle.std.proofs.Common.{◌≡◌, ◌-◌, ◌≤◌, ◌∙◌, ℕ, Option, List, ◌++◌, length, sym, ap, subst}
use Rattle.desk_ops.specs.declared.op.Op.{Op}
use Rattle.desk_codec.specs.Pieces.{Reader, place_of, Reads}
use Rattle.desk_codec.specs.PieceReading.{Lacks, ReadsSo, Resumes, IsReader, kept_after}
use Rattle.desk_codec.proofs.ReadLaws.{unended_length, with_kept, lacks_memory}
use Rattle.desk_codec.proofs.ReaderLaws.{resumes_from, read_reader}
use Rattle.desk_codec.proofs.reader.FeedReader.feed_whole.Goals as goal

pub read_piece-requires-clause-resumes : goal.read_piece-requires-clause-resumes
read_piece-requires-clause-resumes g c =
    let r : Reader = record { form = c.self.inside.form; taken = c.self.inside.taken; kept = c.self.inside.kept.items; failed = c.self.inside.failed } in
    let place : c.self.inside.taken - c.len.result ≡ place_of r = ap (λ (n : ℕ). c.self.inside.taken - n) c.len.ensures.value in
    subst (λ (n : ℕ). Resumes c.self.inside.form n r.kept) (sym place) (resumes_from r.form (place_of r) r.kept c.self.inside.missing c.self.invariant.keeps)

pub returns-in_default-clause-refused : goal.returns-in_default-clause-refused
returns-in_default-clause-refused g c =
    let r : Reader = record { form = c.self.inside.form; taken = c.self.inside.taken; kept = c.self.inside.kept.items; failed = c.self.inside.failed } in
    rw (← c.self.view_is) (lacks_memory r c.read_piece.new.kept.items c.args.piece.now c.in-Ok.field-0.ops c.in-Ok.field-0.form (kept_after c.in-Ok.field-0.is_behind r.kept c.in-Ok.field-0.rest.now) (ap (λ (s : Reader). s.failed) c.self.view_is ∙ c.requires.answers) c.in-Ok.ensures.same c.in_default.ensures c.in-Ok.ensures.read)

pub keep-requires : goal.keep-requires
keep-requires g c =
    let kept = kept_after c.in-Ok.field-0.is_behind c.self.inside.kept.items c.in-Ok.field-0.rest.now in
    let read : Reads c.self.inside.form (c.self.inside.kept.items ++ c.args.piece.now) c.in-Some.ops.items c.in-Ok.field-0.form kept =
    subst (λ (o : Option (List Op)). ReadsSo c.self.inside.form (c.self.inside.kept.items ++ c.args.piece.now) o c.in-Ok.field-0.form kept) c.in-Some.ensures c.in-Ok.ensures.read
    in
    let same = c.in-Ok.ensures.same in
    let few : length kept ≤ 342 = unended_length c.in-Ok.field-0.form kept read.unended in
    subst (λ (l : List ℕ). length (kept_after c.in-Ok.field-0.is_behind l c.in-Ok.field-0.rest.now) ≤ 342) (sym same) few

pub invariant_of-self : goal.invariant_of-self
invariant_of-self g c =
    let r : Reader = record { form = c.self.inside.form; taken = c.self.inside.taken; kept = c.self.inside.kept.items; failed = c.self.inside.failed } in
    subst (λ (l : List ℕ). IsReader (with_kept r l) c.self.inside.missing) (sym c.in-Ok.ensures.same) c.self.invariant

pub invariant_of-self-in-Ok : goal.invariant_of-self-in-Ok
invariant_of-self-in-Ok g c =
    let r : Reader = record { form = c.self.inside.form; taken = c.self.inside.taken; kept = c.self.inside.kept.items; failed = c.self.inside.failed } in
    let kept : c.keep.new.kept.items ≡ kept_after c.in-Ok.field-0.is_behind r.kept c.in-Ok.field-0.rest.now =
    c.keep.ensures ∙ ap (λ (l : List ℕ). kept_after c.in-Ok.field-0.is_behind l c.in-Ok.field-0.rest.now) c.in-Ok.ensures.same
    in
    let read : Reads r.form (r.kept ++ c.args.piece.now) c.in-Some.ops.items c.in-Ok.field-0.form c.keep.new.kept.items =
    subst (λ (l : List ℕ). Reads r.form (r.kept ++ c.args.piece.now) c.in-Some.ops.items c.in-Ok.field-0.form l) (sym kept)
    (subst (λ (o : Option (List Op)). ReadsSo r.form (r.kept ++ c.args.piece.now) o c.in-Ok.field-0.form (kept_after c.in-Ok.field-0.is_behind r.kept c.in-Ok.field-0.rest.now)) c.in-Some.ensures c.in-Ok.ensures.read)
    in
    let lacks : Lacks c.in-Ok.field-0.form c.keep.new.kept.items c.missing_after-self-inside.result =
    subst (λ (l : List ℕ). Lacks c.in-Ok.field-0.form l c.missing_after-self-inside.result) c.as_slice.ensures.value c.missing_after-self-inside.ensures
    in
    read_reader r c.self.inside.missing c.missing_after-self-inside.result c.args.piece.now c.keep.new.kept.items c.in-Some.ops.items c.in-Ok.field-0.form c.self.invariant read lacks
