use Rattle.std.proofs.Common.{◌≡◌, ◌∙◌, ap, refl, sym, subst, true, false}
use Rattle.std.specs.Prelude.{Some}
use Rattle.std.proofs.lemmas.Result.{on_ok_weaker}
use Rattle.feed_files.specs.Files.{IsReplaced}
use Rattle.feed_stored.proofs.Feeds.{not_stored, ok_counts}
use Rattle.feed_stored.proofs.stored.keep_replica.Goals as goal

pub returns-then-is_stored-clause-ok : goal.returns-then-is_stored-clause-ok
returns-then-is_stored-clause-ok g c =
    let same = c.is_stored.ensures.0 c.if-is_stored.true ∙ ap Some (c.deref.ensures.value ∙ c.in-Ok.ensures.bytes) in
    ((λ _. refl), (λ differs. absurd (differs same)), refl)

pub returns-clause-ok : goal.returns-clause-ok
returns-clause-ok g c =
    let bytes = c.deref.ensures.value ∙ c.in-Ok.ensures.bytes in
    on_ok_weaker c.store.result
    (λ stored. (
      (λ same. let reported : false ≡ true = sym c.if-is_stored.false ∙ c.is_stored.ensures.1 (same ∙ ap Some (sym bytes)) in cc),
      (λ _. subst (λ bytes. IsReplaced c.args.name.now bytes (g.F.Files.shelf c.args.files.now).kept (g.F.Files.shelf c.store.new.files).kept) (c.deref-2.ensures.value ∙ c.in-Ok.ensures.bytes) stored.0),
      stored.1,
    )) (ok_counts _ c.store.result (g.F.Files.shelf c.args.files.now) (g.F.Files.shelf c.store.new.files) c.store.ensures.ok c.store.ensures.counted)

pub returns-clause-err : goal.returns-clause-err
returns-clause-err g c =
    not_stored c.store.result c.args.name.now (g.F.Files.shelf c.args.files.now) (g.F.Files.shelf c.store.new.files) c.store.ensures.err c.store.ensures.small c.store.ensures.missing c.store.ensures.counted
