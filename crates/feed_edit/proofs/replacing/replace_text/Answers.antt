use Rattle.std.proofs.Common.{◌≡◌, ◌+◌, ◌<◌, ◌⊎◌, ℕ, List, ◌∙◌, ap, inl, inr, length, refl, subst, sym}
use Rattle.std.proofs.lemmas.Result.{err_from_is_err_and}
use Rattle.feed_files.proofs.Shelves.{held_alone}
use Rattle.feed_files.specs.Files.{HoldsOn, Shelf}
use Rattle.feed_stored.specs.Stored.{was_read}
use Rattle.feed_edit.specs.Editing.{IsRevised, IsSparing, IsUnrevised}
use Rattle.feed_edit.specs.Keeping.{IsKept, IsUnkept, edited_line}
use Rattle.feed_edit.specs.Room.{IsOpenedHere}
use Rattle.feed_stored.specs.Room.{IsKeptOut, IsLetIn, IsMarked, is_compared}
use Rattle.feed_edit.specs.declared.fault.RevisionFault.TheVariants as revisions
use Rattle.feed_stored.proofs.Rooms.{holds_through}
use Rattle.desk_ops.specs.declared.op.Symbol.{Symbol}
use Rattle.desk_ops.specs.Shown.{copy_of}
use Rattle.text_copy.specs.Laws.{AreLawful}
use Rattle.desk_ops.specs.OpSet.{max_ops}
use Rattle.feed_edit.specs.Replacing.{IsExchanged, replaced_at}
use Rattle.feed_edit.specs.Reporting.{AreApart, IsReported, taken as taken_at}
use Rattle.feed_edit.proofs.Exchanging.{exchanged_is, unmade}
use Rattle.feed_edit.proofs.replacing.replace_text.Goals as goal

pub returns-in_err-old-clause-err : goal.returns-in_err-old-clause-err
returns-in_err-old-clause-err g c =
    let p = err_from_is_err_and c.from_residual.result c.from_residual.ensures.1 in
    rw p.1 (rw p.2 (refl, refl, c.in_err-old.ensures.err))

pub returns-in_err-stored-clause-err : goal.returns-in_err-stored-clause-err
returns-in_err-stored-clause-err g c =
    let p = err_from_is_err_and c.from_residual-in_err-stored.result c.from_residual-in_err-stored.ensures.1 in
    rw p.1 (rw p.2 (refl, c.in_ok-old.old.items, c.in_ok-old.new.items, c.in_ok-old.ensures.ok, c.in_err-stored.ensures.err))

-- ---- the feed was not let in

pub returns-in_err-let_in-clause-err : goal.returns-in_err-let_in-clause-err
returns-in_err-let_in-clause-err g c =
    let p = err_from_is_err_and c.from_residual-in_err-let_in.result c.from_residual-in_err-let_in.ensures.1 in
    let taken : Shelf = g.F.Files.shelf c.take_feed.new.files in
    let out = subst (λ n. IsKeptOut c.args.room.feed.now n (is_compared c.args.room.older (was_read c.in_ok-stored.stored)) c.in_ok-stored.replica.ops taken (g.F.Files.shelf c.let_in.new.files) c.in_err-let_in.field-0.0) c.in_ok-stored.ensures.site c.in_err-let_in.ensures.err in
    rw p.1 (rw p.2 (refl, c.in_ok-old.old.items, c.in_ok-old.new.items, c.in_ok-old.ensures.ok, (taken, was_read c.in_ok-stored.stored, c.in_ok-stored.replica.ops, c.in_ok-stored.ensures.ok, out)))

pub returns-in_err-let_in-clause-held : goal.returns-in_err-let_in-clause-held
returns-in_err-let_in-clause-held g c =
    inl (held_alone c.args.room.feed.now (g.F.Files.shelf c.args.files.now) (g.F.Files.shelf c.take_feed.new.files) (g.F.Files.shelf c.let_in.new.files) c.in_ok-stored.ensures.ok.0 (inl c.let_in.ensures.stays.2))

-- ---- no place is taken, or the copy was not made

pub returns-in_err-copy-clause-err : goal.returns-in_err-copy-clause-err
returns-in_err-copy-clause-err g c =
    let p = err_from_is_err_and c.from_residual-in_err-copy.result c.from_residual-in_err-copy.ensures.1 in
    let reported = subst
    (λ l. IsReported (c.args.exchange.now).at l (copy_of c.in_ok-stored.replica.ops) (g.W.Write.contents c.args.writer.now) (g.W.Write.contents c.taken_in.new.writer) c.in_err-copy.field-0.0)
    c.deref.ensures.value c.in_err-copy.ensures.err in
    let taken : Shelf = g.F.Files.shelf c.take_feed.new.files in
    let opened : Shelf = g.F.Files.shelf c.let_in.new.files in
    let let_in = subst (λ n. IsLetIn c.args.room.feed.now n (is_compared c.args.room.older (was_read c.in_ok-stored.stored)) c.in_ok-stored.replica.ops taken opened) c.in_ok-stored.ensures.site c.in_ok-let_in.ensures.ok in
    let here : IsOpenedHere c.args.room (g.F.Files.shelf c.args.files.now) opened (was_read c.in_ok-stored.stored) c.in_ok-stored.replica.ops = (taken, c.in_ok-stored.ensures.ok, let_in) in
    rw p.1 (rw p.2 (c.in_ok-old.old.items, c.in_ok-old.new.items, c.in_ok-old.ensures.ok, was_read c.in_ok-stored.stored, c.in_ok-stored.replica.ops, here, reported))

pub returns-in_err-copy-clause-held : goal.returns-in_err-copy-clause-held
returns-in_err-copy-clause-held g c =
    inl (held_alone c.args.room.feed.now (g.F.Files.shelf c.args.files.now) (g.F.Files.shelf c.take_feed.new.files) (g.F.Files.shelf c.let_in.new.files) c.in_ok-stored.ensures.ok.0 (inl c.let_in.ensures.stays.2))

pub exchanged-requires : goal.exchanged-requires
exchanged-requires g c =
    let count : c.len.result ≡ length c.deref.result.now = c.len.ensures ∙ sym c.deref.ensures.len in
    let in_copy = subst (λ (l : List Symbol). AreApart (length c.deref.result.now) 0 (length l) c.in_ok-copy.places.items) (sym c.deref-2.ensures.value) c.in_ok-copy.ensures.apart in
    let all = subst (λ (l : List ℕ). AreApart (length c.deref.result.now) 0 (length c.deref-2.result.now) l) (sym c.deref-3.ensures.value) in_copy in
    subst (λ n. AreApart n 0 (length c.deref-2.result.now) c.deref-3.result.now) (sym count) all

pub returns-in_err-text-clause-err : goal.returns-in_err-text-clause-err
returns-in_err-text-clause-err g c =
    let p = err_from_is_err_and c.from_residual-in_err-text.result c.from_residual-in_err-text.ensures.1 in
    let old = c.in_ok-old.old.items in
    let new = c.in_ok-old.new.items in
    let at = (c.args.exchange.now).at in
    let copy = copy_of c.in_ok-stored.replica.ops in
    let places = c.in_ok-copy.places.items in
    let is : places ≡ taken_at at old copy = subst (λ (l : List Symbol). places ≡ taken_at at l copy) c.deref.ensures.value c.in_ok-copy.ensures.taken in
    let same : replaced_at c.deref-3.result.now c.len.result c.deref-4.result.now c.deref-2.result.now ≡ replaced_at places (length old) new copy =
    ap (λ l. replaced_at l c.len.result c.deref-4.result.now c.deref-2.result.now) c.deref-3.ensures.value
    ∙ ap (λ n. replaced_at places n c.deref-4.result.now c.deref-2.result.now) (c.len.ensures ∙ sym c.deref.ensures.len ∙ ap length c.deref.ensures.value)
    ∙ ap (λ l. replaced_at places (length old) l c.deref-2.result.now) c.deref-4.ensures.value
    ∙ ap (replaced_at places (length old) new) (c.deref-2.ensures.value ∙ c.in_ok-copy.ensures.copy) in
    let text = replaced_at places (length old) new copy in
    let made : IsExchanged at old new copy text = exchanged_is at old new copy text places is c.in_ok-copy.ensures.some refl in
    let why = subst (λ (l : List Symbol). (c.in_err-text.field-0.0 ≡ revisions.NoMemory) ⊎ ((c.in_err-text.field-0.0 ≡ revisions.Full) × (max_ops < length l))) same c.in_err-text.ensures.err in
    let taken : Shelf = g.F.Files.shelf c.take_feed.new.files in
    let opened : Shelf = g.F.Files.shelf c.let_in.new.files in
    let let_in = subst (λ n. IsLetIn c.args.room.feed.now n (is_compared c.args.room.older (was_read c.in_ok-stored.stored)) c.in_ok-stored.replica.ops taken opened) c.in_ok-stored.ensures.site c.in_ok-let_in.ensures.ok in
    let here : IsOpenedHere c.args.room (g.F.Files.shelf c.args.files.now) opened (was_read c.in_ok-stored.stored) c.in_ok-stored.replica.ops = (taken, c.in_ok-stored.ensures.ok, let_in) in
    rw p.1 (rw p.2 (ap g.W.Write.contents c.in_ok-copy.ensures.silent, old, new, c.in_ok-old.ensures.ok, was_read c.in_ok-stored.stored, c.in_ok-stored.replica.ops, here, text, made, unmade c.args.room.site c.in_ok-stored.replica.ops text c.in_err-text.field-0.0 why))

pub returns-in_err-text-clause-held : goal.returns-in_err-text-clause-held
returns-in_err-text-clause-held g c =
    inl (held_alone c.args.room.feed.now (g.F.Files.shelf c.args.files.now) (g.F.Files.shelf c.take_feed.new.files) (g.F.Files.shelf c.let_in.new.files) c.in_ok-stored.ensures.ok.0 (inl c.let_in.ensures.stays.2))

pub returns-in_err-tally-clause-err : goal.returns-in_err-tally-clause-err
returns-in_err-tally-clause-err g c =
    let p = err_from_is_err_and c.from_residual-in_err-tally.result c.from_residual-in_err-tally.ensures.1 in
    let old = c.in_ok-old.old.items in
    let new = c.in_ok-old.new.items in
    let at = (c.args.exchange.now).at in
    let copy = copy_of c.in_ok-stored.replica.ops in
    let places = c.in_ok-copy.places.items in
    let is : places ≡ taken_at at old copy = subst (λ (l : List Symbol). places ≡ taken_at at l copy) c.deref.ensures.value c.in_ok-copy.ensures.taken in
    let same : replaced_at c.deref-3.result.now c.len.result c.deref-4.result.now c.deref-2.result.now ≡ replaced_at places (length old) new copy =
    ap (λ l. replaced_at l c.len.result c.deref-4.result.now c.deref-2.result.now) c.deref-3.ensures.value
    ∙ ap (λ n. replaced_at places n c.deref-4.result.now c.deref-2.result.now) (c.len.ensures ∙ sym c.deref.ensures.len ∙ ap length c.deref.ensures.value)
    ∙ ap (λ l. replaced_at places (length old) l c.deref-2.result.now) c.deref-4.ensures.value
    ∙ ap (replaced_at places (length old) new) (c.deref-2.ensures.value ∙ c.in_ok-copy.ensures.copy) in
    let exchanged : IsExchanged at old new copy c.in_ok-text.text.items = exchanged_is at old new copy c.in_ok-text.text.items places is c.in_ok-copy.ensures.some (c.in_ok-text.ensures.ok ∙ same) in
    let unrevised = subst (λ l. IsUnrevised c.in_ok-stored.replica.site c.in_ok-stored.replica.ops c.revise.new.replica.ops l c.in_err-tally.field-0.0) c.deref-5.ensures.value c.in_err-tally.ensures.err in
    let by = subst (λ n. IsUnrevised n c.in_ok-stored.replica.ops c.revise.new.replica.ops c.in_ok-text.text.items c.in_err-tally.field-0.0) c.in_ok-stored.ensures.site unrevised in
    let new_lawful = subst (λ (l : List Symbol). AreLawful l) (sym c.deref-4.ensures.value) c.in_ok-old.ensures.lawful in
    let copy_lawful = subst (λ (l : List Symbol). AreLawful l) (sym c.deref-2.ensures.value) c.in_ok-copy.ensures.lawful in
    let value = c.in_err-tally.ensures.value (subst (λ (l : List Symbol). AreLawful l) (sym c.deref-5.ensures.value) (c.in_ok-text.ensures.lawful new_lawful copy_lawful)) in
    let unrefused = subst (λ l. copy_of c.in_ok-stored.replica.ops ≡ l → c.in_err-tally.field-0.0 ≡ revisions.NoMemory) c.deref-5.ensures.value c.in_err-tally.ensures.unrefused in
    let taken : Shelf = g.F.Files.shelf c.take_feed.new.files in
    let opened : Shelf = g.F.Files.shelf c.let_in.new.files in
    let let_in = subst (λ n. IsLetIn c.args.room.feed.now n (is_compared c.args.room.older (was_read c.in_ok-stored.stored)) c.in_ok-stored.replica.ops taken opened) c.in_ok-stored.ensures.site c.in_ok-let_in.ensures.ok in
    let here : IsOpenedHere c.args.room (g.F.Files.shelf c.args.files.now) opened (was_read c.in_ok-stored.stored) c.in_ok-stored.replica.ops = (taken, c.in_ok-stored.ensures.ok, let_in) in
    rw p.1 (rw p.2 (ap g.W.Write.contents c.in_ok-copy.ensures.silent, old, new, c.in_ok-old.ensures.ok, was_read c.in_ok-stored.stored, c.in_ok-stored.replica.ops, here, c.in_ok-text.text.items, exchanged, inr (c.revise.new.replica.ops, by, unrefused, value)))

pub returns-in_err-tally-clause-held : goal.returns-in_err-tally-clause-held
returns-in_err-tally-clause-held g c =
    inl (held_alone c.args.room.feed.now (g.F.Files.shelf c.args.files.now) (g.F.Files.shelf c.take_feed.new.files) (g.F.Files.shelf c.let_in.new.files) c.in_ok-stored.ensures.ok.0 (inl c.let_in.ensures.stays.2))

-- ---- the feed was not stored

pub returns-in_err-report_and_keep-clause-err : goal.returns-in_err-report_and_keep-clause-err
returns-in_err-report_and_keep-clause-err g c =
    let p = err_from_is_err_and c.from_residual-in_err-report_and_keep.result c.from_residual-in_err-report_and_keep.ensures.1 in
    let t = c.in_ok-tally.tally in
    let old = c.in_ok-old.old.items in
    let new = c.in_ok-old.new.items in
    let at = (c.args.exchange.now).at in
    let copy = copy_of c.in_ok-stored.replica.ops in
    let places = c.in_ok-copy.places.items in
    let is : places ≡ taken_at at old copy = subst (λ (l : List Symbol). places ≡ taken_at at l copy) c.deref.ensures.value c.in_ok-copy.ensures.taken in
    let same : replaced_at c.deref-3.result.now c.len.result c.deref-4.result.now c.deref-2.result.now ≡ replaced_at places (length old) new copy =
    ap (λ l. replaced_at l c.len.result c.deref-4.result.now c.deref-2.result.now) c.deref-3.ensures.value
    ∙ ap (λ n. replaced_at places n c.deref-4.result.now c.deref-2.result.now) (c.len.ensures ∙ sym c.deref.ensures.len ∙ ap length c.deref.ensures.value)
    ∙ ap (λ l. replaced_at places (length old) l c.deref-2.result.now) c.deref-4.ensures.value
    ∙ ap (replaced_at places (length old) new) (c.deref-2.ensures.value ∙ c.in_ok-copy.ensures.copy) in
    let exchanged : IsExchanged at old new copy c.in_ok-text.text.items = exchanged_is at old new copy c.in_ok-text.text.items places is c.in_ok-copy.ensures.some (c.in_ok-text.ensures.ok ∙ same) in
    let revised = subst (λ l. IsRevised c.in_ok-stored.replica.site c.in_ok-stored.replica.ops c.revise.new.replica.ops l t.inserted t.deleted) c.deref-5.ensures.value c.in_ok-tally.ensures.ok in
    let by = subst (λ n. IsRevised n c.in_ok-stored.replica.ops c.revise.new.replica.ops c.in_ok-text.text.items t.inserted t.deleted) c.in_ok-stored.ensures.site revised in
    let sparing = subst (λ l. IsSparing (copy_of c.in_ok-stored.replica.ops) l (t.inserted + t.deleted)) c.deref-5.ensures.value c.in_ok-tally.ensures.sparing in
    let none = subst (λ l. copy_of c.in_ok-stored.replica.ops ≡ l → c.revise.new.replica.ops ≡ c.in_ok-stored.replica.ops) c.deref-5.ensures.value c.in_ok-tally.ensures.none in
    let taken : Shelf = g.F.Files.shelf c.take_feed.new.files in
    let opened : Shelf = g.F.Files.shelf c.let_in.new.files in
    let let_in = subst (λ n. IsLetIn c.args.room.feed.now n (is_compared c.args.room.older (was_read c.in_ok-stored.stored)) c.in_ok-stored.replica.ops taken opened) c.in_ok-stored.ensures.site c.in_ok-let_in.ensures.ok in
    let here : IsOpenedHere c.args.room (g.F.Files.shelf c.args.files.now) opened (was_read c.in_ok-stored.stored) c.in_ok-stored.replica.ops = (taken, c.in_ok-stored.ensures.ok, let_in) in
    let unkept = subst
    (λ w. IsUnkept c.args.room.feed.now (edited_line t.inserted t.deleted) opened (g.F.Files.shelf c.report_and_keep.new.files) (g.W.Write.contents w) (g.W.Write.contents c.report_and_keep.new.writer) c.in_err-report_and_keep.field-0.0)
    c.in_ok-copy.ensures.silent c.in_err-report_and_keep.ensures.err in
    rw p.1 (rw p.2 (old, new, c.in_ok-old.ensures.ok, opened, was_read c.in_ok-stored.stored, c.in_ok-stored.replica.ops, here, c.revise.new.replica.ops, t.inserted, t.deleted, (c.in_ok-text.text.items, exchanged, by, sparing, none), unkept))

pub returns-in_err-report_and_keep-clause-held : goal.returns-in_err-report_and_keep-clause-held
returns-in_err-report_and_keep-clause-held g c =
    let taken : Shelf = g.F.Files.shelf c.take_feed.new.files in
    let opened : Shelf = g.F.Files.shelf c.let_in.new.files in
    let kept : Shelf = g.F.Files.shelf c.report_and_keep.new.files in
    let on : HoldsOn taken.held kept.held = holds_through taken.held opened.held kept.held (inl c.let_in.ensures.stays.2) c.report_and_keep.ensures.held in
    inl (held_alone c.args.room.feed.now (g.F.Files.shelf c.args.files.now) taken kept c.in_ok-stored.ensures.ok.0 on)

-- ---- it was

pub returns-clause-ok : goal.returns-clause-ok
returns-clause-ok g c =
    let t = c.in_ok-tally.tally in
    let old = c.in_ok-old.old.items in
    let new = c.in_ok-old.new.items in
    let at = (c.args.exchange.now).at in
    let copy = copy_of c.in_ok-stored.replica.ops in
    let places = c.in_ok-copy.places.items in
    let is : places ≡ taken_at at old copy = subst (λ (l : List Symbol). places ≡ taken_at at l copy) c.deref.ensures.value c.in_ok-copy.ensures.taken in
    let same : replaced_at c.deref-3.result.now c.len.result c.deref-4.result.now c.deref-2.result.now ≡ replaced_at places (length old) new copy =
    ap (λ l. replaced_at l c.len.result c.deref-4.result.now c.deref-2.result.now) c.deref-3.ensures.value
    ∙ ap (λ n. replaced_at places n c.deref-4.result.now c.deref-2.result.now) (c.len.ensures ∙ sym c.deref.ensures.len ∙ ap length c.deref.ensures.value)
    ∙ ap (λ l. replaced_at places (length old) l c.deref-2.result.now) c.deref-4.ensures.value
    ∙ ap (replaced_at places (length old) new) (c.deref-2.ensures.value ∙ c.in_ok-copy.ensures.copy) in
    let exchanged : IsExchanged at old new copy c.in_ok-text.text.items = exchanged_is at old new copy c.in_ok-text.text.items places is c.in_ok-copy.ensures.some (c.in_ok-text.ensures.ok ∙ same) in
    let revised = subst (λ l. IsRevised c.in_ok-stored.replica.site c.in_ok-stored.replica.ops c.revise.new.replica.ops l t.inserted t.deleted) c.deref-5.ensures.value c.in_ok-tally.ensures.ok in
    let by = subst (λ n. IsRevised n c.in_ok-stored.replica.ops c.revise.new.replica.ops c.in_ok-text.text.items t.inserted t.deleted) c.in_ok-stored.ensures.site revised in
    let sparing = subst (λ l. IsSparing (copy_of c.in_ok-stored.replica.ops) l (t.inserted + t.deleted)) c.deref-5.ensures.value c.in_ok-tally.ensures.sparing in
    let none = subst (λ l. copy_of c.in_ok-stored.replica.ops ≡ l → c.revise.new.replica.ops ≡ c.in_ok-stored.replica.ops) c.deref-5.ensures.value c.in_ok-tally.ensures.none in
    let taken : Shelf = g.F.Files.shelf c.take_feed.new.files in
    let opened : Shelf = g.F.Files.shelf c.let_in.new.files in
    let let_in = subst (λ n. IsLetIn c.args.room.feed.now n (is_compared c.args.room.older (was_read c.in_ok-stored.stored)) c.in_ok-stored.replica.ops taken opened) c.in_ok-stored.ensures.site c.in_ok-let_in.ensures.ok in
    let here : IsOpenedHere c.args.room (g.F.Files.shelf c.args.files.now) opened (was_read c.in_ok-stored.stored) c.in_ok-stored.replica.ops = (taken, c.in_ok-stored.ensures.ok, let_in) in
    let kept = subst
    (λ w. IsKept c.args.room.feed.now c.revise.new.replica.ops (edited_line t.inserted t.deleted) (was_read c.in_ok-stored.stored) opened (g.F.Files.shelf c.report_and_keep.new.files) (g.W.Write.contents w) (g.W.Write.contents c.report_and_keep.new.writer))
    c.in_ok-copy.ensures.silent c.in_ok-report_and_keep.ensures.ok in
    let marked = subst (λ n. IsMarked c.args.room.feed.now n c.revise.new.replica.ops (g.F.Files.shelf c.report_and_keep.new.files) (g.F.Files.shelf c.mark.new.files)) (c.revise.ensures.site ∙ c.in_ok-stored.ensures.site) c.mark.ensures.marked in
    (old, new, c.in_ok-old.ensures.ok, opened, was_read c.in_ok-stored.stored, c.in_ok-stored.replica.ops, here, c.revise.new.replica.ops, t.inserted, t.deleted, (c.in_ok-text.text.items, exchanged, by, sparing, none), g.F.Files.shelf c.report_and_keep.new.files, kept, marked)

pub returns-clause-held : goal.returns-clause-held
returns-clause-held g c =
    let taken : Shelf = g.F.Files.shelf c.take_feed.new.files in
    let opened : Shelf = g.F.Files.shelf c.let_in.new.files in
    let kept : Shelf = g.F.Files.shelf c.report_and_keep.new.files in
    let last : Shelf = g.F.Files.shelf c.mark.new.files in
    let on : HoldsOn taken.held kept.held = holds_through taken.held opened.held kept.held (inl c.let_in.ensures.stays.2) c.report_and_keep.ensures.held in
    inl (held_alone c.args.room.feed.now (g.F.Files.shelf c.args.files.now) taken last c.in_ok-stored.ensures.ok.0 (holds_through taken.held kept.held last.held on c.mark.ensures.held))
