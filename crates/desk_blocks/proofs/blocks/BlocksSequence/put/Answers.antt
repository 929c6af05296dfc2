use Rattle.std.proofs.Common.{◌≡◌, ◌≤◌, ◌+◌, ◌∙◌, ap, subst, sym, ℕ, List, length, arith}
use mir.Val.{bool_byte}
use Rattle.std.specs.List.{count_by, insert}
use Rattle.std.proofs.lemmas.List.Sums.{count_by-le-length}
use Rattle.desk_ops.specs.declared.op.Stamp.{Stamp}
use Rattle.desk_seq.specs.declared.Entry.{Entry}
use Rattle.desk_seq.specs.Entries.{Listing, IsAbsent, AreDistinct, stamps_of, is_shown}
use Rattle.desk_seq.proofs.Entries.{distinct-insert, map-insert, length-stamps}
use Rattle.desk_blocks.specs.Rank.{Knows}
use Rattle.desk_blocks.proofs.Ranks.{absent-none, knows-insert}
use Rattle.desk_blocks.proofs.Tallies.{shown-insert}
use Rattle.desk_blocks.proofs.blocks.BlocksSequence.put.Goals as goal

pub put-requires-clause-absent : goal.put-requires-clause-absent
put-requires-clause-absent g c =
    let es = c.self.inside.pages.entries in
    let absent : IsAbsent c.args.entry.stamp es = subst (λ (v : Listing). IsAbsent c.args.entry.stamp v.entries) (sym c.self.view_is) c.requires.absent in
    c.self.invariant.1.only c.args.entry.stamp (absent-none c.args.entry.stamp es absent)

-- what both lists and the count keep, with the entry put in
both : (shown : ℕ) (es new : List Entry) (known more : List Stamp) (i : ℕ) (e : Entry) → AreDistinct es → Knows known (stamps_of es) → shown ≡ count_by is_shown es → IsAbsent e.stamp es → i ≤ length es → new ≡ insert es i e → ((k : ℕ) × (k ≤ length known) × (more ≡ insert known k e.stamp)) → AreDistinct new × Knows more (stamps_of new) × (shown + bool_byte (is_shown e) ≡ count_by is_shown new)
both shown es new known more i e d k s a l put there =
    let is : stamps_of new ≡ insert (stamps_of es) i e.stamp = ap stamps_of put ∙ map-insert (λ (x : Entry). x.stamp) es i e in
    let within : i ≤ length (stamps_of es) = rw (length-stamps es) l in (
      subst AreDistinct (sym put) (distinct-insert es i e d a),
      subst (λ (ts : List Stamp). Knows ts (stamps_of new)) (sym there.2) (subst (λ (ts : List Stamp). Knows (insert known there.0 e.stamp) ts) (sym is) (knows-insert known (stamps_of es) there.0 i e.stamp there.1 within k)),
      (let n = shown-insert es i e in rw put (omega (arith, s, n))),
    )

pub invariant_of-self : goal.invariant_of-self
invariant_of-self g c =
    let es = c.self.inside.pages.entries in
    let absent : IsAbsent c.args.entry.stamp es = subst (λ (v : Listing). IsAbsent c.args.entry.stamp v.entries) (sym c.self.view_is) c.requires.absent in
    let within : c.args.i ≤ length es = subst (λ (v : Listing). c.args.i ≤ length v.entries) (sym c.self.view_is) c.requires.within in
    both c.self.inside.shown es c.insert-placed.new.self.entries c.self.inside.index.stamps c.put.new.self.stamps c.args.i c.args.entry c.self.invariant.0 c.self.invariant.1 c.self.invariant.2 absent within (c.insert-placed.ensures.put ∙ ap (λ (e : Entry). insert es c.args.i e) c.of.ensures) c.put.ensures.put

pub invariant_of-self-else-from-len : goal.invariant_of-self-else-from-len
invariant_of-self-else-from-len g c =
    let es = c.self.inside.pages.entries in
    let absent : IsAbsent c.args.entry.stamp es = subst (λ (v : Listing). IsAbsent c.args.entry.stamp v.entries) (sym c.self.view_is) c.requires.absent in
    let within : c.args.i ≤ length es = subst (λ (v : Listing). c.args.i ≤ length v.entries) (sym c.self.view_is) c.requires.within in
    both c.self.inside.shown es c.insert-placed.new.self.entries c.self.inside.index.stamps c.put.new.self.stamps c.args.i c.args.entry c.self.invariant.0 c.self.invariant.1 c.self.invariant.2 absent within (c.insert-placed.ensures.put ∙ ap (λ (e : Entry). insert es c.args.i e) c.of.ensures) c.put.ensures.put

pub invariant_of-self-then-len-capacity : goal.invariant_of-self-then-len-capacity
invariant_of-self-then-len-capacity g c =
    let es = c.self.inside.pages.entries in
    let absent : IsAbsent c.args.entry.stamp es = subst (λ (v : Listing). IsAbsent c.args.entry.stamp v.entries) (sym c.self.view_is) c.requires.absent in
    let within : c.args.i ≤ length es = subst (λ (v : Listing). c.args.i ≤ length v.entries) (sym c.self.view_is) c.requires.within in
    both c.self.inside.shown es c.insert-placed.new.self.entries c.self.inside.index.stamps c.put.new.self.stamps c.args.i c.args.entry c.self.invariant.0 c.self.invariant.1 c.self.invariant.2 absent within (c.insert-placed.ensures.put ∙ ap (λ (e : Entry). insert es c.args.i e) c.of.ensures) c.put.ensures.put

pub invariant_of-self-else-len-capacity : goal.invariant_of-self-else-len-capacity
invariant_of-self-else-len-capacity g c =
    let es = c.self.inside.pages.entries in
    let absent : IsAbsent c.args.entry.stamp es = subst (λ (v : Listing). IsAbsent c.args.entry.stamp v.entries) (sym c.self.view_is) c.requires.absent in
    let within : c.args.i ≤ length es = subst (λ (v : Listing). c.args.i ≤ length v.entries) (sym c.self.view_is) c.requires.within in
    let two = both c.self.inside.shown es c.insert-placed.new.self.entries c.self.inside.index.stamps c.put.new.self.stamps c.args.i c.args.entry c.self.invariant.0 c.self.invariant.1 c.self.invariant.2 absent within (c.insert-placed.ensures.put ∙ ap (λ (e : Entry). insert es c.args.i e) c.of.ensures) c.put.ensures.put in
    (two.0, subst (λ (ts : List Stamp). Knows ts (stamps_of c.insert-placed.new.self.entries)) (sym c.renew_all.ensures.same) two.1, two.2)

pub overflow_add-self : goal.overflow_add-self
overflow_add-self g c =
    let es = c.self.inside.pages.entries in
    let new = c.insert-placed.new.self.entries in
    let put : new ≡ insert es c.args.i c.args.entry = c.insert-placed.ensures.put ∙ ap (λ (e : Entry). insert es c.args.i e) c.of.ensures in
    let more = shown-insert es c.args.i c.args.entry in
    let is = ap (λ (l : List Entry). count_by is_shown l) put in
    let most = count_by-le-length is_shown new in
    omega (arith, c.self.invariant.2, more, is, most, c.insert-placed.ensures.few)
