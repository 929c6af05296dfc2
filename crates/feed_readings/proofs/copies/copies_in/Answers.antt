use Rattle.std.proofs.Common.{◌≡◌, ◌∙◌, ◌+◌, ◌++◌, ◌<◌, length, ℕ, Bool, List, [], ◌∷◌, cond, map, suc, sym, ap, take, add-one, arith}
use Rattle.std.specs.List.{filter}
use Rattle.desk_seq.specs.declared.Entry.{Entry}
use Rattle.desk_seq.specs.Entries.{is_shown}
use Rattle.feed_readings.specs.declared.reading.Shown.{Shown}
use Rattle.feed_readings.specs.Merged.{entered}
use Rattle.feed_readings.specs.Parts.{base_shows, one_shows, other_shows}
use Rattle.feed_readings.proofs.Joined.{shown_more}
use Rattle.feed_readings.proofs.copies.copies_in.Goals as goal

grown : (p : Entry → Bool) (es : List Entry) (n : ℕ) (e : Entry) (old new : List Shown) → old ≡ map entered (filter p (take n es)) → map entered (filter p (take (suc n) es)) ≡ map entered (filter p (take n es)) ++ cond (p e) (entered e ∷ []) []
    → new ≡ old ++ cond (p e) (entered e ∷ []) [] → new ≡ map entered (filter p (take (n + 1) es))
grown p es n e old new was more is = is ∙ ap (λ (l : List Shown). l ++ cond (p e) (entered e ∷ []) []) was ∙ sym more ∙ ap (λ (k : ℕ). map entered (filter p (take k es))) (sym (add-one n))

pub loop-at-preserved : goal.loop-at-preserved
loop-at-preserved g c =
    let es = g.Q.Sequence.entries c.args.sequence.now in
    let n = c.loop-at.at in
    let e = c.entry-entry.result in
    let parts = c.args.parts.now in
    let old = c.loop-at.copies in
    let new = c.put_each.new.copies in
    let len = c.len-at-end.ensures.length in
    let lt : n < length es = omega (arith, c.loop-at-test.true, len) in
    record {
      base = grown (base_shows parts) es n e old.base.items new.base.items c.loop-at.invariant.base (shown_more (base_shows parts) es n e lt c.entry-entry.ensures) c.in_ok-put_each.ensures.base;
      one = grown (one_shows parts) es n e old.one.items new.one.items c.loop-at.invariant.one (shown_more (one_shows parts) es n e lt c.entry-entry.ensures) c.in_ok-put_each.ensures.one;
      other = grown (other_shows parts) es n e old.other.items new.other.items c.loop-at.invariant.other (shown_more (other_shows parts) es n e lt c.entry-entry.ensures) c.in_ok-put_each.ensures.other;
      both = grown is_shown es n e old.both.items new.both.items c.loop-at.invariant.both (shown_more is_shown es n e lt c.entry-entry.ensures) c.in_ok-put_each.ensures.both;
    }
