use Rattle.std.proofs.Common.{◌≡◌, ◌≤◌, ◌+◌, ◌++◌, ◌∷◌, [], List, length, ◌∙◌, sym, ap, subst, arith, rules}
use Rattle.std.specs.Str.{IsUtf8}
use Rattle.std.proofs.lemmas.Str.{IsUtf8-from_ascii}
use Rattle.std.proofs.lemmas.List.{append-nil}
use Rattle.desk_ops.specs.declared.op.Stamp.{Stamp}
use Rattle.feed_stored.specs.Text.{Rises, last_text}
use Rattle.feed_stored.proofs.Lines.{ascii_text}
use Rattle.feed_stored.proofs.Places.{Joins, SplitsAt, joins_more, none_falls, none_first, none_left, splits_more, text_more}
use Rattle.feed_stored.proofs.text.stamps_in.Goals as goal

pub returns-in_default : goal.returns-in_default
returns-in_default g c stamps is = c.in_default.ensures.cases.0 (subst IsUtf8 (sym is.1) (IsUtf8-from_ascii (last_text stamps) (ascii_text 0 stamps is.0)))

pub returns-in_default-first_stamp : goal.returns-in_default-first_stamp
returns-in_default-first_stamp g c stamps is =
    let some : c.lines.rest.now ≡ [] → ⊥ = λ e. search (rules, e) in
    none_first c.args.bytes.now c.lines.stamps.items c.lines.low c.lines.rest.now c.lines.invariant.splits some c.in_default-first_stamp.ensures stamps is.0 is.1

pub returns-then-from-low : goal.returns-then-from-low
returns-then-from-low g c stamps is =
    none_falls c.args.bytes.now c.lines.stamps.items c.lines.low c.lines.rest.now c.lines.invariant.splits c.in-Some.stamp c.in-Some.more.now c.in-Some.ensures.0 c.in-Some.ensures.1 (omega (arith, c.if-from-low.true, c.from.ensures)) stamps is.0 is.1

pub lines-preserved : goal.lines-preserved
lines-preserved g c =
    let low : c.from-low.result + 1 ≡ c.in-Some.stamp.site + 1 = omega (arith, c.from-low.ensures) in
    let least : c.lines.low ≤ c.in-Some.stamp.site = omega (arith, c.if-from-low.false, c.from.ensures) in
    let items : c.push.new.self.items ≡ c.lines.stamps.items ++ c.in-Some.stamp ∷ [] = c.in_ok-push.ensures.items in
    let bytes = c.args.bytes.now in
    let behind = c.in-Some.more.now in
    let joins : Joins c.push.new.self.items (c.from-low.result + 1) = rw items (rw low (joins_more c.lines.stamps.items c.lines.low c.lines.invariant.joins c.in-Some.stamp c.in-Some.ensures.0 least)) in
    let splits : SplitsAt bytes c.push.new.self.items (c.from-low.result + 1) behind =
    rw items (rw low (splits_more bytes c.lines.stamps.items c.lines.low c.lines.rest.now c.lines.invariant.splits c.in-Some.stamp behind c.in-Some.ensures.0 c.in-Some.ensures.1)) in
    record {
      utf8 = search rules;
      small = omega (arith, c.from-low.ensures, c.in-Some.ensures.0.0);
      text = rw items (text_more bytes c.lines.stamps.items c.lines.rest.now c.in-Some.stamp behind c.lines.invariant.text c.in-Some.ensures.1);
      joins = joins;
      splits = splits;
    }

pub returns : goal.returns
returns g c =
    let few : length c.lines.rest.now ≡ 0 = search rules in
    let none : c.lines.rest.now ≡ [] = none_left c.lines.rest.now few in (
      subst (λ (l : List Stamp). Rises 0 l) (append-nil c.lines.stamps.items) (c.lines.invariant.joins [] tt),
      c.lines.invariant.text ∙ ap (λ t. last_text c.lines.stamps.items ++ t) none ∙ append-nil (last_text c.lines.stamps.items),
    )
