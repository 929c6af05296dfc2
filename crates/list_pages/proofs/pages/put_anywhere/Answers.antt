use Rattle.std.proofs.Common.{◌+◌, ◌-◌, ◌∙◌, [], sym, ap, List, length, get_or, arith}
use Rattle.std.specs.List.{insert}
use Rattle.std.proofs.lemmas.List.{length-set, take-set-le}
use Rattle.std.proofs.lemmas.List.Edits.{insert_end}
use Rattle.list_pages.specs.Pages.{joined, start_of, IsHalfFull}
use Rattle.list_pages.proofs.Cuts.{free-some, gap-insert, gap-half, kept-more, end-is, end-le}
use Rattle.list_pages.proofs.Kept.{take-fewer}
use Rattle.list_pages.proofs.pages.put_anywhere.Goals as goal

pub gap-q-requires-clause-some : goal.gap-q-requires-clause-some
gap-q-requires-clause-some g c =
    let k = c.requires.kept in
    let f = free-some c.args.pages.now.pages c.args.pages.now.free (length c.args.pages.now.pages + c.args.pages.now.free) c.args.len k.half k.is_len c.requires.spare (omega arith) in
    omega (arith, f)

pub open_first-requires-clause-some : goal.open_first-requires-clause-some
open_first-requires-clause-some g c =
    let k = c.requires.kept in
    let f = free-some c.args.pages.now.pages c.args.pages.now.free (length c.args.pages.now.pages + c.args.pages.now.free) c.args.len k.half k.is_len c.requires.spare (omega arith) in
    omega (arith, f)

pub open-requires-clause-some : goal.open-requires-clause-some
open-requires-clause-some g c =
    let k = c.requires.kept in
    let f = free-some c.args.pages.now.pages c.args.pages.now.free (length c.args.pages.now.pages + c.args.pages.now.free) c.args.len k.half k.is_len c.requires.spare (omega arith) in
    omega (arith, f)

pub returns-then-p-len-clause-put : goal.returns-then-p-len-clause-put
returns-then-p-len-clause-put g c =
    let gap = c.gap-q.ensures.gap in
    let i = start_of c.args.pages.now.pages c.args.p + c.args.j in
    rw c.insert.ensures.put (gap-insert c.gap-q.new.pages.pages i c.gap-q.result.0 c.gap-q.result.1 c.args.x gap ∙ ap (λ (l : List _). insert l i c.args.x) c.gap-q.ensures.same)

pub returns-then-p-len-clause-count : goal.returns-then-p-len-clause-count
returns-then-p-len-clause-count g c =
    let n = ap length c.insert.ensures.put in
    let m = length-set c.gap-q.new.pages.pages c.gap-q.result.0 (insert (get_or c.gap-q.new.pages.pages c.gap-q.result.0 []) c.gap-q.result.1 c.args.x) in
    omega (arith, n, m, c.insert.ensures.free, c.gap-q.ensures.count)

pub returns-then-p-len-clause-kept : goal.returns-then-p-len-clause-kept
returns-then-p-len-clause-kept g c =
    let pages = c.args.pages.now.pages in
    let gap = c.gap-q.ensures.gap in
    let k = c.requires.kept in
    let i = start_of pages c.args.p + c.args.j in
    let put = returns-then-p-len-clause-put g c in
    let all = returns-then-p-len-clause-count g c in
    let half : IsHalfFull c.insert.new.self.pages = rw c.insert.ensures.put (gap-half c.gap-q.new.pages.pages i c.gap-q.result.0 c.gap-q.result.1 c.args.x gap c.gap-q.ensures.half) in
    kept-more pages c.insert.new.self.pages i c.args.len c.args.pages.now.free (length c.insert.new.self.pages + c.insert.new.self.free) c.args.x k.is_len (end-le pages c.args.p c.args.j c.args.len c.requires.spot k.is_len) put half (omega (arith, k.few, all)) (omega (arith, c.requires.spare, all))

pub returns-then-p-len-clause-before : goal.returns-then-p-len-clause-before
returns-then-p-len-clause-before g c =
    let cut = c.gap-q.new.pages.pages in
    let p = c.args.p in
    let y = insert (get_or cut c.gap-q.result.0 []) c.gap-q.result.1 c.args.x in
    rw c.insert.ensures.put (take-set-le (p - 1) cut c.gap-q.result.0 y (omega (arith, c.gap-q.ensures.behind)) ∙ take-fewer (p - 1) p cut c.args.pages.now.pages (omega arith) c.gap-q.ensures.before)

pub returns-in-Some-clause-put : goal.returns-in-Some-clause-put
returns-in-Some-clause-put g c =
    let pages = c.args.pages.now.pages in
    let i = end-is pages c.args.p c.args.j c.requires.spot (omega (arith, c.len.ensures, c.if-p-len.false)) in
    rw (i, c.insert-in-Some.ensures.put) (gap-insert pages (length (joined pages)) c.in-Some.q c.in-Some.k c.args.x c.in-Some.ensures.gap)

pub returns-in-Some-clause-count : goal.returns-in-Some-clause-count
returns-in-Some-clause-count g c =
    let n = ap length c.insert-in-Some.ensures.put in
    let m = length-set c.args.pages.now.pages c.in-Some.q (insert (get_or c.args.pages.now.pages c.in-Some.q []) c.in-Some.k c.args.x) in
    omega (arith, n, m, c.insert-in-Some.ensures.free)

pub returns-in-Some-clause-kept : goal.returns-in-Some-clause-kept
returns-in-Some-clause-kept g c =
    let pages = c.args.pages.now.pages in
    let k = c.requires.kept in
    let put = returns-in-Some-clause-put g c in
    let all = returns-in-Some-clause-count g c in
    let half : IsHalfFull c.insert-in-Some.new.self.pages = rw c.insert-in-Some.ensures.put (gap-half pages (length (joined pages)) c.in-Some.q c.in-Some.k c.args.x c.in-Some.ensures.gap k.half) in
    kept-more pages c.insert-in-Some.new.self.pages (start_of pages c.args.p + c.args.j) c.args.len c.args.pages.now.free (length c.insert-in-Some.new.self.pages + c.insert-in-Some.new.self.free) c.args.x k.is_len (end-le pages c.args.p c.args.j c.args.len c.requires.spot k.is_len) put half (omega (arith, k.few, all)) (omega (arith, c.requires.spare, all))

pub returns-in-None-clause-put : goal.returns-in-None-clause-put
returns-in-None-clause-put g c =
    let pages = c.args.pages.now.pages in
    let i = end-is pages c.args.p c.args.j c.requires.spot (omega (arith, c.len.ensures, c.if-p-len.false)) in
    rw (i, c.open.ensures.put) (sym (insert_end (joined pages) c.args.x))

pub returns-in-None-clause-kept : goal.returns-in-None-clause-kept
returns-in-None-clause-kept g c =
    let pages = c.args.pages.now.pages in
    let k = c.requires.kept in
    kept-more pages c.open.new.pages.pages (start_of pages c.args.p + c.args.j) c.args.len c.args.pages.now.free (length c.open.new.pages.pages + c.open.new.pages.free) c.args.x k.is_len (end-le pages c.args.p c.args.j c.args.len c.requires.spot k.is_len) (returns-in-None-clause-put g c) c.open.ensures.half (omega (arith, k.few, c.open.ensures.count)) (omega (arith, c.requires.spare, c.open.ensures.count))
