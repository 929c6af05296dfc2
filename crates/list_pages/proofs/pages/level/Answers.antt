use Rattle.std.proofs.Common.{◌-◌, ◌/◌, ◌<◌, ◌≤◌, ◌+◌, ◌++◌, ◌≡◌, suc, length, get_or, take, drop, [], subst, List, add-one, arith}
use Rattle.list_pages.proofs.Shorts.{short-half, short-last, short-prefix, last-off, last-empty, join-is, share-is, merge-joined, merge-half, share-joined, share-half}
use Rattle.std.specs.List.{remove}
use Rattle.std.proofs.lemmas.List.Edits.{length-remove}
use Rattle.list_pages.specs.Pages.{IsShortAt}
use Rattle.list_pages.proofs.pages.level.Goals as goal

pub returns-then-len-eq0-clause-same : goal.returns-then-len-eq0-clause-same
returns-then-len-eq0-clause-same g c =
    let pages = c.args.pages.now.pages in
    rw c.close.ensures.rest (last-empty pages c.args.p (omega (arith, c.if-next-count.true, c.len-count.ensures)) (omega (arith, c.if-len-eq0.true, c.len_of-len.ensures.len)))

pub returns-then-len-eq0-clause-half : goal.returns-then-len-eq0-clause-half
returns-then-len-eq0-clause-half g c =
    let pages = c.args.pages.now.pages in
    let e = last-off pages c.args.p (omega (arith, c.if-next-count.true, c.len-count.ensures)) in
    let n = length-remove pages c.args.p c.requires.within in
    rw c.close.ensures.rest (short-prefix (remove pages c.args.p) (get_or pages c.args.p []) c.args.p (subst (λ (z : List (List _)). IsShortAt z c.args.p) e c.requires.short) (omega (arith, n, c.if-next-count.true, c.len-count.ensures)))

pub returns-else-len-eq0-clause-half : goal.returns-else-len-eq0-clause-half
returns-else-len-eq0-clause-half g c =
    let pages = c.args.pages.now.pages in
    short-last pages c.args.p c.requires.short (omega (arith, c.if-next-count.true, c.len-count.ensures)) (omega (arith, c.if-len-eq0.false, c.len_of-len.ensures.len))

pub returns-then-len-ge-HALF-clause-half : goal.returns-then-len-ge-HALF-clause-half
returns-then-len-ge-HALF-clause-half g c =
    let pages = c.args.pages.now.pages in
    short-half pages c.args.p c.requires.short c.requires.within (omega (arith, c.if-len-ge-HALF.true, c.len_of-len.ensures.len))

pub returns-then-len-more-le-FULL-clause-same : goal.returns-then-len-more-le-FULL-clause-same
returns-then-len-more-le-FULL-clause-same g c =
    let pages = c.args.pages.now.pages in
    let p = c.args.p in
    let l : suc p < length pages = omega (arith, c.requires.within, c.if-next-count.false, c.len-count.ensures) in
    rw (c.join.ensures.joined, add-one, join-is pages p (get_or pages p [] ++ get_or pages (suc p) []) l) (merge-joined pages p l)

pub returns-then-len-more-le-FULL-clause-half : goal.returns-then-len-more-le-FULL-clause-half
returns-then-len-more-le-FULL-clause-half g c =
    let pages = c.args.pages.now.pages in
    let p = c.args.p in
    let l : suc p < length pages = omega (arith, c.requires.within, c.if-next-count.false, c.len-count.ensures) in
    rw (c.join.ensures.joined, add-one, join-is pages p (get_or pages p [] ++ get_or pages (suc p) []) l) (merge-half pages p c.requires.short l)

pub returns-else-len-more-le-FULL-clause-same : goal.returns-else-len-more-le-FULL-clause-same
returns-else-len-more-le-FULL-clause-same g c =
    let pages = c.args.pages.now.pages in
    let p = c.args.p in
    let n = (c.len_of-more.result - 128) / 2 in
    let l : suc p < length pages = omega (arith, c.requires.within, c.if-next-count.false, c.len-count.ensures) in
    rw (c.share.ensures.shared, add-one, share-is pages p (get_or pages p [] ++ take n (get_or pages (suc p) [])) (drop n (get_or pages (suc p) [])) l) (share-joined pages p n l)

pub returns-else-len-more-le-FULL-clause-half : goal.returns-else-len-more-le-FULL-clause-half
returns-else-len-more-le-FULL-clause-half g c =
    let pages = c.args.pages.now.pages in
    let p = c.args.p in
    let n = (c.len_of-more.result - 128) / 2 in
    let l : suc p < length pages = omega (arith, c.requires.within, c.if-next-count.false, c.len-count.ensures) in
    let more : c.len_of-more.result ≡ length (get_or pages (suc p) []) = rw add-one at c.len_of-more.ensures.len in
    let some : 1 ≤ n = omega (arith, c.if-len-more-le-FULL.false, c.if-len-ge-HALF.false) in
    let few : n + 128 ≤ length (get_or pages (suc p) []) = omega (arith, c.if-len-more-le-FULL.false, c.if-len-ge-HALF.false, more) in
    rw (c.share.ensures.shared, add-one, share-is pages p (get_or pages p [] ++ take n (get_or pages (suc p) [])) (drop n (get_or pages (suc p) [])) l) (share-half pages p n c.requires.short l some few)
