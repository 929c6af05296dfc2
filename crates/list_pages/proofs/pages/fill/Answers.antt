use Rattle.std.proofs.Common.{◌≡◌, ◌++◌, ◌∙◌, ◌∷◌, ◌+◌, ◌≤◌, ◌^◌, [], ap, List, length, length-append, append_assoc, arith}
use Rattle.std.proofs.lemmas.List.{take-append-drop}
use Rattle.list_pages.specs.Pages.{joined}
use Rattle.list_pages.proofs.Cuts.{joined-push, half-push, closed-push}
use Rattle.list_pages.proofs.pages.fill.Goals as goal

pub loop-rest-preserved : goal.loop-rest-preserved
loop-rest-preserved g c =
    let pages = c.loop-rest.pages.pages in
    let part = c.split_at.result.0.now in
    let tail = c.split_at.result.1.now in
    let i = c.loop-rest.invariant in
    let m = c.min.ensures in
    let f = c.split_at.ensures.front_len in
    let b = c.split_at.ensures.back_len in
    let whole : part ++ tail ≡ c.loop-rest.rest.now = rw (c.split_at.ensures.front, c.split_at.ensures.back) (take-append-drop c.min.result c.loop-rest.rest.now) in
    let n = length-append pages (part ∷ []) in
    let j = ap length (joined-push pages part) in
    let k = length-append (joined pages) part in
    let all = ap length i.all in
    let a = length-append (joined pages) c.loop-rest.rest.now in
    let count = i.count c.loop-rest-test.true in
    let stocked = ap length c.stock-in-loop-rest.ensures.same in
    let put = ap length c.push.ensures.put in
    let more = ap length (ap (λ (z : List (List _)). z ++ part ∷ []) c.stock-in-loop-rest.ensures.same) in
    let few : length c.push.new.self.pages + c.push.new.self.free ≤ 2 ^ 41 = omega (arith, c.push.ensures.free, c.stock-in-loop-rest.ensures.most, i.few, stocked, put, more, n, all, a, count, c.len.ensures, c.requires) in
    rw (c.push.ensures.put, c.stock-in-loop-rest.ensures.same) (record {
      all = ap (λ (l : List _). l ++ tail) (joined-push pages part) ∙ append_assoc (joined pages) part tail ∙ ap (λ (l : List _). joined pages ++ l) whole ∙ i.all;
      half = half-push pages part (omega arith) i.half (i.closed c.loop-rest-test.true);
      closed = λ h. closed-push pages part (omega arith);
      few = rw (c.push.ensures.put, c.stock-in-loop-rest.ensures.same) at few;
      count = λ h. omega (arith, n, j, k, count);
    })
