-- How high pages are.
use Rattle.std.proofs.Common.{◌≡◌, ℕ, zero, suc, ◌+◌, ◌-◌, ◌*◌, ◌/◌, ◌<◌, ◌≤◌, max, arith}
use Rattle.std.proofs.Math.Nat.{mul-div-le, mul-le-mul_left}
use Rattle.view_picture.specs.Paper.{leading}
use Rattle.view_picture.specs.declared.paper.Paper.{Paper}
use Rattle.view_pages.specs.Layouts.{fitting, height_of, lines_a_page, page_height}

-- as many lines as fit have room, and one where that has
have_room : (apart room lines fit : ℕ) → apart ≤ room → apart * fit ≤ room → lines ≤ max 1 fit → apart * lines ≤ room
have_room apart room lines zero one most below =
    let product = mul-le-mul_left {m = lines} {n = 1} apart (omega (arith, below)) in
    omega (arith, one, product)
have_room apart room lines (suc fit) one most below =
    let product = mul-le-mul_left {m = lines} {n = suc fit} apart (omega (arith, below)) in
    omega (arith, most, product)

-- the same with what is above and below them
are_within : (top apart half high lines : ℕ) → top + (apart * 1 + half + 1000) ≤ high → apart * lines ≤ high - (top + (apart * 0 + half + 1000))
    → top + (apart * lines + half + 1000) ≤ high
are_within top apart half high lines one room = omega (arith, one, room)

has_one : (top apart half high : ℕ) → top + (apart * 1 + half + 1000) ≤ high → apart ≤ high - (top + (apart * 0 + half + 1000))
has_one top apart half high one = omega (arith, one)

-- where so many points are enough for one line, they are for as many as fit
pub fits : (paper : Paper) (height lines : ℕ) → height_of paper 1 ≤ height * 100 → lines ≤ lines_a_page paper height → height_of paper lines ≤ height * 100
fits paper height lines enough below =
    are_within paper.top (leading paper) (paper.set / 2) (height * 100) lines enough
    (have_room (leading paper) (height * 100 - height_of paper 0) lines (fitting paper height)
    (has_one paper.top (leading paper) (paper.set / 2) (height * 100) enough)
    (mul-div-le (height * 100 - height_of paper 0) (leading paper)) below)

larger : (a b : ℕ) → b ≤ a → max a b ≡ a
larger a b below = omega (arith, below)

pub as_asked : (paper : Paper) (height : ℕ) → height_of paper 1 ≤ height * 100 → page_height paper height ≡ height * 100
as_asked paper height enough = larger (height * 100) (height_of paper 1) enough
