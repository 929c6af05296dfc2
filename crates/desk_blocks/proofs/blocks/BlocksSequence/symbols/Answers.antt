use Rattle.std.proofs.Common.{◌≡◌, ◌≤◌, ◌-◌, ◌∙◌, ap, arith, length, min, length-take, length-drop}
use Rattle.std.proofs.lemmas.List.{take_all}
use Rattle.desk_seq.specs.Entries.{Listing, shown_symbols}
use Rattle.desk_seq.proofs.Shows.{part-more}
use Rattle.desk_blocks.proofs.blocks.BlocksSequence.symbols.Goals as goal

pub loop-at-preserved : goal.loop-at-preserved
loop-at-preserved g c =
    let es = c.self.inside.pages.entries in
    let n : length c.stretch-part.result.now ≡ min (length c.stretch-part.result.now) (length es - c.loop-at.at) = ap length c.stretch-part.ensures.is ∙ simp (length-take, length-drop) in
    record {
      within = omega (arith, n, c.loop-at.invariant.within);
      shown = part-more es c.stretch-part.result.now c.loop-at.at c.loop-at.symbols.items c.add_shown.new.symbols.items c.stretch-part.ensures.is c.loop-at.invariant.shown c.in_ok-add_shown.ensures;
    }

pub returns : goal.returns
returns g c =
    let es = c.self.inside.pages.entries in
    let l : length es ≤ c.loop-at.at = omega arith in
    c.loop-at.invariant.shown ∙ ap shown_symbols (take_all c.loop-at.at es l) ∙ ap (λ (v : Listing). shown_symbols v.entries) c.self.view_is
