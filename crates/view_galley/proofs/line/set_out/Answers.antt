use Rattle.std.proofs.Common.{refl, ◌∙◌}
use Rattle.desk_job.proofs.LineSizes.{left_of}
use Rattle.view_galley.proofs.SetOut.{next_rest, set_out_is}
use Rattle.view_galley.proofs.line.set_out.Goals as goal

pub returns : goal.returns
returns g c =
    set_out_is c.args.terms.now c.args.all.copy.now c.args.all.words.now c.args.all.widths.now c.args.group.now c.args.filled c.args.number c.total-width.result
    c.has_added-added.result c.spaces-spaces.result c.rest-rest.result c.fills-fills.result.items c.left-left.result c.free-free.result _
    (record {
      range = c.requires.group;
      are = c.requires.widths;
      width_is = c.total-width.ensures.value;
      added_is = c.has_added-added.ensures;
      count_is = c.spaces-spaces.ensures;
      rem_is = c.rest-rest.ensures.value;
      counts_are = c.fills-fills.ensures.value;
      gap_is = left_of _ _ _ _ _ c.as_slice.ensures.value c.left-left.ensures;
      room_is = c.free-free.ensures.value;
    })
    (record {
      number_kept = refl;
      words_kept = c.in_ok-from_slice.ensures.items;
      filled_kept = refl;
      added_kept = refl;
      spaces_kept = refl;
      width_kept = c.neutral_width.ensures;
      rest_kept = refl;
      fills_kept = refl;
      wedge_sum_kept = c.sum_at-wedge_sum.ensures;
      faults_kept = c.fault_at-fault.ensures;
      next_kept = c.next_word-next.ensures ∙ next_rest c.free-free.result c.args.all.words.now c.args.all.widths.now c.args.group.now.to;
    })
