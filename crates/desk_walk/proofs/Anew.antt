-- What follows a set of which nothing was looked at yet: all clear inserts and deletes wait.
use Rattle.std.proofs.Common.{◌≡◌, ℕ, ◌<◌, true, List, [], refl, sym, ap, ◌∙◌, subst, ◌⊎◌, inl, inr, arith}
use Rattle.std.proofs.lemmas.Bool.{true≢false}
use Rattle.desk_ops.specs.declared.op.Op.{Op}
use Rattle.desk_ops.specs.OpSet.{OpSet, no_ops, has_op, size}
use Rattle.desk_ops.specs.Live.{IsClearOp}
use Rattle.desk_ops.specs.Walk.{walk_from}
use Rattle.desk_ops.proofs.OpSets.{no_ops-from_rising, size-from_rising, none-held, none-lawful}
use Rattle.desk_walk.specs.Waiting.{HasTarget}
use Rattle.desk_seq.specs.declared.Entry.{Entry}
use Rattle.desk_walk.specs.Following.{IsDraining, IsSettled}
use Rattle.desk_walk.proofs.Drains.{ends}

pub none-size : size no_ops ≡ 0
none-size = ap size (sym no_ops-from_rising) ∙ size-from_rising [] tt

-- the set's clear inserts and deletes
abbrev pub HoldsClear : OpSet → OpSet → Type 0
HoldsClear h w = (q : Op) → (has_op w q ≡ true → IsClearOp h q × HasTarget q) × (IsClearOp h q × HasTarget q → has_op w q ≡ true)

-- they follow the set from nothing
pub begins : (h : OpSet) (w : OpSet) → HoldsClear h w → (es : List Entry) → es ≡ [] → IsDraining h (has_op w) es 0 0
unfolding walk_from
begins h w holds es e = subst (λ (fs : List Entry). IsDraining h (has_op w) fs 0 0) (sym e) (record {
  follows = record {
    inserts = [];
    taken = record { ascending = tt; of_set = λ x m. absurd m; closed = λ x m. absurd m };
    walk = refl;
    whole = λ x m. absurd m;
    marks = λ f m. absurd m;
    clear = λ o k. ((holds o).0 k).0;
    targets = λ o k. ((holds o).0 k).1;
    untaken = λ x c. inr ((holds _).1 (c, refl));
    apart = λ x m. absurd m;
    deletes = λ s t c. inl ((holds _).1 (c, refl));
  };
  rest = λ j lt o. absurd (none j lt o);
})
  where
    none : (j : ℕ) → j < 1 → (j < 0) ⊎ (0 < j) → ⊥
    none j lt (inl l) = omega arith
    none j lt (inr l) = omega arith

-- no set, and nothing that follows it
pub settled-none : (h : OpSet) (es : List Entry) (w : OpSet) → h ≡ no_ops → es ≡ [] → w ≡ no_ops → IsSettled h es w
settled-none h es w e f k =
    subst (λ (v : OpSet). IsSettled v es w) (sym e) (subst (λ (fs : List Entry). IsSettled no_ops fs w) (sym f) (subst (λ (v : OpSet). IsSettled no_ops [] v) (sym k) nothing))
  where
    none : (q : Op) → has_op no_ops q ≡ true → ⊥
    none q e = true≢false (sym e ∙ none-held q)

    nothing : IsSettled no_ops [] no_ops
    nothing = ends no_ops none-lawful no_ops no_ops [] 0 0 (begins no_ops no_ops (λ q. ((λ e. absurd (none q e)), (λ c. absurd (none q c.0.0)))) [] refl) (omega arith) tt (omega arith) (λ q e. absurd (none q e))
