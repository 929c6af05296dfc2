-- Lists of events, one event at a time.
use Rattle.std.proofs.Common.{◌≡◌, ℕ, zero, suc, ◌+◌, ◌<◌, List, [], ◌∷◌, ◌++◌, map, length, take, get_or, refl, sym, ap, ◌∙◌, subst, arith}
use Rattle.std.specs.Prelude.{Result}
use Rattle.script_world.specs.declared.world.Answer.{Answer}
use Rattle.script_world.specs.declared.world.StepRefusal.{StepRefusal}
use Rattle.script_world.specs.declared.world.Event.{Event}
use Rattle.script_world.specs.Sites.{Sites}
use Rattle.script_world.specs.World.{EventValues, event_values, Steps}
use Rattle.script_world.specs.Plays.{Plays}

-- one event more, at the end
plays_push : (old mid new : Sites) (cs : List EventValues) (rs : List (Result Answer StepRefusal)) (c : EventValues) (r : Result Answer StepRefusal) → Plays old cs rs mid → Steps mid c r new → Plays old (cs ++ c ∷ []) (rs ++ r ∷ []) new
plays_push old mid new [] [] c r p s = (new, subst (λ (o : Sites). Steps o c r new) p s, refl)
plays_push old mid new [] (q ∷ rs) c r p s = absurd p
plays_push old mid new (b ∷ cs) [] c r p s = absurd p
plays_push old mid new (b ∷ cs) (q ∷ rs) c r p s = (p.0, p.1, plays_push p.0 mid new cs rs c r p.2 s)

take_more : (es : List Event) (k : ℕ) (d : Event) → k < length es → map event_values (take (k + 1) es) ≡ map event_values (take k es) ++ event_values (get_or es k d) ∷ []
take_more [] k d lt = absurd (omega arith)
take_more (e ∷ es) zero d lt = refl
take_more (e ∷ es) (suc k) d lt = let i : suc k + 1 ≡ suc (k + 1) = omega arith in ap (λ n. map event_values (take n (e ∷ es))) i ∙ ap (λ cs. event_values e ∷ cs) (take_more es k d (omega arith))

pub plays_on : (old mid new : Sites) (es : List Event) (k : ℕ) (d : Event) (rs : List (Result Answer StepRefusal)) (r : Result Answer StepRefusal) → k < length es → Plays old (map event_values (take k es)) rs mid → Steps mid (event_values (get_or es k d)) r new
    → Plays old (map event_values (take (k + 1) es)) (rs ++ r ∷ []) new
plays_on old mid new es k d rs r lt p s = subst (λ cs. Plays old cs (rs ++ r ∷ []) new) (sym (take_more es k d lt)) (plays_push old mid new (map event_values (take k es)) rs (event_values (get_or es k d)) r p s)
