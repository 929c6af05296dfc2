-- Runs of one call more, and two runs of the same calls.
use Rattle.std.proofs.Common.{◌≡◌, ℕ, ◌+◌, ◌<◌, List, [], ◌∷◌, ◌++◌, map, length, take, get_or, subst, sym, refl, ap, ◌∙◌}
use Rattle.std.specs.List.{AllByRecursion}
use Rattle.std.proofs.lemmas.List.{map-append, map_more}
use Rattle.desk_ops.specs.OpSet.{OpSet}
use Rattle.desk_replica.specs.State.{State}
use Rattle.desk_replica.specs.Calls.{Call, Answer, Allows, Runs, HasMemory}
use Rattle.desk_replica.specs.Laws.{OneRun}
use Rattle.test_replica.specs.declared.asked.Asked.{Asked}
use Rattle.test_replica.specs.Asked.{call_of}

pub runs-on : (s t u : State) (calls : List Call) (answers : List Answer) (call : Call) (answer : Answer) → Runs s calls answers t → Allows t call answer u
    → Runs s (calls ++ call ∷ []) (answers ++ answer ∷ []) u
runs-on s t u [] [] call answer h k = (u, subst (λ (w : State). Allows w call answer u) h k, refl)
runs-on s t u [] (a ∷ answers) call answer h k = absurd h
runs-on s t u (c ∷ calls) [] call answer h k = absurd h
runs-on s t u (c ∷ calls) (a ∷ answers) call answer h k = (h.0, h.1, runs-on h.0 t u calls answers call answer h.2 k)

-- a call of a list, and the answer that was kept behind those before it
pub runs-more : {X Y : Type 0} (f : X → Call) (g : Y → Answer) (s t u : State) (calls : List X) (i : ℕ) (d : X) (before after : List Y) (given : Y) → i < length calls → after ≡ before ++ given ∷ []
    → Runs s (map f (take i calls)) (map g before) t → Allows t (f (get_or calls i d)) (g given) u → Runs s (map f (take (i + 1) calls)) (map g after) u
runs-more {X} {Y} f g s t u calls i d before after given lt pushed h k =
    let cs : List Call = map f (take i calls) in
    let call : Call = f (get_or calls i d) in
    let one : Runs s (cs ++ call ∷ []) (map g before ++ g given ∷ []) u = runs-on s t u cs (map g before) call (g given) h k in
    let answers : map g after ≡ map g before ++ g given ∷ [] = ap (map g) pushed ∙ map-append g before (given ∷ []) in
    let asked : map f (take (i + 1) calls) ≡ cs ++ call ∷ [] = map_more f calls i d lt in
    subst (λ (l : List Call). Runs s l (map g after) u) (sym asked) (subst (λ (l : List Answer). Runs s (cs ++ call ∷ []) l u) (sym answers) one)

-- over two kinds of sequence, where what merges read holds the same
pub same-answers : OneRun → (s t u v : State) (h k : OpSet) (calls : List Asked) (answers others : List Answer) → s.site ≡ t.site → s.ops ≡ t.ops → h ≡ k → Runs s (map (call_of h) calls) answers u → Runs t (map (call_of k) calls) others v
    → AllByRecursion HasMemory answers → AllByRecursion HasMemory others → answers ≡ others
same-answers law s t u v h k calls answers others site ops e x y m n =
    (law.alike s t u v (map (call_of h) calls) answers others site ops x (subst (λ (w : OpSet). Runs t (map (call_of w) calls) others v) (sym e) y) m n).0
