-- Lines one after the other, by where they stand.
use Rattle.std.proofs.Common.{◌≡◌, ℕ, suc, ◌+◌, ◌<◌, List, [], ◌∷◌, ◌++◌, length, drop, get_or, refl, sym, ap, ◌∙◌, append_assoc, arith, length-append, drop-cons, add-one}
use Rattle.desk_ops.specs.declared.op.Symbol.{Symbol}
use Rattle.desk_lines.specs.declared.words.Word.{Word}
use Rattle.desk_lines.specs.Words.{words_of}
use Rattle.desk_job.specs.Job.{Terms}
use Rattle.view_galley.specs.Values.{LineValues}
use Rattle.view_galley.specs.Line.{Placed}
use Rattle.view_galley.specs.Galley.{all_placed, galley_of, numbered, placed_in, with_lines}

numbered_append : (terms : Terms) (copy : List Symbol) (n : ℕ) (prefix back : List Placed) →
    numbered terms copy n (prefix ++ back) ≡ numbered terms copy n prefix ++ numbered terms copy (n + length prefix) back
numbered_append terms copy n [] back = let e : n + 0 ≡ n = omega arith in rw e refl
numbered_append terms copy n (placed ∷ prefix) back =
    let e : n + suc (length prefix) ≡ suc n + length prefix = omega arith in
    rw (numbered_append terms copy (suc n) prefix back, e) refl

numbered_length : (terms : Terms) (copy : List Symbol) (n : ℕ) (ps : List Placed) → length (numbered terms copy n ps) ≡ length ps
numbered_length terms copy n [] = refl
numbered_length terms copy n (placed ∷ ps) = ap suc (numbered_length terms copy (suc n) ps)

-- lines that come after others come after all of them
pub with_more : (terms : Terms) (copy : List Symbol) (done : List LineValues) (prefix back : List Placed) →
    with_lines terms copy (with_lines terms copy done prefix) back ≡ with_lines terms copy done (prefix ++ back)
with_more terms copy done prefix back =
    let here = numbered terms copy (length done + 1) prefix in
    let long = length-append done here in
    let wide = numbered_length terms copy (length done + 1) prefix in
    let e : length (done ++ here) + 1 ≡ (length done + 1) + length prefix = omega (arith, long, wide) in
    rw e (append_assoc done here (numbered terms copy ((length done + 1) + length prefix) back)
    ∙ ap (λ (l : List LineValues). done ++ l) (sym (numbered_append terms copy (length done + 1) prefix back)))

-- the next paragraph, where these are still to come
pub next_paragraph : (terms : Terms) (copy : List Symbol) (found : List (List Word)) (i : ℕ) (d ws : List Word) (done new all : List LineValues) →
    i < length found → ws ≡ get_or found i d → new ≡ with_lines terms copy done (placed_in terms copy ws) →
    with_lines terms copy done (all_placed terms copy (drop i found)) ≡ all →
    with_lines terms copy new (all_placed terms copy (drop (i + 1) found)) ≡ all
next_paragraph terms copy found i d ws done new all below is grown before =
    let split : all_placed terms copy (drop i found) ≡ placed_in terms copy ws ++ all_placed terms copy (drop (i + 1) found) =
    rw (add-one, drop-cons found i d below, is) refl in
    ap (λ (l : List LineValues). with_lines terms copy l (all_placed terms copy (drop (i + 1) found))) grown
    ∙ (with_more terms copy done (placed_in terms copy ws) (all_placed terms copy (drop (i + 1) found))
    ∙ (ap (with_lines terms copy done) (sym split) ∙ before))

-- all lines, where there were none
pub from_none : (terms : Terms) (copy : List Symbol) (done new : List LineValues) (found : List (List Word)) →
    done ≡ [] → found ≡ words_of copy → new ≡ with_lines terms copy done (all_placed terms copy found) → new ≡ galley_of terms copy
from_none terms copy done new found none are is =
    is ∙ (ap (λ (l : List LineValues). with_lines terms copy l (all_placed terms copy found)) none
    ∙ ap (λ (f : List (List Word)). numbered terms copy 1 (all_placed terms copy f)) are)
