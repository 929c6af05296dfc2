-- Symbols inserted one after another.
use Rattle.std.proofs.Common.{◌≡◌, ℕ, suc, ◌+◌, ◌<◌, List, length, drop, get_or, sym, subst, arith, drop-cons, refl}
use Rattle.std.specs.Prelude.{Option, Some, Ok, Err}
use Rattle.desk_ops.specs.declared.op.Op.{Op}
use Rattle.desk_ops.specs.declared.op.Stamp.{Stamp}
use Rattle.desk_ops.specs.declared.op.Symbol.{Symbol}
use Rattle.desk_ops.specs.Op.{stamp_of}
use Rattle.script_answers.specs.NotDone.{event_reply}
use Rattle.script_answers.specs.Reply.{ReplyValues}
use Rattle.script_world.specs.Sites.{Sites}
use Rattle.script_world.specs.World.{Steps}
use Rattle.script_world.specs.World as events
use Rattle.script_world.specs.declared.world.Answer.TheVariants as answers
use Rattle.script_world.specs.declared.world.StepRefusal.{StepRefusal}
use Rattle.desk_script.specs.Insert.{Inserts, first_of, after}

-- the next symbol is refused
pub stops_at : (old mid : Sites) (n place k : ℕ) (made : Option (Stamp × Stamp)) (copy : List Symbol) (i : ℕ) (d : Symbol) (why : StepRefusal) (reply : ReplyValues) → i < length copy
    → Steps old (events.Insert n (place + k) (get_or copy i d)) (Err why) mid → reply ≡ after k (event_reply (Err why)) → Inserts old n place (drop i copy) k made reply mid
stops_at old mid n place k made copy i d why reply lt steps is =
    let Q : List Symbol → Type 0 = λ ys. Inserts old n place ys k made reply mid in
    subst Q (sym (drop-cons copy i d lt)) (mid, Err why, steps, (sym is, refl))

-- the next symbol is inserted, and then the others
pub goes_on : (old mid new : Sites) (n place k : ℕ) (made : Option (Stamp × Stamp)) (copy : List Symbol) (i : ℕ) (d : Symbol) (op : Op) (reply : ReplyValues) → i < length copy →
    Steps old (events.Insert n (place + k) (get_or copy i d)) (Ok (answers.Made op)) mid →
    Inserts mid n place (drop (i + 1) copy) (k + 1) (Some (first_of made (stamp_of op), stamp_of op)) reply new →
    Inserts old n place (drop i copy) k made reply new
goes_on old mid new n place k made copy i d op reply lt steps rest =
    let Q : List Symbol → Type 0 = λ ys. Inserts old n place ys k made reply new in
    let next : i + 1 ≡ suc i = omega arith in
    let there : Inserts mid n place (drop (suc i) copy) (k + 1) (Some (first_of made (stamp_of op), stamp_of op)) reply new = subst (λ m. Inserts mid n place (drop m copy) (k + 1) (Some (first_of made (stamp_of op), stamp_of op)) reply new) next rest in
    subst Q (sym (drop-cons copy i d lt)) (mid, Ok (answers.Made op), steps, there)
