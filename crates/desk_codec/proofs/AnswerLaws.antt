-- What reading answers is the one list, or the first fault.
use Rattle.std.proofs.Common.{ℕ, List, [], ◌∷◌, All, Result, Ok, Err, ap}
use Rattle.std.specs.Prelude.{IfOk, IfErr}
use Rattle.std.specs.List.{AllByRecursion}
use Rattle.std.proofs.lemmas.List.Elements.{All-from_recursion}
use Rattle.desk_ops.specs.declared.op.Op.{Op}
use Rattle.desk_ops.specs.Op.{IsLawful}
use Rattle.desk_codec.specs.declared.fault.FeedFault.{FeedFault}
use Rattle.desk_codec.specs.declared.fault.ReadFault.{ReadFault}
use Rattle.desk_codec.specs.declared.fault.ReadFault.TheVariants.{Fault, Failed, NoMemory}
use Rattle.desk_codec.specs.Spelling.{IsHeld}
use Rattle.desk_codec.specs.Feed.{IsFeed}
use Rattle.desk_codec.specs.Fault.{IsFirstFault}
use Rattle.desk_codec.specs.Reading.{Reports, Answers}
use Rattle.desk_codec.specs.Pieces.{Reader, fresh, Takes, RefusesEnd}
use Rattle.desk_codec.proofs.PieceLaws.{end_fault}
use Rattle.desk_codec.proofs.Grammar.{one_list, one_feed}
use Rattle.desk_codec.proofs.FaultLaws.{not_both, one_fault}

done : List Op → Result (List Op) FeedFault
done ops = Ok ops

failed : FeedFault → Result (List Op) FeedFault
failed fault = Err fault

pub answers_list : {V : Type 0} (view : V → List Op) (bytes : List ℕ) (r : Result V ReadFault) → IfOk r (λ v. IsFeed bytes (view v)) → IfErr r (λ fault. Reports bytes fault) → (ops : List Op) → IsFeed bytes ops → Answers view r (Ok ops)
unfolding done
answers_list view bytes (Ok v) f g ops h = ap done (one_list bytes ops (view v) h f)
answers_list view bytes (Err (Fault fault)) f g ops h = absurd (not_both bytes ops fault h g)
answers_list view bytes (Err Failed) f g ops h = absurd g
answers_list view bytes (Err NoMemory) f g ops h = tt

pub answers_fault : {V : Type 0} (view : V → List Op) (bytes : List ℕ) (r : Result V ReadFault) → IfOk r (λ v. IsFeed bytes (view v)) → IfErr r (λ fault. Reports bytes fault) → (fault : FeedFault) → IsFirstFault bytes fault → Answers view r (Err fault)
unfolding failed
answers_fault view bytes (Ok v) f g fault h = absurd (not_both bytes (view v) fault f h)
answers_fault view bytes (Err (Fault reported)) f g fault h = ap failed (one_fault bytes fault reported h g)
answers_fault view bytes (Err Failed) f g fault h = absurd g
answers_fault view bytes (Err NoMemory) f g fault h = tt

each_lawful : (ops : List Op) → AllByRecursion IsHeld ops → AllByRecursion IsLawful ops
each_lawful [] h = tt
each_lawful (op ∷ ops) h = (h.0.lawful, each_lawful ops h.1)

pub all_lawful : {V : Type 0} (view : V → List Op) (bytes : List ℕ) (r : Result V ReadFault) → IfOk r (λ v. IsFeed bytes (view v)) → IfOk r (λ v. All IsLawful (view v))
all_lawful view bytes (Ok v) f = All-from_recursion IsLawful (view v) (each_lawful (view v) (one_feed.held bytes (view v) f))
all_lawful view bytes (Err fault) f = tt

-- ---- one piece of all bytes

pub reports_end : (bytes : List ℕ) (ops : List Op) (fault : ReadFault) (s : Reader) → Takes fresh bytes ops s → RefusesEnd s fault → Reports bytes fault
reports_end bytes ops (Fault fault) s t h = end_fault bytes ops s fault t h
reports_end bytes ops Failed s t h = let e = t.answers_on in absurd cc
reports_end bytes ops NoMemory s t h = absurd h
