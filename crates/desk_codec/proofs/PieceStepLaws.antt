-- However a feed is cut, its pieces give what it gives.
use Rattle.std.proofs.Common.{◌≡◌, ℕ, List, [], ◌∷◌, ◌++◌, sym, ap, subst, ◌∙◌, append_assoc}
use Rattle.std.proofs.lemmas.List.Concat.{flat_map-cons}
use Rattle.std.proofs.lemmas.List.{append-nil}
use Rattle.desk_ops.specs.declared.op.Op.{Op}
use Rattle.desk_codec.specs.declared.fault.FeedFault.{FeedFault}
use Rattle.desk_codec.specs.Fault.{IsFirstFault}
use Rattle.desk_codec.specs.Pieces.{Reader, fresh, Takes, Shows}
use Rattle.desk_codec.specs.PieceSteps.{Call, TakesEach, pieces_of, ops_of, PiecesAreTheFeed}
use Rattle.desk_codec.proofs.PieceLaws.{fresh_sound, joined, joined_shown, fresh_takes, whole_feed, feed_whole, end_fault, shown_fault}

-- after pieces that were taken as one, each further piece is taken as one with them
all_joined : (r s t : Reader) (bytes : List ℕ) (ops : List Op) (calls : List Call) → Takes r bytes ops s → TakesEach s calls t → Takes r (bytes ++ pieces_of calls) (ops ++ ops_of calls) t
all_joined r s t bytes ops [] a e =
    subst (λ (x : Reader). Takes r (bytes ++ []) (ops ++ []) x) (sym e)
    (subst (λ (l : List ℕ). Takes r l (ops ++ []) s) (sym (append-nil bytes)) (subst (λ (l : List Op). Takes r bytes l s) (sym (append-nil ops)) a))
all_joined r s t bytes ops (c ∷ calls) a e =
    let one : Takes r (bytes ++ c.piece) (ops ++ c.ops) e.0 = joined r s e.0 bytes c.piece ops c.ops a e.1 in
    let rest : Takes r ((bytes ++ c.piece) ++ pieces_of calls) ((ops ++ c.ops) ++ ops_of calls) t = all_joined r e.0 t (bytes ++ c.piece) (ops ++ c.ops) calls one e.2 in
    let pieces : (bytes ++ c.piece) ++ pieces_of calls ≡ bytes ++ pieces_of (c ∷ calls) = append_assoc bytes c.piece (pieces_of calls) ∙ ap (λ (l : List ℕ). bytes ++ l) (sym (flat_map-cons (λ (call : Call). call.piece) c calls)) in
    let lists : (ops ++ c.ops) ++ ops_of calls ≡ ops ++ ops_of (c ∷ calls) = append_assoc ops c.ops (ops_of calls) ∙ ap (λ (l : List Op). ops ++ l) (sym (flat_map-cons (λ (call : Call). call.ops) c calls)) in
    subst (λ (l : List ℕ). Takes r l (ops ++ ops_of (c ∷ calls)) t) pieces (subst (λ (l : List Op). Takes r ((bytes ++ c.piece) ++ pieces_of calls) l t) lists rest)

taken : (calls : List Call) (r : Reader) → TakesEach fresh calls r → Takes fresh (pieces_of calls) (ops_of calls) r
taken calls r e = all_joined fresh fresh r [] [] calls fresh_takes e

shown : (calls : List Call) (r : Reader) (piece more : List ℕ) (fault : FeedFault) → TakesEach fresh calls r → Shows r piece fault → IsFirstFault (pieces_of calls ++ (piece ++ more)) fault
shown calls r piece more fault e s =
    let first : IsFirstFault ((pieces_of calls ++ piece) ++ more) fault = shown_fault (pieces_of calls ++ piece) more fault (joined_shown fresh r (pieces_of calls) piece (ops_of calls) fault fresh_sound (taken calls r e) s) in
    subst (λ (l : List ℕ). IsFirstFault l fault) (append_assoc (pieces_of calls) piece more) first

pub pieces_are_the_feed : PiecesAreTheFeed
pieces_are_the_feed = record {
  joined = taken;
  whole = λ calls r e w. whole_feed (pieces_of calls) (ops_of calls) r (taken calls r e) w;
  exactly = λ calls r ops e f. feed_whole (pieces_of calls) (ops_of calls) ops r (taken calls r e) f;
  ended = λ calls r fault e w. end_fault (pieces_of calls) (ops_of calls) r fault (taken calls r e) w;
  shown = shown;
}
