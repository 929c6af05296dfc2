-- What a list of pieces gives, fed one after the other.
use Rattle.std.specs.Prelude.{◌≡◌, ℕ, List, [], ◌∷◌, ◌++◌}
use Rattle.std.specs.List.{flat_map}
use Rattle.desk_ops.specs.declared.op.Op.{Op}
use Rattle.desk_codec.specs.declared.fault.FeedFault.{FeedFault}
use Rattle.desk_codec.specs.Feed.{IsFeed}
use Rattle.desk_codec.specs.Fault.{IsFirstFault}
use Rattle.desk_codec.specs.Pieces.{Reader, fresh, Takes, Shows, IsWhole, EndsWrong}

-- a call that took its piece, and the operations that it gave
pub record Call : Type 0 where
  pub piece : List ℕ
  pub ops : List Op

-- the pieces were fed one after the other, and each was taken
abbrev pub TakesEach : Reader → List Call → Reader → Type 0
TakesEach before [] after = after ≡ before
TakesEach before (call ∷ calls) after = (next : Reader) × Takes before call.piece call.ops next
    × TakesEach next calls after

-- the pieces joined
abbrev pub pieces_of : List Call → List ℕ
pieces_of calls = flat_map (λ (call : Call). call.piece) calls

-- the lists joined
abbrev pub ops_of : List Call → List Op
ops_of calls = flat_map (λ (call : Call). call.ops) calls

-- However bytes are cut into pieces, they give what reading them at once gives.
pub record PiecesAreTheFeed : Type 0 where
  -- pieces that are taken one after the other give what they give joined
  pub joined : (calls : List Call) (r : Reader) → TakesEach fresh calls r
      → Takes fresh (pieces_of calls) (ops_of calls) r
  -- where they end whole they are the feed of the lists joined
  pub whole : (calls : List Call) (r : Reader) → TakesEach fresh calls r → IsWhole r
      → IsFeed (pieces_of calls) (ops_of calls)
  -- where the pieces joined are a feed they end whole, and the lists joined are the feed's
  pub exactly : (calls : List Call) (r : Reader) (ops : List Op)
      → TakesEach fresh calls r → IsFeed (pieces_of calls) ops → IsWhole r × (ops_of calls ≡ ops)
  -- the fault of their end is their first fault
  pub ended : (calls : List Call) (r : Reader) (fault : FeedFault) → TakesEach fresh calls r → EndsWrong r fault
      → IsFirstFault (pieces_of calls) fault
  -- the fault that a piece shows is their first fault, whatever pieces follow
  pub shown : (calls : List Call) (r : Reader) (piece more : List ℕ) (fault : FeedFault) → TakesEach fresh calls r
      → Shows r piece fault → IsFirstFault (pieces_of calls ++ (piece ++ more)) fault
