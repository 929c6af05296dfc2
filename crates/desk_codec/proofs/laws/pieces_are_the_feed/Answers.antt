use Rattle.desk_codec.proofs.PieceStepLaws.{pieces_are_the_feed}
use Rattle.desk_codec.proofs.laws.pieces_are_the_feed.Goals as goal

pub returns : goal.returns
returns c = pieces_are_the_feed
