use Rattle.feed_readings.proofs.Aligned.{rise, shared}
use Rattle.feed_readings.proofs.Alike.{alike}
use Rattle.feed_readings.proofs.Rows.{all_else}
use Rattle.feed_readings.proofs.laws.readings_are_sound.Goals as goal

pub returns : goal.returns
returns c = record { settled = all_else; shared = shared; aligned = rise; alike = alike }
