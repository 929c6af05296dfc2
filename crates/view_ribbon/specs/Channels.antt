-- The 31 channels of a ribbon in a picture of it.
use Rattle.std.specs.Prelude.{ℕ, ◌+◌, ◌*◌, List, [], ◌∷◌, ◌++◌, codes}
use Rattle.desk_signals.specs.declared.Signal.{Signal}
use Rattle.desk_signals.specs.declared.Signal.TheVariants as signal
use Rattle.desk_signals.specs.Rows.{place}
use Rattle.view_galley.specs.Svg.{text_end}
use Rattle.view_ribbon.specs.Parts.{between}

-- the name of a signal's channel
abbrev pub channel_name : Signal → List ℕ
channel_name signal.A = codes "A"
channel_name signal.B = codes "B"
channel_name signal.C = codes "C"
channel_name signal.D = codes "D"
channel_name signal.E = codes "E"
channel_name signal.F = codes "F"
channel_name signal.G = codes "G"
channel_name signal.H = codes "H"
channel_name signal.I = codes "I"
channel_name signal.J = codes "J"
channel_name signal.K = codes "K"
channel_name signal.L = codes "L"
channel_name signal.M = codes "M"
channel_name signal.N = codes "N"
channel_name signal.One = codes "1"
channel_name signal.Two = codes "2"
channel_name signal.Three = codes "3"
channel_name signal.Four = codes "4"
channel_name signal.Five = codes "5"
channel_name signal.Six = codes "6"
channel_name signal.Seven = codes "7"
channel_name signal.Eight = codes "8"
channel_name signal.Nine = codes "9"
channel_name signal.Ten = codes "10"
channel_name signal.Eleven = codes "11"
channel_name signal.Twelve = codes "12"
channel_name signal.Thirteen = codes "13"
channel_name signal.Fourteen = codes "14"
channel_name signal.Fine = codes "0005"
channel_name signal.Coarse = codes "0075"
channel_name signal.S = codes "S"

-- how far to the right a channel stands: 66 for the first, and 13 more for each after it
unfoldable pub x_of : Signal → ℕ
x_of signal = 66 + 13 * place signal

-- a thin line along a channel, down to the end of the paper
unfoldable pub guide_top : Signal → List ℕ
guide_top signal = between (codes "<path d=\"M") (x_of signal) (codes " 50")

unfoldable pub guide_end : ℕ → List ℕ
guide_end bottom = between (codes "V") bottom (codes "\" stroke=\"#d9ccab\"/>")

-- its name above it
unfoldable pub name_place : Signal → List ℕ
name_place signal = between (codes "<text transform=\"translate(") (x_of signal + 3) (codes ",46) rotate(-60)\">")

abbrev pub channel_text : ℕ → Signal → List ℕ
channel_text bottom signal =
    guide_top signal ++ (guide_end bottom ++ (name_place signal ++ (channel_name signal ++ text_end)))

unfoldable pub channels_text : ℕ → List Signal → List ℕ
channels_text bottom [] = []
channels_text bottom (signal ∷ signals) = channel_text bottom signal ++ channels_text bottom signals
