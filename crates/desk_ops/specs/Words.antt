-- How the values of operations read in a message.
use Rattle.std.specs.Prelude.{ℕ, List, ◌++◌, codes}
use Rattle.std.specs.Char.{encode_utf8}
use Rattle.std.specs.Fmt.{decimal}
use Rattle.desk_ops.specs.declared.op.Stamp.{Stamp}
use Rattle.desk_ops.specs.declared.op.Style.{Style}
use Rattle.desk_ops.specs.declared.op.Style.TheVariants as styles
use Rattle.desk_ops.specs.declared.op.Symbol.{Symbol}
use Rattle.desk_ops.specs.declared.op.Key.{Key}
use Rattle.desk_ops.specs.declared.op.Key.TheVariants as keys
use Rattle.desk_ops.specs.declared.op.Unlawful.{Unlawful}
use Rattle.desk_ops.specs.declared.op.Unlawful.TheVariants as causes
use Rattle.desk_ops.specs.declared.fault.FaultKind.{FaultKind}
use Rattle.desk_ops.specs.declared.fault.FaultKind.TheVariants as kinds
use Rattle.desk_ops.specs.declared.fault.CopyFault.{CopyFault}

-- its counter and its site
abbrev pub stamp_words : Stamp → List ℕ
stamp_words s = decimal s.counter ++ codes "." ++ decimal s.site

abbrev pub style_words : Style → List ℕ
style_words styles.Roman = codes "roman"
style_words styles.Italic = codes "italic"
style_words styles.SmallCap = codes "small capital"

-- its style and its character
abbrev pub symbol_words : Symbol → List ℕ
symbol_words s = style_words s.style ++ codes " " ++ encode_utf8 s.ch

abbrev pub key_words : Key → List ℕ
key_words keys.Measure = codes "measure"
key_words keys.Tight = codes "tight"
key_words keys.Loose = codes "loose"
key_words keys.Case = codes "case"
key_words keys.Wedge = codes "wedge"

abbrev pub kind_words : FaultKind → List ℕ
kind_words kinds.Forked = codes "forked"
kind_words kinds.Void = codes "void"
kind_words kinds.Waiting = codes "waiting"

-- what is wrong and with which stamp
abbrev pub copy_fault_words : CopyFault → List ℕ
copy_fault_words f = kind_words f.kind ++ codes " " ++ stamp_words f.stamp

-- why an operation is not lawful
abbrev pub unlawful_words : Unlawful → List ℕ
unlawful_words causes.Counter = codes "the counter is out of range"
unlawful_words causes.Site = codes "no site has the number 0"
unlawful_words causes.Target = codes "the target is not an earlier stamp"
unlawful_words causes.Symbol = codes "no such symbol"
unlawful_words causes.Key = codes "no such key"
unlawful_words causes.Value = codes "the value is out of the key's range"
