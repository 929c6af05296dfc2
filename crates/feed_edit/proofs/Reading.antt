-- What a reader gives, and what of it is no text.
use Rattle.std.proofs.Common.{ℕ, Bool, List}
use Rattle.std.specs.Prelude.{Option}
use Rattle.feed_files.specs.Input.{IsNotWhole}
use Rattle.feed_files.specs.declared.input.ReaderFault.{ReaderFault}
use Rattle.feed_files.specs.declared.input.ReaderFault.TheVariants as readers
use Rattle.text_copy.specs.Reading.{Fails, reading}
use Rattle.text_copy.specs.declared.fault.TextFault.{TextFault}
use Rattle.text_copy.specs.declared.fault.TextFault.TheVariants as texts
use Rattle.feed_edit.specs.Fault.{of_reader, of_text}
use Rattle.feed_edit.specs.Importing.{FitsText, IsNoText, max_text}

-- the reader was not read to its end
pub no_input : (plain : Bool) (input : Option (List ℕ)) (why : ReaderFault) → IsNotWhole max_text input why → IsNoText plain input (of_reader why)
no_input plain input readers.Failed is = tt
no_input plain input readers.TooLong is = is
no_input plain input readers.NoMemory is = tt

-- the bytes are all that the reader had, and no text
pub no_text : (plain : Bool) (input : Option (List ℕ)) (bytes : List ℕ) (why : TextFault) → FitsText input bytes → Fails why (reading plain bytes) → IsNoText plain input (of_text why)
no_text plain input bytes (texts.At line column cause) is fails = (bytes, is, fails)
no_text plain input bytes texts.NoMemory is fails = tt
