-- Why a run stopped, by the phase in which it did.
use Rattle.feed_files.specs.declared.files.FileRefusal.{FileRefusal}
use Rattle.feed_files.specs.declared.files.FileRefusal.TheVariants as refusals
use Rattle.feed_files.specs.declared.input.ReaderFault.{ReaderFault}
use Rattle.feed_files.specs.declared.input.ReaderFault.TheVariants as readers
use Rattle.feed_stored.specs.declared.fault.OpenFault.{OpenFault}
use Rattle.feed_stored.specs.declared.fault.OpenFault.TheVariants as openings
use Rattle.feed_stored.specs.declared.last_fault.LastFault.{LastFault}
use Rattle.feed_stored.specs.declared.last_fault.LastFault.TheVariants as lasts
use Rattle.desk_script.specs.declared.fault.RoomFault.{RoomFault}
use Rattle.desk_script.specs.declared.fault.RoomFault.TheVariants as rooms
use Rattle.desk_script.specs.declared.fault.RunFault.{RunFault}
use Rattle.desk_script.specs.declared.fault.RunFault.TheVariants as faults
use Rattle.desk_script.specs.declared.sheet_fault.SheetFault.{SheetFault}
use Rattle.desk_script.specs.declared.sheet_fault.SheetFault.TheVariants as sheets

-- the fault of a run, by that of the phase

abbrev pub of_reader : ReaderFault → RunFault
of_reader readers.Failed = faults.Read
of_reader readers.TooLong = faults.TooLong
of_reader readers.NoMemory = faults.NoMemory

abbrev pub of_opening : OpenFault → RunFault
of_opening (openings.Feed fault) = faults.Feed fault
of_opening (openings.Opening stop) = faults.Opening stop
of_opening openings.NoMemory = faults.NoMemory

abbrev pub of_file : FileRefusal → RunFault
of_file refusals.Missing = faults.File refusals.Missing
of_file refusals.Device = faults.File refusals.Device
of_file refusals.Large = faults.File refusals.Large
of_file refusals.NoMemory = faults.NoMemory

-- the fault of a run in a room, where its feed was not let in
abbrev pub of_letting : LastFault → SheetFault
of_letting (lasts.Older made held) = sheets.Older made held
of_letting lasts.NoMemory = sheets.Run faults.NoMemory

-- a run of lines in a room stops as a sheet does, and not at a line
abbrev pub of_room : RoomFault → SheetFault
of_room (rooms.Older made held) = sheets.Older made held
of_room (rooms.Run fault) = sheets.Run fault

-- the fault is of the run of commands itself, and not of a stored feed
abbrev pub IsOfLines : RunFault → Type 0
IsOfLines faults.Read = Unit {0}
IsOfLines faults.Write = Unit {0}
IsOfLines faults.TooLong = Unit {0}
IsOfLines faults.NoMemory = Unit {0}
IsOfLines (faults.Feed fault) = ⊥
IsOfLines (faults.File refusal) = ⊥
IsOfLines (faults.Opening stop) = ⊥
