-- Mirror of src/end.rt; private clauses only. How a command ends.
use Rattle.std.specs.Prelude.{◌≡◌, ◌<◌, List, [], length, codes}
use Rattle.mz_base.specs.Names.{text_of}
use Rattle.mz_io.specs.Files.{Texts}
use Rattle.mz_io.specs.Sink.{Held}
use Rattle.mz_include.specs.declared.end.GatherEnd.{GatherEnd}
use Rattle.mz_include.specs.declared.end.GatherEnd.TheVariants as gathered
use Rattle.mz_words.specs.Requests.{Asked}
use Rattle.fz_program.specs.Names.{Name}
use Rattle.mz_tool.specs.declared.end.Owner.{Owner}
use Rattle.mz_tool.specs.declared.end.Owner.TheVariants as owner
use Rattle.mz_tool.specs.declared.end.End.{End}
use Rattle.mz_tool.specs.declared.end.End.TheVariants as end
use Rattle.mz_tool.specs.declared.status.Status.{Status}
use Rattle.mz_tool.specs.declared.status.Status.TheVariants as status
use Rattle.mz_tool.specs.Headline.{Writes, WritesPrefix}
use Rattle.mz_tool.specs.Status.{IsRefusedBy}

-- the answer, without the owner
abbrev pub status_of : End → Status
status_of end.Done = status.Done
status_of (end.Refused f o) = status.Refused f
status_of end.ReadFault = status.ReadFault
status_of end.WriteFault = status.WriteFault
status_of end.Memory = status.Memory

abbrev pub owner_name : List Name → Owner → Name
owner_name table (owner.File n) = text_of table n
owner_name table owner.Stream = codes "-"

-- the name that the line of a refusal has, and nothing else
abbrev pub file_of : List Name → End → Name
file_of table (end.Refused f o) = owner_name table o
file_of table _ = []

-- a file is one of the table
abbrev pub IsNamedOwner : List Name → Owner → Type 0
IsNamedOwner table (owner.File n) = n < length table
IsNamedOwner table owner.Stream = Unit {0}

abbrev pub IsNamedEnd : List Name → End → Type 0
IsNamedEnd table (end.Refused f o) = IsNamedOwner table o
IsNamedEnd table _ = Unit {0}

-- how a command ends whose model is refused, or isn't read or walked to its end
abbrev pub failed_end : GatherEnd → End
failed_end (gathered.Refused f n) = end.Refused f (owner.File n)
failed_end gathered.ReadFault = end.ReadFault
failed_end gathered.Memory = end.Memory

-- what is left of what is asked for, where that isn't to print
abbrev pub Ends : List Name → Texts → Asked → Held → Held → End → Type 0
Ends table texts a old new end.Done = Writes table texts a old new
Ends table texts a old new (end.Refused f o) = (new ≡ old) × IsRefusedBy table texts a f (owner_name table o)
Ends table texts a old new end.ReadFault = new ≡ old
Ends table texts a old new end.WriteFault = WritesPrefix table texts a old new
Ends table texts a old new end.Memory = new ≡ old
