-- Mirror of src/compile.rt; private clauses only.
use Rattle.std.specs.Prelude.{◌≡◌, List}
use Rattle.mz_io.specs.Files.{Texts}
use Rattle.mz_io.specs.Sink.{Held, Adds, AddsPrefix}
use Rattle.mz_words.specs.Requests.{Settings}
use Rattle.fz_program.specs.Names.{Name}
use Rattle.fz_program.specs.Flat.{Program, WellFormed}
use Rattle.fz_text.specs.Spelling.{spelling}
use Rattle.mz_tool.specs.declared.end.End.{End}
use Rattle.mz_tool.specs.declared.end.End.TheVariants as end
use Rattle.mz_tool.specs.Headline.{Compiles}

-- the model of these settings is compiled to this program, as it is spelled
pub record IsFlatOf (table : List Name) (texts : Texts) (s : Settings) (flat : Program) : Type 0 where
  pub compiles : Compiles table texts s (spelling flat)
  pub program : compiles.compiled.program ≡ flat
  pub formed : WellFormed flat

-- what writing a program leaves
abbrev pub IsWritten : Program → Held → Held → End → Type 0
IsWritten p old new end.Done = Adds old new (spelling p)
IsWritten p old new end.WriteFault = AddsPrefix old new (spelling p)
IsWritten p old new end.Memory = new ≡ old
IsWritten p old new _ = ⊥
