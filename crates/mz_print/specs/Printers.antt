-- What a printer promises, and what it was made of.
use Rattle.std.specs.Prelude.{◌≡◌, ℕ, ℤ, pos, ◌<◌, ◌≤ℤ◌, ◌^◌, List, length, map}
use Rattle.std.specs.List.{AllByRecursion}
use Rattle.mz_value.specs.Contents.{case_names}
use Rattle.mz_value.specs.Ranges.{greatest}
use Rattle.mz_core.specs.Program.{PlainProgram, plain_program}
use Rattle.mz_core.specs.Tree.{Decl}
use Rattle.mz_meaning.specs.Runs.{start}
use Rattle.mz_meaning.specs.Cells.{Bare}
use Rattle.mz_meaning.specs.Walk.{Limits}
use Rattle.fz_items.specs.Forms.{Form}
use Rattle.mz_print.specs.Output.{OutputName, assigned, variable_slots, output_text}
use Rattle.mz_print_stream.specs.Printing.{Texts}
use Rattle.mz_print.specs.Lines.{IsNamed, lines_of}
use Rattle.mz_print.specs.Printable.{ArePrintable}
use Rattle.mz_print.specs.declared.printer.SolutionPrinter.{SolutionPrinter}
use Rattle.mz_print.specs.Items.{text_of}
use Rattle.mz_print.specs.Names.{place_in, top_names}

abbrev pub limits_of : ℕ → ℤ → Limits
limits_of budget int_range = record { budget = budget; int_range = int_range }

-- THE TEXTS OF A PROGRAM'S SOLUTIONS, each by its values, in the order of the decision variables, and by its number
abbrev pub texts_of : List (List ℕ) → ℕ → ℤ → PlainProgram → List OutputName → Texts
texts_of table budget int_range p xs values block = text_of (output_text table (limits_of budget int_range) Bare p xs (assigned (variable_slots xs) values) block start)

abbrev pub solution_texts : SolutionPrinter → Texts
solution_texts s = texts_of s.names.now s.budget s.int_range (plain_program s.program.now) (top_names s.top.items)

-- a declared name is one of the table
abbrev pub IsDeclNamed : List (List ℕ) → Decl → Type 0
IsDeclNamed table d = d.name < length table

-- what is worked out once is that of its program and names
pub record IsMade (s : SolutionPrinter) : Type 0 where
  pub places : s.places.items ≡ map (place_in (variable_slots (top_names s.top.items))) (top_names s.top.items)
  pub lines : s.lines.items ≡ lines_of (variable_slots (top_names s.top.items)) (plain_program s.program.now).decls
  pub named : AllByRecursion (IsNamed s.names.now) s.lines.items
  pub small : s.budget < 2 ^ 63
  pub from_zero : pos 0 ≤ℤ s.int_range
  pub in_limit : s.int_range ≤ℤ greatest

-- it makes texts of the values of these forms
pub record IsTaken (s : SolutionPrinter) (fs : List Form) : Type 0 where
  pub made : IsMade s
  pub printable : ArePrintable (case_names s.program.now.cases) fs
