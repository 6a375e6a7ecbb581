-- A line of the table, without where it lies in memory, and an entry: a line with its number.
use Rattle.std.specs.Prelude.{ℕ, List}
use Rattle.mz_builtin.specs.declared.entry.Entry.{Entry}
use Rattle.mz_builtin.specs.declared.entry.Line.{Line}
use Rattle.mz_builtin.specs.declared.entry.Letter.{Letter}
use Rattle.mz_builtin.specs.declared.entry.Mark.{Mark}
use Rattle.mz_builtin.specs.declared.entry.Param.{Param}
use Rattle.mz_builtin.specs.declared.entry.Outcome.{Outcome}

pub record PlainLine : Type 0 where
  pub name : List ℕ
  pub letter : Letter
  pub mark : Mark
  pub params : List Param
  pub result : Outcome

-- what the code's line stands for
abbrev pub plain_line : Line → PlainLine
plain_line l = record { name = l.name.now; letter = l.letter; mark = l.mark; params = l.params.now; result = l.result }

abbrev pub line : List ℕ → Letter → Mark → List Param → Outcome → PlainLine
line name letter mark params result = record { name = name; letter = letter; mark = mark; params = params; result = result }

pub record PlainEntry : Type 0 where
  pub number : ℕ
  pub line : PlainLine

-- what the code's entry stands for
abbrev pub plain_entry : Entry → PlainEntry
plain_entry e = record { number = e.number; line = plain_line e.line.now }
