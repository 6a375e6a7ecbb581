-- The lines that are printed where there is no output item.
use Rattle.std.specs.Prelude.{◌≡◌, ℕ, zero, suc, ◌<◌, List, [], ◌∷◌, length, Option, Some, None, nat_eq, slice_get, if◌then◌else◌}
use Rattle.std.specs.List.{flat_map}
use Rattle.std.specs.Option.{option_map}
use Rattle.mz_base.specs.Names.{text_of}
use Rattle.mz_value.specs.Contents.{Content}
use Rattle.mz_value.specs.Shown.{Names}
use Rattle.mz_core.specs.Program.{PlainProgram}
use Rattle.mz_core.specs.Tree.{Decl}
use Rattle.mz_print.specs.Output.{assigned, default_line, default_text, is_shown}
use Rattle.mz_print.specs.declared.lines.Line.{Line}

-- the first place of a slot
unfoldable pub place_of : ℕ → List ℕ → Option ℕ
place_of s [] = None
place_of s (t ∷ ts) = if nat_eq t s then Some 0 else option_map (λ k. suc k) (place_of s ts)

-- the value at a place
abbrev pub value_at : List Content → Option ℕ → Option Content
value_at vs None = None
value_at vs (Some k) = slice_get vs k

abbrev pub line_at : ℕ → Option ℕ → List Line
line_at name None = []
line_at name (Some k) = record { name = name; value = k } ∷ []

-- the line of a declaration, by the slots of a solution's values
abbrev pub line_of : List ℕ → Decl → List Line
line_of slots d = if is_shown d then line_at d.name (place_of d.slot slots) else []

abbrev pub lines_of : List ℕ → List Decl → List Line
lines_of slots ds = flat_map (line_of slots) ds

-- a line, with its value in a solution
abbrev pub line_text : List (List ℕ) → Names → List Content → Line → List ℕ
line_text table names values l = default_line names (text_of table l.name) (slice_get values l.value)

-- its name is one of the table
abbrev pub IsNamed : List (List ℕ) → Line → Type 0
IsNamed table l = l.name < length table

-- the law: these lines, with the values of a solution, are the default text of its assignment
abbrev pub AreTheDefault : Type 0
AreTheDefault = (table : List (List ℕ)) (p : PlainProgram) (slots : List ℕ) (values : List Content) → default_text table p (assigned slots values) ≡ flat_map (line_text table p.cases values) (lines_of slots p.decls)
