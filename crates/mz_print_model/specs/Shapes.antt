-- The shapes of an instance's variables.
use Rattle.std.specs.Prelude.{ℕ, ◌<◌, List, length, map}
use Rattle.mz_base.specs.Names.{text_of}
use Rattle.mz_value.specs.Ranges.{Range}
use Rattle.mz_arena.specs.Instances.{ModelVar, VarCell}
use Rattle.fz_items.specs.Forms.{Form}

abbrev pub domain_of : VarCell → List Range
domain_of c = c.domain

-- WHAT VALUES A VARIABLE MAY HAVE, and the name that they are written under
abbrev pub form_of : List (List ℕ) → ModelVar → Form
form_of table m = record { label = text_of table m.name; opt = m.opt; base = m.base; index = m.index; domains = map domain_of m.cells }

abbrev pub forms_of : List (List ℕ) → List ModelVar → List Form
forms_of table ms = map (form_of table) ms

-- its name is one of the table
abbrev pub IsVarNamed : List (List ℕ) → ModelVar → Type 0
IsVarNamed table m = m.name < length table
