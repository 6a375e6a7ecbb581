-- The spaces of names: which roles of a name count for which question.
use Rattle.std.specs.Prelude.{ℕ, List, [], ◌∷◌, Bool, true, false, if◌then◌else◌}
use Rattle.std.specs.List.{flat_map}
use Rattle.mz_scope_names.specs.declared.occurrence.Occurrence.{Occurrence}
use Rattle.mz_scope_names.specs.declared.occurrence.Role.{Role}
use Rattle.mz_scope_names.specs.declared.occurrence.Role.TheVariants.{Declared, Overloaded, Valued, Local, Listed}

-- variables, enums, cases and functions without parameters share one space
abbrev pub declares : Role → Bool
declares Declared = true
declares r = false

-- a name at top level, of either space
abbrev pub introduces : Role → Bool
introduces Declared = true
introduces Overloaded = true
introduces r = false

-- a name that something declares anywhere
abbrev pub binds : Role → Bool
binds Declared = true
binds Overloaded = true
binds Local = true
binds r = false

abbrev pub gives : Role → Bool
gives Valued = true
gives r = false

abbrev pub lists : Role → Bool
lists Listed = true
lists r = false

-- the names that have such a role
abbrev pub name_in : (Role → Bool) → Occurrence → List ℕ
name_in has o = if has o.role then o.name ∷ [] else []

abbrev pub names_with : (Role → Bool) → List Occurrence → List ℕ
names_with has os = flat_map (name_in has) os
