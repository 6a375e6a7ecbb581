-- The nodes of the graphs of dependencies. Mirror of src/places.rt and src/graphs.rt; private clauses only.
use Rattle.std.specs.Prelude.{ℕ, ◌+◌, List, [], ◌∷◌, Bool, true, false, if◌then◌else◌, Option, Some, None, length}
use Rattle.std.specs.List.{flat_map}
use Rattle.std.specs.Option.{option_map}
use Rattle.mz_scope_names.specs.Sets.{with_name, place_of}
use Rattle.mz_scope_names.specs.declared.name_use.NameUse.{NameUse}
use Rattle.mz_scope_names.specs.declared.name_use.NameUse.TheVariants.{Mention, Call}
use Rattle.mz_scope_names.specs.Sketches.{Sketch}

-- the names of those of one space, each once, in source order
abbrev pub if_in : Bool → List ℕ → Sketch → List ℕ
if_in true ns s = if s.applied then with_name ns s.name else ns
if_in false ns s = if s.applied then ns else with_name ns s.name

unfoldable pub names_in : Bool → List ℕ → List Sketch → List ℕ
names_in applied ns [] = ns
names_in applied ns (s ∷ ss) = names_in applied (if_in applied ns s) ss

-- the node of a use, among the names of functions without parameters and then those of functions with parameters
abbrev pub callee : List ℕ → List ℕ → NameUse → Option ℕ
callee bare applied (Mention n) = place_of n bare
callee bare applied (Call n) = option_map (λ k. length bare + k) (place_of n applied)

-- the number of the declaration that a use mentions
abbrev pub mentioned : List ℕ → NameUse → Option ℕ
mentioned decls (Mention n) = place_of n decls
mentioned decls (Call n) = None

abbrev pub raised_from : ℕ → Option ℕ → List ℕ
raised_from by None = []
raised_from by (Some k) = (by + k) ∷ []

-- the nodes of the names of functions that are used, from `first` on
abbrev pub callees_in : ℕ → List ℕ → List ℕ → List NameUse → List ℕ
callees_in first bare applied us = flat_map (λ u. raised_from first (callee bare applied u)) us

-- the nodes of the declarations that are used, from `base` on
abbrev pub mentions_in : ℕ → List ℕ → List NameUse → List ℕ
mentions_in base decls us = flat_map (λ u. raised_from base (mentioned decls u)) us

abbrev pub or_zero : Option ℕ → ℕ
or_zero None = 0
or_zero (Some k) = k
