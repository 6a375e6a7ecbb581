-- Worked examples: small models, what depends on what, and what leads back.
use Rattle.std.proofs.Common.{[], ◌∷◌, List, refl, inl, inr, true, false, arith}
use Rattle.mz_scope_names.specs.declared.name_use.NameUse.TheVariants.{Mention, Call}
use Rattle.mz_scope_names.specs.Sketches.{Sketch}
use Rattle.mz_scope_order.specs.Dependencies.{Depends, itself, through, called, by_decl, LeadsBack, RefersTo}

-- `int: a = f(1); function int: f(int: x) = b; int: b = 2`, with a, f and b as 0, 1 and 2
abbrev pub decls : List Sketch
decls = record { name = 0; applied = false; types = []; rest = Call 1 ∷ [] } ∷ record { name = 2; applied = false; types = []; rest = [] } ∷ []

abbrev pub functions : List Sketch
functions = record { name = 1; applied = true; types = []; rest = Mention 2 ∷ [] } ∷ []

-- a depends on b, through the body of f
pub by_a_body : Depends decls functions 0 1
by_a_body = through 0 (record { counted = omega arith; used = inl refl }) (itself (record { counted = omega arith; used = inl refl }))

-- `f` alone means no function with parameters
pub not_by_a_bare_name : RefersTo (Mention 1 ∷ []) functions 0 → ⊥
not_by_a_bare_name r = elim r.used [ inl e ↦ absurd (cc) | inr n ↦ n ]

-- `function 1..c: g(int: x) = x; set of 1..g(1): c = {}`: the type of g leads back to it through the type of c
abbrev pub typed_decls : List Sketch
typed_decls = record { name = 0; applied = false; types = Call 1 ∷ []; rest = [] } ∷ []

abbrev pub typed_functions : List Sketch
typed_functions = record { name = 1; applied = true; types = Mention 0 ∷ []; rest = [] } ∷ []

pub back_by_a_type : LeadsBack typed_decls typed_functions 0
back_by_a_type = by_decl 0 (record { counted = omega arith; used = inl refl }) (called (record { counted = omega arith; used = inl refl }))
