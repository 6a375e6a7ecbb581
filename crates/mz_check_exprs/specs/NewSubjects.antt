-- Declarations and functions whose types are typed one after the other.
use Rattle.std.specs.Prelude.{◌≡◌, List, [], ◌∷◌, None}
use Rattle.mz_scope_order.specs.Subjects.{Subject, of_decl, of_function, IsAmong}
use Rattle.mz_check_meaning.specs.Models.{Model, entry_of}

-- it has no type yet
abbrev pub IsNew : Model → Subject → Type 0
IsNew m (of_decl d) = entry_of d m.types ≡ None
IsNew m (of_function f) = entry_of f m.headings ≡ None

-- none of these has a type yet, and none stands twice among them
abbrev pub AreNew : Model → List Subject → Type 0
AreNew m [] = Unit {0}
AreNew m (x ∷ xs) = IsNew m x × ((IsAmong x xs → ⊥) × AreNew m xs)
