-- Declarations and functions as what has types, and the orders in which their types can be typed: each after those that its types
-- refer to.
use Rattle.std.specs.Prelude.{◌≡◌, ◌⊎◌, ℕ, ◌<◌, List, [], ◌∷◌, ◌++◌, length, map}
use Rattle.mz_scope_names.specs.declared.name_use.NameUse.{NameUse}
use Rattle.mz_scope_names.specs.Sketches.{Sketch, decl_sketch, function_sketch}
use Rattle.mz_scope_order.specs.Dependencies.{sketch_at, RefersTo}
use Rattle.mz_scope_order.specs.Parts.{decl_at, function_at}
use Rattle.mz_scope_order.specs.Scoped.{ScopedTree}
use Rattle.mz_scope_order.specs.declared.subject.Subject.{Subject as CodeSubject}
use Rattle.mz_scope_order.specs.declared.subject.Subject.TheVariants.{Decl, Function}

-- a declaration by its number, or a function by its own
pub data Subject : Type 0 where
  of_decl : ℕ → Subject
  of_function : ℕ → Subject

abbrev pub subject : CodeSubject → Subject
subject (Decl d) = of_decl d
subject (Function f) = of_function f

abbrev pub IsAmong : Subject → List Subject → Type 0
IsAmong x [] = ⊥
IsAmong x (y ∷ ys) = (x ≡ y) ⊎ IsAmong x ys

-- none stands twice
abbrev pub AreOnce : List Subject → Type 0
AreOnce [] = Unit {0}
AreOnce (x ∷ xs) = (IsAmong x xs → ⊥) × AreOnce xs

-- it is one of so many declarations and functions
abbrev pub IsCounted : ℕ → ℕ → Subject → Type 0
IsCounted decls functions (of_decl d) = d < decls
IsCounted decls functions (of_function f) = f < functions

abbrev pub AreCounted : ℕ → ℕ → List Subject → Type 0
AreCounted decls functions [] = Unit {0}
AreCounted decls functions (x ∷ xs) = IsCounted decls functions x × AreCounted decls functions xs

-- all declarations and functions that these uses mean are among these
pub record AreBefore (ds fs : List Sketch) (uses : List NameUse) (before : List Subject) : Type 0 where
  pub decls : (d : ℕ) → RefersTo uses ds d → IsAmong (of_decl d) before
  pub functions : (f : ℕ) → RefersTo uses fs f → IsAmong (of_function f) before

-- each comes after all that its types refer to, where `types` is what the types of each use
abbrev pub ComeAfter : List Sketch → List Sketch → (Subject → List NameUse) → List Subject → List Subject → Type 0
ComeAfter decls functions types before [] = Unit {0}
ComeAfter decls functions types before (x ∷ xs) = AreBefore decls functions (types x) before × ComeAfter decls functions types (before ++ x ∷ []) xs

-- ---- by what declarations and functions use

abbrev pub types_of : List Sketch → List Sketch → Subject → List NameUse
types_of decls functions (of_decl d) = (sketch_at decls d).types
types_of decls functions (of_function f) = (sketch_at functions f).types

-- all declarations and functions, each once and after those that its types refer to
pub record IsTypeSequence (ds fs : List Sketch) (order : List Subject) : Type 0 where
  pub decls : (d : ℕ) → d < length ds → IsAmong (of_decl d) order
  pub functions : (f : ℕ) → f < length fs → IsAmong (of_function f) order
  pub after : ComeAfter ds fs (types_of ds fs) [] order
  pub once : AreOnce order
  pub counted : AreCounted (length ds) (length fs) order

-- ---- of a scoped model

abbrev pub AreTyped : ScopedTree → List NameUse → List Subject → Type 0
AreTyped s uses before = AreBefore (map decl_sketch s.decls) (map function_sketch s.functions) uses before

abbrev pub types_in : ScopedTree → Subject → List NameUse
types_in s (of_decl d) = (decl_sketch (decl_at s.decls d)).types
types_in s (of_function f) = (function_sketch (function_at s.functions f)).types

abbrev pub ComeAfterNeeds : ScopedTree → List Subject → List Subject → Type 0
ComeAfterNeeds s before xs = ComeAfter (map decl_sketch s.decls) (map function_sketch s.functions) (types_in s) before xs

-- all declarations and functions, each after those that its types refer to
pub record IsTypeOrder (s : ScopedTree) (order : List Subject) : Type 0 where
  pub decls : (d : ℕ) → d < length s.decls → IsAmong (of_decl d) order
  pub functions : (f : ℕ) → f < length s.functions → IsAmong (of_function f) order
  pub after : ComeAfterNeeds s [] order

-- it is one of the model
abbrev pub IsOf : ScopedTree → Subject → Type 0
IsOf s x = IsCounted (length s.decls) (length s.functions) x

abbrev pub AreOf : ScopedTree → List Subject → Type 0
AreOf s xs = AreCounted (length s.decls) (length s.functions) xs

-- all declarations and functions of the model, each once and after those that its types refer to
pub record IsOrderOf (s : ScopedTree) (order : List Subject) : Type 0 where
  pub types : IsTypeOrder s order
  pub once : AreOnce order
  pub among : AreOf s order
