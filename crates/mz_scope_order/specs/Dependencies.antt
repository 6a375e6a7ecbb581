-- Which declarations a declaration depends on, what the types of a function lead to, and in which order declarations are evaluated.
use Rattle.std.specs.Prelude.{◌≡◌, ℕ, ◌<◌, List, [], ◌∷◌, ◌⊎◌, false, if◌then◌else◌, length, slice_index_or}
use Rattle.mz_graph.specs.Order.{IsOrder, IsComplete, IsFirstLeft}
use Rattle.mz_scope_names.specs.declared.name_use.NameUse.{NameUse}
use Rattle.mz_scope_names.specs.declared.name_use.NameUse.TheVariants.{Mention, Call}
use Rattle.mz_scope_names.specs.Sketches.{Sketch, all_of}

-- Declarations and functions are known by their numbers in two lists, each in source order.
abbrev pub sketch_at : List Sketch → ℕ → Sketch
sketch_at ss k = slice_index_or ss k (record { name = 0; applied = false; types = []; rest = [] })

-- the use that means it: functions with parameters are called, all else is mentioned
abbrev pub meant_by : Sketch → NameUse
meant_by s = if s.applied then Call s.name else Mention s.name

abbrev pub IsUsed : NameUse → List NameUse → Type 0
IsUsed u [] = ⊥
IsUsed u (v ∷ vs) = (u ≡ v) ⊎ IsUsed u vs

-- one of these uses means the one of this number; a call means all functions of its name
pub record RefersTo (us : List NameUse) (ss : List Sketch) (k : ℕ) : Type 0 where
  pub counted : k < length ss
  pub used : IsUsed (meant_by (sketch_at ss k)) us

-- uses lead to the declarations that they mean, and to all that the types and bodies of the functions that they call lead to
pub data LeadsTo (decls functions : List Sketch) : List NameUse → ℕ → Type 0 where
  itself : {us : List NameUse} {e : ℕ} → RefersTo us decls e → LeadsTo decls functions us e
  through : {us : List NameUse} {e : ℕ} (f : ℕ) → RefersTo us functions f → LeadsTo decls functions (all_of (sketch_at functions f)) e → LeadsTo decls functions us e

-- a declaration depends on what its type and its value lead to
abbrev pub Depends : List Sketch → List Sketch → ℕ → ℕ → Type 0
Depends decls functions d e = LeadsTo decls functions (all_of (sketch_at decls d)) e

-- the types of something lead to the functions that they call, and further through the declared types of the names that they
-- mention and the types of those functions
pub data TypesLeadTo (decls functions : List Sketch) : List NameUse → ℕ → Type 0 where
  called : {us : List NameUse} {f : ℕ} → RefersTo us functions f → TypesLeadTo decls functions us f
  by_decl : {us : List NameUse} {f : ℕ} (d : ℕ) → RefersTo us decls d → TypesLeadTo decls functions (sketch_at decls d).types f → TypesLeadTo decls functions us f
  by_function : {us : List NameUse} {f : ℕ} (h : ℕ) → RefersTo us functions h → TypesLeadTo decls functions (sketch_at functions h).types f → TypesLeadTo decls functions us f

-- the types of a function lead back to a function of its name, which is to say, to itself
abbrev pub LeadsBack : List Sketch → List Sketch → ℕ → Type 0
LeadsBack decls functions f = TypesLeadTo decls functions (sketch_at functions f).types f

-- Numbers for declarations and for functions that fall along all that types refer to: types are typed in their order.
pub record AreRanks (decls functions : List Sketch) (of_decl of_function : ℕ → ℕ) : Type 0 where
  pub decl_decl : (d e : ℕ) → d < length decls → RefersTo (sketch_at decls d).types decls e → of_decl e < of_decl d
  pub decl_function : (d f : ℕ) → d < length decls → RefersTo (sketch_at decls d).types functions f → of_function f < of_decl d
  pub function_decl : (f e : ℕ) → f < length functions → RefersTo (sketch_at functions f).types decls e → of_decl e < of_function f
  pub function_function : (f h : ℕ) → f < length functions → RefersTo (sketch_at functions f).types functions h → of_function h < of_function f

pub record HaveRanks (decls functions : List Sketch) : Type 0 where
  pub of_decl : ℕ → ℕ
  pub of_function : ℕ → ℕ
  pub are : AreRanks decls functions of_decl of_function

-- all declarations have their turn in this order, no function's types lead back to its name, and so there are ranks of types
pub record IsSequence (decls functions : List Sketch) (order : List ℕ) : Type 0 where
  pub is : IsOrder (Depends decls functions) (length decls) order
  pub complete : IsComplete (length decls) order
  pub acyclic : (f : ℕ) → f < length functions → LeadsBack decls functions f → ⊥
  pub ranked : HaveRanks decls functions

-- not all declarations have their turn, and this is the first that hasn't
pub record IsStuckAt (decls functions : List Sketch) (d : ℕ) : Type 0 where
  pub order : List ℕ
  pub is : IsOrder (Depends decls functions) (length decls) order
  pub first : IsFirstLeft (length decls) order d

-- all declarations have their turn, and this is the first function whose types lead back to its name
pub record IsBackAt (decls functions : List Sketch) (f : ℕ) : Type 0 where
  pub order : List ℕ
  pub is : IsOrder (Depends decls functions) (length decls) order
  pub complete : IsComplete (length decls) order
  pub counted : f < length functions
  pub back : LeadsBack decls functions f
  pub before : (h : ℕ) → h < f → LeadsBack decls functions h → ⊥

-- declarations, no two of one name
pub record AreDeclarations (decls : List Sketch) : Type 0 where
  pub mentioned : (d : ℕ) → d < length decls → (sketch_at decls d).applied ≡ false
  pub distinct : (d e : ℕ) → d < length decls → e < length decls → (sketch_at decls d).name ≡ (sketch_at decls e).name → d ≡ e
