-- What is known of a model when its types are typed, and what its sections are then.
use Rattle.std.proofs.Common.{◌≡◌, ℕ, List, [], ◌∷◌, Ok, length, refl, ap, sym, subst}
use Rattle.std.specs.List.{flat_map}
use Rattle.mz_core.specs.Tree.{Tree}
use Rattle.mz_scope_order.specs.Scoped.{ScopedTree}
use Rattle.mz_scope_order.specs.Subjects.{IsOrderOf, Subject, of_decl, of_function}
use Rattle.mz_check_meaning.specs.Tests.{Test}
use Rattle.mz_check_meaning.specs.Models.{Model}
use Rattle.mz_check_meaning.specs.Headings.{with_type, with_types}
use Rattle.mz_check_meaning.specs.Checks.{numbered, with_parameters, untyped, Sections}
use Rattle.mz_check_data.specs.WithData.{AreNumbered, with_values, checked_given, checked_with_data}
use Rattle.mz_check_data.proofs.Parted.{parted}
use Rattle.mz_check_data.proofs.Slots.{numbered_stays}
use Rattle.mz_check_exprs.specs.NamedModels.{AreNamed}
use Rattle.mz_check_exprs.specs.NewSubjects.{AreNew}
use Rattle.mz_check_exprs.proofs.New.{all_new}
use Rattle.mz_check.specs.StepsProgram.{AreTexted}
use Rattle.mz_check.proofs.Assembling.{sections_numbered}
use Rattle.mz_check_meaning.proofs.Giving.{Gives}
use Rattle.mz_check.proofs.Texted.{checked_texted}

-- what stays as types are typed
pub record IsOf (m : Model) (texts : List (List ℕ)) (functions : List (ℕ × ℕ)) : Type 0 where
  pub texts_are : m.texts ≡ texts
  pub functions_are : m.functions ≡ functions

one_kept : (s : ScopedTree) (m : Model) (x : Subject) (texts : List (List ℕ)) (functions : List (ℕ × ℕ)) → IsOf m texts functions → IsOf (with_type s m x) texts functions
one_kept s m (of_decl d) texts functions h = record { texts_are = h.texts_are; functions_are = h.functions_are }
one_kept s m (of_function f) texts functions h = record { texts_are = h.texts_are; functions_are = h.functions_are }

all_kept : (s : ScopedTree) (m : Model) (xs : List Subject) (texts : List (List ℕ)) (functions : List (ℕ × ℕ)) → IsOf m texts functions → IsOf (with_types s m xs) texts functions
unfolding with_types
all_kept s m [] texts functions h = h
all_kept s m (x ∷ xs) texts functions h = all_kept s (with_type s m x) xs texts functions (one_kept s m x texts functions h)

at_first : (texts : List (List ℕ)) (s : ScopedTree) → IsOf (untyped texts s) texts (flat_map with_parameters (numbered s.functions))
unfolding untyped
at_first texts s = record { texts_are = refl; functions_are = refl }

pub typed_is : (texts : List (List ℕ)) (s : ScopedTree) (order : List Subject) (m : Model) → m ≡ with_types s (untyped texts s) order → IsOf m texts (flat_map with_parameters (numbered s.functions))
typed_is texts s order m e = subst (λ (n : Model). IsOf n texts (flat_map with_parameters (numbered s.functions))) (sym e) (all_kept s (untyped texts s) order texts (flat_map with_parameters (numbered s.functions)) (at_first texts s))

pub named_of : (texts : List (List ℕ)) (s : ScopedTree) (m : Model) (functions : List (ℕ × ℕ)) → IsOf m texts functions → AreNamed (length texts) s → AreNamed (length m.texts) s
named_of texts s m functions h named = subst (λ (ts : List (List ℕ)). AreNamed (length ts) s) (sym h.texts_are) named

pub first_is : (texts : List (List ℕ)) (s : ScopedTree) (m : Model) → m ≡ untyped texts s → IsOf m texts (flat_map with_parameters (numbered s.functions))
first_is texts s m e = subst (λ (n : Model). IsOf n texts (flat_map with_parameters (numbered s.functions))) (sym e) (at_first texts s)

new_at_first : (texts : List (List ℕ)) (s : ScopedTree) (order : List Subject) → IsOrderOf s order → AreNew (untyped texts s) order
unfolding untyped
new_at_first texts s order o = all_new (untyped texts s) order refl refl o.once

pub first_new : (texts : List (List ℕ)) (s : ScopedTree) (order : List Subject) (m : Model) → m ≡ untyped texts s → IsOrderOf s order → AreNew m order
first_new texts s order m e o = subst (λ (n : Model). AreNew n order) (sym e) (new_at_first texts s order o)

pub checked_is : (texts : List (List ℕ)) (s : ScopedTree) (order : List Subject) (m : Model) → m ≡ with_types s (untyped texts s) order → checked_with_data texts s order ≡ checked_given s m
unfolding checked_with_data
checked_is texts s order m e = ap (checked_given s) (sym e)

-- a model that passes its tests has its sections, with the values of the data

valued_numbered : (vs : List (ℕ × Tree)) (all : Sections) → AreNumbered all.decls → AreNumbered (with_values vs all).decls
unfolding with_values
valued_numbered vs all h = numbered_stays vs all.decls h

given_numbered : (s : ScopedTree) (m : Model) (all : Sections) → checked_given s m ≡ Ok all → AreNumbered all.decls
given_numbered s m all e =
    let p = parted s m all e in
    subst (λ (a : Sections). AreNumbered a.decls) (sym p.is) (valued_numbered p.values p.before (sections_numbered s m p.before p.typed))

pub checked_numbered : (texts : List (List ℕ)) (s : ScopedTree) (order : List Subject) (all : Sections) → checked_with_data texts s order ≡ Ok all → AreNumbered all.decls
unfolding checked_with_data
checked_numbered texts s order all e = given_numbered s (with_types s (untyped texts s) order) all e

given : {A : Type 0} (Q : A → Type 0) (t : Test A) (x : A) → t ≡ Ok x → Gives t Q → Q x
given Q t x e h = subst (λ (r : Test _). Gives r Q) e h

pub checked_named : (texts : List (List ℕ)) (s : ScopedTree) (order : List Subject) (all : Sections) → AreNamed (length texts) s → IsOrderOf s order → checked_with_data texts s order ≡ Ok all → AreTexted (length texts) all
checked_named texts s order all named o e = given (AreTexted (length texts)) (checked_with_data texts s order) all e (checked_texted (length texts) texts s order named o.among)
