-- Where the names of a model are refused.
use Rattle.std.proofs.Common.{◌≡◌, ℕ, ◌<◌, Bool, true, false, List, [], ◌∷◌, ◌++◌, length, refl, subst}
use Rattle.std.specs.Prelude.{All, Option, Some, None, if◌then◌else◌}
use Rattle.std.specs.List.{flat_map}
use Rattle.std.proofs.lemmas.List.{length-map}
use Rattle.std.proofs.lemmas.List.Elements.{All-nil, All-cons, All-head, All-tail, All-append}
use Rattle.mz_base.specs.declared.fault.Span.{Span}
use Rattle.mz_base.specs.declared.fault.Fault.{Fault}
use Rattle.mz_base.specs.declared.kind.Kind.{Kind}
use Rattle.mz_base.specs.declared.kind.Kind.TheVariants.{ReservedName, DuplicateName, SolveItems, UnknownName, DataForm, MissingData}
use Rattle.mz_base.specs.Faults.{fault_at}
use Rattle.mz_tree.specs.Tree.{Name}
use Rattle.mz_tree.specs.Items.{ItemTree, include, declare, assign, constraint, solve, output, function, enum, annotation, FunctionTree}
use Rattle.mz_tree.specs.Data.{Given}
use Rattle.mz_tree.specs.Kinds.{OfItem}
use Rattle.mz_tree.proofs.Collected.{all_flat}
use Rattle.mz_scope_names.specs.declared.occurrence.Occurrence.{Occurrence}
use Rattle.mz_scope_names.specs.Occurrences.{in_item}
use Rattle.mz_scope_names.specs.Given.{occurrences}
use Rattle.mz_scope_names.specs.Sketches.{decl_sketch, function_sketch}
use Rattle.mz_scope_order.specs.Parts.{decls_of, functions_of, decl_at, function_at}
use Rattle.mz_scope_order.specs.Scoped.{IsCyclic, at_decl, at_function}
use Rattle.mz_scope.specs.Tests.{first, first_after, is_reserved, is_repeated, is_misfit, first_unknown_of, first_missing_of, solve_in, solve_fault, or_refused, refusal}
use Rattle.mz_analysis.specs.Known.{OfFunction, OfGiven}
use Rattle.mz_scope_names.proofs.Spots.{item_placed}
use Rattle.mz_analysis.proofs.Parts as parts
use Rattle.mz_analysis.proofs.DataParts.{all_placed}

module _ (P : Span → Type 0) where
  abbrev Placed : Occurrence → Type 0
  Placed o = P o.span

  some_placed : (x s : Span) → P x → Some x ≡ Some s → P s
  some_placed x s p is = let same : x ≡ s = cc in subst P same p

  chosen : (b : Bool) (x s : Span) (rest : Option Span) → P x → (rest ≡ Some s → P s) → (if b then Some x else rest) ≡ Some s → P s
  chosen true x s rest p later is = some_placed x s p is
  chosen false x s rest p later is = later is

  first_placed : (test : Occurrence → Bool) (os : List Occurrence) (s : Span) → All Placed os → first test os ≡ Some s → P s
  unfolding first
  first_placed test [] s all is = absurd (cc)
  first_placed test (o ∷ os) s all is = chosen (test o) o.span s (first test os) (All-head Placed o os all) (first_placed test os s (All-tail Placed o os all)) is

  after_placed : (test : List Occurrence → Occurrence → Bool) (before os : List Occurrence) (s : Span) → All Placed os → first_after test before os ≡ Some s → P s
  unfolding first_after
  after_placed test before [] s all is = absurd (cc)
  after_placed test before (o ∷ os) s all is =
      chosen (test before o) o.span s (first_after test (before ++ o ∷ []) os) (All-head Placed o os all) (after_placed test (before ++ o ∷ []) os s (All-tail Placed o os all)) is

  solve_placed : (end : Span) (ss : List Span) (s : Span) → P end → All P ss → solve_fault end ss ≡ Some s → P s
  solve_placed end [] s p all is = some_placed end s p is
  solve_placed end (x ∷ []) s p all is = absurd (cc)
  solve_placed end (x ∷ y ∷ ss) s p all is = some_placed y s (All-head P y ss (All-tail P x (y ∷ ss) all)) is

  some_fault : (g f : Fault) → P g.span → Some g ≡ Some f → P f.span
  some_fault g f p is = let same : g ≡ f = cc in subst (λ (h : Fault). P h.span) same p

  or_placed : (kind : Kind) (o : Option Span) (later : Option Fault) (f : Fault) → ((s : Span) → o ≡ Some s → P s) → (later ≡ Some f → P f.span) → or_refused kind o later ≡ Some f → P f.span
  or_placed kind (Some s) later f p next is = some_fault (fault_at kind s) f (p s refl) is
  or_placed kind None later f p next is = next is

  none_there : (f : Fault) → None ≡ Some f → P f.span
  none_there f is = absurd (cc)

  pub refusal_placed : (texts : List (List ℕ)) (known : ℕ → Bool) (end : Span) (solves : List Span) (os : List Occurrence) (f : Fault) → P end → All P solves → All Placed os → refusal texts known end solves os ≡ Some f → P f.span
  refusal_placed texts known end solves os f p ss all is =
      or_placed ReservedName (first (is_reserved texts) os) _ f (λ s. first_placed (is_reserved texts) os s all)
      (or_placed DuplicateName (first_after is_repeated [] os) _ f (λ s. after_placed is_repeated [] os s all)
      (or_placed SolveItems (solve_fault end solves) _ f (λ s. solve_placed end solves s p ss)
      (or_placed UnknownName (first_unknown_of known os) _ f (λ s. first_placed _ os s all)
      (or_placed DataForm (first is_misfit os) _ f (λ s. first_placed is_misfit os s all)
      (or_placed MissingData (first_missing_of os) None f (λ s. first_placed _ os s all) (none_there f)))))) is

module _ (N : Name → Type 0) (P : Span → Type 0) where
  abbrev Item : ItemTree → Type 0
  Item i = OfItem N P i

  solve_of : (i : ItemTree) → Item i → All P (solve_in i)
  solve_of (solve s g) h = All-cons P s [] h.0 (All-nil P)
  solve_of (include m s) h = All-nil P
  solve_of (declare d) h = All-nil P
  solve_of (assign m s e) h = All-nil P
  solve_of (constraint e) h = All-nil P
  solve_of (output e) h = All-nil P
  solve_of (function f) h = All-nil P
  solve_of (enum m s cs) h = All-nil P
  solve_of (annotation m) h = All-nil P

  pub solves : (is : List ItemTree) → All Item is → All P (flat_map solve_in is)
  solves is all = all_flat P Item solve_in solve_of is all

  pub places : (is : List ItemTree) (gs : List Given) → All Item is → All (OfGiven N P) gs → All (λ o. P o.span) (occurrences is gs)
  places is gs all known = All-append (λ o. P o.span) (flat_map in_item is) _ (all_flat (λ o. P o.span) Item in_item (item_placed N P) is all) (all_placed N P is gs known)

  function_placed : (f : FunctionTree) → OfFunction N P f → P f.span
  function_placed f h = h.1

  pub cyclic_placed : (is : List ItemTree) (f : Fault) → All Item is → IsCyclic is f → P f.span
  cyclic_placed is _ all (at_decl d stuck) =
      let below : d < length (decls_of is) = subst (λ n. d < n) (length-map (decls_of is) decl_sketch) stuck.first.counted in
      parts.placed N P (decl_at (decls_of is) d) (parts.decls N P is all d _ below)
  cyclic_placed is _ all (at_function k back) =
      let below : k < length (functions_of is) = subst (λ n. k < n) (length-map (functions_of is) function_sketch) back.counted in
      function_placed (function_at (functions_of is) k) (parts.functions N P is all k _ below)
