-- The names of occurrences in data are names of the data.
use Rattle.std.proofs.Common.{ℕ, ◌<◌, Bool, true, false, List, [], ◌∷◌, Option, Some, None}
use Rattle.std.specs.Prelude.{All}
use Rattle.std.specs.List.{flat_map}
use Rattle.std.proofs.lemmas.List.Elements.{All-nil, All-cons, All-head, All-tail, All-append}
use Rattle.mz_base.specs.declared.fault.Span.{Span}
use Rattle.mz_tree.specs.Tree.{Name}
use Rattle.mz_tree.specs.Items.{ItemTree}
use Rattle.mz_tree.specs.Data as pure
use Rattle.mz_tree.specs.Data.{Value, Values, Given}
use Rattle.mz_scope_names.specs.declared.occurrence.Occurrence.{Occurrence}
use Rattle.mz_scope_names.specs.declared.occurrence.Role.TheVariants.{Declared, Valued, Listed, Misfit}
use Rattle.mz_scope_names.specs.Roles.{occurs}
use Rattle.mz_scope_names.specs.Occurrences.{of_case, in_item}
use Rattle.mz_scope_names.specs.Given.{with_identifier, identifiers, cases_in, enum_of, listed, in_given, occurrences}
use Rattle.mz_scope_names.specs.Sets.{holds}
use Rattle.mz_tree.specs.Named.{names_in, names_in_all, IsGivenWithin}
use Rattle.mz_scope.proofs.Parting.{or_none}

module _ (count : ℕ) where
  abbrev IsWithin : Name → Type 0
  IsWithin n = n < count

  abbrev IsNamed : Occurrence → Type 0
  IsNamed o = o.name < count

  with_one : (n : Name) (o : Option (List Name)) → n < count → All IsWithin (or_none o) → All IsWithin (or_none (with_identifier (Some n) o))
  with_one n None h a = All-nil IsWithin
  with_one n (Some ns) h a = All-cons IsWithin n ns h a

  in_identifiers : (vs : Values) → All IsWithin (names_in_all vs) → All IsWithin (or_none (identifiers vs))
  unfolding names_in identifiers
  in_identifiers pure.no_values a = All-nil IsWithin
  in_identifiers (pure.a_value (pure.ident n) vs) a = with_one n (identifiers vs) (All-head IsWithin n (names_in_all vs) a) (in_identifiers vs (All-tail IsWithin n (names_in_all vs) a))
  in_identifiers (pure.a_value (pure.bool b) vs) a = All-nil IsWithin
  in_identifiers (pure.a_value (pure.int z) vs) a = All-nil IsWithin
  in_identifiers (pure.a_value pure.absent vs) a = All-nil IsWithin
  in_identifiers (pure.a_value (pure.range v w) vs) a = All-nil IsWithin
  in_identifiers (pure.a_value (pure.set us) vs) a = All-nil IsWithin
  in_identifiers (pure.a_value (pure.array us) vs) a = All-nil IsWithin
  in_identifiers (pure.a_value (pure.rows ls) vs) a = All-nil IsWithin
  in_identifiers (pure.a_value (pure.array_nd ss us) vs) a = All-nil IsWithin

  in_cases : (v : Value) → All IsWithin (names_in v) → All IsWithin (or_none (cases_in v))
  unfolding names_in cases_in
  in_cases (pure.set vs) a = in_identifiers vs a
  in_cases (pure.array vs) a = in_identifiers vs a
  in_cases (pure.bool b) a = All-nil IsWithin
  in_cases (pure.int z) a = All-nil IsWithin
  in_cases (pure.ident n) a = All-nil IsWithin
  in_cases pure.absent a = All-nil IsWithin
  in_cases (pure.range v w) a = All-nil IsWithin
  in_cases (pure.rows ls) a = All-nil IsWithin
  in_cases (pure.array_nd ss us) a = All-nil IsWithin

  cases_named : (at : Span) (ns : List Name) → All IsWithin ns → All IsNamed (flat_map (λ c. of_case (c, at)) ns)
  cases_named at [] a = All-nil IsNamed
  cases_named at (n ∷ ns) a =
      let h = All-head IsWithin n ns a in
      All-cons IsNamed (occurs Declared n at) (occurs Valued n at ∷ flat_map (λ c. of_case (c, at)) ns) h
      (All-cons IsNamed (occurs Valued n at) (flat_map (λ c. of_case (c, at)) ns) h (cases_named at ns (All-tail IsWithin n ns a)))

  listed_named : (n : Name) (at : Span) (o : Option (List Name)) → n < count → All IsWithin (or_none o) → All IsNamed (listed n at o)
  listed_named n at None h a = All-cons IsNamed (occurs Misfit n at) [] h (All-nil IsNamed)
  listed_named n at (Some ns) h a = All-cons IsNamed (occurs Listed n at) (flat_map (λ c. of_case (c, at)) ns) h (cases_named at ns a)

  given_named : (b : Bool) (d : Given) → IsGivenWithin count d → All IsNamed (in_given b d)
  given_named true d k = All-cons IsNamed (occurs Valued d.name d.span) (listed d.name d.at (cases_in d.value)) k.name (listed_named d.name d.at (cases_in d.value) k.name (in_cases d.value k.names))
  given_named false d k = All-cons IsNamed (occurs Valued d.name d.span) [] k.name (All-nil IsNamed)

  all_of_each : {X : Type 0} (K : X → Type 0) (f : X → List Occurrence) → ((x : X) → K x → All IsNamed (f x)) → (xs : List X) → All K xs → All IsNamed (flat_map f xs)
  all_of_each K f each [] a = All-nil IsNamed
  all_of_each K f each (x ∷ xs) a = All-append IsNamed (f x) (flat_map f xs) (each x (All-head K x xs a)) (all_of_each K f each xs (All-tail K x xs a))

  pub all_named : (is : List ItemTree) (ds : List Given) → All (λ i. All (λ o. o.name < count) (in_item i)) is → All (IsGivenWithin count) ds → All (λ o. o.name < count) (occurrences is ds)
  all_named is ds a b =
      All-append IsNamed (flat_map in_item is) (flat_map (λ d. in_given (holds d.name (flat_map enum_of is)) d) ds)
      (all_of_each (λ i. All IsNamed (in_item i)) in_item (λ i k. k) is a)
      (all_of_each (IsGivenWithin count) (λ d. in_given (holds d.name (flat_map enum_of is)) d) (λ d k. given_named (holds d.name (flat_map enum_of is)) d k) ds b)
