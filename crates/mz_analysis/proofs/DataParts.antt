-- The names and places that come from data are of the kind of those in its items.
use Rattle.std.proofs.Common.{ℕ, ◌<◌, Bool, true, false, List, [], ◌∷◌, Option, Some, None}
use Rattle.std.specs.Prelude.{All, nat_eq, if◌then◌else◌}
use Rattle.std.specs.List.{flat_map}
use Rattle.std.proofs.lemmas.List.Elements.{All-nil, All-cons, All-head, All-tail}
use Rattle.mz_base.specs.declared.fault.Span.{Span}
use Rattle.mz_tree.specs.Tree.{Name}
use Rattle.mz_tree.specs.Items.{ItemTree}
use Rattle.mz_tree.specs.Kinds.{IsSpot}
use Rattle.mz_tree.specs.Data as pure
use Rattle.mz_tree.specs.Data.{Value, Values, Given}
use Rattle.mz_tree.proofs.Collected.{all_flat}
use Rattle.mz_scope_names.specs.declared.occurrence.Occurrence.{Occurrence}
use Rattle.mz_scope_names.specs.declared.occurrence.Role.{Role}
use Rattle.mz_scope_names.specs.declared.occurrence.Role.TheVariants.{Declared, Valued, Listed, Misfit}
use Rattle.mz_scope_names.specs.Roles.{occurs}
use Rattle.mz_scope_names.specs.Occurrences.{of_case}
use Rattle.mz_scope_names.specs.Given.{with_identifier, identifiers, cases_in, enum_of, listed, in_given}
use Rattle.mz_scope_names.specs.Sets.{holds}
use Rattle.mz_tree.specs.Named.{names_in, names_in_all}
use Rattle.mz_scope_order.specs.Parts.{cases_at, given_cases, unless, given_of}
use Rattle.mz_scope.proofs.Parting.{or_none}
use Rattle.mz_include.specs.WithData.{IsGivenKnown}
use Rattle.mz_analysis.specs.Known.{OfGiven}

-- an item whose names are of a table, and whose places are in this many files
pub known_given : (names files : ℕ) (g : Given) → IsGivenKnown names files g → OfGiven (λ n. n < names) (λ at. at.file < files) g
known_given names files g k = record { name = k.within.name; names = k.within.names; span = k.name; value = k.value }

module _ (N : Name → Type 0) (P : Span → Type 0) where
  abbrev Item : Given → Type 0
  Item g = OfGiven N P g

  -- ---- the cases that data gives an enum

  with_one : (n : Name) (o : Option (List Name)) → N n → All N (or_none o) → All N (or_none (with_identifier (Some n) o))
  with_one n None h a = All-nil N
  with_one n (Some ns) h a = All-cons N n ns h a

  in_identifiers : (vs : Values) → All N (names_in_all vs) → All N (or_none (identifiers vs))
  unfolding names_in identifiers
  in_identifiers pure.no_values a = All-nil N
  in_identifiers (pure.a_value (pure.ident n) vs) a = with_one n (identifiers vs) (All-head N n (names_in_all vs) a) (in_identifiers vs (All-tail N n (names_in_all vs) a))
  in_identifiers (pure.a_value (pure.bool b) vs) a = All-nil N
  in_identifiers (pure.a_value (pure.int z) vs) a = All-nil N
  in_identifiers (pure.a_value pure.absent vs) a = All-nil N
  in_identifiers (pure.a_value (pure.range v w) vs) a = All-nil N
  in_identifiers (pure.a_value (pure.set us) vs) a = All-nil N
  in_identifiers (pure.a_value (pure.array us) vs) a = All-nil N
  in_identifiers (pure.a_value (pure.rows ls) vs) a = All-nil N
  in_identifiers (pure.a_value (pure.array_nd ss us) vs) a = All-nil N

  in_cases : (v : Value) → All N (names_in v) → All N (or_none (cases_in v))
  unfolding names_in cases_in
  in_cases (pure.set vs) a = in_identifiers vs a
  in_cases (pure.array vs) a = in_identifiers vs a
  in_cases (pure.bool b) a = All-nil N
  in_cases (pure.int z) a = All-nil N
  in_cases (pure.ident n) a = All-nil N
  in_cases pure.absent a = All-nil N
  in_cases (pure.range v w) a = All-nil N
  in_cases (pure.rows ls) a = All-nil N
  in_cases (pure.array_nd ss us) a = All-nil N

  spots : (at : Span) (ns : List Name) → P at → All N ns → All (IsSpot N P) (cases_at at (Some ns))
  spots at [] p a = All-nil (IsSpot N P)
  spots at (n ∷ ns) p a = All-cons (IsSpot N P) (n, at) (cases_at at (Some ns)) (All-head N n ns a, p) (spots at ns p (All-tail N n ns a))

  cases_of : (at : Span) (o : Option (List Name)) → P at → All N (or_none o) → All (IsSpot N P) (cases_at at o)
  cases_of at None p a = All-nil (IsSpot N P)
  cases_of at (Some ns) p a = spots at ns p a

  chosen : (b : Bool) (xs ys : List (Name × Span)) → All (IsSpot N P) xs → All (IsSpot N P) ys → All (IsSpot N P) (if b then xs else ys)
  chosen true xs ys h k = h
  chosen false xs ys h k = k

  pub cases_given : (n : Name) (gs : List Given) → All Item gs → All (IsSpot N P) (given_cases n gs)
  unfolding given_cases
  cases_given n [] a = All-nil (IsSpot N P)
  cases_given n (g ∷ gs) a =
      let h = All-head Item g gs a in
      chosen (nat_eq n g.name) (cases_at g.at (cases_in g.value)) (given_cases n gs) (cases_of g.at (cases_in g.value) h.value (in_cases g.value h.names)) (cases_given n gs (All-tail Item g gs a))

  -- ---- the items of declarations

  unless_of : (b : Bool) (g : Given) → Item g → All Item (unless b g)
  unless_of true g h = All-nil Item
  unless_of false g h = All-cons Item g [] h (All-nil Item)

  pub items_given : (is : List ItemTree) (gs : List Given) → All Item gs → All Item (given_of is gs)
  items_given is gs a = all_flat Item Item (λ g. unless (holds g.name (flat_map enum_of is)) g) (λ g h. unless_of (holds g.name (flat_map enum_of is)) g h) gs a

  -- ---- the places of occurrences

  abbrev Placed : Occurrence → Type 0
  Placed o = P o.span

  then_one : (r : Role) (n : Name) (s : Span) (os : List Occurrence) → P s → All Placed os → All Placed (occurs r n s ∷ os)
  then_one r n s os h t = All-cons Placed (occurs r n s) os h t

  abbrev in_cases_at : Span → List Name → List Occurrence
  in_cases_at at ns = flat_map (λ c. of_case (c, at)) ns

  cases_placed : (at : Span) (ns : List Name) → P at → All Placed (in_cases_at at ns)
  cases_placed at [] p = All-nil Placed
  cases_placed at (n ∷ ns) p = then_one Declared n at (occurs Valued n at ∷ in_cases_at at ns) p (then_one Valued n at (in_cases_at at ns) p (cases_placed at ns p))

  listed_placed : (n : Name) (at : Span) (o : Option (List Name)) → P at → All Placed (listed n at o)
  listed_placed n at None p = then_one Misfit n at [] p (All-nil Placed)
  listed_placed n at (Some ns) p = then_one Listed n at (in_cases_at at ns) p (cases_placed at ns p)

  given_placed : (b : Bool) (g : Given) → Item g → All Placed (in_given b g)
  given_placed true g h = then_one Valued g.name g.span (listed g.name g.at (cases_in g.value)) h.span (listed_placed g.name g.at (cases_in g.value) h.value)
  given_placed false g h = then_one Valued g.name g.span [] h.span (All-nil Placed)

  pub all_placed : (is : List ItemTree) (gs : List Given) → All Item gs → All Placed (flat_map (λ g. in_given (holds g.name (flat_map enum_of is)) g) gs)
  all_placed is gs a = all_flat Placed Item (λ g. in_given (holds g.name (flat_map enum_of is)) g) (λ g h. given_placed (holds g.name (flat_map enum_of is)) g h) gs a
