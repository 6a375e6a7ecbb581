-- What the names of an untyped model stand for: the declarations and functions of these names.
use Rattle.std.proofs.Common.{◌≡◌, ℕ, ◌+◌, ◌<◌, zero, suc, Bool, true, false, List, [], ◌∷◌, ◌++◌, length, map, refl, ap, sym, subst, ◌∙◌, inl, inr, append_assoc, arith}
use Rattle.std.specs.Prelude.{Option, Some, None, nat_eq, if◌then◌else◌, slice_index_or}
use Rattle.std.specs.List.{AllByRecursion, flat_map, enumerate_from}
use Rattle.std.proofs.lemmas.Bool.{eqb-true}
use Rattle.std.proofs.lemmas.List.{length-map}
use Rattle.mz_core.specs.Tree.{DeclaredType}
use Rattle.mz_tree.specs.Tree as source
use Rattle.mz_tree.specs.Tree.{Name, Declaration}
use Rattle.mz_tree.specs.Items.{FunctionTree}
use Rattle.mz_scope_names.specs.declared.name_use.NameUse.{NameUse}
use Rattle.mz_scope_names.specs.declared.name_use.NameUse.TheVariants.{Mention, Call}
use Rattle.mz_scope_names.specs.Uses.{in_tree}
use Rattle.mz_scope_names.specs.Sketches.{decl_sketch, function_sketch, has_parameters}
use Rattle.mz_scope_order.specs.Dependencies.{sketch_at, meant_by, IsUsed, RefersTo}
use Rattle.mz_scope_order.specs.Parts.{EnumTree, name_of, decl_at, function_at}
use Rattle.mz_scope_order.specs.Scoped.{ScopedTree}
use Rattle.mz_check_meaning.specs.declared.meaning.Meaning.{Meaning}
use Rattle.mz_check_meaning.specs.declared.meaning.Meaning.TheVariants as meaning
use Rattle.mz_check_meaning.specs.Tests.{Test}
use Rattle.mz_check_meaning.specs.Models.{Model, Heading, entry_of, entries_of}
use Rattle.mz_check_meaning.specs.Checks.{numbered, untyped, enum_meanings, case_meaning, decl_meaning, bare_meaning, function_meaning, with_parameters, applied_name}
use Rattle.mz_analysis.proofs.Stopping.{both_all}
use Rattle.mz_analysis.proofs.Alike.{MeantAlike, HeadingAlike, UseAlike, Alike}

-- the elements of a list, each at its number
in_middle : {A : Type 0} (front : List A) (x : A) (back : List A) (d : A) → slice_index_or (front ++ x ∷ back) (length front) d ≡ x
in_middle [] x back d = refl
in_middle (y ∷ front) x back d = in_middle front x back d

at_number : {A : Type 0} (all front : List A) (x : A) (back : List A) (d : A) → all ≡ front ++ x ∷ back → slice_index_or all (length front) d ≡ x
at_number all front x back d is = ap (λ z. slice_index_or z (length front) d) is ∙ in_middle front x back d

one_longer : {A : Type 0} (xs : List A) (x : A) → length (xs ++ x ∷ []) ≡ length xs + 1
one_longer [] x = refl
one_longer (y ∷ xs) x = let e = one_longer xs x in omega (arith, e)

longer : {A : Type 0} (xs : List A) (x : A) (ys : List A) → length xs < length (xs ++ x ∷ ys)
longer [] x ys = omega arith
longer (y ∷ xs) x ys = let e = longer xs x ys in omega (arith, e)

abbrev pub IsAt : {A : Type 0} → List A → A → ℕ × A → Type 0
IsAt all d p = (p.0 < length all) × (slice_index_or all p.0 d ≡ p.1)

numbered_after : {A : Type 0} (all front rest : List A) (d : A) → all ≡ front ++ rest → AllByRecursion (IsAt all d) (enumerate_from (length front) rest)
numbered_after all front [] d is = tt
numbered_after all front (x ∷ rest) d is = (
  (subst (λ z. length front < length z) (sym is) (longer front x rest), at_number all front x rest d is),
  subst (λ k. AllByRecursion (IsAt all d) (enumerate_from k rest)) (one_longer front x) (numbered_after all (front ++ x ∷ []) rest d (is ∙ sym (append_assoc front (x ∷ []) rest))),
)

pub numbered_at : {A : Type 0} (all : List A) (d : A) → AllByRecursion (IsAt all d) (numbered all)
numbered_at all d = numbered_after all [] all d refl

map_all : {A B : Type 0} (K : A → Type 0) (Q : B → Type 0) (f : A → B) → ((x : A) → K x → Q (f x)) → (xs : List A) → AllByRecursion K xs → AllByRecursion Q (map f xs)
map_all K Q f go [] h = tt
map_all K Q f go (x ∷ xs) h = (go x h.0, map_all K Q f go xs h.1)

flat_all : {A B : Type 0} (K : A → Type 0) (Q : B → Type 0) (f : A → List B) → ((x : A) → K x → AllByRecursion Q (f x)) → (xs : List A) → AllByRecursion K xs → AllByRecursion Q (flat_map f xs)
flat_all K Q f go [] h = tt
flat_all K Q f go (x ∷ xs) h = both_all Q (f x) (flat_map f xs) (go x h.0) (flat_all K Q f go xs h.1)

pub any_list : {A : Type 0} (xs : List A) → AllByRecursion (λ (x : A). Unit {0}) xs
any_list [] = tt
any_list (x ∷ xs) = (tt, any_list xs)

found_case : {A : Type 0} (b : Bool) (k n : ℕ) (y x : A) (K : ℕ × A → Type 0) (later : Option A) → nat_eq k n ≡ b → K (k, y) → (later ≡ Some x → K (n, x)) → (if b then Some y else later) ≡ Some x → K (n, x)
found_case true k n y x K later e h next is = let key : k ≡ n = eqb-true k n e in let same : y ≡ x = cc in subst (λ z. K (n, z)) same (subst (λ z. K (z, y)) key h)
found_case false k n y x K later e h next is = next is

entry_holds : {A : Type 0} (K : ℕ × A → Type 0) (n : ℕ) (xs : List (ℕ × A)) (x : A) → AllByRecursion K xs → entry_of n xs ≡ Some x → K (n, x)
unfolding entry_of
entry_holds K n [] x h is = absurd (cc)
entry_holds K n (y ∷ xs) x h is = found_case (nat_eq y.0 n) y.0 n y.1 x K (entry_of n xs) refl h.0 (entry_holds K n xs x h.1) is

entries_case : {A : Type 0} (b : Bool) (k n : ℕ) (y : A) (K : ℕ × A → Type 0) (later : List A) → nat_eq k n ≡ b → K (k, y) → AllByRecursion (λ x. K (n, x)) later → AllByRecursion (λ x. K (n, x)) (if b then y ∷ later else later)
entries_case true k n y K later e h next = (subst (λ z. K (z, y)) (eqb-true k n e) h, next)
entries_case false k n y K later e h next = next

entries_hold : {A : Type 0} (K : ℕ × A → Type 0) (n : ℕ) (xs : List (ℕ × A)) → AllByRecursion K xs → AllByRecursion (λ x. K (n, x)) (entries_of n xs)
unfolding entries_of
entries_hold K n [] h = tt
entries_hold K n (y ∷ xs) h = entries_case (nat_eq y.0 n) y.0 n y.1 K (entries_of n xs) refl h.0 (entries_hold K n xs h.1)

-- ---- what names stand for

module _ (s : ScopedTree) (table : List (List ℕ)) where
  abbrev Means : Name → Meaning → Type 0
  Means n (meaning.Decl d) = (d < length s.decls) × (name_of (decl_at s.decls d) ≡ n)
  Means n (meaning.Function f) = (f < length s.functions) × (has_parameters (function_at s.functions f).params ≡ false) × ((function_at s.functions f).name ≡ n)
  Means n (meaning.Enum e) = Unit {0}
  Means n (meaning.Case e c) = Unit {0}

  abbrev MeansIt : Name × Meaning → Type 0
  MeansIt p = Means p.0 p.1

  abbrev pub Calls : Name × ℕ → Type 0
  Calls p = (p.1 < length s.functions) × (has_parameters (function_at s.functions p.1).params ≡ true) × ((function_at s.functions p.1).name ≡ p.0)

  enum_means : (e : ℕ × EnumTree) → AllByRecursion MeansIt (enum_meanings e)
  enum_means e = (tt, map_all (λ c. Unit {0}) MeansIt (case_meaning e.0) (λ c u. tt) (numbered e.1.cases) (any_list (numbered e.1.cases)))

  decl_means : (d : ℕ × Declaration) → IsAt s.decls (decl_at [] 0) d → MeansIt (decl_meaning d)
  decl_means d h = (h.0, ap name_of h.1)

  bare_case : (b : Bool) (f : ℕ × FunctionTree) → has_parameters f.1.params ≡ b → IsAt s.functions (function_at [] 0) f → AllByRecursion MeansIt (function_meaning b f.0 f.1.name)
  bare_case true f e h = tt
  bare_case false f e h = ((h.0, ap (λ (z : FunctionTree). has_parameters z.params) h.1 ∙ e, ap (λ (z : FunctionTree). z.name) h.1), tt)

  bare_means : (f : ℕ × FunctionTree) → IsAt s.functions (function_at [] 0) f → AllByRecursion MeansIt (bare_meaning f)
  bare_means f h = bare_case (has_parameters f.1.params) f refl h

  call_case : (b : Bool) (f : ℕ × FunctionTree) → has_parameters f.1.params ≡ b → IsAt s.functions (function_at [] 0) f → AllByRecursion Calls (applied_name b f.0 f.1.name)
  call_case true f e h = ((h.0, ap (λ (z : FunctionTree). has_parameters z.params) h.1 ∙ e, ap (λ (z : FunctionTree). z.name) h.1), tt)
  call_case false f e h = tt

  calls : (f : ℕ × FunctionTree) → IsAt s.functions (function_at [] 0) f → AllByRecursion Calls (with_parameters f)
  calls f h = call_case (has_parameters f.1.params) f refl h

  names_mean : AllByRecursion MeansIt (untyped table s).names
  unfolding untyped
  names_mean =
      both_all MeansIt (flat_map enum_meanings (numbered s.enums)) _ (flat_all (λ e. Unit {0}) MeansIt enum_meanings (λ e u. enum_means e) (numbered s.enums) (any_list (numbered s.enums)))
      (both_all MeansIt (map decl_meaning (numbered s.decls)) _ (map_all (IsAt s.decls (decl_at [] 0)) MeansIt decl_meaning decl_means (numbered s.decls) (numbered_at s.decls (decl_at [] 0)))
      (flat_all (IsAt s.functions (function_at [] 0)) MeansIt bare_meaning bare_means (numbered s.functions) (numbered_at s.functions (function_at [] 0))))

  pub functions_call : AllByRecursion Calls (untyped table s).functions
  unfolding untyped
  functions_call = flat_all (IsAt s.functions (function_at [] 0)) Calls with_parameters calls (numbered s.functions) (numbered_at s.functions (function_at [] 0))

  -- a name that is a declaration's has one of the declarations
  pub declared_below : (n : Name) (d : ℕ) → entry_of n (untyped table s).names ≡ Some (meaning.Decl d) → d < length s.decls
  declared_below n d is = (entry_holds MeansIt n (untyped table s).names (meaning.Decl d) names_mean is).0

  -- ---- what is used is referred to

  decl_sketched : (ds : List Declaration) (k : ℕ) → decl_sketch (decl_at ds k) ≡ sketch_at (map decl_sketch ds) k
  unfolding in_tree
  decl_sketched [] zero = refl
  decl_sketched [] (suc k) = refl
  decl_sketched (d ∷ ds) zero = refl
  decl_sketched (d ∷ ds) (suc k) = decl_sketched ds k

  function_sketched : (fs : List FunctionTree) (k : ℕ) → k < length fs → function_sketch (function_at fs k) ≡ sketch_at (map function_sketch fs) k
  function_sketched [] k below = absurd (omega (arith, below))
  function_sketched (f ∷ fs) zero below = refl
  function_sketched (f ∷ fs) (suc k) below = function_sketched fs k (omega (arith, below))

  decl_meant : (d : Declaration) (n : Name) → name_of d ≡ n → meant_by (decl_sketch d) ≡ Mention n
  decl_meant (source.declaration t k at e) n is = ap Mention is

  function_meant : (f : FunctionTree) (n : Name) (b : Bool) → has_parameters f.params ≡ b → f.name ≡ n → meant_by (function_sketch f) ≡ (if b then Call n else Mention n)
  function_meant f n true e is = ap (λ z. if z then Call f.name else Mention f.name) e ∙ ap Call is
  function_meant f n false e is = ap (λ z. if z then Call f.name else Mention f.name) e ∙ ap Mention is

  module _ (uses : List NameUse) where
    refers_decl : (d : ℕ) (n : Name) → d < length s.decls → name_of (decl_at s.decls d) ≡ n → IsUsed (Mention n) uses → RefersTo uses (map decl_sketch s.decls) d
    refers_decl d n below is used = record {
      counted = let e = length-map s.decls decl_sketch in omega (arith, e, below);
      used = subst (λ u. IsUsed u uses) (sym (ap meant_by (sym (decl_sketched s.decls d)) ∙ decl_meant (decl_at s.decls d) n is)) used;
    }

    refers_function : (f : ℕ) (n : Name) (b : Bool) → f < length s.functions → has_parameters (function_at s.functions f).params ≡ b → (function_at s.functions f).name ≡ n → IsUsed (if b then Call n else Mention n) uses → RefersTo uses (map function_sketch s.functions) f
    refers_function f n b below e is used = record {
      counted = let k = length-map s.functions function_sketch in omega (arith, k, below);
      used = subst (λ u. IsUsed u uses) (sym (ap meant_by (sym (function_sketched s.functions f below)) ∙ function_meant (function_at s.functions f) n b e is)) used;
    }

    module _ (ts us : List (ℕ × Test DeclaredType)) (hs ks : List (ℕ × Test Heading)) (decls : (d : ℕ) → RefersTo uses (map decl_sketch s.decls) d → entry_of d ts ≡ entry_of d us) (functions : (f : ℕ) → RefersTo uses (map function_sketch s.functions) f → entry_of f hs ≡ entry_of f ks) where
      abbrev b : Model
      b = untyped table s

      mention_alike : (n : Name) (x : Option Meaning) → entry_of n b.names ≡ x → IsUsed (Mention n) uses → MeantAlike b ts us hs ks x
      mention_alike n None is used = tt
      mention_alike n (Some (meaning.Decl d)) is used = let h = entry_holds MeansIt n b.names (meaning.Decl d) names_mean is in decls d (refers_decl d n h.0 h.1 used)
      mention_alike n (Some (meaning.Function f)) is used = let h = entry_holds MeansIt n b.names (meaning.Function f) names_mean is in functions f (refers_function f n false h.0 h.1 h.2 used)
      mention_alike n (Some (meaning.Enum e)) is used = tt
      mention_alike n (Some (meaning.Case e c)) is used = tt

      calls_alike : (n : Name) (fs : List ℕ) → AllByRecursion (λ f. Calls (n, f)) fs → IsUsed (Call n) uses → AllByRecursion (HeadingAlike b ts us hs ks) fs
      calls_alike n [] h used = tt
      calls_alike n (f ∷ fs) h used = (functions f (refers_function f n true h.0.0 h.0.1 h.0.2 used), calls_alike n fs h.1 used)

      use_alike : (u : NameUse) → IsUsed u uses → UseAlike b ts us hs ks u
      use_alike (Mention n) used = mention_alike n (entry_of n b.names) refl used
      use_alike (Call n) used = calls_alike n (entries_of n b.functions) (entries_hold Calls n b.functions functions_call) used

      each_alike : (vs : List NameUse) → ((u : NameUse) → IsUsed u vs → IsUsed u uses) → Alike b ts us hs ks vs
      each_alike [] all = tt
      each_alike (v ∷ vs) all = (use_alike v (all v (inl refl)), each_alike vs (λ u h. all u (inr h)))

      pub uses_alike : Alike b ts us hs ks uses
      uses_alike = each_alike uses (λ u h. h)
