-- The arguments of a call as they are taken, one after another.
use Rattle.std.proofs.Common.{◌≡◌, refl, ap, sym, ◌∙◌, Bool, true, false, List, [], ◌∷◌, ◌++◌, append_assoc, ◌<◌, length, arith}
use Rattle.std.specs.Prelude.{Option, Some, None, if◌then◌else◌}
use Rattle.std.specs.Option.{option_map}
use Rattle.std.proofs.lemmas.List.{append-nil}
use Rattle.mz_base.specs.declared.fault.Span.{Span}
use Rattle.mz_tree.specs.Tree.{Name, Tree, Maybe, Generator, generator}
use Rattle.mz_grammar.specs.RulesReading.{on}
use Rattle.mz_grammar.specs.Parts.{Operand, tree_of, Argument, unguarded, guarded, strict}
use Rattle.mz_grammar.specs.Arguments.{unguarded_of, trees_of, Role, role_of, waiting, bound, unfit, by_role, generators_behind, generators_of}

-- one more argument after trees that were taken, if it is an expression
abbrev with_last : Option (List Tree) → Option Operand → Option (List Tree)
with_last o g = on o None (λ es. on g None (λ x. Some (es ++ (tree_of x ∷ []))))

-- a first tree stands before both
with_last-cons : (y : Operand) (o : Option (List Tree)) (g : Option Operand) → option_map (λ es. tree_of y ∷ es) (with_last o g) ≡ with_last (option_map (λ es. tree_of y ∷ es) o) g
with_last-cons y None g = refl
with_last-cons y (Some es) None = refl
with_last-cons y (Some es) (Some x) = refl

-- the trees of arguments, and of one more after them
pub trees_of-behind : (xs : List Argument) (a : Argument) → trees_of (xs ++ (a ∷ [])) ≡ with_last (trees_of xs) (unguarded_of a)
trees_of-behind [] a = refl
trees_of-behind (unguarded y ∷ xs) a = ap (option_map (λ es. tree_of y ∷ es)) (trees_of-behind xs a) ∙ with_last-cons y (trees_of xs) (unguarded_of a)
trees_of-behind (guarded y c ∷ xs) a = refl
trees_of-behind (strict g ∷ xs) a = refl

-- The arguments xs were taken: they gave these generators, if they fit, and these names wait for their `in`.
pub Taken : List Argument → Bool → List Generator → List (Name × Span) → Type 0
Taken xs fit gs names = (rest : List Argument) → generators_behind [] (xs ++ rest) ≡ (if fit then option_map (λ more. gs ++ more) (generators_behind names rest) else None)

-- what no list is put before
unchanged : {A : Type 0} (o : Option (List A)) → o ≡ option_map (λ xs. xs) o
unchanged None = refl
unchanged (Some xs) = refl

-- No argument was taken yet.
pub taken-none : Taken [] true [] []
unfolding Taken
taken-none rest = unchanged (generators_behind [] rest)

-- what one argument is, and those after it
behind_role : (names : List (Name × Span)) (a : Argument) (rest : List Argument) (r : Role) → role_of a ≡ r → generators_behind names (a ∷ rest) ≡ by_role names r (λ ms. generators_behind ms rest)
behind_role [] a rest r e = ap (λ (r : Role). by_role [] r (λ ms. generators_behind ms rest)) e
behind_role (n ∷ ns) a rest r e = ap (λ (r : Role). by_role (n ∷ ns) r (λ ms. generators_behind ms rest)) e

-- one more argument, whose role is r
step_taken : (xs : List Argument) (fit : Bool) (gs : List Generator) (names : List (Name × Span)) (a : Argument) (r : Role) → role_of a ≡ r → Taken xs fit gs names → (rest : List Argument) → generators_behind [] ((xs ++ (a ∷ [])) ++ rest) ≡ (if fit then option_map (λ more. gs ++ more) (by_role names r (λ ms. generators_behind ms rest)) else None)
unfolding Taken
step_taken xs fit gs names a r e t rest = rw (append_assoc, t (a ∷ rest), behind_role names a rest r e)

-- a name, which waits
pub taken-waiting : (xs : List Argument) (fit : Bool) (gs : List Generator) (names : List (Name × Span)) (a : Argument) (n : Name) (s : Span) → role_of a ≡ waiting n s → Taken xs fit gs names → Taken (xs ++ (a ∷ [])) fit gs (names ++ ((n, s) ∷ []))
unfolding Taken
taken-waiting xs fit gs names a n s e t = step_taken xs fit gs names a (waiting n s) e t

-- a generator after those so far, and more after it
one_more : (gs : List Generator) (g : Generator) (o : Option (List Generator)) → option_map (λ more. gs ++ more) (option_map (λ hs. g ∷ hs) o) ≡ option_map (λ more. (gs ++ (g ∷ [])) ++ more) o
one_more gs g None = refl
one_more gs g (Some hs) = rw append_assoc

-- the same, if they fit
if_fit : (fit : Bool) (o p : Option (List Generator)) → o ≡ p → (if fit then o else None) ≡ (if fit then p else None)
if_fit fit o p e = rw e

-- names with their set, after those that waited
pub taken-bound : (xs : List Argument) (fit : Bool) (gs : List Generator) (names ms : List (Name × Span)) (a : Argument) (e : Tree) (c : Maybe) → role_of a ≡ bound ms e c → Taken xs fit gs names → Taken (xs ++ (a ∷ [])) fit (gs ++ (generator (names ++ ms) e c ∷ [])) []
unfolding Taken
taken-bound xs fit gs names ms a e c r t rest = step_taken xs fit gs names a (bound ms e c) r t rest ∙ if_fit fit _ _ (one_more gs (generator (names ++ ms) e c) (generators_behind [] rest))

-- nothing, whether they fit or not
nothing_fits : (fit : Bool) → ◌≡◌ {A = Option (List Generator)} (if fit then None else None) None
nothing_fits true = refl
nothing_fits false = refl

-- an argument that is no generator's
pub taken-unfit : (xs : List Argument) (fit : Bool) (gs : List Generator) (names : List (Name × Span)) (a : Argument) → role_of a ≡ unfit → Taken xs fit gs names → Taken (xs ++ (a ∷ [])) false gs names
unfolding Taken
taken-unfit xs fit gs names a r t rest = step_taken xs fit gs names a unfit r t rest ∙ nothing_fits fit

-- all arguments, of which there is one at least
all_taken : (xs : List Argument) → 0 < length xs → generators_of xs ≡ generators_behind [] (xs ++ [])
all_taken [] h = absurd (omega arith)
all_taken (a ∷ xs) h = ap (λ (ys : List Argument). generators_behind [] (a ∷ ys)) (sym (append-nil xs))

-- All were taken, and no name waits.
pub taken-done : (xs : List Argument) (gs : List Generator) → 0 < length xs → Taken xs true gs [] → generators_of xs ≡ Some gs
unfolding Taken
taken-done xs gs h t = all_taken xs h ∙ t [] ∙ ap Some (append-nil gs)

-- All were taken, and a name still waits for its `in`.
pub taken-waits : (xs : List Argument) (fit : Bool) (gs : List Generator) (n : Name × Span) (ns : List (Name × Span)) → 0 < length xs → Taken xs fit gs (n ∷ ns) → generators_of xs ≡ None
unfolding Taken
taken-waits xs fit gs n ns h t = all_taken xs h ∙ t [] ∙ nothing_fits fit

-- Some argument was no generator's.
pub taken-fails : (xs : List Argument) (gs : List Generator) (names : List (Name × Span)) → 0 < length xs → Taken xs false gs names → generators_of xs ≡ None
unfolding Taken
taken-fails xs gs names h t = all_taken xs h ∙ t []
