-- The arguments of a call, and the generators that they may be.
use Rattle.std.specs.Prelude.{Bool, true, false, List, [], ◌∷◌, ◌++◌, Option, Some, None}
use Rattle.std.specs.Option.{option_map}
use Rattle.mz_base.specs.declared.fault.Span.{Span}
use Rattle.mz_tree.specs.Tree.{Name, Tree, Maybe, Generator, generator, just, nothing}
use Rattle.mz_grammar.specs.RulesReading.{on}
use Rattle.mz_grammar.specs.declared.list.Generators.{Generators}
use Rattle.mz_grammar.specs.declared.list.Generators.TheVariants.{Possible, AwaitingIn, Impossible}
use Rattle.mz_grammar.specs.Parts.{Operand, name, member, other, tree_of, Argument, unguarded, guarded, strict}

-- whether they may still be generators after one more argument
abbrev pub possible_after : Generators → Operand → Generators
possible_after Impossible x = Impossible
possible_after t (name n s) = AwaitingIn
possible_after t (member n s p e) = Possible
possible_after t (other s e) = Impossible

-- an `in` may follow a comma: `f(i, in S)(e)`
abbrev pub awaits_in : Generators → Bool
awaits_in AwaitingIn = true
awaits_in _ = false

-- a `where` may follow this argument
abbrev pub takes_where : Generators → Operand → Bool
takes_where Impossible x = false
takes_where t (member n s p e) = true
takes_where t x = false

-- an argument that is an expression
abbrev pub unguarded_of : Argument → Option Operand
unguarded_of (unguarded x) = Some x
unguarded_of (guarded x c) = None
unguarded_of (strict g) = None

-- the arguments as expressions
abbrev pub trees_of : List Argument → Option (List Tree)
trees_of [] = Some []
trees_of (a ∷ rest) = on (unguarded_of a) None (λ x. option_map (λ es. tree_of x ∷ es) (trees_of rest))

-- what an argument is to the generators of a call: a name that waits for its `in`, or the names that stand with a set, and its `where`, or neither
pub data Role : Type 0 where
  waiting : Name → Span → Role
  bound : List (Name × Span) → Tree → Maybe → Role
  unfit : Role

abbrev pub role_of : Argument → Role
role_of (unguarded (name n s)) = waiting n s
role_of (unguarded (member n s p e)) = bound ((n, s) ∷ []) e nothing
role_of (unguarded (other s e)) = unfit
role_of (guarded (name n s) c) = unfit
role_of (guarded (member n s p e) c) = bound ((n, s) ∷ []) e (just c)
role_of (guarded (other s e) c) = unfit
role_of (strict (generator ms e c)) = bound ms e c

-- one argument, where these names wait for their `in`, and the arguments after it
abbrev pub by_role : List (Name × Span) → Role → (List (Name × Span) → Option (List Generator)) → Option (List Generator)
by_role ns (waiting n s) rest = rest (ns ++ ((n, s) ∷ []))
by_role ns (bound ms e c) rest = option_map (λ gs. generator (ns ++ ms) e c ∷ gs) (rest [])
by_role ns unfit rest = None

-- the arguments as generators, where these names wait for their `in`
abbrev pub generators_behind : List (Name × Span) → List Argument → Option (List Generator)
generators_behind [] [] = Some []
generators_behind (n ∷ ns) [] = None
generators_behind ns (a ∷ rest) = by_role ns (role_of a) (λ ms. generators_behind ms rest)

-- the arguments as generators, of which there is one at least
abbrev pub generators_of : List Argument → Option (List Generator)
generators_of [] = None
generators_of (a ∷ rest) = generators_behind [] (a ∷ rest)
