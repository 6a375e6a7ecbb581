-- The meaning of nodes under values of the variables and the choices.
use Rattle.std.specs.Prelude.{ℕ, nat_abs, List, [], Some, int_le, int_lt, not}
use Rattle.std.specs.Ordering.{int_eq}
use Rattle.mz_operations.specs.declared.row.Arith.TheVariants as arith_row
use Rattle.mz_operations.specs.declared.row.Sign.TheVariants as sign_row
use Rattle.mz_operations.specs.declared.row.SetOp.TheVariants as set_row
use Rattle.mz_operations.specs.declared.row.Side.TheVariants.{Least, Greatest}
use Rattle.mz_operations.specs.Sets.{is_subset, same_set}
use Rattle.mz_arena.specs.declared.node.Node.{Node}
use Rattle.mz_arena.specs.declared.node.NodeKind.{NodeKind}
use Rattle.mz_arena.specs.declared.node.NodeKind.TheVariants.{Int, Bool as BoolNode, Var, Local, Add, Mul, Div, Mod, Min, Max, Abs, ToInt, Eq, Ne, Le, Lt, And, Or, Not, Iff, If, Access, Guard, Nil, Cons, SetConst, SetVar, SetLocal, Member, Union, Intersect, Diff, Symdiff, Card, SetEq, Subset}
use Rattle.mz_arena.specs.Entries.{Entry, at, folded, of_one, of_two, of_three}
use Rattle.mz_arena.specs.Values.{number, set, empty, Term, Values, arith_term, sign_term, extreme_term, comparison_term, set_comparison_term, member_term, and_term, or_term, not_term, iff_term, to_int_term, if_term, guard_term, access_term, cons_term, set_term, card_term}

-- the id that a variable or a choice has as its number
abbrev pub own_id : Node → ℕ
own_id n = nat_abs n.number

-- a node of a kind over its children's terms
abbrev pub kind_term : Values → Entry → NodeKind → List Term → Term
kind_term v e Int xs = Some (number e.node.number)
kind_term v e BoolNode xs = Some (number e.node.number)
kind_term v e Var xs = Some (number (v.number (own_id e.node)))
kind_term v e Local xs = Some (number (v.number (own_id e.node)))
kind_term v e Add xs = of_two xs (arith_term arith_row.Add)
kind_term v e Mul xs = of_two xs (arith_term arith_row.Mul)
kind_term v e Div xs = of_two xs (arith_term arith_row.Div)
kind_term v e Mod xs = of_two xs (arith_term arith_row.Mod)
kind_term v e Min xs = of_one xs (extreme_term Least)
kind_term v e Max xs = of_one xs (extreme_term Greatest)
kind_term v e Abs xs = of_one xs (sign_term sign_row.Abs)
kind_term v e ToInt xs = of_one xs to_int_term
kind_term v e Eq xs = of_two xs (comparison_term int_eq)
kind_term v e Ne xs = of_two xs (comparison_term (λ i j. not (int_eq i j)))
kind_term v e Le xs = of_two xs (comparison_term int_le)
kind_term v e Lt xs = of_two xs (comparison_term int_lt)
kind_term v e And xs = of_two xs and_term
kind_term v e Or xs = of_two xs or_term
kind_term v e Not xs = of_one xs not_term
kind_term v e Iff xs = of_two xs iff_term
kind_term v e If xs = of_three xs if_term
kind_term v e Access xs = of_two xs access_term
kind_term v e Guard xs = of_two xs guard_term
kind_term v e Nil xs = Some empty
kind_term v e Cons xs = of_two xs cons_term
kind_term v e SetConst xs = Some (set e.set)
kind_term v e SetVar xs = Some (set (v.set (own_id e.node)))
kind_term v e SetLocal xs = Some (set (v.set (own_id e.node)))
kind_term v e Member xs = of_two xs member_term
kind_term v e Union xs = of_two xs (set_term set_row.Union)
kind_term v e Intersect xs = of_two xs (set_term set_row.Intersect)
kind_term v e Diff xs = of_two xs (set_term set_row.Diff)
kind_term v e Symdiff xs = of_two xs (set_term set_row.Symdiff)
kind_term v e Card xs = of_one xs card_term
kind_term v e SetEq xs = of_two xs (set_comparison_term same_set)
kind_term v e Subset xs = of_two xs (set_comparison_term is_subset)

abbrev pub node_term : Values → Entry → List Term → Term
node_term v e xs = kind_term v e e.node.kind xs

unfoldable pub terms : Values → List Entry → List Term
terms v es = folded (node_term v) [] es

-- the term of an id
abbrev pub term : Values → List Entry → ℕ → Term
term v es id = at (terms v es) id
