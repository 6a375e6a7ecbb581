-- Nodes over sets, and sets as arguments.
use Rattle.std.proofs.Common.{◌≡◌, ◌∙◌, ℕ, ℤ, Bool, true, ◌&&◌, List, [], ◌∷◌, Option, Some, None, is_some, refl, ap, arith}
use Rattle.std.proofs.lemmas.Int.{ints}
use Rattle.std.specs.Option.{option_map, option_and_then}
use Rattle.std.specs.Ordering.{int_eq}
use Rattle.mz_value.specs.Ranges.{Range}
use Rattle.mz_value.specs.Contents as values
use Rattle.mz_operations.specs.Arguments.{Arguments, at, set_at}
use Rattle.mz_operations.specs.Sets.{same_set}
use Rattle.mz_operations.specs.Views.{as_set as set_in}
use Rattle.mz_arena.specs.declared.node.NodeKind.TheVariants as kind
use Rattle.mz_arena.specs.Values.{as_set, holds, is_member, is_true, member_term, set_comparison_term}
use Rattle.mz_symbol.specs.Runs.{Run}
use Rattle.glob_nodes.specs.Says.{Gives, Says, Tells, num}
use Rattle.glob_nodes.specs.StepsNodes.{meaning_over}
use Rattle.glob_nodes.proofs.Rows.{found}
use Rattle.glob_nodes.proofs.Saying.{says_by, true_bit}

pub member_says : (old new : Run) (x s id : ℕ) → Gives old new (meaning_over kind.Member x s) id → Says old new (λ r. is_member (num r x) (as_set (r.term s))) id
unfolding member_term
member_says old new x s id g = says_by old new (λ r. is_member (num r x) (as_set (r.term s))) id (record { same = g.same; is = g.is })

equal_itself : (n : ℤ) → int_eq n n ≡ true
equal_itself n = grind (arith, ints)

true_both : (a b c : Bool) → a ≡ true → b ≡ true → c ≡ true → (a && b && c) ≡ true
true_both a b c p q s = cc

same_itself : (s : List Range) → same_set s s ≡ true
unfolding same_set
same_itself [] = refl
same_itself (r ∷ s) = true_both (int_eq r.0 r.0) (int_eq r.1 r.1) (same_set s s) (equal_itself r.0) (equal_itself r.1) (same_itself s)

set_there : (o : Option (List Range)) → holds o o same_set ≡ is_some o
set_there None = refl
set_there (Some s) = same_itself s

pub set_tells : (old new : Run) (s id : ℕ) → Gives old new (meaning_over kind.SetEq s s) id → Tells old new (λ r. is_some (as_set (r.term s))) id
unfolding set_comparison_term
set_tells old new s id g = record {
  same = g.same;
  tells = λ r q. ap is_true (g.is r q) ∙ true_bit (holds (as_set (r.term s)) (as_set (r.term s)) same_set) ∙ set_there (as_set (r.term s));
}

set_of : (o : Option (List Range)) → option_and_then set_in (option_map (values.set None) o) ≡ o
unfolding set_in
set_of None = refl
set_of (Some s) = refl

-- the set at a place
pub set_is : (args : Arguments) (k : ℕ) (o : Option (List Range)) → at args k ≡ option_map (values.set None) o → set_at args k ≡ o
unfolding set_at
set_is args k o h = ap (option_and_then set_in) h ∙ set_of o

-- what is told of a set that is there
pub set_found : (o : Option (List Range)) (b : Bool) (f : List Range → Bool) → ((s : List Range) → o ≡ Some s → b ≡ f s) → (is_some o && b) ≡ found f o
set_found None b f e = refl
set_found (Some s) b f e = e s refl
