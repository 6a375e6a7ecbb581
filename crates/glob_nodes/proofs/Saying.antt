-- What nodes say.
use Rattle.std.proofs.Common.{◌≡◌, ◌∙◌, ℕ, ℤ, Bool, true, false, not, Result, Ok, Err, IfOk, Option, Some, None, IsSome, is_some, refl, sym, ap, arith}
use Rattle.std.proofs.lemmas.Int.{ints}
use Rattle.std.specs.Ordering.{int_eq}
use Rattle.mz_operations.specs.Views.{number_of_bool}
use Rattle.mz_arena.specs.declared.node.NodeKind.TheVariants as kind
use Rattle.mz_arena.specs.declared.node.NodeKind.{NodeKind}
use Rattle.mz_arena.specs.Values.{bit, holds, is_true, comparison_term, and_term, or_term, not_term, iff_term, to_int_term}
use Rattle.mz_arena.specs.Values as terms
use Rattle.mz_symbol.specs.Runs.{Run}
use Rattle.mz_symbol.specs.Readings.{Reading, Reads}
use Rattle.glob_nodes.specs.declared.nodes.Compare.{Compare}
use Rattle.glob_nodes.specs.declared.nodes.Compare.TheVariants.{Equal, Differ, AtMost, Less}
use Rattle.glob_nodes.specs.declared.nodes.Join.{Join}
use Rattle.glob_nodes.specs.declared.nodes.Join.TheVariants.{Both, Either, Alike}
use Rattle.glob_nodes.specs.Says.{Gives, Says, num, compares, joins}
use Rattle.glob_nodes.specs.StepsNodes.{meaning_over, compare_kind, join_kind}

pub ok_so : {A E : Type 0} {P Q : A → Type 0} (x : Result A E) → IfOk x P → ((a : A) → P a → Q a) → IfOk x Q
ok_so (Ok a) h f = f a h
ok_so (Err e) h f = tt

pub true_bit : (b : Bool) → is_true (bit b) ≡ b
true_bit true = refl
true_bit false = refl

pub says_by : (old new : Run) (f : Reading → Bool) (id : ℕ) → Gives old new (λ r. bit (f r)) id → Says old new f id
says_by old new f id g = record { same = g.same; is = g.is; tells = λ r h. ap is_true (g.is r h) ∙ true_bit (f r) }

equal_itself : (n : ℤ) → int_eq n n ≡ true
equal_itself n = grind (arith, ints)

-- what equals itself is there
pub is_there : (o : Option ℤ) → holds o o int_eq ≡ is_some o
is_there None = refl
is_there (Some n) = equal_itself n

-- what is there equals itself
pub sure_says : (old new : Run) (x id : ℕ) → Says old new (λ _. true) id → ((r : Reading) → Reads r new → IsSome (num r x)) → Says old new (λ r. is_some (num r x)) id
sure_says old new x id s f = record { same = s.same; is = λ r h. s.is r h ∙ ap bit (sym (f r h)); tells = λ r h. s.tells r h ∙ sym (f r h) }

pub there_says : (old new : Run) (x id : ℕ) → Says old new (λ r. compares Equal (num r x) (num r x)) id → Says old new (λ r. is_some (num r x)) id
there_says old new x id s = record { same = s.same; is = λ r h. s.is r h ∙ ap bit (is_there (num r x)); tells = λ r h. s.tells r h ∙ is_there (num r x) }

compare_term : (op : Compare) (a b : ℕ) (r : Reading) → meaning_over (compare_kind op) a b r ≡ bit (compares op (num r a) (num r b))
unfolding comparison_term
compare_term Equal a b r = refl
compare_term Differ a b r = refl
compare_term AtMost a b r = refl
compare_term Less a b r = refl

pub compare_says : (old new : Run) (op : Compare) (k : NodeKind) (a b id : ℕ) → k ≡ compare_kind op → Gives old new (meaning_over k a b) id → Says old new (λ r. compares op (num r a) (num r b)) id
compare_says old new op k a b id e g = says_by old new (λ r. compares op (num r a) (num r b)) id (record { same = g.same; is = λ r h. g.is r h ∙ ap (λ k. meaning_over k a b r) e ∙ compare_term op a b r })

join_term : (op : Join) (a b : ℕ) (r : Reading) → meaning_over (join_kind op) a b r ≡ bit (joins op (is_true (r.term a)) (is_true (r.term b)))
unfolding and_term or_term iff_term
join_term Both a b r = refl
join_term Either a b r = refl
join_term Alike a b r = refl

pub join_says : (old new : Run) (op : Join) (k : NodeKind) (a b id : ℕ) → k ≡ join_kind op → Gives old new (meaning_over k a b) id → Says old new (λ r. joins op (is_true (r.term a)) (is_true (r.term b))) id
join_says old new op k a b id e g = says_by old new (λ r. joins op (is_true (r.term a)) (is_true (r.term b))) id (record { same = g.same; is = λ r h. g.is r h ∙ ap (λ k. meaning_over k a b r) e ∙ join_term op a b r })

pub not_says : (old new : Run) (a id : ℕ) → Gives old new (meaning_over kind.Not a 0) id → Says old new (λ r. not (is_true (r.term a))) id
unfolding not_term
not_says old new a id g = says_by old new (λ r. not (is_true (r.term a))) id (record { same = g.same; is = g.is })

pub number_gives : (old new : Run) (a id : ℕ) → Gives old new (meaning_over kind.ToInt a 0) id → Gives old new (λ r. Some (terms.number (number_of_bool (is_true (r.term a))))) id
unfolding to_int_term
number_gives old new a id g = record { same = g.same; is = g.is }
