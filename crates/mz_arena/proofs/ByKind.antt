-- A node's term lies in its bounds where its parts' terms do: the table of kinds.
use Rattle.std.proofs.Common.{◌≡◌, ℕ, List, [], ◌∷◌, map, take, true, false, refl, arith}
use Rattle.std.proofs.lemmas.Int.{ints}
use Rattle.mz_operations.specs.declared.row.Arith.TheVariants as arith_row
use Rattle.mz_operations.specs.declared.row.SetOp.TheVariants as set_row
use Rattle.mz_operations.specs.declared.row.Side.TheVariants.{Least, Greatest}
use Rattle.mz_operations.specs.Laws.{IsSet}
use Rattle.mz_operations.proofs.SetBounds.{part_same}
use Rattle.mz_arena.specs.declared.node.NodeKind.{NodeKind}
use Rattle.mz_arena.specs.declared.node.NodeKind.TheVariants.{Int, Bool as BoolNode, Var, Local, Add, Mul, Div, Mod, Min, Max, Abs, ToInt, Eq, Ne, Le, Lt, And, Or, Not, Iff, If, Access, Guard, Nil, Cons, SetConst, SetVar, SetLocal, Member, Union, Intersect, Diff, Symdiff, Card, SetEq, Subset}
use Rattle.mz_arena.specs.Entries.{Entry, arity, is_free, is_set_const}
use Rattle.mz_arena.specs.Values.{Term, Values, comparison_term, set_comparison_term, member_term, and_term, or_term, not_term, iff_term}
use Rattle.mz_arena.specs.Terms.{kind_term}
use Rattle.mz_arena.specs.Extents.{Known, kind_extent}
use Rattle.mz_arena.specs.InBounds.{Lies, HasSets}
use Rattle.mz_arena.proofs.Sets.{number_sets, extreme_sets, bool_sets, variable_sets, set_variable_sets, to_int_sets, comparison_sets, connective_sets, not_sets, member_sets, set_comparison_sets, if_sets, guard_sets, access_sets, cons_sets, set_sets}
use Rattle.mz_arena.proofs.Families.{limited_lies, bool_lies, arith_lies, abs_lies, extreme_lies, to_int_lies, comparison_lies, connective_lies, not_lies, member_lies, set_comparison_lies, if_lies, guard_lies}
use Rattle.mz_arena.proofs.BoundsOfLists.{access_lies, cons_lies, set_op_lies, card_lies}

-- ---- greatest sets

abbrev pub AllHaveSets : (ℕ → Known) → List ℕ → Type 0
AllHaveSets f [] = Unit {0}
AllHaveSets f (i ∷ is) = HasSets (f i) × AllHaveSets f is

pub kind_sets : (e : Entry) (k : NodeKind) (f : ℕ → Known) (a b c : ℕ) → (is_set_const k ≡ true → IsSet e.set) → AllHaveSets f (take (arity k) (a ∷ b ∷ c ∷ [])) → HasSets (kind_extent e k (map f (take (arity k) (a ∷ b ∷ c ∷ []))))
kind_sets e Int f a b c s h = number_sets _
kind_sets e BoolNode f a b c s h = bool_sets e.node.number
kind_sets e Var f a b c s h = variable_sets e.node.c (f a)
kind_sets e Local f a b c s h = variable_sets e.node.c (f a)
kind_sets e Add f a b c s h = number_sets _
kind_sets e Mul f a b c s h = number_sets _
kind_sets e Div f a b c s h = number_sets _
kind_sets e Mod f a b c s h = number_sets _
kind_sets e Min f a b c s h = extreme_sets _ _
kind_sets e Max f a b c s h = extreme_sets _ _
kind_sets e Abs f a b c s h = number_sets _
kind_sets e ToInt f a b c s h = to_int_sets (f a)
kind_sets e Eq f a b c s h = comparison_sets (f a) (f b)
kind_sets e Ne f a b c s h = comparison_sets (f a) (f b)
kind_sets e Le f a b c s h = comparison_sets (f a) (f b)
kind_sets e Lt f a b c s h = comparison_sets (f a) (f b)
kind_sets e And f a b c s h = connective_sets (f a) (f b)
kind_sets e Or f a b c s h = connective_sets (f a) (f b)
kind_sets e Not f a b c s h = not_sets (f a)
kind_sets e Iff f a b c s h = connective_sets (f a) (f b)
kind_sets e If f a b c s h = if_sets (f a) (f b) (f c) h.1.0 h.1.1.0
kind_sets e Access f a b c s h = access_sets (f a) (f b) h.1.0
kind_sets e Guard f a b c s h = guard_sets (f a) (f b) h.1.0
kind_sets e Nil f a b c s h = tt
kind_sets e Cons f a b c s h = cons_sets (f a) (f b) h.0 h.1.0
kind_sets e SetConst f a b c s h = s refl
kind_sets e SetVar f a b c s h = set_variable_sets (f a) h.0
kind_sets e SetLocal f a b c s h = set_variable_sets (f a) h.0
kind_sets e Member f a b c s h = member_sets (f a) (f b)
kind_sets e Union f a b c s h = set_sets set_row.Union (f a) (f b) h.0 h.1.0
kind_sets e Intersect f a b c s h = set_sets set_row.Intersect (f a) (f b) h.0 h.1.0
kind_sets e Diff f a b c s h = set_sets set_row.Diff (f a) (f b) h.0 h.1.0
kind_sets e Symdiff f a b c s h = set_sets set_row.Symdiff (f a) (f b) h.0 h.1.0
kind_sets e Card f a b c s h = number_sets _
kind_sets e SetEq f a b c s h = set_comparison_sets (f a) (f b)
kind_sets e Subset f a b c s h = set_comparison_sets (f a) (f b)

-- ---- terms

-- a part's term and its bounds
pub record PartLies (x : Known) (t : Term) : Type 0 where
  pub sets : HasSets x
  pub lies : Lies x t

abbrev pub AllLie : (ℕ → Known) → (ℕ → Term) → List ℕ → Type 0
AllLie f g [] = Unit {0}
AllLie f g (i ∷ is) = PartLies (f i) (g i) × AllLie f g is

pub kind_lies : (v : Values) (e : Entry) (k : NodeKind) (f : ℕ → Known) (g : ℕ → Term) (a b c : ℕ) → is_free k ≡ false → (is_set_const k ≡ true → IsSet e.set) → AllLie f g (take (arity k) (a ∷ b ∷ c ∷ [])) → Lies (kind_extent e k (map f (take (arity k) (a ∷ b ∷ c ∷ [])))) (kind_term v e k (map g (take (arity k) (a ∷ b ∷ c ∷ []))))
unfolding comparison_term set_comparison_term member_term and_term or_term not_term iff_term
kind_lies v e Int f g a b c n s h = limited_lies (e.node.number, e.node.number) e.node.number (record { from = omega (arith, ints); to = omega (arith, ints) })
kind_lies v e BoolNode f g a b c n s h = bool_lies e.node.number
kind_lies v e Var f g a b c n s h = absurd (cc)
kind_lies v e Local f g a b c n s h = absurd (cc)
kind_lies v e Add f g a b c n s h = arith_lies arith_row.Add (f a) (f b) (g a) (g b) h.0.lies h.1.0.lies
kind_lies v e Mul f g a b c n s h = arith_lies arith_row.Mul (f a) (f b) (g a) (g b) h.0.lies h.1.0.lies
kind_lies v e Div f g a b c n s h = arith_lies arith_row.Div (f a) (f b) (g a) (g b) h.0.lies h.1.0.lies
kind_lies v e Mod f g a b c n s h = arith_lies arith_row.Mod (f a) (f b) (g a) (g b) h.0.lies h.1.0.lies
kind_lies v e Min f g a b c n s h = extreme_lies Least (f a) (g a) h.0.lies
kind_lies v e Max f g a b c n s h = extreme_lies Greatest (f a) (g a) h.0.lies
kind_lies v e Abs f g a b c n s h = abs_lies (f a) (g a) h.0.lies
kind_lies v e ToInt f g a b c n s h = to_int_lies (f a) (g a) h.0.lies
kind_lies v e Eq f g a b c n s h = comparison_lies (f a) (f b) _
kind_lies v e Ne f g a b c n s h = comparison_lies (f a) (f b) _
kind_lies v e Le f g a b c n s h = comparison_lies (f a) (f b) _
kind_lies v e Lt f g a b c n s h = comparison_lies (f a) (f b) _
kind_lies v e And f g a b c n s h = connective_lies (f a) (f b) _
kind_lies v e Or f g a b c n s h = connective_lies (f a) (f b) _
kind_lies v e Not f g a b c n s h = not_lies (f a) _
kind_lies v e Iff f g a b c n s h = connective_lies (f a) (f b) _
kind_lies v e If f g a b c n s h = if_lies (f a) (f b) (f c) (g a) (g b) (g c) h.1.0.sets h.1.1.0.sets h.1.0.lies h.1.1.0.lies
kind_lies v e Access f g a b c n s h = access_lies (f a) (f b) (g a) (g b) h.1.0.sets h.0.lies h.1.0.lies
kind_lies v e Guard f g a b c n s h = guard_lies (f a) (f b) (g a) (g b) h.1.0.lies
kind_lies v e Nil f g a b c n s h = tt
kind_lies v e Cons f g a b c n s h = cons_lies (f a) (f b) (g a) (g b) h.0.lies h.1.0.lies
kind_lies v e SetConst f g a b c n s h = record { set = s refl; part = part_same e.set }
kind_lies v e SetVar f g a b c n s h = absurd (cc)
kind_lies v e SetLocal f g a b c n s h = absurd (cc)
kind_lies v e Member f g a b c n s h = member_lies (f a) (f b) _
kind_lies v e Union f g a b c n s h = set_op_lies set_row.Union (f a) (f b) (g a) (g b) h.0.sets h.1.0.sets h.0.lies h.1.0.lies
kind_lies v e Intersect f g a b c n s h = set_op_lies set_row.Intersect (f a) (f b) (g a) (g b) h.0.sets h.1.0.sets h.0.lies h.1.0.lies
kind_lies v e Diff f g a b c n s h = set_op_lies set_row.Diff (f a) (f b) (g a) (g b) h.0.sets h.1.0.sets h.0.lies h.1.0.lies
kind_lies v e Symdiff f g a b c n s h = set_op_lies set_row.Symdiff (f a) (f b) (g a) (g b) h.0.sets h.1.0.sets h.0.lies h.1.0.lies
kind_lies v e Card f g a b c n s h = card_lies (f a) (g a) h.0.sets h.0.lies
kind_lies v e SetEq f g a b c n s h = set_comparison_lies (f a) (f b) _
kind_lies v e Subset f g a b c n s h = set_comparison_lies (f a) (f b) _
