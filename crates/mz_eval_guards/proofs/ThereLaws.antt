-- Nodes that tell whether values are there.
use Rattle.std.proofs.Common.{◌≡◌, ◌∙◌, ℕ, Bool, true, false, not, ◌||◌, ◌&&◌, ℤ, List, [], ◌∷◌, map, Option, Some, None, is_some, IsSome, refl, sym, ap, if◌then◌else◌, arith}
use Rattle.std.proofs.lemmas.Int.{ints}
use Rattle.std.specs.Ordering.{int_eq}
use Rattle.std.specs.Option.{option_map, option_and_then}
use Rattle.mz_value.specs.Ranges.{Range}
use Rattle.mz_value.specs.Contents.{Content}
use Rattle.mz_value.specs.Contents as values
use Rattle.mz_core.specs.declared.types.Base.{Base}
use Rattle.mz_core.specs.declared.types.Base.TheVariants as base
use Rattle.mz_operations.specs.Sets.{same_set}
use Rattle.mz_arena.specs.declared.node.NodeKind.TheVariants as kind
use Rattle.mz_arena.specs.Values.{Term, as_number, as_set, bit, holds, is_true, set_comparison_term}
use Rattle.mz_arena.specs.Values as terms
use Rattle.mz_meaning.specs.Cells.{Mode, Blank, Given, Cell, Sure, held, is_there}
use Rattle.mz_meaning.specs.Cells as cells
use Rattle.mz_symbol.specs.declared.types.Symbol.{Symbol}
use Rattle.mz_symbol.specs.declared.types.Line.{Line}
use Rattle.mz_symbol.specs.Symbols.{AreItems, IsItem, all_there, elements_value, symbol_value, value_at, value_by}
use Rattle.mz_symbol.specs.Runs.{Run}
use Rattle.mz_symbol.specs.Readings.{Reading, Reads}
use Rattle.mz_symbol.specs.Makes.{GoesOnBy}
use Rattle.mz_symbol.specs.Arguments.{as_argument}
use Rattle.mz_eval_symbols.specs.Taken.{IsLineOf}
use Rattle.glob_nodes.specs.Says.{Gives, Says, Tells, num}
use Rattle.glob_nodes.specs.StepsNodes.{meaning_over}
use Rattle.glob_nodes.proofs.Saying as saying
use Rattle.mz_eval_cells.specs.declared.types.Origin.{Origin}
use Rattle.mz_eval_cells.specs.declared.types.Origin.TheVariants as origin
use Rattle.mz_eval_cells.specs.declared.types.VarValue.{VarValue}
use Rattle.mz_eval_cells.specs.Views.{array_of, cast_by, origin_value, truth_by, var_content}
use Rattle.mz_eval_guards.specs.declared.types.Guard.{Guard}
use Rattle.mz_eval_guards.specs.declared.types.Guard.TheVariants as guard
use Rattle.mz_eval_guards.specs.Guards.{IsGuard, open_sure}
use Rattle.mz_eval_guards.specs.There.{plain_there, symbol_there, there_by, value_there}
use Rattle.mz_eval_guards.proofs.Joined.{guard_like, open_is}

-- ---- nodes

ranges_same : (u : List Range) → same_set u u ≡ true
unfolding same_set
ranges_same [] = refl
ranges_same (r ∷ rs) = ap (λ b. (b && int_eq r.1 r.1) && same_set rs rs) (equal r.0) ∙ ap (λ b. b && same_set rs rs) (equal r.1) ∙ ranges_same rs
  where
    equal : (n : ℤ) → int_eq n n ≡ true
    equal n = grind (arith, ints)

itself : (o : Option (List Range)) → holds o o same_set ≡ is_some o
itself None = refl
itself (Some u) = ranges_same u

pub set_tells : (old new : Run) (x id : ℕ) → Gives old new (meaning_over kind.SetEq x x) id → Tells old new (λ r. is_some (as_set (r.term x))) id
unfolding set_comparison_term
set_tells old new x id g = record {
  same = g.same;
  tells = λ r h. ap is_true (g.is r h) ∙ saying.true_bit (holds (as_set (r.term x)) (as_set (r.term x)) same_set) ∙ itself (as_set (r.term x));
}

pub number_tells : (old new : Run) (x id : ℕ) → Says old new (λ r. holds (num r x) (num r x) int_eq) id → Tells old new (λ r. is_some (num r x)) id
number_tells old new x id s = record { same = s.same; tells = λ r h. s.tells r h ∙ saying.is_there (num r x) }

-- a value that is there, or an option that is absent
pub option_tells : (n m : ℕ) (old one two new : Run) (b : Base) (o x there none id : ℕ) → Tells old one (λ r. value_there b (r.term x)) there → GoesOnBy n one two → Says one two (λ r. not (is_true (r.term o))) none → GoesOnBy m two new → Says two new (λ r. is_true (r.term none) || is_true (r.term there)) id → Tells old new (λ r. there_by b (Some o) r.term x) id
option_tells n m old one two new b o x there none id f g s k t = record {
  same = λ r h. f.same r (g.back r (k.back r h)) ∙ s.same r (k.back r h) ∙ t.same r h;
  tells = λ r h.
      t.tells r h
      ∙ ap (λ p. p || is_true (r.term there)) (s.tells r (k.back r h))
      ∙ ap (λ p. not (is_true (r.term o)) || p) (f.tells r (g.back r (k.back r h)));
}

-- ---- symbols

mapped : {A : Type 0} (f : A → Content) (o : Option A) → is_there (option_map f o) ≡ is_some o
mapped f None = refl
mapped f (Some x) = refl

value_is : (b : Base) (x : Term) → value_there b x ≡ is_there (value_by b x)
value_is base.SetInt x = sym (mapped _ (as_set x))
value_is (base.SetEnum e) x = sym (mapped _ (as_set x))
value_is b x = sym (mapped _ (as_number x))

there_is : (b : Base) (o : Option ℕ) (t : ℕ → Term) (x : ℕ) → there_by b o t x ≡ is_there (as_argument b o (value_at t b o x))
there_is base.Bool None t x = refl
there_is b None t x = value_is b (t x)
there_is b (Some o) t x = by (is_true (t o)) ∙ sym (ap is_there (kept b (if is_true (t o) then value_by b (t x) else Some values.absent)))
  where
    kept : (b : Base) (v : Option Content) → as_argument b (Some o) v ≡ v
    kept base.Bool v = refl
    kept b v = refl

    by : (p : Bool) → (not p || value_there b (t x)) ≡ is_there (if p then value_by b (t x) else Some values.absent)
    by true = value_is b (t x)
    by false = refl

pub symbol_tells : (old new : Run) (s : Symbol) (id : ℕ) → Tells old new (λ r. there_by s.base s.occurs r.term s.term) id → Tells old new (λ r. is_there (origin_value r.term (origin.Symbol s))) id
symbol_tells old new s id t = record { same = t.same; tells = λ r h. t.tells r h ∙ there_is s.base s.occurs r.term s.term }

truth_there : (p q : Bool) → (p || q) ≡ is_there (truth_by p q)
truth_there true q = refl
truth_there false true = refl
truth_there false false = refl

pub truth_tells : (old new : Run) (y d id : ℕ) → Says old new (λ r. is_true (r.term y) || is_true (r.term d)) id → Tells old new (λ r. is_there (origin_value r.term (origin.Truth y d))) id
truth_tells old new y d id s = record { same = s.same; tells = λ r h. s.tells r h ∙ truth_there (is_true (r.term y)) (is_true (r.term d)) }

-- ---- lines

some_there : (v : Option Content) → IsSome v → is_there v ≡ true
some_there None h = absurd (cc)
some_there (Some x) h = refl

values_there : (t : ℕ → Term) (ss : List Symbol) → AreItems t ss → is_there (all_there (map (symbol_value t) ss)) ≡ true
values_there t [] h = refl
values_there t (s ∷ ss) h = more (symbol_value t s) (all_there (map (symbol_value t) ss)) (map (symbol_value t) ss) refl (item s h.0) (values_there t ss h.1)
  where
    item : (s : Symbol) → IsItem t s → is_there (symbol_value t s) ≡ true
    item s i = one s.occurs (value_by s.base (t s.term)) (some_there (value_by s.base (t s.term)) i.value)
      where
        one : (o : Option ℕ) (v : Option Content) → is_there v ≡ true → is_there (value_at t s.base o s.term) ≡ true
        one None v e = some_there (value_by s.base (t s.term)) i.value
        one (Some o) v e = by (is_true (t o))
          where
            by : (p : Bool) → is_there (if p then value_by s.base (t s.term) else Some values.absent) ≡ true
            by true = some_there (value_by s.base (t s.term)) i.value
            by false = refl

    more : (v : Option Content) (w : Option (List Content)) (vs : List (Option Content)) → w ≡ all_there vs → is_there v ≡ true → is_there w ≡ true → is_there (all_there (v ∷ vs)) ≡ true
    more None w vs e h k = absurd (cc)
    more (Some x) None vs e h k = absurd (cc)
    more (Some x) (Some xs) vs e h k = ap (λ q. is_there (option_map (λ ys. x ∷ ys) q)) (sym e)

elements_there : (t : ℕ → Term) (d : ℕ) (ss : List Symbol) → (is_true (t d) ≡ true → AreItems t ss) → is_true (t d) ≡ is_there (elements_value t d ss)
elements_there t d ss w = by (is_true (t d)) refl
  where
    none : (q : Option (List Content)) → false ≡ is_there (option_and_then (λ xs. if false then Some xs else None) q)
    none None = refl
    none (Some xs) = refl

    some : (q : Option (List Content)) → is_there q ≡ true → true ≡ is_there (option_and_then (λ xs. if true then Some xs else None) q)
    some None h = absurd (cc)
    some (Some xs) h = refl

    by : (p : Bool) → is_true (t d) ≡ p → p ≡ is_there (option_and_then (λ xs. if p then Some xs else None) (all_there (map (symbol_value t) ss)))
    by false h = none (all_there (map (symbol_value t) ss))
    by true h = some (all_there (map (symbol_value t) ss)) (values_there t ss (w h))

pub line_tells : (s : Run) (k d n : ℕ) → IsLineOf s k d n → Tells s s (λ r. is_there (r.line k)) d
line_tells s k d n l = record {
  same = λ r h. refl;
  tells = λ r h.
      elements_there r.term d l.line.items.items (l.whole r.term h.nodes)
      ∙ ap (λ e. is_there (elements_value r.term e l.line.items.items)) (sym l.defined)
      ∙ ap is_there (sym (h.lines k l.line l.stands));
}

-- ---- cells

cast_there : (c : Option Base) (v : Option Content) → is_there v ≡ is_there (cast_by c v)
cast_there None v = refl
cast_there (Some b) None = refl
cast_there (Some b) (Some x) = refl

pub var_guards : (old new : Run) (v : VarValue) (id : ℕ) → Tells old new (λ r. is_there (origin_value r.term v.origin)) id → IsGuard old new (λ r. open_sure r.mode (is_there (var_content r.term v))) (guard.Open id)
var_guards old new v id t = guard_like old new _ _ (guard.Open id) (λ r. ap (open_sure r.mode) (cast_there v.cast (origin_value r.term v.origin))) (open_is old new _ id t)

pub row_guards : (old new : Run) (f : Reading → Bool) (id : ℕ) → Tells old new f id → IsGuard old new (λ r. open_sure r.mode (f r)) (guard.Open id)
row_guards = open_is

held_there : (m : Mode) (v : Option Content) → open_sure m (is_there v) ≡ record { par = false; is = is_there (held m v) }
held_there (Blank n) v = refl
held_there (Given f) v = refl

pub var_cell : (old new : Run) (f : Reading → Option Content) (x : Guard) → IsGuard old new (λ r. open_sure r.mode (is_there (f r))) x → IsGuard old new (λ r. record { par = false; is = is_there (held r.mode (f r)) }) x
var_cell old new f x h = guard_like old new _ _ x (λ r. held_there r.mode (f r)) h

row_there : (c : Option Base) (ix : List Range) (v : Option (List Content)) → is_there v ≡ is_there (cast_by c (array_of ix v))
row_there c ix None = cast_there c None
row_there c ix (Some xs) = cast_there c (array_of ix (Some xs))

pub row_cell : (old new : Run) (f : Reading → Option (List Content)) (c : Option Base) (ix : List Range) (x : Guard) → IsGuard old new (λ r. open_sure r.mode (is_there (f r))) x → IsGuard old new (λ r. record { par = false; is = is_there (held r.mode (cast_by c (array_of ix (f r)))) }) x
row_cell old new f c ix x h = guard_like old new _ _ x (λ r. ap (open_sure r.mode) (row_there c ix (f r)) ∙ held_there r.mode (cast_by c (array_of ix (f r)))) h
