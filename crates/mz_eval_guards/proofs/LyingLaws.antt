-- Nodes that tell whether values lie in a set.
use Rattle.std.proofs.Common.{◌≡◌, ◌∙◌, ℕ, ℤ, Bool, true, false, not, ◌&&◌, ◌||◌, List, [], Option, Some, None, is_some, refl, sym, ap, if◌then◌else◌}
use Rattle.std.specs.Option.{option_map}
use Rattle.mz_value.specs.Ranges.{Range}
use Rattle.mz_value.specs.Contents.{Content}
use Rattle.mz_value.specs.Contents as values
use Rattle.mz_core.specs.declared.types.Base.{Base}
use Rattle.mz_core.specs.declared.types.Base.TheVariants as base
use Rattle.mz_operations.specs.Sets.{contains, is_empty_set, is_subset}
use Rattle.mz_arena.specs.declared.node.NodeKind.TheVariants as kind
use Rattle.mz_arena.specs.Values.{Term, as_number, as_set, holds, is_member, is_true, member_term, set_comparison_term}
use Rattle.mz_instance.specs.Contents.{content_by}
use Rattle.mz_meaning.specs.Arrays.{defined_in, item_suits}
use Rattle.mz_meaning.specs.Cells.{Mode, Blank, Given, held, value_of}
use Rattle.mz_meaning.specs.Runs.{State, Out}
use Rattle.mz_symbol.specs.declared.types.Symbol.{Symbol}
use Rattle.mz_symbol.specs.Symbols.{symbol_value, value_at, value_by}
use Rattle.mz_symbol.specs.Runs.{Run}
use Rattle.mz_symbol.specs.Readings.{Reading, IsGiven, Reads, state_of, symbol_seen}
use Rattle.mz_symbol.specs.Makes.{GoesOnBy}
use Rattle.mz_symbol.proofs.ConstantLaws.{out_value, out_state}
use Rattle.mz_symbol.specs.Arguments.{as_argument}
use Rattle.mz_symbol_rows.specs.RowValues.{argument}
use Rattle.glob_nodes.specs.Says.{Gives, Says, Tells}
use Rattle.glob_nodes.specs.StepsNodes.{meaning_over}
use Rattle.glob_nodes.proofs.Saying as saying
use Rattle.mz_eval_cells.specs.declared.types.Known.{Known}
use Rattle.mz_eval_cells.specs.declared.types.VarValue.{VarValue}
use Rattle.mz_eval_cells.specs.Views.{seen, truth_by, var_content}
use Rattle.mz_eval_symbols.specs.Taken.{cell_value}
use Rattle.mz_eval_guards.specs.declared.lying.Within.{Within}
use Rattle.mz_eval_guards.specs.declared.types.Guard.{Guard}
use Rattle.mz_eval_guards.specs.declared.types.Guard.TheVariants as guard
use Rattle.mz_eval_guards.specs.Guards.{IsGuard, open_sure}
use Rattle.mz_eval_guards.specs.Lying.{IsSetNode, IsWithin, lies_by, plain_lies, symbol_lies, value_lies}
use Rattle.mz_eval_guards.proofs.Joined.{guard_like, open_is}

-- ---- the node of a set

set_of : (s : Symbol) (id : ℕ) (t : ℕ → Term) → IsSetNode id s → symbol_value t s ≡ option_map (λ u. values.set None u) (as_set (t id))
set_of s id t n = ap (λ b. value_at t b s.occurs s.term) n.set ∙ ap (λ o. value_at t base.SetInt o s.term) n.plain ∙ ap (λ i. value_at t base.SetInt None i) n.term

set_read : (o : Option (List Range)) (u : List Range) → option_map (λ v. values.set None v) o ≡ Some (values.set None u) → o ≡ Some u
set_read None u e = absurd (cc)
set_read (Some v) u e = ap (λ x. Some x) (inside e)
  where
    set_in : Option Content → List Range
    set_in (Some (values.set of v)) = v
    set_in x = []

    inside : Some (values.set None v) ≡ Some (values.set None u) → v ≡ u
    inside e = ap set_in e

given_read : (m : Mode) (v w : Option Content) → IsGiven m → held m v ≡ held m w → v ≡ w
given_read (Blank n) v w g e = absurd g
given_read (Given f) v w g e = e

pub within_is : (old new : Run) (u v : List Range) (b : Bool) (s : Symbol) (id : ℕ) → ((r : Reading) → Reads r new → Out (held r.mode (Some (values.set None v))) (state_of r old) ≡ Out (symbol_seen r s) (state_of r new)) → v ≡ u → IsSetNode id s → b ≡ not (is_empty_set u) → IsWithin old new u (record { set = id; some = b })
within_is old new u v b s id h e n p = record {
  same = λ r q. out_state (h r q);
  set = λ r g q. set_read (as_set (r.term id)) u (sym (set_of s id r.term n) ∙ sym (given_read r.mode (Some (values.set None v)) (symbol_value r.term s) g (out_value (h r q))) ∙ ap (λ x. Some (values.set None x)) e);
  some = p;
}

-- ---- nodes

pub subset_tells : (old new : Run) (x set id : ℕ) → Gives old new (meaning_over kind.Subset x set) id → Tells old new (λ r. holds (as_set (r.term x)) (as_set (r.term set)) is_subset) id
unfolding set_comparison_term
subset_tells old new x set id g = record {
  same = g.same;
  tells = λ r h. ap is_true (g.is r h) ∙ saying.true_bit (holds (as_set (r.term x)) (as_set (r.term set)) is_subset);
}

pub member_tells : (old new : Run) (x set id : ℕ) → Gives old new (meaning_over kind.Member x set) id → Tells old new (λ r. is_member (as_number (r.term x)) (as_set (r.term set))) id
unfolding member_term
member_tells old new x set id g = record {
  same = g.same;
  tells = λ r h. ap is_true (g.is r h) ∙ saying.true_bit (is_member (as_number (r.term x)) (as_set (r.term set)));
}

some_by : (p l : Bool) → (not p || l) ≡ (if p then l else true)
some_by true l = refl
some_by false l = refl

none_by : (p l : Bool) → (p && l) ≡ (if p then l else false)
none_by true l = refl
none_by false l = refl

pub some_tells : (n m : ℕ) (old one two new : Run) (set : ℕ) (b : Base) (o x lies none id : ℕ) → Tells old one (λ r. value_lies b (as_set (r.term set)) (r.term x)) lies → GoesOnBy n one two → Says one two (λ r. not (is_true (r.term o))) none → GoesOnBy m two new → Says two new (λ r. is_true (r.term none) || is_true (r.term lies)) id → Tells old new (λ r. lies_by b (Some o) (as_set (r.term set)) true r.term x) id
some_tells n m old one two new set b o x lies none id f g s k t = record {
  same = λ r h. f.same r (g.back r (k.back r h)) ∙ s.same r (k.back r h) ∙ t.same r h;
  tells = λ r h.
      t.tells r h
      ∙ ap (λ p. p || is_true (r.term lies)) (s.tells r (k.back r h))
      ∙ ap (λ p. not (is_true (r.term o)) || p) (f.tells r (g.back r (k.back r h)))
      ∙ some_by (is_true (r.term o)) (value_lies b (as_set (r.term set)) (r.term x));
}

pub none_tells : (m : ℕ) (old one new : Run) (set : ℕ) (b : Base) (o x lies id : ℕ) → Tells old one (λ r. value_lies b (as_set (r.term set)) (r.term x)) lies → GoesOnBy m one new → Says one new (λ r. is_true (r.term o) && is_true (r.term lies)) id → Tells old new (λ r. lies_by b (Some o) (as_set (r.term set)) false r.term x) id
none_tells m old one new set b o x lies id f k t = record {
  same = λ r h. f.same r (k.back r h) ∙ t.same r h;
  tells = λ r h.
      t.tells r h
      ∙ ap (λ p. is_true (r.term o) && p) (f.tells r (k.back r h))
      ∙ none_by (is_true (r.term o)) (value_lies b (as_set (r.term set)) (r.term x));
}

-- ---- symbols

-- a value that is no array lies in a set
abbrev pub item_in : List Range → Option Content → Bool
item_in u None = false
item_in u (Some x) = item_suits u x

number_item : (b : Base) (u : List Range) (x : Term) → value_lies b (Some u) x ≡ item_in u (value_by b x)
number_item base.Bool u x = by (as_number x)
  where
    by : (n : Option ℤ) → is_some n ≡ item_in u (option_map (λ i. content_by base.Bool i []) n)
    by None = refl
    by (Some i) = refl
number_item base.SetInt u x = by (as_set x)
  where
    by : (s : Option (List Range)) → holds s (Some u) is_subset ≡ item_in u (option_map (λ v. values.set None v) s)
    by None = refl
    by (Some v) = refl
number_item (base.SetEnum e) u x = by (as_set x)
  where
    by : (s : Option (List Range)) → holds s (Some u) is_subset ≡ item_in u (option_map (λ v. values.set (Some e) v) s)
    by None = refl
    by (Some v) = refl
number_item (base.Enum e) u x = by (as_number x)
  where
    by : (n : Option ℤ) → is_member n (Some u) ≡ item_in u (option_map (λ i. content_by (base.Enum e) i []) n)
    by None = refl
    by (Some i) = refl
number_item b u x = by (as_number x)
  where
    by : (n : Option ℤ) → is_member n (Some u) ≡ item_in u (option_map (λ i. values.int i) n)
    by None = refl
    by (Some i) = refl

item_value : (b : Base) (u : List Range) (x : Term) → item_in u (value_by b x) ≡ defined_in u (value_by b x)
item_value base.SetInt u x = by (as_set x)
  where
    by : (s : Option (List Range)) → item_in u (option_map (λ v. values.set None v) s) ≡ defined_in u (option_map (λ v. values.set None v) s)
    by None = refl
    by (Some v) = refl
item_value (base.SetEnum e) u x = by (as_set x)
  where
    by : (s : Option (List Range)) → item_in u (option_map (λ v. values.set (Some e) v) s) ≡ defined_in u (option_map (λ v. values.set (Some e) v) s)
    by None = refl
    by (Some v) = refl
item_value base.Bool u x = by (as_number x)
  where
    by : (n : Option ℤ) → item_in u (option_map (λ i. content_by base.Bool i []) n) ≡ defined_in u (option_map (λ i. content_by base.Bool i []) n)
    by None = refl
    by (Some i) = refl
item_value (base.Enum e) u x = by (as_number x)
  where
    by : (n : Option ℤ) → item_in u (option_map (λ i. content_by (base.Enum e) i []) n) ≡ defined_in u (option_map (λ i. content_by (base.Enum e) i []) n)
    by None = refl
    by (Some i) = refl
item_value b u x = by (as_number x)
  where
    by : (n : Option ℤ) → item_in u (option_map (λ i. values.int i) n) ≡ defined_in u (option_map (λ i. values.int i) n)
    by None = refl
    by (Some i) = refl

kept : (b : Base) (o : ℕ) (v : Option Content) → as_argument b (Some o) v ≡ v
kept base.Bool o v = refl
kept b o v = refl

-- an option, absent or there
option_item : (b : Base) (u : List Range) (p : Bool) (x : Term) → (if p then value_lies b (Some u) x else not (is_empty_set u)) ≡ item_in u (if p then value_by b x else Some values.absent)
option_item b u true x = number_item b u x
option_item b u false x = refl

pub lies_item : (b : Base) (o : Option ℕ) (u : List Range) (t : ℕ → Term) (x : ℕ) → lies_by b o (Some u) (not (is_empty_set u)) t x ≡ item_in u (as_argument b o (value_at t b o x))
lies_item base.Bool None u t x = refl
lies_item b None u t x = number_item b u (t x)
lies_item b (Some o) u t x = option_item b u (is_true (t o)) (t x) ∙ ap (item_in u) (sym (kept b o (if is_true (t o) then value_by b (t x) else Some values.absent)))

option_value : (b : Base) (u : List Range) (p : Bool) (x : Term) → item_in u (if p then value_by b x else Some values.absent) ≡ defined_in u (if p then value_by b x else Some values.absent)
option_value b u true x = item_value b u x
option_value b u false x = refl

argument_value : (b : Base) (o : Option ℕ) (u : List Range) (t : ℕ → Term) (x : ℕ) → item_in u (as_argument b o (value_at t b o x)) ≡ defined_in u (as_argument b o (value_at t b o x))
argument_value base.Bool None u t x = refl
argument_value b None u t x = item_value b u (t x)
argument_value b (Some o) u t x =
    ap (item_in u) (kept b o (if is_true (t o) then value_by b (t x) else Some values.absent))
    ∙ option_value b u (is_true (t o)) (t x)
    ∙ ap (defined_in u) (sym (kept b o (if is_true (t o) then value_by b (t x) else Some values.absent)))

pub symbol_item : (w : Within) (s : Symbol) (u : List Range) (r : Reading) → as_set (r.term w.set) ≡ Some u → w.some ≡ not (is_empty_set u) → symbol_lies w s r ≡ item_in u (as_argument s.base s.occurs (symbol_value r.term s))
symbol_item w s u r e p = ap (λ v. lies_by s.base s.occurs v w.some r.term s.term) e ∙ ap (λ q. lies_by s.base s.occurs (Some u) q r.term s.term) p ∙ lies_item s.base s.occurs u r.term s.term

pub symbol_defined : (w : Within) (s : Symbol) (u : List Range) (r : Reading) → as_set (r.term w.set) ≡ Some u → w.some ≡ not (is_empty_set u) → symbol_lies w s r ≡ defined_in u (as_argument s.base s.occurs (symbol_value r.term s))
symbol_defined w s u r e p = symbol_item w s u r e p ∙ argument_value s.base s.occurs u r.term s.term

-- ---- cells

-- what is known of values alone is known where there are values
pub given_open : (m : Mode) (a b : Bool) → (IsGiven m → a ≡ b) → open_sure m a ≡ open_sure m b
given_open (Blank n) a b h = refl
given_open (Given f) a b h = ap (open_sure (Given f)) (h tt)

held_given : (m : Mode) (v : Option Content) → IsGiven m → held m v ≡ v
held_given (Blank n) v g = absurd g
held_given (Given f) v g = refl

pub single_guards : (n m : ℕ) (old one two new : Run) (k : Known) (u : List Range) (s : Symbol) (w : Within) (id : ℕ) → ((r : Reading) → Reads r one → Out (cell_value r k) (state_of r old) ≡ Out (argument r s) (state_of r one)) → GoesOnBy n one two → IsWithin one two u w → GoesOnBy m two new → Tells two new (symbol_lies w s) id → IsGuard old new (λ r. open_sure r.mode (defined_in u (value_of (seen r k)))) (guard.Open id)
single_guards n m old one two new k u s w id e g i l t = record {
  same = λ r h. out_state (e r (g.back r (l.back r h))) ∙ i.same r (l.back r h) ∙ t.same r h;
  is = λ r h. given_open r.mode (is_true (r.term id)) (defined_in u (value_of (seen r k)))
      (λ q.
      t.tells r h
      ∙ symbol_defined w s u r (i.set r q (l.back r h)) i.some
      ∙ ap (defined_in u)
      (sym (held_given r.mode (as_argument s.base s.occurs (symbol_value r.term s)) q)
      ∙ sym (out_value (e r (g.back r (l.back r h))))
      ∙ held_given r.mode (value_of (seen r k)) q));
  bare = refl;
}

pub same_guards : (old new : Run) (u : List Range) (k l : Known) (x : Guard) → ((r : Reading) → seen r k ≡ seen r l) → IsGuard old new (λ r. open_sure r.mode (defined_in u (value_of (seen r k)))) x → IsGuard old new (λ r. open_sure r.mode (defined_in u (value_of (seen r l)))) x
same_guards old new u k l x e h = guard_like old new _ _ x (λ r. ap (λ c. open_sure r.mode (defined_in u (value_of c))) (e r)) h

truth_lies : (u : List Range) (p q : Bool) → (p || q) ≡ defined_in u (truth_by p q)
truth_lies u true q = refl
truth_lies u false true = refl
truth_lies u false false = refl

pub truth_guards : (old new : Run) (u : List Range) (y d id : ℕ) → Says old new (λ r. is_true (r.term y) || is_true (r.term d)) id → IsGuard old new (λ r. open_sure r.mode (defined_in u (truth_by (is_true (r.term y)) (is_true (r.term d))))) (guard.Open id)
truth_guards old new u y d id s = open_is old new (λ r. defined_in u (truth_by (is_true (r.term y)) (is_true (r.term d)))) id (record { same = s.same; tells = λ r h. s.tells r h ∙ truth_lies u (is_true (r.term y)) (is_true (r.term d)) })

pub truth_cell : (old new : Run) (u : List Range) (v : VarValue) (y d : ℕ) (x : Guard) → ((t : ℕ → Term) → var_content t v ≡ truth_by (is_true (t y)) (is_true (t d))) → IsGuard old new (λ r. open_sure r.mode (defined_in u (truth_by (is_true (r.term y)) (is_true (r.term d))))) x → IsGuard old new (λ r. open_sure r.mode (defined_in u (held r.mode (var_content r.term v)))) x
truth_cell old new u v y d x e h = guard_like old new _ _ x
    (λ r. given_open r.mode (defined_in u (truth_by (is_true (r.term y)) (is_true (r.term d)))) (defined_in u (held r.mode (var_content r.term v))) (λ q. ap (defined_in u) (sym (e r.term) ∙ sym (held_given r.mode (var_content r.term v) q))))
    h

held_in : (m : Mode) (u : List Range) (v : Option Content) → open_sure m (defined_in u (held m v)) ≡ record { par = false; is = defined_in u (held m v) }
held_in (Blank n) u v = refl
held_in (Given f) u v = refl

pub open_cell : (old new : Run) (u : List Range) (f : Reading → Option Content) (x : Guard) → IsGuard old new (λ r. open_sure r.mode (defined_in u (held r.mode (f r)))) x → IsGuard old new (λ r. record { par = false; is = defined_in u (held r.mode (f r)) }) x
open_cell old new u f x h = guard_like old new _ _ x (λ r. held_in r.mode u (f r)) h
