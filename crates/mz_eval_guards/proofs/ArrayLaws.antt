-- Whether each element of a line lies in a set.
use Rattle.std.proofs.Common.{◌≡◌, ◌∙◌, ℕ, ◌+◌, ◌*◌, Bool, true, false, not, ◌&&◌, List, [], ◌∷◌, length, map, Option, Some, None, ℤ, IsSome, refl, sym, ap, arith, if◌then◌else◌}
use Rattle.mz_instance.specs.Contents.{is_one}
use Rattle.std.specs.List.{list_all}
use Rattle.std.specs.Option.{option_map, option_and_then}
use Rattle.mz_value.specs.Ranges.{Range}
use Rattle.mz_value.specs.Contents.{Content, contents}
use Rattle.mz_value.specs.Contents as values
use Rattle.mz_core.specs.declared.types.Base.{Base}
use Rattle.mz_core.specs.declared.types.Base.TheVariants as base
use Rattle.mz_builtin_arguments.proofs.Views.{items_in_contents}
use Rattle.mz_operations.specs.Sets.{is_empty_set}
use Rattle.mz_arena.specs.Values.{Term, as_number, as_set, is_true}
use Rattle.mz_meaning.specs.Arrays.{defined_in, item_suits}
use Rattle.mz_meaning.specs.Cells.{Mode, Blank, Given, held, value_of}
use Rattle.mz_meaning.specs.Runs.{State, Out}
use Rattle.mz_symbol.specs.declared.types.Symbol.{Symbol}
use Rattle.mz_symbol.specs.Symbols.{AreItems, IsItem, AreWhole, all_there, elements_value, symbol_value, value_at, value_by}
use Rattle.mz_symbol.specs.Runs.{Run}
use Rattle.mz_symbol.specs.Readings.{Reading, IsGiven, Reads, state_of}
use Rattle.mz_symbol.specs.Makes.{GoesOnBy}
use Rattle.mz_symbol.proofs.ConstantLaws.{out_value, out_state}
use Rattle.mz_symbol.specs.Arguments.{as_argument}
use Rattle.mz_symbol_rows.proofs.GoingOn.{goes_both, goes_most}
use Rattle.glob_nodes.specs.declared.nodes.Join.TheVariants.{Both}
use Rattle.glob_nodes.specs.Says.{Tells, joined_each}
use Rattle.mz_eval_cells.specs.declared.types.Known.{Known}
use Rattle.mz_eval_cells.specs.Views.{seen}
use Rattle.mz_eval_symbols.specs.Taken.{cell_value, line_seen, ranges_in}
use Rattle.mz_eval_guards.specs.declared.lying.Within.{Within}
use Rattle.mz_eval_guards.specs.declared.types.Guard.TheVariants as guard
use Rattle.mz_eval_guards.specs.Guards.{IsGuard, open_sure}
use Rattle.mz_eval_guards.specs.Lying.{IsWithin, symbol_lies}
use Rattle.mz_eval_guards.specs.StepsLines.{HasItems}
use Rattle.mz_eval_guards.proofs.LyingLaws.{given_open, item_in, symbol_item}

-- ---- an element that is there is an argument as it stands

truth_argument : (x : Term) → IsSome (value_by base.Bool x) → as_argument base.Bool None (value_by base.Bool x) ≡ value_by base.Bool x
truth_argument x some = by (as_number x) some
  where
    by : (n : Option ℤ) → IsSome (option_map (λ i. values.bool (is_one i)) n) → as_argument base.Bool None (option_map (λ i. values.bool (is_one i)) n) ≡ option_map (λ i. values.bool (is_one i)) n
    by None s = absurd (cc)
    by (Some i) s = refl

item_argument : (b : Base) (o : Option ℕ) (t : ℕ → Term) (x : ℕ) → IsSome (value_by b (t x)) → as_argument b o (value_at t b o x) ≡ value_at t b o x
item_argument base.Bool None t x some = truth_argument (t x) some
item_argument base.Bool (Some o) t x some = refl
item_argument b o t x some = refl

element_item : (w : Within) (s : Symbol) (u : List Range) (r : Reading) → as_set (r.term w.set) ≡ Some u → w.some ≡ not (is_empty_set u) → IsItem r.term s → symbol_lies w s r ≡ item_in u (symbol_value r.term s)
element_item w s u r e p i = symbol_item w s u r e p ∙ ap (item_in u) (item_argument s.base s.occurs r.term s.term i.value)

-- ---- all elements

abbrev pub array_in : List Range → List Range → Option (List Content) → Bool
array_in u ix v = defined_in u (option_map (λ xs. values.array ix (contents xs)) v)

and_false : (b : Bool) → (b && false) ≡ false
and_false true = refl
and_false false = refl

items_lie : (u ix : List Range) (xs : List Content) → array_in u ix (Some xs) ≡ list_all (item_suits u) xs
items_lie u ix xs = ap (list_all (item_suits u)) (items_in_contents xs)

array_more : (u ix : List Range) (v : Option Content) (vs : List (Option Content)) → (item_in u v && array_in u ix (all_there vs)) ≡ array_in u ix (all_there (v ∷ vs))
array_more u ix None vs = refl
array_more u ix (Some x) vs = by (all_there vs)
  where
    by : (q : Option (List Content)) → (item_suits u x && array_in u ix q) ≡ array_in u ix (option_map (λ ys. x ∷ ys) q)
    by None = and_false (item_suits u x)
    by (Some xs) = ap (λ b. item_suits u x && b) (items_lie u ix xs) ∙ sym (items_lie u ix (x ∷ xs))

all_lie : (w : Within) (u ix : List Range) (r : Reading) (ss : List Symbol) → as_set (r.term w.set) ≡ Some u → w.some ≡ not (is_empty_set u) → AreItems r.term ss → joined_each Both (λ y. symbol_lies w y r) ss true ≡ array_in u ix (all_there (map (symbol_value r.term) ss))
all_lie w u ix r [] e p h = sym (items_lie u ix [])
all_lie w u ix r (s ∷ ss) e p h =
    ap (λ b. b && joined_each Both (λ y. symbol_lies w y r) ss true) (element_item w s u r e p h.0)
    ∙ ap (λ b. item_in u (symbol_value r.term s) && b) (all_lie w u ix r ss e p h.1)
    ∙ array_more u ix (symbol_value r.term s) (map (symbol_value r.term) ss)

none_lies : (f : Symbol → Bool) (ss : List Symbol) → joined_each Both f ss false ≡ false
none_lies f [] = refl
none_lies f (s ∷ ss) = ap (λ b. f s && b) (none_lies f ss) ∙ and_false (f s)

line_lies : (w : Within) (u ix : List Range) (r : Reading) (d : ℕ) (ss : List Symbol) → as_set (r.term w.set) ≡ Some u → w.some ≡ not (is_empty_set u) → AreWhole r.term d ss → joined_each Both (λ y. symbol_lies w y r) ss (is_true (r.term d)) ≡ array_in u ix (elements_value r.term d ss)
line_lies w u ix r d ss e p h = by (is_true (r.term d)) refl
  where
    never : (q : Option (List Content)) → false ≡ array_in u ix (option_and_then (λ xs. if false then Some xs else None) q)
    never None = refl
    never (Some xs) = refl

    always : (q : Option (List Content)) → array_in u ix q ≡ array_in u ix (option_and_then (λ xs. if true then Some xs else None) q)
    always None = refl
    always (Some xs) = refl

    by : (b : Bool) → is_true (r.term d) ≡ b → joined_each Both (λ y. symbol_lies w y r) ss b ≡ array_in u ix (option_and_then (λ xs. if b then Some xs else None) (all_there (map (symbol_value r.term) ss)))
    by false q = none_lies (λ y. symbol_lies w y r) ss ∙ never (all_there (map (symbol_value r.term) ss))
    by true q = all_lie w u ix r ss e p (h q) ∙ always (all_there (map (symbol_value r.term) ss))

-- ---- cells

line_given : (m : Mode) (v w : Option Content) → IsGiven m → held m v ≡ held m w → w ≡ v
line_given (Blank n) v w g e = absurd g
line_given (Given f) v w g e = sym e

pub array_guards : (n m : ℕ) (old one two new : Run) (k : Known) (u : List Range) (line d : ℕ) (ss : List Symbol) (w : Within) (id : ℕ) → ((r : Reading) → Reads r one → Out (cell_value r k) (state_of r old) ≡ Out (line_seen k r line) (state_of r one)) → HasItems one line d ss → GoesOnBy n one two → IsWithin one two u w → GoesOnBy m two new → Tells two new (λ r. joined_each Both (λ y. symbol_lies w y r) ss (is_true (r.term d))) id → IsGuard old new (λ r. open_sure r.mode (defined_in u (value_of (seen r k)))) (guard.Open id)
array_guards n m old one two new k u line d ss w id e h g i l t = record {
  same = λ r q. out_state (e r (g.back r (l.back r q))) ∙ i.same r (l.back r q) ∙ t.same r q;
  is = λ r q. given_open r.mode (is_true (r.term id)) (defined_in u (value_of (seen r k)))
      (λ v.
      let reads = g.back r (l.back r q) in
      t.tells r q
      ∙ line_lies w u (ranges_in k) r d ss (i.set r v (l.back r q)) i.some (h.whole r.term reads.nodes)
      ∙ ap (array_in u (ranges_in k)) (sym (h.value r reads))
      ∙ ap (defined_in u) (line_given r.mode (value_of (seen r k)) (option_map (λ xs. values.array (ranges_in k) (contents xs)) (r.line line)) v (out_value (e r reads))));
  bare = refl;
}

pub array_goes : (n c : ℕ) (old one two new : Run) → n ≡ c → GoesOnBy (20 * c) old one → GoesOnBy 0 one two → GoesOnBy (24 * n) two new → GoesOnBy (44 * c) old new
array_goes n c old one two new e f g h = goes_most (20 * c + 0 + 24 * n) (44 * c) old new (omega (arith, e)) (goes_both (20 * c + 0) (24 * n) old two new (goes_both (20 * c) 0 old one two f g) h)

pub array_begins : (n c : ℕ) (old one two : Run) → GoesOnBy (20 * c) old one → GoesOnBy 0 one two → GoesOnBy (44 * c) old two
array_begins n c old one two f g = goes_most (20 * c + 0) (44 * c) old two (omega arith) (goes_both (20 * c) 0 old one two f g)
