-- Roots of arrays.
use Rattle.std.proofs.Common.{◌≡◌, ◌∙◌, ℕ, zero, suc, ◌+◌, ◌*◌, ◌≤◌, ◌<◌, Bool, true, false, List, [], ◌∷◌, ◌++◌, length, take, Option, Some, None, IsSome, slice_get, refl, sym, ap, subst, arith, if◌then◌else◌}
use Rattle.std.proofs.Math.Seq.{take-length}
use Rattle.mz_value.specs.Contents.{Content}
use Rattle.mz_value.specs.Contents as values
use Rattle.mz_core.specs.declared.types.Base.{Base}
use Rattle.mz_arena.specs.Values.{Term, is_true}
use Rattle.mz_meaning.specs.Cells.{held, value_of}
use Rattle.mz_symbol.specs.declared.types.Free.{Free}
use Rattle.mz_symbol.specs.declared.types.Line.{Line}
use Rattle.mz_symbol.specs.declared.types.Symbol.{Symbol}
use Rattle.mz_symbol.specs.Symbols.{value_by, value_at, symbol_value, elements_value, IsItem, AreItems, AreWhole}
use Rattle.mz_symbol.specs.Runs.{Run, IsRun}
use Rattle.mz_symbol.specs.Readings.{Reading, IsGiven, Reads, state_of}
use Rattle.mz_symbol.specs.Makes.{GoesOnBy}
use Rattle.mz_symbol_rows.specs.RowValues.{argument}
use Rattle.mz_symbol_rows.proofs.RowLaws.{argument_kept}
use Rattle.mz_symbol_rows.proofs.GoingOn.{goes_both, goes_most}
use Rattle.mz_eval_cells.specs.declared.types.Known.{Known}
use Rattle.mz_eval_cells.specs.Views.{seen}
use Rattle.mz_eval_symbols.specs.Taken.{cell_value, line_seen, ranges_in}
use Rattle.mz_model_state.specs.Hands.{ManyPlaces, array_value}
use Rattle.mz_model_state.specs.Roots.{TestsOne, TestElements}
use Rattle.mz_model_state.proofs.Roots.{array_roots}
use Rattle.mz_model_roots.specs.Rooted.{view, AreRootsOf, own_argument}
use Rattle.mz_model_roots.specs.StepsEqual.{TestArguments, AreEqualNodes, IsEqualAt, IsLineOf, AreSoFar}
use Rattle.mz_model_roots.proofs.EqualNodes.{given_held, none_goes, some_there}

pub line_told : (s : Run) (k : ℕ) (l : Line) (ys : List Symbol) → IsRun s → slice_get s.lines k ≡ Some l → ys ≡ l.items.items → IsLineOf s k l.defined ys
line_told s k l ys run at e = record {
  value = λ r reads. reads.lines k l at ∙ ap (elements_value r.term l.defined) (sym e);
  whole = λ r reads. subst (AreWhole r.term l.defined) (sym e) (run.lines r.term reads.nodes k l at).whole;
}

-- ---- an element that is there is an argument as it stands

if_there : (q : Bool) (v : Option Content) → IsSome v → IsSome (if q then v else Some values.absent)
if_there true v some = some
if_there false v some = refl

value_there : (t : ℕ → Term) (b : Base) (o : Option ℕ) (x : ℕ) → IsSome (value_by b (t x)) → IsSome (value_at t b o x)
value_there t b None x some = some
value_there t b (Some o) x some = if_there (is_true (t o)) (value_by b (t x)) some

item_argument : (r : Reading) (y : Symbol) → IsGiven r.mode → IsItem r.term y → own_argument r y ≡ symbol_value r.term y
item_argument r y given item =
    let there = some_there (symbol_value r.term y) (value_there r.term y.base y.occurs y.term item.value) in
    sym (given_held r.mode (own_argument r y) given) ∙ argument_kept r y there.0 there.1 ∙ given_held r.mode (symbol_value r.term y) given

elements_test : (r : Reading) (fs : List Free) (ys : List Symbol) (is : List ℕ) → IsGiven r.mode → AreItems r.term ys → TestArguments r fs ys is → TestElements r.term fs ys is
elements_test r [] [] [] given items tests = tt
elements_test r [] [] (i ∷ is) given items tests = absurd tests
elements_test r [] (y ∷ ys) is given items tests = absurd tests
elements_test r (f ∷ fs) [] is given items tests = absurd tests
elements_test r (f ∷ fs) (y ∷ ys) [] given items tests = absurd tests
elements_test r (f ∷ fs) (y ∷ ys) (i ∷ is) given items tests = (
  λ some. subst (λ w. TestsOne (r.term i) (symbol_value r.term f.symbol) w) (item_argument r y given items.0) (tests.0 some),
  elements_test r fs ys is given items.1 tests.1,
)

pub array_rooted : (mid new : Run) (fs : List Free) (ys : List Symbol) (k : Known) (line defined : ℕ) (ids : List ℕ) → ((r : Reading) → Reads r new → Reads r mid) → ((r : Reading) → Reads r mid → cell_value r k ≡ line_seen k r line) → IsLineOf mid line defined ys → AreEqualNodes new fs ys ids → AreRootsOf new (ManyPlaces (ranges_in k) fs) (view k) (defined ∷ ids)
array_rooted mid new fs ys k line defined ids back told is nodes = record {
  by = λ ns n kind value roots. array_roots new ns n (ranges_in k) fs (view k) defined ys ids (record {
    kind = kind;
    value = value;
    roots = roots;
    seen = λ r given reads.
        sym (given_held r.mode (value_of (seen r k)) given)
        ∙ told r (back r reads)
        ∙ given_held r.mode (array_value (ranges_in k) (r.line line)) given
        ∙ ap (array_value (ranges_in k)) (is.value r (back r reads));
    tests = λ r given reads there. elements_test r fs ys ids given (is.whole r (back r reads) there) (nodes.tests r given reads);
  });
}

-- ---- one place after the other

test_more : (r : Reading) (fs : List Free) (ys : List Symbol) (n : ℕ) (ids : List ℕ) (id : ℕ) → n < length fs → n < length ys → TestArguments r (take n fs) (take n ys) ids → ((f : Free) (y : Symbol) → slice_get fs n ≡ Some f → slice_get ys n ≡ Some y → IsSome (symbol_value r.term f.symbol) → TestsOne (r.term id) (symbol_value r.term f.symbol) (own_argument r y)) → TestArguments r (take (suc n) fs) (take (suc n) ys) (ids ++ id ∷ [])
test_more r [] ys n ids id low less tests one = absurd (omega (arith, low))
test_more r (f ∷ fs) [] n ids id low less tests one = absurd (omega (arith, less))
test_more r (f ∷ fs) (y ∷ ys) zero [] id low less tests one = (one f y refl refl, tt)
test_more r (f ∷ fs) (y ∷ ys) zero (i ∷ is) id low less tests one = absurd tests
test_more r (f ∷ fs) (y ∷ ys) (suc n) [] id low less tests one = absurd tests
test_more r (f ∷ fs) (y ∷ ys) (suc n) (i ∷ is) id low less tests one = (tests.0, test_more r fs ys n is id (omega (arith, low)) (omega (arith, less)) tests.1 one)

pub nodes_none : (s : Run) (fs : List Free) (ys : List Symbol) → AreSoFar s s fs ys 0 []
nodes_none s fs ys = record { goes = none_goes (70 * 0) s; same = λ r h. refl; nodes = record { tests = λ r given reads. tt } }

pub nodes_more : (old mid new : Run) (fs : List Free) (ys : List Symbol) (n m : ℕ) (ids : List ℕ) (id : ℕ) → m ≡ n + 1 → n < length fs → length fs ≡ length ys → AreSoFar old mid fs ys n ids → GoesOnBy 70 mid new → ((r : Reading) → Reads r new → state_of r mid ≡ state_of r new) → IsEqualAt new fs ys n id → AreSoFar old new fs ys m (ids ++ id ∷ [])
nodes_more old mid new fs ys n m ids id e low same h goes stays at =
    let sum : 70 * n + 70 ≡ 70 * m = omega (arith, e) in
    let next : suc n ≡ m = omega (arith, e) in
    record {
      goes = subst (λ k. GoesOnBy k old new) sum (goes_both (70 * n) 70 old mid new h.goes goes);
      same = λ r reads. h.same r (goes.back r reads) ∙ stays r reads;
      nodes = record {
        tests = λ r given reads. subst (λ k. TestArguments r (take k fs) (take k ys) (ids ++ id ∷ [])) next (test_more r fs ys n ids id low (omega (arith, low, same)) (h.nodes.tests r given (goes.back r reads)) (λ f y here there. (at.node f y here there).tests r given reads));
      };
    }

pub goes_some : (old mid new : Run) (fs : List Free) (ys : List Symbol) (n : ℕ) (ids : List ℕ) → n < length fs → AreSoFar old mid fs ys n ids → GoesOnBy 70 mid new → GoesOnBy (70 * length fs) old new
goes_some old mid new fs ys n ids low h goes = goes_most (70 * n + 70) (70 * length fs) old new (omega (arith, low)) (goes_both (70 * n) 70 old mid new h.goes goes)

pub goes_all : (old new : Run) (fs : List Free) (ys : List Symbol) (n : ℕ) (ids : List ℕ) → n ≡ length fs → AreSoFar old new fs ys n ids → GoesOnBy (70 * length fs) old new
goes_all old new fs ys n ids e h = subst (λ k. GoesOnBy (70 * k) old new) e h.goes

pub nodes_all : (old new : Run) (fs : List Free) (ys : List Symbol) (n : ℕ) (ids : List ℕ) → n ≡ length fs → length fs ≡ length ys → AreSoFar old new fs ys n ids → AreEqualNodes new fs ys ids
nodes_all old new fs ys n ids e same h = record {
  tests = λ r given reads.
      let all : TestArguments r (take n fs) (take n ys) ids = h.nodes.tests r given reads in
      subst (λ (fs : List Free). TestArguments r fs ys ids) (ap (λ k. take k fs) e ∙ take-length fs) (subst (λ (zs : List Symbol). TestArguments r (take n fs) zs ids) (ap (λ k. take k ys) (e ∙ same) ∙ take-length ys) all);
}
