-- `clause` of two arrays, from what is asked of each.
use Rattle.std.proofs.Common.{◌≡◌, ◌∙◌, ℕ, ◌+◌, ◌*◌, Bool, true, false, not, ◌&&◌, ◌||◌, List, [], ◌∷◌, Option, Some, None, refl, sym, ap, subst}
use Rattle.std.specs.Option.{option_map, option_and_then}
use Rattle.mz_value.specs.Ranges.{Range}
use Rattle.mz_value.specs.Contents.{Content, contents}
use Rattle.mz_value.specs.Contents as values
use Rattle.mz_core.specs.declared.types.Base.TheVariants as base
use Rattle.mz_operations.specs.declared.row.Connective.TheVariants as connective
use Rattle.mz_operations.specs.declared.row.Quantifier.TheVariants.{Forall, Exists}
use Rattle.mz_operations.specs.declared.row.ScalarRow.TheVariants as row
use Rattle.mz_operations.specs.Views.{◌>>=◌, as_bool, as_items, items_in}
use Rattle.mz_operations.specs.Arguments.{at, bool_at, items_at}
use Rattle.mz_operations.specs.Arrays.{fold_from}
use Rattle.mz_operations.specs.Numbers.{connected, quantified}
use Rattle.mz_operations.specs.Values.{scalar_value}
use Rattle.mz_arena.specs.Values as terms
use Rattle.mz_arena.specs.Values.{Term, and_term}
use Rattle.mz_meaning.specs.Cells.{held}
use Rattle.mz_meaning.specs.Runs.{State, Out}
use Rattle.mz_symbol.specs.declared.types.Symbol.{Symbol}
use Rattle.mz_symbol.specs.Symbols.{value_by, symbol_value}
use Rattle.mz_symbol.specs.Runs.{Run}
use Rattle.mz_symbol.specs.Readings.{Reading, Reads, IsGiven, symbol_seen, state_of}
use Rattle.mz_symbol.specs.Makes.{GoesOnBy}
use Rattle.mz_symbol.proofs.ConstantLaws.{out_value, out_state}
use Rattle.mz_symbol.specs.Arguments.{truth_of}
use Rattle.mz_symbol_rows.specs.RowValues.{argument, row_value}
use Rattle.mz_symbol_rows.specs.StepsNodes.{symbol_of}
use Rattle.mz_symbol_rows.proofs.RowLaws.{truth_by}
use Rattle.mz_symbol_arrays.specs.LineValues.{IsLineOf}
use Rattle.mz_symbol_arrays.proofs.Given.{argument_given, gives, held_by, held_given, logic_gives}
use Rattle.mz_symbol_arrays.proofs.RowLaws.{items_back}
use Rattle.mz_symbol_arrays.proofs.LineLaws.{line_fails, line_holds}
use Rattle.mz_symbol_arrays.specs.ClauseValues.{clause_value}
use Rattle.mz_symbol_arrays.specs.StepsClauses.{bools_of, over, AreTrue, AreTruths, Asks, Joins}
use Rattle.mz_symbol_arrays.proofs.TruthLaws.{line_bools, total, over_is}

pub joins : (r : Reading) (old mid late new : Run) (k l : ℕ) (a b s : Symbol) → Asks r old mid Exists k a → Asks r mid late Forall l b → Out (held r.mode (truth_of (row_value r (row.Logic connective.IsImplied) (a ∷ b ∷ [])))) (state_of r late) ≡ Out (symbol_seen r s) (state_of r new) → Joins r old new k l s
unfolding connected
joins r old mid late new k l a b s u v e = record {
  same = u.same ∙ v.same ∙ out_state e;
  told = λ g bs cs p q h i o n. logic_gives r connective.IsImplied a b s p q (state_of r late) (state_of r new) g (u.told g bs p h o) (v.told g cs q i n) e;
}

pub count_goes : (n m : ℕ) (old new : Run) → n ≡ m → GoesOnBy (58 * n + 20) old new → GoesOnBy (58 * m + 20) old new
count_goes n m old new e g = subst (λ k. GoesOnBy (58 * k + 20) old new) e g

-- ---- the row

abbrev array_of : List Range → List Content → Option Content
array_of ix xs = Some (values.array ix (contents xs))

abbrev clause_of : Option Bool → Option Bool → Option Content
clause_of o n = o >>= λ some. n >>= λ all. Some (values.bool (some || not all))

clause_on : (ix jx : List Range) (xs ys : List Content) → scalar_value row.Clause (array_of ix xs ∷ array_of jx ys ∷ []) ≡ clause_of (fold_from as_bool (quantified Exists) false xs) (fold_from as_bool (quantified Forall) true ys)
unfolding scalar_value items_at at as_items
clause_on ix jx xs ys =
    ap (λ zs. clause_of (fold_from as_bool (quantified Exists) false zs) (fold_from as_bool (quantified Forall) true (items_in (contents ys)))) (items_back xs)
    ∙ ap (λ zs. clause_of (fold_from as_bool (quantified Exists) false xs) (fold_from as_bool (quantified Forall) true zs)) (items_back ys)

clause_bools : (ix jx : List Range) (bs cs : List Bool) → scalar_value row.Clause (array_of ix (bools_of bs) ∷ array_of jx (bools_of cs) ∷ []) ≡ Some (values.bool (total Exists bs || not (total Forall cs)))
clause_bools ix jx bs cs =
    clause_on ix jx (bools_of bs) (bools_of cs)
    ∙ ap (λ o. clause_of o (over Forall cs)) (over_is Exists bs)
    ∙ ap (λ o. clause_of (Some (total Exists bs)) o) (over_is Forall cs)

first_none : (v : Option Content) → scalar_value row.Clause (None ∷ v ∷ []) ≡ None
unfolding scalar_value items_at at
first_none v = refl

abbrev no_content : Option Content
no_content = None

second_none : (v : Option Content) → scalar_value row.Clause (v ∷ None ∷ []) ≡ None
unfolding scalar_value items_at at
second_none v = by (option_and_then as_items v)
  where
    by : (o : Option (List Content)) → (o >>= λ xs. no_content) ≡ no_content
    by None = refl
    by (Some xs) = refl

-- ---- both arrays are there

and_false : (v : Option Content) → truth_of (scalar_value (row.Logic connective.And) (Some (values.bool false) ∷ v ∷ [])) ≡ Some (values.bool false)
unfolding scalar_value bool_at at as_bool connected
and_false v = by (option_and_then as_bool v)
  where
    by : (o : Option Bool) → truth_of (o >>= λ b. Some (values.bool (connected connective.And false b))) ≡ Some (values.bool false)
    by None = refl
    by (Some b) = refl

and_is : (x y : Term) → value_by base.Bool (and_term x y) ≡ Some (values.bool (terms.is_true x && terms.is_true y))
unfolding and_term
and_is x y = truth_by (terms.is_true x && terms.is_true y)

pub are_true : (r : Reading) (old new : Run) (d e id : ℕ) (s : Symbol) → Out (and_term (r.term d) (r.term e)) (state_of r old) ≡ Out (r.term id) (state_of r new) → s ≡ symbol_of base.Bool id → AreTrue r old new d e s
are_true r old new d e id s h i = record {
  same = out_state h;
  is = ap (symbol_value r.term) i ∙ ap (value_by base.Bool) (sym (out_value h)) ∙ and_is (r.term d) (r.term e);
}

-- what is known of the parts of a clause
pub record IsMade (r : Reading) (s late : Run) (k l d e n m : ℕ) (either there both : Symbol) : Type 0 where
  pub first : IsLineOf s k d n
  pub second : IsLineOf s l e m
  pub reads : Reads r s
  pub first_truths : AreTruths s k
  pub second_truths : AreTruths s l
  pub joins : Joins r s late k l either
  pub there_is : symbol_value r.term there ≡ Some (values.bool (terms.is_true (r.term d) && terms.is_true (r.term e)))
  pub p : State
  pub q : State
  pub both_is : Out (held r.mode (truth_of (row_value r (row.Logic connective.And) (there ∷ either ∷ [])))) p ≡ Out (symbol_seen r both) q

false_value : (r : Reading) (s late : Run) (k l d e n m : ℕ) (either there both : Symbol) → IsMade r s late k l d e n m either there both → IsGiven r.mode → (terms.is_true (r.term d) && terms.is_true (r.term e)) ≡ false → symbol_value r.term both ≡ Some (values.bool false)
false_value r s late k l d e n m either there both w g h =
    gives r (truth_of (row_value r (row.Logic connective.And) (there ∷ either ∷ []))) both w.p w.q g w.both_is
    ∙ ap (λ x. truth_of (scalar_value (row.Logic connective.And) (x ∷ argument r either ∷ []))) (argument_given r there (values.bool false) g (w.there_is ∙ ap (λ b. Some (values.bool b)) h))
    ∙ and_false (argument r either)

second_false : (p q : Bool) → q ≡ false → (p && q) ≡ false
second_false true q h = h
second_false false q h = refl

first_false : (p q : Bool) → p ≡ false → (p && q) ≡ false
first_false false q h = refl
first_false true q h = absurd (cc)

both_holds : (p q : Bool) → p ≡ true → q ≡ true → (p && q) ≡ true
both_holds true q h k = k
both_holds false q h k = absurd (cc)

abbrev value_is : List Range → Option (List Content) → Option Content
value_is ix o = option_map (λ xs. values.array ix (contents xs)) o

abbrev clause_at : List Range → Option (List Content) → List Range → Option (List Content) → Option Content
clause_at ix o jx p = truth_of (scalar_value row.Clause (value_is ix o ∷ value_is jx p ∷ []))

both_there : (r : Reading) (s late : Run) (ix jx : List Range) (k l d e n m : ℕ) (either there both : Symbol) (xs ys : List Content) → IsMade r s late k l d e n m either there both → IsGiven r.mode → r.line k ≡ Some xs → r.line l ≡ Some ys → clause_at ix (Some xs) jx (Some ys) ≡ symbol_value r.term both
unfolding connected
both_there r s late ix jx k l d e n m either there both xs ys w g h i =
    let bs = line_bools r s k xs w.first_truths w.reads h in
    let cs = line_bools r s l ys w.second_truths w.reads i in
    let some = w.joins.told g bs.bools cs.bools (total Exists bs.bools) (total Forall cs.bools) (h ∙ ap (λ z. Some z) bs.are) (i ∙ ap (λ z. Some z) cs.are) (over_is Exists bs.bools) (over_is Forall cs.bools) in
    let here = w.there_is ∙ ap (λ b. Some (values.bool b)) (both_holds (terms.is_true (r.term d)) (terms.is_true (r.term e)) (line_holds r s k d n xs w.first w.reads h) (line_holds r s l e m ys w.second w.reads i)) in
    ap (λ z. clause_at ix (Some z) jx (Some ys)) bs.are
    ∙ ap (λ z. clause_at ix (Some (bools_of bs.bools)) jx (Some z)) cs.are
    ∙ ap truth_of (clause_bools ix jx bs.bools cs.bools)
    ∙ sym (logic_gives r connective.And there either both true (total Exists bs.bools || not (total Forall cs.bools)) w.p w.q g here some w.both_is)

pub clause_held : (r : Reading) (s late : Run) (ix jx : List Range) (k l d e n m : ℕ) (either there both : Symbol) → IsMade r s late k l d e n m either there both → held r.mode (truth_of (clause_value r ix k jx l)) ≡ symbol_seen r both
clause_held r s late ix jx k l d e n m either there both w = held_by r.mode (truth_of (clause_value r ix k jx l)) (symbol_value r.term both) (λ g. arguments g ∙ by g (r.line k) (r.line l) refl refl)
  where
    arguments : IsGiven r.mode → truth_of (clause_value r ix k jx l) ≡ clause_at ix (r.line k) jx (r.line l)
    arguments g = ap (λ v. truth_of (scalar_value row.Clause (v ∷ held r.mode (value_is jx (r.line l)) ∷ []))) (held_given r.mode (value_is ix (r.line k)) g) ∙ ap (λ v. truth_of (scalar_value row.Clause (value_is ix (r.line k) ∷ v ∷ []))) (held_given r.mode (value_is jx (r.line l)) g)

    by : IsGiven r.mode → (o p : Option (List Content)) → r.line k ≡ o → r.line l ≡ p → clause_at ix o jx p ≡ symbol_value r.term both
    by g None p h i = ap truth_of (first_none (value_is jx p)) ∙ sym (false_value r s late k l d e n m either there both w g (first_false (terms.is_true (r.term d)) (terms.is_true (r.term e)) (line_fails r s k d n w.first w.reads h)))
    by g (Some xs) None h i = ap truth_of (second_none (value_is ix (Some xs))) ∙ sym (false_value r s late k l d e n m either there both w g (second_false (terms.is_true (r.term d)) (terms.is_true (r.term e)) (line_fails r s l e m w.second w.reads i)))
    by g (Some xs) (Some ys) h i = both_there r s late ix jx k l d e n m either there both xs ys w g h i
