-- Arrays of truth values, and what is asked of all their elements.
use Rattle.std.proofs.Common.{◌≡◌, ◌∙◌, ℕ, Bool, true, false, not, ◌&&◌, List, [], ◌∷◌, map, is_some, Option, Some, None, refl, sym, ap}
use Rattle.std.specs.List.{list_all}
use Rattle.std.specs.Option.{option_map}
use Rattle.mz_value.specs.Ranges.{Range}
use Rattle.mz_value.specs.Contents.{Content, contents}
use Rattle.mz_value.specs.Contents as values
use Rattle.mz_core.specs.declared.types.Base.{Base}
use Rattle.mz_core.specs.declared.types.Base.TheVariants as base
use Rattle.mz_operations.specs.declared.row.Quantifier.{Quantifier}
use Rattle.mz_operations.specs.declared.row.Quantifier.TheVariants.{Forall, Exists, Xorall}
use Rattle.mz_operations.specs.declared.row.ScalarRow.TheVariants as row
use Rattle.mz_operations.specs.Views.{◌>>=◌, as_bool, as_items}
use Rattle.mz_operations.specs.Arguments.{at, items_at}
use Rattle.mz_operations.specs.Arrays.{fold_from, instance}
use Rattle.mz_operations.specs.Numbers.{quantified, quantifier_start}
use Rattle.mz_operations.specs.Values.{scalar_value}
use Rattle.mz_meaning.specs.Cells.{held}
use Rattle.mz_meaning.specs.Runs.{Out}
use Rattle.mz_symbol.specs.declared.types.Symbol.{Symbol}
use Rattle.mz_symbol.specs.Symbols.{symbol_value, all_there}
use Rattle.mz_symbol.specs.Runs.{Run}
use Rattle.mz_symbol.specs.Readings.{Reading, Reads, symbol_seen, state_of}
use Rattle.mz_symbol.proofs.ConstantLaws.{out_state}
use Rattle.mz_symbol.specs.Arguments.{truth_of}
use Rattle.mz_symbol_arrays.specs.LineValues.{array_row}
use Rattle.mz_symbol_arrays.proofs.Given.{HasTruth, gives, held_given, plain_truth}
use Rattle.mz_symbol_arrays.proofs.RowLaws.{items_back}
use Rattle.mz_symbol_arrays.proofs.LineLaws.{line_defined}
use Rattle.mz_symbol_arrays.specs.StepsClauses.{is_bool, is_truth, bools_of, over, AreTruths, Asks}

-- ---- the elements

record IsPlainTruth (o : Option ℕ) (b : Base) : Type 0 where
  occurs : o ≡ None
  truth : b ≡ base.Bool

plain_by : (o : Option ℕ) (b : Base) → (not (is_some o) && is_bool b) ≡ true → IsPlainTruth o b
plain_by None base.Bool h = record { occurs = refl; truth = refl }
plain_by None b h = absurd (cc)
plain_by (Some i) b h = absurd (cc)

pub record AreBools (xs : List Content) : Type 0 where
  pub bools : List Bool
  pub are : xs ≡ bools_of bools

both_true : (p q : Bool) → (p && q) ≡ true → (p ≡ true) × (q ≡ true)
both_true true q h = (refl, h)
both_true false q h = absurd (cc)

bools_more : (r : Reading) (ss : List Symbol) (xs : List Content) (v : Option Content) (o : Option (List Content)) → ((x : Content) → v ≡ Some x → HasTruth x) → all_there (map (symbol_value r.term) ss) ≡ o → all_there (v ∷ map (symbol_value r.term) ss) ≡ Some xs → ((ys : List Content) → all_there (map (symbol_value r.term) ss) ≡ Some ys → AreBools ys) → AreBools xs
bools_more r ss xs None o t q h f = absurd (cc)
bools_more r ss xs (Some x) None t q h f = absurd (none (all_there (map (symbol_value r.term) ss)) q h)
  where
    none : (o : Option (List Content)) → o ≡ None → option_map (λ ys. x ∷ ys) o ≡ Some xs → ⊥
    none None p k = cc
    none (Some ys) p k = cc
bools_more r ss xs (Some x) (Some ys) t q h f =
    let m = f ys q in
    let n = t x refl in
    let all : option_map (λ ys. x ∷ ys) (Some ys) ≡ Some xs = ap (option_map (λ ys. x ∷ ys)) (sym q) ∙ h in
    let same : x ∷ ys ≡ xs = cc in
    record {
      bools = n.truth ∷ m.bools;
      are = sym same ∙ ap (λ z. z ∷ ys) n.is ∙ ap (λ zs. values.bool n.truth ∷ zs) m.are;
    }

no_bools : List Bool
no_bools = []

bools_are : (r : Reading) (ss : List Symbol) (xs : List Content) → list_all is_truth ss ≡ true → all_there (map (symbol_value r.term) ss) ≡ Some xs → AreBools xs
bools_are r [] xs h e = record { bools = []; are = cc }
bools_are r (s ∷ ss) xs h e =
    let p = both_true (is_truth s) (list_all is_truth ss) h in
    let t = plain_by s.occurs s.base p.0 in
    bools_more r ss xs (symbol_value r.term s) (all_there (map (symbol_value r.term) ss)) (λ x q. plain_truth r s x t.truth t.occurs q) refl e (λ ys q. bools_are r ss ys p.1 q)

some_same : {A : Type 0} (o : Option A) (x y : A) → o ≡ Some x → o ≡ Some y → x ≡ y
some_same o x y p q = cc

pub line_bools : (r : Reading) (s : Run) (k : ℕ) (xs : List Content) → AreTruths s k → Reads r s → r.line k ≡ Some xs → AreBools xs
line_bools r s k xs t q e = bools_are r t.line.items.items xs t.truths (line_defined r s k t.line xs t.stands q e).all

-- ---- folds over truth values

fold_next : (f : Content → Option Bool) (g : Bool → Bool → Bool) (p b : Bool) (xs : List Content) → f (values.bool b) ≡ Some b → fold_from f g p (values.bool b ∷ xs) ≡ fold_from f g (g p b) xs
unfolding fold_from
fold_next f g p b xs e = ap (λ o. o >>= λ a. fold_from f g (g p a) xs) e

fold_end : (f : Content → Option Bool) (g : Bool → Bool → Bool) (p : Bool) → fold_from f g p [] ≡ Some p
unfolding fold_from
fold_end f g p = refl

abbrev folded : (Bool → Bool → Bool) → Bool → List Bool → Bool
folded g p [] = p
folded g p (b ∷ bs) = folded g (g p b) bs

fold_is : (f : Content → Option Bool) (g : Bool → Bool → Bool) (p : Bool) (bs : List Bool) → ((b : Bool) → f (values.bool b) ≡ Some b) → fold_from f g p (bools_of bs) ≡ Some (folded g p bs)
fold_is f g p [] h = fold_end f g p
fold_is f g p (b ∷ bs) h = fold_next f g p b (bools_of bs) (h b) ∙ fold_is f g (g p b) bs h

as_itself : (b : Bool) → as_bool (values.bool b) ≡ Some b
unfolding as_bool
as_itself b = refl

instance_itself : (op : Quantifier) (b : Bool) → instance op (values.bool b) ≡ Some b
unfolding instance as_bool
instance_itself Forall b = refl
instance_itself Exists b = refl
instance_itself Xorall b = refl

-- what a quantifier gives over truth values
abbrev pub total : Quantifier → List Bool → Bool
total op bs = folded (quantified op) (quantifier_start op) bs

pub over_is : (op : Quantifier) (bs : List Bool) → over op bs ≡ Some (total op bs)
over_is op bs = fold_is as_bool (quantified op) (quantifier_start op) bs as_itself

abbrev array_of : List Range → List Content → Option Content
array_of ix xs = Some (values.array ix (contents xs))

row_on : (op : Quantifier) (ix : List Range) (xs : List Content) → scalar_value (row.Quantified op) (array_of ix xs ∷ []) ≡ (fold_from (instance op) (quantified op) (quantifier_start op) xs >>= λ b. Some (values.bool b))
unfolding scalar_value items_at at as_items
row_on op ix xs = ap (λ ys. fold_from (instance op) (quantified op) (quantifier_start op) ys >>= λ b. Some (values.bool b)) (items_back xs)

row_total : (op : Quantifier) (ix : List Range) (bs : List Bool) → scalar_value (row.Quantified op) (array_of ix (bools_of bs) ∷ []) ≡ Some (values.bool (total op bs))
row_total op ix bs = row_on op ix (bools_of bs) ∙ ap (λ o. o >>= λ b. Some (values.bool b)) (fold_is (instance op) (quantified op) (quantifier_start op) bs (instance_itself op))

truth_same : (b : Bool) → truth_of (Some (values.bool b)) ≡ Some (values.bool b)
truth_same b = refl

abbrev value_is : List Range → Option (List Content) → Option Content
value_is ix o = option_map (λ xs. values.array ix (contents xs)) o

pub asks : (r : Reading) (old new : Run) (op : Quantifier) (k : ℕ) (s : Symbol) → Out (held r.mode (truth_of (array_row r (row.Quantified op) [] k))) (state_of r old) ≡ Out (symbol_seen r s) (state_of r new) → Asks r old new op k s
asks r old new op k s e = record {
  same = out_state e;
  told = λ g bs b l o.
      gives r (truth_of (array_row r (row.Quantified op) [] k)) s (state_of r old) (state_of r new) g e
      ∙ ap (λ v. truth_of (scalar_value (row.Quantified op) (v ∷ []))) (held_given r.mode (value_is [] (r.line k)) g ∙ ap (value_is []) l)
      ∙ ap truth_of (row_total op [] bs)
      ∙ truth_same (total op bs)
      ∙ ap (λ c. Some (values.bool c)) (told (total op bs) b (sym (over_is op bs) ∙ o));
}
  where
    told : (a b : Bool) → Some a ≡ Some b → a ≡ b
    told a b h = cc
