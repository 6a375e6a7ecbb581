-- What the nodes of arguments are, in the run in which they were made and in later ones.
use Rattle.std.proofs.Common.{◌≡◌, ◌∙◌, ℕ, List, [], ◌∷◌, Option, Some, None, refl, sym, ap}
use Rattle.std.specs.Option.{option_map}
use Rattle.mz_value.specs.Ranges.{Range}
use Rattle.mz_value.specs.Contents.{Content, contents}
use Rattle.mz_value.specs.Contents as values
use Rattle.mz_core.specs.declared.types.Base.TheVariants as base
use Rattle.mz_meaning.specs.Cells.{Mode, Blank, Given, held}
use Rattle.mz_symbol.specs.declared.types.Symbol.{Symbol}
use Rattle.mz_symbol.specs.Runs.{Run}
use Rattle.mz_symbol.specs.Readings.{Reading, Reads}
use Rattle.mz_symbol_rows.specs.RowValues.{argument}
use Rattle.mz_eval_cells.specs.declared.types.Known.{Known}
use Rattle.mz_eval_symbols.specs.Taken.{cell_value, ranges_in}
use Rattle.glob_nodes.specs.declared.arguments.Numbers.{Numbers}
use Rattle.glob_nodes.specs.Arguments.{IsWhole, int_symbol, number_value}
use Rattle.glob_nodes.specs.Sets.{set_value}
use Rattle.glob_sets.specs.Arrays.{plain_symbol}
use Rattle.mz_eval_global_terms.specs.Calls.{IsArray, IsGiven, IsRange, IsSame}

-- ---- index ranges

-- what is no array has no elements, whatever its range
none_stays : (m : Mode) (f g : List Content → Content) (o : Option (List Content)) → held m None ≡ held m (option_map f o) → held m (option_map g o) ≡ held m None
none_stays (Blank n) f g o h = refl
none_stays (Given v) f g None h = refl
none_stays (Given v) f g (Some xs) h = absurd (cc)

pub range_of_none : (k : Known) (x : Range) → ((r : Reading) → cell_value r k ≡ held r.mode None) → IsRange k x
range_of_none k x n r o h = none_stays r.mode (λ xs. values.array (ranges_in k) (contents xs)) (λ xs. values.array (x ∷ []) (contents xs)) o (sym (n r) ∙ h) ∙ sym (n r)

pub range_of_one : (k : Known) (x : Range) → ranges_in k ≡ x ∷ [] → IsRange k x
range_of_one k x e r o h = ap (λ ix. held r.mode (option_map (λ xs. values.array ix (contents xs)) o)) (sym e) ∙ sym h

-- ---- later runs

pub given_later : (k : Known) (v : Reading → Option Content) (old new : Run) → ((r : Reading) → Reads r new → Reads r old) → IsGiven k old v → IsGiven k new v
given_later k v old new back g r h = g r (back r h)

pub same_both : (old mid new : Run) → ((r : Reading) → Reads r new → Reads r mid) → IsSame old mid → IsSame mid new → IsSame old new
same_both old mid new back f g r h = f r (back r h) ∙ g r h

pub whole_later : (a : Numbers) (old new : Run) → ((r : Reading) → Reads r new → Reads r old) → IsWhole old a → IsWhole new a
whole_later a old new back w r h = w r (back r h)

-- an array that was made before another
pub array_later : (k : Known) (old mid new : Run) (a : Numbers) → ((r : Reading) → Reads r new → Reads r mid) → IsSame mid new → IsArray k old mid a → IsArray k old new a
array_later k old mid new a back s x = record {
  whole = λ r h. x.whole r (back r h);
  given = λ r h. x.given r (back r h);
  size = x.size;
  same = λ r h. x.same r (back r h) ∙ s r h;
}

-- an array that is made after others
pub array_after : (k : Known) (old mid new : Run) (a : Numbers) → ((r : Reading) → Reads r new → Reads r mid) → IsSame old mid → IsArray k mid new a → IsArray k old new a
array_after k old mid new a back s x = record {
  whole = x.whole;
  given = x.given;
  size = x.size;
  same = λ r h. s r (back r h) ∙ x.same r h;
}

-- ---- symbols

pub number_given : (r : Reading) (k : Known) (s : Symbol) (id : ℕ) → int_symbol id ≡ s → cell_value r k ≡ argument r s → held r.mode (number_value r id) ≡ cell_value r k
number_given r k s id e h = ap (argument r) e ∙ sym h

pub set_given : (r : Reading) (k : Known) (s : Symbol) (id : ℕ) → plain_symbol base.SetInt id ≡ s → cell_value r k ≡ argument r s → held r.mode (set_value r id) ≡ cell_value r k
set_given r k s id e h = ap (argument r) e ∙ sym h
