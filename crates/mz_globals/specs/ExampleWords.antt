-- Words of the worked examples.
use Rattle.std.specs.Prelude.{ℕ, ℤ, pos, neg_ℤ, ◌+ℤ◌, ◌-ℤ◌, List, [], ◌∷◌, length, map, Bool, true, false, Option, Some, None}
use Rattle.mz_value.specs.Ranges.{Range}
use Rattle.mz_value.specs.Contents.{Content, bool, int, set, array, contents}
use Rattle.mz_interval.specs.Ends.{Ends}
use Rattle.mz_operations.specs.Arguments.{Arguments}
use Rattle.mz_globals.specs.declared.global.Global.{Global}
use Rattle.mz_globals.specs.declared.checks.Refusal.{Refusal}
use Rattle.mz_globals.specs.Givens.{given_of}
use Rattle.mz_globals.specs.Table.{line_of, refusal_of, global_ends}

-- ---- what a call gives, is refused for, and has as bounds

abbrev pub tells : Global → Arguments → Option Content
tells g args = (line_of g).value args

abbrev pub refused : Global → Arguments → Option Refusal
refused g args = refusal_of g (map given_of args)

abbrev pub bounds : Global → Arguments → Ends
bounds g args = global_ends g (map given_of args)

abbrev pub yes : Option Content
yes = Some (bool true)

abbrev pub no : Option Content
no = Some (bool false)

-- ---- arguments: numbers, and arrays with their first index or from 1 on

abbrev pub z : ℤ → Option Content
z k = Some (int k)

abbrev pub n : ℕ → Option Content
n k = z (pos k)

abbrev pub minus : ℕ → Option Content
minus k = z (neg_ℤ (pos k))

abbrev items_from : ℤ → List Content → Option Content
items_from first xs = Some (array ((first, first +ℤ (pos (length xs) -ℤ pos 1)) ∷ []) (contents xs))

abbrev pub from : ℕ → List ℕ → Option Content
from first ks = items_from (pos first) (map (λ k. int (pos k)) ks)

abbrev pub ns : List ℕ → Option Content
ns ks = from 1 ks

abbrev pub zs : List ℤ → Option Content
zs ks = items_from (pos 1) (map int ks)

abbrev pub truths_from : ℕ → List Bool → Option Content
truths_from first bs = items_from (pos first) (map bool bs)

-- a set by its ranges, and an array of such sets
abbrev range : ℕ × ℕ → Range
range r = (pos r.0, pos r.1)

abbrev pub s : List (ℕ × ℕ) → Option Content
s rs = Some (set None (map range rs))

abbrev pub sets_from : ℕ → List (List (ℕ × ℕ)) → Option Content
sets_from first ss = items_from (pos first) (map (λ rs. set None (map range rs)) ss)

-- an array of so many rows and columns
abbrev pub table : ℕ → ℕ → List ℕ → Option Content
table rows columns ks = Some (array ((pos 1, pos rows) ∷ (pos 1, pos columns) ∷ []) (contents (map (λ k. int (pos k)) ks)))
