-- One cell more of a list, under each reading.
use Rattle.std.proofs.Common.{◌≡◌, ◌∙◌, ℕ, ◌+◌, ◌<◌, ◌≤◌, List, [], ◌∷◌, ◌++◌, length, map, take, get_or, Option, Some, None, MatchOption, Result, Ok, Err, IfOk, sym, ap}
use Rattle.std.proofs.lemmas.List.{map_push, take_all, take_more}
use Rattle.mz_value.specs.declared.value.Value.{Value}
use Rattle.mz_value.specs.Contents.{content}
use Rattle.mz_meaning.specs.Cells.{Cell, par_value}
use Rattle.mz_symbol.specs.Readings.{Reading}
use Rattle.mz_eval_cells.specs.declared.types.Item.{Item}
use Rattle.mz_eval_cells.specs.declared.types.Known.{Known}
use Rattle.mz_eval_cells.specs.declared.types.Known.TheVariants as known
use Rattle.mz_eval_cells.specs.Views.{item_content, seen}
use Rattle.mz_eval_arrays.specs.declared.gathering.Gathered.{Gathered}
use Rattle.mz_eval_arrays.specs.Gathered.{gathered_by}
use Rattle.mz_eval_comprehensions.specs.Views.{value_cell}

-- a list with one more, seen by a function
pub seen_push : {A B : Type 0} (f : A → B) (ys xs : List A) (x : A) (y : B) → ys ≡ xs ++ x ∷ [] → f x ≡ y → map f ys ≡ map f xs ++ y ∷ []
seen_push f ys xs x y e h = ap (map f) e ∙ map_push f xs x ∙ ap (λ z. map f xs ++ z ∷ []) h

pub one_more : (all : List Cell) (xs : List Value) (i : ℕ) (x : Value) (more : List Cell) → i < length xs → x ≡ get_or xs i x → all ≡ map value_cell (take i xs) → more ≡ all ++ value_cell x ∷ [] → more ≡ map value_cell (take (i + 1) xs)
one_more all xs i x more l e h m =
    m
    ∙ ap (λ zs. zs ++ value_cell x ∷ []) h
    ∙ sym (ap (map value_cell) (take_more xs i x l ∙ ap (λ z. take i xs ++ z ∷ []) (sym e)) ∙ map_push value_cell (take i xs) x)

pub all_copied : (all : List Cell) (xs : List Value) (i : ℕ) → length xs ≤ i → all ≡ map value_cell (take i xs) → all ≡ map value_cell xs
all_copied all xs i l h = h ∙ ap (map value_cell) (take_all i xs l)

-- ---- cells of values that hold nothing

pub plain_told : (o : Option Value) (i : Item) (k : Known) → k ≡ known.One i → MatchOption o (Unit {0}) (λ v. content v ≡ item_content i) → MatchOption o (Unit {0}) (λ v. (r : Reading) → seen r k ≡ par_value (content v))
plain_told None i k e h = tt
plain_told (Some v) i k e h = λ r. ap (seen r) e ∙ ap par_value (sym h)

pub plain_gathered : {E : Type 0} (x : Result Gathered E) (xs : List Value) (k : Known) (v : Value) → ((r : Reading) → seen r k ≡ par_value (content v)) → IfOk x (λ g. (r : Reading) → gathered_by (seen r) g ≡ map value_cell xs ++ value_cell v ∷ [])
    → IfOk x (λ g. (r : Reading) → gathered_by (seen r) g ≡ map value_cell xs ++ seen r k ∷ [])
plain_gathered (Ok g) xs k v e h = λ r. h r ∙ ap (λ y. map value_cell xs ++ y ∷ []) (sym (e r))
plain_gathered (Err m) xs k v e h = tt
