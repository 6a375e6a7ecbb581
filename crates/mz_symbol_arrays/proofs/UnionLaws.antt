-- The union and the intersection of an array's sets.
use Rattle.std.proofs.Common.{◌≡◌, ◌∙◌, ℕ, ◌≤◌, true, false, List, [], ◌∷◌, length, drop, slice_get, Option, Some, None, refl, sym, ap, arith, if◌then◌else◌}
use Rattle.std.specs.Option.{option_map}
use Rattle.mz_value.specs.Ranges.{Range}
use Rattle.mz_value.specs.Contents.{Content, contents}
use Rattle.mz_value.specs.Contents as values
use Rattle.mz_core.specs.declared.types.Base.TheVariants as base
use Rattle.mz_operations.specs.declared.row.SetOp.TheVariants.{Union, Intersect}
use Rattle.mz_operations.specs.declared.row.MadeRow.TheVariants as row
use Rattle.mz_operations.specs.Views.{◌>>=◌, as_items}
use Rattle.mz_operations.specs.Views as views
use Rattle.mz_operations.specs.Arguments.{at, items_at}
use Rattle.mz_operations.specs.Arrays.{fold_from}
use Rattle.mz_operations.specs.Sets.{combined, intersection, union}
use Rattle.mz_operations.specs.Values.{common_so_far, made_value}
use Rattle.mz_arena.specs.Values.{Term, as_set, bit, guard_term, is_true}
use Rattle.mz_meaning.specs.Cells.{held}
use Rattle.mz_meaning.specs.Runs.{State, Out}
use Rattle.mz_symbol.specs.declared.types.Symbol.{Symbol}
use Rattle.mz_symbol.specs.Symbols.{value_by, symbol_value}
use Rattle.mz_symbol.specs.Runs.{Run}
use Rattle.mz_symbol.specs.Readings.{Reading, Reads, IsGiven, state_of, symbol_seen}
use Rattle.mz_symbol.specs.Lines.{IsElement}
use Rattle.mz_symbol.proofs.ConstantLaws.{out_value, out_state}
use Rattle.mz_symbol_rows.specs.StepsNodes.{symbol_of}
use Rattle.mz_symbol_arrays.specs.LineValues.{IsLineOf}
use Rattle.mz_symbol_arrays.proofs.Given.{gives, held_by, held_given}
use Rattle.mz_symbol_arrays.proofs.RowLaws.{items_back}
use Rattle.mz_symbol_arrays.proofs.LineLaws.{drop_all, element_there, line_count, line_fails, line_holds}
use Rattle.mz_symbol_arrays.specs.UnionValues.{sets_row}
use Rattle.mz_symbol_arrays.specs.StepsUnions.{IsSetNode, sets_on, Folds, IsLost}
use Rattle.mz_symbol_arrays.proofs.UnionWalkLaws.{content_set, symbol_set}

-- ---- rows are folds

abbrev array_of : List Range → List Content → Option Content
array_of ix xs = Some (values.array ix (contents xs))

abbrev set_of : Option (List Range) → Option Content
set_of o = o >>= λ s. Some (values.set None s)

union_by : (s : List Range) (xs : List Content) (o : Option (List Range)) → ((a : List Range) → fold_from views.as_set union a xs ≡ sets_on Union a xs) → (o >>= λ a. fold_from views.as_set union (union s a) xs) ≡ (o >>= λ a. fold_from views.as_set (combined Union) (union s a) xs)
union_by s xs None h = refl
union_by s xs (Some a) h = h (union s a)

union_same : (s : List Range) (xs : List Content) → fold_from views.as_set union s xs ≡ sets_on Union s xs
unfolding combined fold_from
union_same s [] = refl
union_same s (x ∷ xs) = union_by s xs (views.as_set x) (λ a. union_same a xs)

common_by : (s : List Range) (xs : List Content) (o : Option (List Range)) → ((a : List Range) → fold_from views.as_set common_so_far (Some a) xs ≡ option_map (λ t. Some t) (sets_on Intersect a xs)) → (o >>= λ a. fold_from views.as_set common_so_far (Some (intersection s a)) xs) ≡ option_map (λ t. Some t) (o >>= λ a. fold_from views.as_set (combined Intersect) (intersection s a) xs)
common_by s xs None h = refl
common_by s xs (Some a) h = h (intersection s a)

common_same : (s : List Range) (xs : List Content) → fold_from views.as_set common_so_far (Some s) xs ≡ option_map (λ t. Some t) (sets_on Intersect s xs)
unfolding combined common_so_far fold_from
common_same s [] = refl
common_same s (x ∷ xs) = common_by s xs (views.as_set x) (λ a. common_same a xs)

union_row : (ix : List Range) (xs : List Content) → made_value row.ArrayUnion (array_of ix xs ∷ []) ≡ set_of (sets_on Union [] xs)
unfolding made_value items_at at as_items
union_row ix xs = ap (λ ys. set_of (fold_from views.as_set union [] ys)) (items_back xs) ∙ ap set_of (union_same [] xs)

abbrev found_set : Option (Option (List Range)) → Option Content
found_set o = o >>= λ found. found >>= λ s. Some (values.set None s)

common_row : (ix : List Range) (xs : List Content) → made_value row.ArrayIntersect (array_of ix xs ∷ []) ≡ found_set (fold_from views.as_set common_so_far None xs)
unfolding made_value items_at at as_items
common_row ix xs = ap (λ ys. found_set (fold_from views.as_set common_so_far None ys)) (items_back xs)

common_none : (ix : List Range) → made_value row.ArrayIntersect (array_of ix [] ∷ []) ≡ None
unfolding fold_from
common_none ix = common_row ix []

found_some : (o : Option (List Range)) → found_set (option_map (λ t. Some t) o) ≡ set_of o
found_some None = refl
found_some (Some s) = refl

common_first : (x : Content) (xs : List Content) (s : List Range) → views.as_set x ≡ Some s → fold_from views.as_set common_so_far None (x ∷ xs) ≡ fold_from views.as_set common_so_far (Some s) xs
unfolding fold_from common_so_far
common_first x xs s e = ap (λ o. o >>= λ a. fold_from views.as_set common_so_far (Some a) xs) e

common_some : (ix : List Range) (x : Content) (xs : List Content) (s : List Range) → views.as_set x ≡ Some s → made_value row.ArrayIntersect (array_of ix (x ∷ xs) ∷ []) ≡ set_of (sets_on Intersect s xs)
common_some ix x xs s e = common_row ix (x ∷ xs) ∙ ap found_set (common_first x xs s e ∙ common_same s xs) ∙ found_some (sets_on Intersect s xs)

no_union : made_value row.ArrayUnion (None ∷ []) ≡ None
unfolding made_value items_at at
no_union = refl

no_common : made_value row.ArrayIntersect (None ∷ []) ≡ None
unfolding made_value items_at at
no_common = refl

-- ---- under the array's definedness

guarded_is : (d x : Term) → is_true d ≡ true → value_by base.SetInt (guard_term d x) ≡ value_by base.SetInt x
unfolding guard_term
guarded_is d x h = ap (λ b. value_by base.SetInt (if b then x else None)) h

guarded_not : (d x : Term) → is_true d ≡ false → value_by base.SetInt (guard_term d x) ≡ None
unfolding guard_term
guarded_not d x h = ap (λ b. value_by base.SetInt (if b then x else None)) h

set_value : (t : Term) (s : List Range) → as_set t ≡ Some s → value_by base.SetInt t ≡ Some (values.set None s)
set_value t s e = ap (λ o. option_map (λ s. values.set None s) o) e

sets_end : (s : List Range) (xs : List Content) → xs ≡ [] → sets_on Union s xs ≡ Some s
unfolding fold_from
sets_end s xs e = ap (sets_on Union s) e

commons_end : (s : List Range) (xs : List Content) → xs ≡ [] → sets_on Intersect s xs ≡ Some s
unfolding fold_from
commons_end s xs e = ap (sets_on Intersect s) e

all_dropped : (xs : List Content) (n : ℕ) → length xs ≡ n → drop n xs ≡ []
all_dropped xs n e = ap (λ m. drop m xs) (sym e) ∙ drop_all xs

abbrev value_is : List Range → Option (List Content) → Option Content
value_is ix o = option_map (λ xs. values.array ix (contents xs)) o

-- what is known of the walk of a union
pub record IsUnion (r : Reading) (s m new : Run) (k d n first all id : ℕ) : Type 0 where
  pub line : IsLineOf s k d n
  pub reads : Reads r s
  pub starts : IsGiven r.mode → as_set (r.term first) ≡ Some []
  pub folds : Folds r m new Union k 0 n first all
  pub term : guard_term (r.term d) (r.term all) ≡ r.term id

pub union_held : (r : Reading) (s m new : Run) (ix : List Range) (k d n first all id : ℕ) → IsUnion r s m new k d n first all id → held r.mode (sets_row r row.ArrayUnion ix k) ≡ symbol_seen r (symbol_of base.SetInt id)
union_held r s m new ix k d n first all id w = held_by r.mode (sets_row r row.ArrayUnion ix k) (symbol_value r.term (symbol_of base.SetInt id)) (λ g. ap (λ a. made_value row.ArrayUnion (a ∷ [])) (held_given r.mode (value_is ix (r.line k)) g) ∙ by g (r.line k) refl)
  where
    by : IsGiven r.mode → (o : Option (List Content)) → r.line k ≡ o → made_value row.ArrayUnion (value_is ix o ∷ []) ≡ value_by base.SetInt (r.term id)
    by g None p = no_union ∙ sym (ap (value_by base.SetInt) (sym w.term) ∙ guarded_not (r.term d) (r.term all) (line_fails r s k d n w.line w.reads p))
    by g (Some xs) p =
        let f = w.folds.so_far xs p [] (w.starts g) in
        union_row ix xs
        ∙ ap set_of (f.rest ∙ sets_end f.set (drop n xs) (all_dropped xs n (line_count r s k d n xs w.line w.reads p)))
        ∙ sym (ap (value_by base.SetInt) (sym w.term) ∙ guarded_is (r.term d) (r.term all) (line_holds r s k d n xs w.line w.reads p) ∙ set_value (r.term all) f.set f.is)

pub starts_empty : (r : Reading) (first : Symbol) (id : ℕ) (e : List Range) (u v : State) → e ≡ [] → IsSetNode id first → Out (held r.mode (Some (values.set None e))) u ≡ Out (symbol_seen r first) v → IsGiven r.mode → as_set (r.term id) ≡ Some []
starts_empty r first id e u v z w h g =
    let t = symbol_set r first id (values.set None e) w (gives r (Some (values.set None e)) first u v g h) in
    t.is ∙ sym t.seen ∙ content_set None e ∙ ap (λ s. Some s) z

-- what is known of the walk of an intersection
pub record IsCommon (r : Reading) (s m new : Run) (k d n first all id : ℕ) (item : Symbol) : Type 0 where
  pub line : IsLineOf s k d n
  pub some : 1 ≤ n
  pub reads : Reads r s
  pub element : IsElement s k 0 item
  pub set : IsSetNode first item
  pub folds : Folds r m new Intersect k 1 n first all
  pub term : guard_term (r.term d) (r.term all) ≡ r.term id

first_on : (ix : List Range) (xs : List Content) (x : Content) (s : List Range) → slice_get xs 0 ≡ Some x → views.as_set x ≡ Some s → made_value row.ArrayIntersect (array_of ix xs ∷ []) ≡ set_of (sets_on Intersect s (drop 1 xs))
first_on ix [] x s e f = absurd (cc)
first_on ix (y ∷ xs) x s e f =
    let same : y ≡ x = cc in
    common_some ix y xs s (ap views.as_set same ∙ f)

pub common_held : (r : Reading) (s m new : Run) (ix : List Range) (k d n first all id : ℕ) (item : Symbol) → IsCommon r s m new k d n first all id item → held r.mode (sets_row r row.ArrayIntersect ix k) ≡ symbol_seen r (symbol_of base.SetInt id)
common_held r s m new ix k d n first all id item w = held_by r.mode (sets_row r row.ArrayIntersect ix k) (symbol_value r.term (symbol_of base.SetInt id)) (λ g. ap (λ a. made_value row.ArrayIntersect (a ∷ [])) (held_given r.mode (value_is ix (r.line k)) g) ∙ by (r.line k) refl)
  where
    by : (o : Option (List Content)) → r.line k ≡ o → made_value row.ArrayIntersect (value_is ix o ∷ []) ≡ value_by base.SetInt (r.term id)
    by None p = no_common ∙ sym (ap (value_by base.SetInt) (sym w.term) ∙ guarded_not (r.term d) (r.term all) (line_fails r s k d n w.line w.reads p))
    by (Some xs) p =
        let e = element_there r s k 0 item xs w.element w.reads p in
        let t = symbol_set r item first e.value w.set e.is in
        let f = w.folds.so_far xs p t.set t.is in
        first_on ix xs e.value t.set e.at t.seen
        ∙ ap set_of (f.rest ∙ commons_end f.set (drop n xs) (all_dropped xs n (line_count r s k d n xs w.line w.reads p)))
        ∙ sym (ap (value_by base.SetInt) (sym w.term) ∙ guarded_is (r.term d) (r.term all) (line_holds r s k d n xs w.line w.reads p) ∙ set_value (r.term all) f.set f.is)

none_in : (xs : List Content) → length xs ≡ 0 → xs ≡ []
none_in [] h = refl
none_in (x ∷ xs) h = absurd (omega (arith, h))

pub lost : (r : Reading) (old new : Run) (p q : State) (u any id : ℕ) (s : Symbol) → state_of r old ≡ p → Out (bit false) p ≡ Out (r.term u) q → Out (guard_term (r.term u) (r.term any)) q ≡ Out (r.term id) (state_of r new) → s ≡ symbol_of base.SetInt id → IsLost r old new s
lost r old new p q u any id s k f e z = record {
  same = k ∙ out_state f ∙ out_state e;
  undefined = ap (symbol_value r.term) z ∙ ap (value_by base.SetInt) (sym (out_value e)) ∙ guarded_not (r.term u) (r.term any) (ap is_true (sym (out_value f)));
}

pub none_held : (r : Reading) (old new : Run) (ix : List Range) (k d n : ℕ) (s : Symbol) → n ≡ 0 → IsLineOf old k d n → Reads r old → IsLost r old new s → held r.mode (sets_row r row.ArrayIntersect ix k) ≡ symbol_seen r s
none_held r old new ix k d n s z l q w = held_by r.mode (sets_row r row.ArrayIntersect ix k) (symbol_value r.term s) (λ g. ap (λ a. made_value row.ArrayIntersect (a ∷ [])) (held_given r.mode (value_is ix (r.line k)) g) ∙ by (r.line k) refl)
  where
    by : (o : Option (List Content)) → r.line k ≡ o → made_value row.ArrayIntersect (value_is ix o ∷ []) ≡ symbol_value r.term s
    by None p = no_common ∙ sym w.undefined
    by (Some xs) p = ap (λ ys. made_value row.ArrayIntersect (array_of ix ys ∷ [])) (none_in xs (line_count r old k d n xs l q p ∙ z)) ∙ common_none ix ∙ sym w.undefined
