-- Arrays that are written row by row, under a reading.
use Rattle.std.proofs.Common.{◌≡◌, ◌∙◌, ℕ, Bool, true, false, not, ◌&&◌, List, [], ◌∷◌, ◌++◌, length, map, Option, Some, None, Err, refl, sym, ap, if◌then◌else◌}
use Rattle.std.specs.Prelude.{Vec, nat_eq, pos}
use Rattle.std.specs.Global.{Global}
use Rattle.std.specs.List.{list_all}
use Rattle.mz_base.specs.declared.fault.Span.{Span}
use Rattle.mz_base.specs.declared.fault.Fault.{Fault}
use Rattle.mz_base.specs.declared.kind.Kind.TheVariants as kind
use Rattle.mz_base.specs.declared.stop.Stop.{Stop}
use Rattle.mz_base.specs.declared.stop.Stop.TheVariants.{Refused, Memory}
use Rattle.mz_value.specs.Ranges.{Range}
use Rattle.mz_value.specs.Contents.{Content, contents}
use Rattle.mz_value.specs.Contents as values
use Rattle.std.specs.Option.{option_map}
use Rattle.mz_operations.specs.Bounds as bounds
use Rattle.mz_meaning.specs.Runs as runs
use Rattle.mz_meaning.specs.Runs.{State, Out, Stopped, give, stop}
use Rattle.mz_meaning.specs.Cells.{Cell, Par, Var, Mode, Bare, all_par, held, index_of, is_par, is_there, scalar_bound, undefined, value_of}
use Rattle.mz_meaning.specs.Arrays.{all_there, are_level, joined, par_undefined, row_length, table_cell, table_ranges, table_value}
use Rattle.mz_symbol.specs.Readings.{Reading, blank}
use Rattle.mz_symbol.specs.Makes.{MeetsAt}
use Rattle.mz_symbol.proofs.ConstantLaws.{out_value}
use Rattle.mz_eval_cells.specs.Meets as meets
use Rattle.mz_eval_cells.specs.declared.types.Known.{Known}
use Rattle.mz_eval_cells.specs.Views.{all_seen, cell_of, cells_of, seen}
use Rattle.mz_eval_arrays.specs.ArrayCells.{array_over, bound_in}
use Rattle.mz_eval_arrays.specs.StepsBranches.{with_value}
use Rattle.mz_eval_arrays.proofs.GatheredCells.{all_same, par_same}
use Rattle.mz_eval_arrays.proofs.Seeing.{bounds_same, mapped_length, pars_same}
use Rattle.mz_eval_branches.specs.BranchLines.{has_no_value}
use Rattle.mz_eval_branches.proofs.NoValues.{held_none, no_content}
use Rattle.mz_eval_branches.specs.TableCells.{AreJoined, IsVarTable, has_value, rows_seen, table_over}

abbrev Rows : Type 0
Rows = List (Vec Known Global)

-- ---- the cells of all rows

abbrev flat : Rows → List Known
flat [] = []
flat (v ∷ vs) = v.items ++ flat vs

seen_both : (r : Reading) (ks ls : List Known) → all_seen r (ks ++ ls) ≡ all_seen r ks ++ all_seen r ls
seen_both r [] ls = refl
seen_both r (k ∷ ks) ls = ap (λ cs. seen r k ∷ cs) (seen_both r ks ls)

flat_seen : (r : Reading) (rs : Rows) → joined (rows_seen r rs) ≡ all_seen r (flat rs)
flat_seen r [] = refl
flat_seen r (v ∷ vs) = ap (λ cs. all_seen r v.items ++ cs) (flat_seen r vs) ∙ sym (seen_both r v.items (flat vs))

-- ---- what is the same under each reading

abbrev row_seen : Reading → Vec Known Global → List Cell
row_seen r v = all_seen r v.items

row_lengths : (r q : Reading) (rs : Rows) → row_length (rows_seen r rs) ≡ row_length (rows_seen q rs)
row_lengths r q [] = refl
row_lengths r q (v ∷ vs) = mapped_length (seen r) v.items ∙ sym (mapped_length (seen q) v.items)

abbrev ranges_by : ℕ → ℕ → List Range
ranges_by n m = (pos 1, pos n) ∷ (pos 1, pos m) ∷ []

pub ranges_same : (r q : Reading) (rs : Rows) → table_ranges (rows_seen r rs) ≡ table_ranges (rows_seen q rs)
ranges_same r q rs =
    ap (λ n. ranges_by n (row_length (rows_seen r rs))) (mapped_length (row_seen r) rs ∙ sym (mapped_length (row_seen q) rs))
    ∙ ap (ranges_by (length (rows_seen q rs))) (row_lengths r q rs)

of_length : (r q : Reading) (n : ℕ) (rs : Rows) → list_all (λ x. nat_eq (length x) n) (rows_seen r rs) ≡ list_all (λ x. nat_eq (length x) n) (rows_seen q rs)
of_length r q n [] = refl
of_length r q n (v ∷ vs) =
    ap (λ k. nat_eq k n && list_all (λ x. nat_eq (length x) n) (rows_seen r vs)) (mapped_length (seen r) v.items ∙ sym (mapped_length (seen q) v.items))
    ∙ ap (λ b. nat_eq (length (all_seen q v.items)) n && b) (of_length r q n vs)

level_same : (r q : Reading) (rs : Rows) → are_level (rows_seen r rs) ≡ are_level (rows_seen q rs)
level_same r q rs =
    ap (λ n. list_all (λ x. nat_eq (length x) n) (rows_seen r rs)) (row_lengths r q rs)
    ∙ of_length r q (row_length (rows_seen q rs)) rs

bounds_of_all : (r : Reading) (ks : List Known) → map bound_in (all_seen r ks) ≡ map bound_in (cells_of ks)
bounds_of_all r [] = refl
bounds_of_all r (k ∷ ks) = ap (λ b. scalar_bound b ∷ map bound_in (all_seen r ks)) (bounds_same r k) ∙ ap (λ bs. bound_in (cell_of k) ∷ bs) (bounds_of_all r ks)

pub joined_bounds : (r : Reading) (rs : Rows) → map bound_in (joined (rows_seen r rs)) ≡ map bound_in (joined (rows_seen blank rs))
joined_bounds r rs = ap (map bound_in) (flat_seen r rs) ∙ bounds_of_all r (flat rs) ∙ sym (ap (map bound_in) (flat_seen blank rs))

joined_pars : (r : Reading) (rs : Rows) → all_par (joined (rows_seen r rs)) ≡ all_par (joined (rows_seen blank rs))
joined_pars r rs = ap all_par (flat_seen r rs) ∙ pars_same r (flat rs) ∙ sym (ap all_par (flat_seen blank rs))

joined_same : (r : Reading) (rs : Rows) → all_par (joined (rows_seen blank rs)) ≡ true → joined (rows_seen r rs) ≡ joined (rows_seen blank rs)
joined_same r rs h = flat_seen r rs ∙ all_same r (flat rs) (sym (ap all_par (flat_seen blank rs)) ∙ h) ∙ sym (flat_seen blank rs)

undefined_by : (p : Bool) (cs ds : List Cell) → all_par cs ≡ p → all_par ds ≡ p → (p ≡ true → cs ≡ ds) → par_undefined cs ≡ par_undefined ds
undefined_by true cs ds h i e = ap par_undefined (e refl)
undefined_by false cs ds h i e = ap (λ b. b && not (is_there (all_there (map value_of cs)))) h ∙ sym (ap (λ b. b && not (is_there (all_there (map value_of ds)))) i)

undefined_same : (r : Reading) (rs : Rows) → par_undefined (joined (rows_seen r rs)) ≡ par_undefined (joined (rows_seen blank rs))
undefined_same r rs = undefined_by (all_par (joined (rows_seen blank rs))) (joined (rows_seen r rs)) (joined (rows_seen blank rs)) (joined_pars r rs) refl (joined_same r rs)

abbrev value_by : List Range → List Cell → Option Content
value_by ix cs = option_map (λ xs. values.array ix (contents xs)) (all_there (map value_of cs))

value_same : (r : Reading) (rs : Rows) → all_par (joined (rows_seen blank rs)) ≡ true → table_value (rows_seen r rs) ≡ table_value (rows_seen blank rs)
value_same r rs h =
    ap (λ ix. value_by ix (joined (rows_seen r rs))) (ranges_same r blank rs)
    ∙ ap (value_by (table_ranges (rows_seen blank rs))) (joined_same r rs h)

-- ---- the cell, by its parts

abbrev told : Mode → Span → Bool → Bool → Bool → Option Content → bounds.Bounds → runs.Run Cell
told m at u l p v b = if u then give undefined else (if l then give (if p then Par v else Var b (held m v)) else stop kind.IndexMismatch at (pos 0))

abbrev bounds_by : Reading → Rows → bounds.Bounds
bounds_by r rs = bounds.many (table_ranges (rows_seen r rs)) (map bound_in (joined (rows_seen r rs)))

abbrev told_by : Mode → Span → Reading → Rows → Option Content → bounds.Bounds → runs.Run Cell
told_by m at r rs v b = told m at (par_undefined (joined (rows_seen r rs))) (are_level (rows_seen r rs)) (all_par (joined (rows_seen r rs))) v b

seen_told : (r : Reading) (at : Span) (rs : Rows) → table_cell r.mode at (rows_seen r rs) ≡ told_by r.mode at blank rs (table_value (rows_seen r rs)) (bounds_by r rs)
seen_told r at rs =
    let v = table_value (rows_seen r rs) in
    let b = bounds_by r rs in
    ap (λ u. told r.mode at u (are_level (rows_seen r rs)) (all_par (joined (rows_seen r rs))) v b) (undefined_same r rs)
    ∙ ap (λ l. told r.mode at (par_undefined (joined (rows_seen blank rs))) l (all_par (joined (rows_seen r rs))) v b) (level_same r blank rs)
    ∙ ap (λ p. told r.mode at (par_undefined (joined (rows_seen blank rs))) (are_level (rows_seen blank rs)) p v b) (joined_pars r rs)

no_par : (b : bounds.Bounds) (c : Cell) → Var b None ≡ c → is_par c ≡ true → ⊥
no_par b c e q =
    let f : false ≡ true = ap is_par e ∙ q in
    absurd (cc)

no_var : (a c : Cell) → is_par a ≡ true → a ≡ c → is_par c ≡ false → ⊥
no_var a c t e q =
    let f : true ≡ false = sym t ∙ ap is_par e ∙ q in
    absurd (cc)

par_by : (m : Mode) (at : Span) (u l p : Bool) (v w : Option Content) (b d : bounds.Bounds) (c : Cell) (s : State) → (p ≡ true → w ≡ v) → told Bare at u l p v b s ≡ Out c s → is_par c ≡ true → told m at u l p w d s ≡ Out c s
par_by m at true l p v w b d c s e h q = h
par_by m at false true true v w b d c s e h q = ap (λ x. Out (Par x) s) (e refl) ∙ h
par_by m at false true false v w b d c s e h q = absurd (no_par b c (out_value h) q)
par_by m at false false p v w b d c s e h q = absurd (cc)

-- a par table
pub table_par : (r : Reading) (at : Span) (rs : Rows) (k : Known) (s : State) → is_par (cell_of k) ≡ true → table_cell Bare at (rows_seen blank rs) s ≡ Out (cell_of k) s → table_cell r.mode at (rows_seen r rs) s ≡ Out (seen r k) s
table_par r at rs k s q h =
    ap (λ run. run s) (seen_told r at rs)
    ∙ par_by r.mode at (par_undefined (joined (rows_seen blank rs))) (are_level (rows_seen blank rs)) (all_par (joined (rows_seen blank rs))) (table_value (rows_seen blank rs)) (table_value (rows_seen r rs)) (bounds_by blank rs) (bounds_by r rs) (cell_of k) s (value_same r rs) h q
    ∙ ap (λ c. Out c s) (sym (par_same r k q))

var_by : (m : Mode) (at : Span) (u l p : Bool) (v w : Option Content) (b d : bounds.Bounds) (c : Cell) (s : State) → told Bare at u l p v b s ≡ Out c s → is_par c ≡ false → told m at u l p w d s ≡ Out (Var d (held m w)) s
var_by m at true l p v w b d c s h q = absurd (no_var undefined c refl (out_value h) q)
var_by m at false true true v w b d c s h q = absurd (no_var (Par v) c refl (out_value h) q)
var_by m at false true false v w b d c s h q = refl
var_by m at false false p v w b d c s h q = absurd (cc)

-- a var table
pub table_var : (r : Reading) (at : Span) (rs : Rows) (c : Cell) (s : State) → is_par c ≡ false → table_cell Bare at (rows_seen blank rs) s ≡ Out c s → table_cell r.mode at (rows_seen r rs) s ≡ Out (table_over r rs) s
table_var r at rs c s q h =
    ap (λ run. run s) (seen_told r at rs)
    ∙ var_by r.mode at (par_undefined (joined (rows_seen blank rs))) (are_level (rows_seen blank rs)) (all_par (joined (rows_seen blank rs))) (table_value (rows_seen blank rs)) (table_value (rows_seen r rs)) (bounds_by blank rs) (bounds_by r rs) c s h q

pub is_var_table : (at : Span) (rs : Rows) (c : Cell) (s : State) → is_par c ≡ false → table_cell Bare at (rows_seen blank rs) s ≡ Out c s → IsVarTable rs c
is_var_table at rs c s q h = record { is = out_value (sym h ∙ table_var blank at rs c s q h) }

stop_by : (m : Mode) (at : Span) (u l p : Bool) (v w : Option Content) (b d : bounds.Bounds) (f : Fault) (s : State) → told Bare at u l p v b s ≡ Stopped f → told m at u l p w d s ≡ Stopped f
stop_by m at true l p v w b d f s h = absurd (cc)
stop_by m at false true p v w b d f s h = absurd (cc)
stop_by m at false false p v w b d f s h = h

-- a refusal
pub table_refused : (r : Reading) (at : Span) (rs : Rows) (e : Stop) (s u : State) → meets.MeetsAt cell_of (Err e) s (table_cell Bare at (rows_seen blank rs) s) → MeetsAt (seen r) (Err e) u (table_cell r.mode at (rows_seen r rs) s)
table_refused r at rs (Refused f) s u h =
    ap (λ run. run s) (seen_told r at rs)
    ∙ stop_by r.mode at (par_undefined (joined (rows_seen blank rs))) (are_level (rows_seen blank rs)) (all_par (joined (rows_seen blank rs))) (table_value (rows_seen blank rs)) (table_value (rows_seen r rs)) (bounds_by blank rs) (bounds_by r rs) f s h
table_refused r at rs Memory s u h = tt

-- ---- the value

none_first : (v : Option Content) (vs : List (Option Content)) → v ≡ None → all_there (v ∷ vs) ≡ None
none_first v vs e = ap (λ w. all_there (w ∷ vs)) e

none_after : (v : Option Content) (vs : List (Option Content)) → all_there vs ≡ None → all_there (v ∷ vs) ≡ None
none_after None vs e = refl
none_after (Some x) vs e = ap (option_map (λ ys. x ∷ ys)) e

missing : (r : Reading) (ks : List Known) → list_all has_value ks ≡ false → all_there (map value_of (all_seen r ks)) ≡ None
missing r [] h = absurd (cc)
missing r (k ∷ ks) h = by (has_no_value k) refl h (missing r ks)
  where
    by : (b : Bool) → has_no_value k ≡ b → not b && list_all has_value ks ≡ false → (list_all has_value ks ≡ false → all_there (map value_of (all_seen r ks)) ≡ None) → all_there (value_of (seen r k) ∷ map value_of (all_seen r ks)) ≡ None
    by true e h more = none_first (value_of (seen r k)) (map value_of (all_seen r ks)) (no_content r k e)
    by false e h more = none_after (value_of (seen r k)) (map value_of (all_seen r ks)) (more h)

abbrev array_by : List Range → List bounds.Bound → Option Content → Cell
array_by ix bs v = Var (bounds.many ix bs) v

-- one cell is undefined
pub table_unvalued : (r : Reading) (rs : Rows) (ks : List Known) (c : Cell) → AreJoined rs ks → IsVarTable rs c → list_all has_value ks ≡ false → table_over r rs ≡ with_value None c
table_unvalued r rs ks c j t h =
    let ix = table_ranges (rows_seen r rs) in
    let gone : value_by ix (joined (rows_seen r rs)) ≡ None = ap (value_by ix) (sym (j.seen_so r)) ∙ ap (option_map (λ xs. values.array ix (contents xs))) (missing r ks h) in
    ap (λ v. array_by ix (map bound_in (joined (rows_seen r rs))) (held r.mode v)) gone
    ∙ ap (array_by ix (map bound_in (joined (rows_seen r rs)))) (held_none r.mode)
    ∙ ap (λ jx. array_by jx (map bound_in (joined (rows_seen r rs))) None) (ranges_same r blank rs)
    ∙ ap (λ bs. array_by (table_ranges (rows_seen blank rs)) bs None) (joined_bounds r rs)
    ∙ sym (ap (with_value None) t.is)

some_same : {A : Type 0} (x y : A) → Some x ≡ Some y → x ≡ y
some_same x y e = cc

-- all may have a value
pub table_drawn : (r : Reading) (rs : Rows) (ks : List Known) (c : Cell) (ix : List Range) → AreJoined rs ks → IsVarTable rs c → Some ix ≡ index_of c → table_over r rs ≡ array_over r.mode ix (all_seen r ks)
table_drawn r rs ks c ix j t i =
    ap (λ cs. array_over r.mode (table_ranges (rows_seen r rs)) cs) (sym (j.seen_so r))
    ∙ ap (λ jx. array_over r.mode jx (all_seen r ks)) (ranges_same r blank rs ∙ sym (some_same ix (table_ranges (rows_seen blank rs)) (i ∙ ap index_of t.is)))
