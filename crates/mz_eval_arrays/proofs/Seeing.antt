-- Arrays of cells as lines of symbols.
use Rattle.std.proofs.Common.{◌≡◌, ◌∙◌, ℕ, suc, ◌+◌, ◌*◌, ◌≤◌, ◌<◌, false, ◌&&◌, List, [], ◌∷◌, ◌++◌, length, map, take, get_or, Option, Some, None, refl, sym, ap, subst, arith, if◌then◌else◌}
use Rattle.std.specs.Prelude.{pos}
use Rattle.std.proofs.lemmas.List.{length-map, map_push, take_more, take_all}
use Rattle.std.specs.Option.{option_map}
use Rattle.mz_value.specs.Ranges.{Range}
use Rattle.mz_value.specs.Contents.{Content}
use Rattle.mz_operations.specs.Arrays.{line}
use Rattle.mz_operations.specs.Bounds as bounds
use Rattle.mz_operations.specs.RowBounds.{line_of}
use Rattle.mz_meaning.specs.Cells.{Cell, Par, Var, Mode, Blank, Given, all_par, bounds_in, held, is_par, scalar_bound, value_of}
use Rattle.mz_meaning.specs.Arrays.{line_cell, line_value}
use Rattle.mz_meaning.specs.Arrays as arrays
use Rattle.mz_symbol.specs.declared.types.Symbol.{Symbol}
use Rattle.mz_symbol.specs.Symbols.{all_there}
use Rattle.mz_symbol.specs.Runs.{Run}
use Rattle.mz_symbol.specs.Readings.{Reading}
use Rattle.mz_symbol.specs.Makes.{GoesOnBy}
use Rattle.mz_symbol_rows.proofs.GoingOn.{goes_both, goes_most}
use Rattle.mz_symbol_rows.specs.RowValues.{argument}
use Rattle.mz_symbol_arrays.specs.ArrayValues.{argued, all_argued}
use Rattle.mz_symbol_arrays.specs.LineValues.{array_argument}
use Rattle.mz_eval_cells.specs.declared.types.Known.{Known}
use Rattle.mz_eval_cells.specs.declared.types.Known.TheVariants as known
use Rattle.mz_eval_cells.specs.declared.types.Bound.{Bound}
use Rattle.mz_eval_cells.specs.Views.{all_seen, cell_of, cells_of, known_bound, seen}
use Rattle.mz_eval_cells.proofs.Seeing.{par_seen}
use Rattle.mz_eval_symbols.specs.Taken.{cell_value}
use Rattle.mz_eval_arrays.specs.ArrayCells.{array_in, array_over, bound_in}
use Rattle.mz_eval_arrays.specs.StepsLines.{AreSymbols, OneSymbol}

-- ---- one symbol more

pub symbols_none : (see : Reading → Symbol → Option Content) (r : Reading) (s : Run) (ss : List Symbol) → ss ≡ [] → AreSymbols see r s s [] ss
symbols_none see r s ss e = record { same = refl; values = ap (map (see r)) (sym e) }

pub symbols_more : (see : Reading → Symbol → Option Content) (r : Reading) (old mid new : Run) (ks : List Known) (i : ℕ) (k : Known) (ss ts : List Symbol) → i < length ks → k ≡ get_or ks i k → AreSymbols see r old mid (take i ks) ss → OneSymbol see r mid new k ss ts → AreSymbols see r old new (take (i + 1) ks) ts
symbols_more see r old mid new ks i k ss ts l e h m = record {
  same = h.same ∙ m.same;
  values = ap (map (cell_value r)) (take_more ks i k l ∙ ap (λ x. take i ks ++ x ∷ []) (sym e)) ∙ map_push (cell_value r) (take i ks) k ∙ ap (λ vs. vs ++ cell_value r k ∷ []) h.values ∙ sym m.values;
}

pub symbols_all : (see : Reading → Symbol → Option Content) (r : Reading) (old new : Run) (ks : List Known) (n : ℕ) (ss : List Symbol) → n ≡ length ks → AreSymbols see r old new (take n ks) ss → AreSymbols see r old new ks ss
symbols_all see r old new ks n ss e h = subst (λ xs. AreSymbols see r old new xs ss) (take_all n ks (omega (arith, e))) h

-- ---- what is the same under each reading

pub bounds_same : (r : Reading) (k : Known) → bounds_in (seen r k) ≡ bounds_in (cell_of k)
bounds_same r known.Undefined = refl
bounds_same r (known.One i) = refl
bounds_same r (known.Array ix xs) = refl
bounds_same r (known.Var x) = refl
bounds_same r (known.Row ix xs) = refl
bounds_same r (known.Unshaped d) = refl

pub all_bounds : (r : Reading) (ks : List Known) → map bound_in (all_seen r ks) ≡ map bound_in (cells_of ks)
all_bounds r [] = refl
all_bounds r (k ∷ ks) = ap (λ b. scalar_bound b ∷ map bound_in (all_seen r ks)) (bounds_same r k) ∙ ap (λ bs. bound_in (cell_of k) ∷ bs) (all_bounds r ks)

pub pars_same : (r : Reading) (ks : List Known) → all_par (all_seen r ks) ≡ all_par (cells_of ks)
pars_same r [] = refl
pars_same r (k ∷ ks) = ap (λ b. b && all_par (all_seen r ks)) (par_seen r k) ∙ ap (λ b. is_par (cell_of k) && b) (pars_same r ks)

-- ---- values

pub held_cells : (r : Reading) (ks : List Known) → map (held r.mode) (map value_of (all_seen r ks)) ≡ map (cell_value r) ks
held_cells r [] = refl
held_cells r (k ∷ ks) = ap (λ vs. cell_value r k ∷ vs) (held_cells r ks)

held_symbols : (r : Reading) (ss : List Symbol) → map (argument r) ss ≡ map (held r.mode) (map (argued r.term) ss)
held_symbols r [] = refl
held_symbols r (s ∷ ss) = ap (λ vs. argument r s ∷ vs) (held_symbols r ss)

held_values : (r : Reading) (ks : List Known) (ss : List Symbol) → map (cell_value r) ks ≡ map (argument r) ss → map (held r.mode) (map value_of (all_seen r ks)) ≡ map (held r.mode) (map (argued r.term) ss)
held_values r ks ss e = held_cells r ks ∙ e ∙ held_symbols r ss

pub given_same : (f : ℕ → Content) (vs : List (Option Content)) → map (held (Given f)) vs ≡ vs
given_same f [] = refl
given_same f (v ∷ vs) = ap (λ ws. v ∷ ws) (given_same f vs)

there_same : (vs : List (Option Content)) → arrays.all_there vs ≡ all_there vs
there_same [] = refl
there_same (None ∷ vs) = refl
there_same (Some x ∷ vs) = ap (option_map (λ ys. x ∷ ys)) (there_same vs)

some_same : {A : Type 0} (x y : A) → Some x ≡ Some y → x ≡ y
some_same x y e = cc

there_length : (vs : List (Option Content)) (xs : List Content) → arrays.all_there vs ≡ Some xs → length xs ≡ length vs
there_length [] xs e = ap length (sym (some_same [] xs e))
there_length (None ∷ vs) xs e = absurd (cc)
there_length (Some x ∷ vs) xs e = by (arrays.all_there vs) refl e (λ ys q. there_length vs ys q)
  where
    by : (o : Option (List Content)) → arrays.all_there vs ≡ o → option_map (λ ys. x ∷ ys) o ≡ Some xs → ((ys : List Content) → arrays.all_there vs ≡ Some ys → length ys ≡ length vs) → length xs ≡ suc (length vs)
    by None q h more = absurd (cc)
    by (Some ys) q h more = ap length (sym (some_same (x ∷ ys) xs h)) ∙ ap suc (more ys q)

abbrev pub from_one : ℕ → List Range
from_one k = (pos 1, pos k) ∷ []

line_by : (vs : List (Option Content)) (ix : List Range) → ix ≡ from_one (length vs) → option_map line (arrays.all_there vs) ≡ option_map (array_in ix) (arrays.all_there vs)
line_by vs ix e = by (arrays.all_there vs) refl
  where
    by : (o : Option (List Content)) → arrays.all_there vs ≡ o → option_map line o ≡ option_map (array_in ix) o
    by None q = refl
    by (Some xs) q = ap (λ n. Some (array_in (from_one n) xs)) (there_length vs xs q) ∙ ap (λ jx. Some (array_in jx xs)) (sym e)

pub mapped_length : {A B : Type 0} (f : A → B) (xs : List A) → length (map f xs) ≡ length xs
mapped_length f xs = length-map xs f

-- a var array that is indexed from 1
pub line_open : (m : Mode) (cs : List Cell) (ix : List Range) → all_par cs ≡ false → ix ≡ from_one (length cs) → line_cell m cs ≡ array_over m ix cs
line_open m cs ix h i =
    let bs = map bound_in cs in
    let w = held m (option_map (array_in ix) (arrays.all_there (map value_of cs))) in
    ap (λ b. if b then Par (line_value cs) else Var (line_of bs) (held m (line_value cs))) h
    ∙ ap (λ v. Var (line_of bs) (held m v)) (line_by (map value_of cs) ix (i ∙ ap from_one (sym (mapped_length value_of cs))))
    ∙ ap (λ jx. Var (bounds.many jx bs) w) (ap from_one (mapped_length bound_in cs) ∙ sym i)

array_held : (m : Mode) (vs ws : List (Option Content)) (ix : List Range) (q : Option (List Content)) → map (held m) vs ≡ map (held m) ws → all_there ws ≡ q → held m (option_map (array_in ix) (arrays.all_there vs)) ≡ held m (option_map (array_in ix) q)
array_held (Blank n) vs ws ix q h e = refl
array_held (Given f) vs ws ix q h e =
    let same : vs ≡ ws = sym (given_same f vs) ∙ h ∙ given_same f ws in
    ap (option_map (array_in ix)) (there_same vs ∙ ap all_there same ∙ e)

-- the var array of a line
pub array_seen : (r : Reading) (ks : List Known) (ss : List Symbol) (ix jx : List Range) (bs : List Bound) (n : ℕ) → map known_bound bs ≡ map bound_in (cells_of ks) → jx ≡ ix → map (cell_value r) ks ≡ map (argument r) ss → all_argued r.term ss ≡ r.line n
    → array_over r.mode ix (all_seen r ks) ≡ Var (bounds.many jx (map known_bound bs)) (array_argument r jx n)
array_seen r ks ss ix jx bs n b i a l =
    let cs = all_seen r ks in
    ap (λ es. Var (bounds.many ix es) (held r.mode (option_map (array_in ix) (arrays.all_there (map value_of cs))))) (all_bounds r ks ∙ sym b)
    ∙ ap (Var (bounds.many ix (map known_bound bs))) (array_held r.mode (map value_of cs) (map (argued r.term) ss) ix (r.line n) (held_values r ks ss a) l)
    ∙ ap (λ kx. Var (bounds.many kx (map known_bound bs)) (array_argument r kx n)) (sym i)

-- ---- what it costs

pub goes_none : (s : Run) → GoesOnBy 0 s s
goes_none s = record { back = λ r h. h; paid = omega arith }

pub goes_more : (i n : ℕ) (old mid new : Run) → suc i ≤ n → GoesOnBy (8 * i) old mid → GoesOnBy 8 mid new → GoesOnBy (8 * n) old new
goes_more i n old mid new h f g = goes_most (8 * i + 8) (8 * n) old new (omega (arith, h)) (goes_both (8 * i) 8 old mid new f g)

pub goes_same : (i n : ℕ) (old new : Run) → i ≡ n → GoesOnBy (8 * i) old new → GoesOnBy (8 * n) old new
goes_same i n old new h f = subst (λ m. GoesOnBy (8 * m) old new) h f

pub goes_line : (n : ℕ) (old mid new : Run) (ss : List Symbol) → length ss ≡ n → GoesOnBy (8 * n) old mid → GoesOnBy (50 * length ss) mid new → GoesOnBy (58 * n) old new
goes_line n old mid new ss e f g = goes_most (8 * n + 50 * length ss) (58 * n) old new (omega (arith, e)) (goes_both (8 * n) (50 * length ss) old mid new f g)

pub goes_cells : (ks : List Known) (old new : Run) → GoesOnBy (58 * length ks) old new → GoesOnBy (58 * length (cells_of ks)) old new
goes_cells ks old new f = subst (λ n. GoesOnBy (58 * n) old new) (sym (mapped_length cell_of ks)) f
