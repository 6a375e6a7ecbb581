-- Accesses to arrays under a reading.
use Rattle.std.proofs.Common.{◌≡◌, ◌∙◌, ℕ, Bool, true, false, not, ◌&&◌, List, [], ◌∷◌, map, Option, is_some, refl, sym, ap, if◌then◌else◌}
use Rattle.mz_value.specs.Ranges.{Range}
use Rattle.mz_value.specs.Contents.{Content}
use Rattle.mz_interval.specs.Ends.{Ends}
use Rattle.mz_core.specs.declared.types.Base.{Base}
use Rattle.mz_core.specs.declared.types.Base.TheVariants as base
use Rattle.mz_core.specs.Types.{PlainType}
use Rattle.mz_core.specs.Order.{no_dims}
use Rattle.mz_operations.specs.Bounds as bounds
use Rattle.mz_meaning.specs.Cells.{Cell, Par, Var, Mode, Blank, Given, all_par, bounds_in, held, is_bool, is_par, is_truth, risen, scalar_bound, sealed, typed, value_of, widened}
use Rattle.mz_meaning.specs.Arrays.{access_cell, accessed, elements_reached, ends_in, hull_over}
use Rattle.mz_symbol.specs.declared.types.Symbol.{Symbol}
use Rattle.mz_symbol.specs.Symbols.{symbol_value}
use Rattle.mz_symbol.specs.Readings.{Reading, symbol_seen}
use Rattle.mz_symbol_rows.specs.RowValues.{argument}
use Rattle.mz_symbol_arrays.specs.LineValues.{array_argument}
use Rattle.mz_symbol_access.specs.AccessValues.{access_value, at_node}
use Rattle.mz_eval_cells.specs.declared.types.Known.{Known}
use Rattle.mz_eval_cells.specs.Views.{all_seen, cell_of, cells_of, seen}
use Rattle.mz_eval_cells.proofs.Seeing.{par_seen}
use Rattle.mz_eval_symbols.specs.Bases.{symbol_base}
use Rattle.mz_eval_symbols.specs.Taken.{cell_value, ranges_in}
use Rattle.mz_eval_access.specs.Places.{reached_bound}
use Rattle.mz_eval_arrays.specs.ArrayCells.{counted, is_counted}
use Rattle.mz_eval_elements.specs.ElementCells.{element_value}
use Rattle.mz_eval_arrays.proofs.KindLaws.{as_counted, counted_twice}
use Rattle.mz_eval_arrays.proofs.GatheredCells.{all_same, par_cell, par_same}
use Rattle.mz_eval_arrays.proofs.Seeing.{bounds_same, given_same, held_cells, pars_same}

-- ---- an element by its symbol

node_counted : (b : Base) (o : Bool) (v : Option Content) → at_node b o v ≡ counted (is_counted b o) v
node_counted base.Bool false v = refl
node_counted base.Bool true v = refl
node_counted b o v = refl

-- what has no base of its own is no truth value
pub symbol_node : (b : Base) (o : Bool) (v : Option Content) → at_node (symbol_base b) o v ≡ at_node b o v
symbol_node base.Bool o v = refl
symbol_node base.Bottom o v = refl
symbol_node base.SetBottom o v = refl
symbol_node b o v = refl

told : (m : Mode) (b : Base) (o : Bool) (x y z : Option Content) (vs ws : List (Option Content)) → held m x ≡ y → map (held m) vs ≡ ws → held m (at_node b o (accessed y ws)) ≡ held m z → held m (counted (is_counted b o) (accessed x vs)) ≡ held m (counted (is_counted b o) z)
told (Blank n) b o x y z vs ws h i j = refl
told (Given f) b o x y z vs ws h i j =
    let q = is_counted b o in
    ap (λ u. counted q (accessed u vs)) h
    ∙ ap (λ us. counted q (accessed y us)) (sym (given_same f vs) ∙ i)
    ∙ sym (counted_twice q (accessed y ws))
    ∙ ap (counted q) (sym (node_counted b o (accessed y ws)) ∙ j)

pub element_told : (r : Reading) (b : Base) (o : Bool) (a : Known) (at : List Known) (n : ℕ) (ix : List Range) (ss : List Symbol) (s : Symbol) → ix ≡ ranges_in a → cell_value r a ≡ array_argument r (ranges_in a) n → map (cell_value r) at ≡ map (symbol_seen r) ss → held r.mode (at_node b o (access_value r ix n ss)) ≡ symbol_seen r s → is_counted s.base (is_some s.occurs) ≡ is_counted b o → element_value r b o a at ≡ argument r s
element_told r b o a at n ix ss s i h j e k =
    told r.mode b o (value_of (seen r a)) (array_argument r (ranges_in a) n) (symbol_value r.term s) (map value_of (all_seen r at)) (map (symbol_seen r) ss) h (held_cells r at ∙ j) (ap (λ jx. held r.mode (at_node b o (access_value r jx n ss))) (sym i) ∙ e)
    ∙ ap (λ q. held r.mode (counted q (symbol_value r.term s))) (sym k)
    ∙ ap (held r.mode) (sym (as_counted s.base s.occurs (symbol_value r.term s)))

-- ---- the cell of an element

truth_is : (b : Base) (o d : Bool) → d ≡ true → (not o && (is_bool b && d)) ≡ is_counted b o
truth_is base.Bool false d h = h
truth_is base.Bool true d h = refl
truth_is b false d h = refl
truth_is b true d h = refl

risen_same : (m : Mode) (t : PlainType) (var q : Bool) (b : bounds.Bounds) (v : Option Content) → risen m q (widened q (sealed m var t (Var b (held m v)))) ≡ risen m q (widened q (sealed m var t (Var b (held m (counted q v)))))
risen_same m t var false b v = refl
risen_same m t false true b v = refl
risen_same (Blank n) t true true b v = refl
risen_same (Given f) t true true b v = refl

pub typed_counted : (m : Mode) (t : PlainType) (b : bounds.Bounds) (v : Option Content) → no_dims t.dims ≡ true → typed m false t (Var b (held m v)) ≡ typed m false t (Var b (held m (counted (is_counted t.base t.opt) v)))
typed_counted m t b v h =
    let q = is_truth t in
    risen_same m t t.var q b v
    ∙ ap (λ p. typed m false t (Var b (held m (counted p v)))) (truth_is t.base t.opt (no_dims t.dims) h)

abbrev ends_of : Cell → Ends
ends_of c = ends_in (scalar_bound (bounds_in c))

ends_same : (r : Reading) (ks : List Known) → map ends_of (all_seen r ks) ≡ map ends_of (cells_of ks)
ends_same r [] = refl
ends_same r (k ∷ ks) = ap (λ b. ends_in (scalar_bound b) ∷ map ends_of (all_seen r ks)) (bounds_same r k) ∙ ap (λ es. ends_of (cell_of k) ∷ es) (ends_same r ks)

pub bound_same : (r : Reading) (t : PlainType) (a : Known) (at : List Known) → reached_bound t (seen r a) (all_seen r at) ≡ reached_bound t (cell_of a) (cells_of at)
bound_same r t a at =
    ap (λ b. hull_over t (elements_reached b (map ends_of (all_seen r at)))) (bounds_same r a)
    ∙ ap (λ es. hull_over t (elements_reached (bounds_in (cell_of a)) es)) (ends_same r at)

pub both_seen : (r : Reading) (a : Known) (at : List Known) → (is_par (seen r a) && all_par (all_seen r at)) ≡ (is_par (cell_of a) && all_par (cells_of at))
both_seen r a at = ap (λ b. b && all_par (all_seen r at)) (par_seen r a) ∙ ap (λ b. is_par (cell_of a) && b) (pars_same r at)

abbrev pub accessed_by : Mode → PlainType → Cell → List Cell → Bool → Cell
accessed_by m t a is p = if p then Par (accessed (value_of a) (map value_of is)) else Var (bounds.one (reached_bound t a is)) (held m (accessed (value_of a) (map value_of is)))

and_first : (a b : Bool) → (a && b) ≡ true → a ≡ true
and_first true b h = refl
and_first false b h = h

and_rest : (a b : Bool) → (a && b) ≡ true → b ≡ true
and_rest true b h = h
and_rest false b h = absurd (cc)

pub par_told : (r : Reading) (t : PlainType) (a : Known) (at : List Known) (k : Known) → (is_par (cell_of a) && all_par (cells_of at)) ≡ true → cell_of k ≡ Par (accessed (value_of (cell_of a)) (map value_of (cells_of at))) → access_cell r.mode t (seen r a) (all_seen r at) ≡ seen r k
par_told r t a at k p e =
    let ca = cell_of a in
    let cs = cells_of at in
    ap (λ c. access_cell r.mode t c (all_seen r at)) (par_same r a (and_first (is_par ca) (all_par cs) p))
    ∙ ap (access_cell r.mode t ca) (all_same r at (and_rest (is_par ca) (all_par cs) p))
    ∙ ap (accessed_by r.mode t ca cs) p
    ∙ sym (par_cell r k (accessed (value_of ca) (map value_of cs)) e)
