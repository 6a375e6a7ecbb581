-- Rows of two arguments whose bounds are those of a number.
use Rattle.std.specs.Option.{option_map}
use Rattle.std.specs.Prelude.{unwrap_or}
use Rattle.std.proofs.Common.{◌≡◌, ◌∙◌, Bool, true, false, ◌&&◌, List, [], ◌∷◌, map, Option, Some, None, MatchOption, refl, sym, ap, subst, if◌then◌else◌}
use Rattle.mz_base.specs.declared.fault.Span.{Span}
use Rattle.mz_value.specs.Shown.{Names}
use Rattle.mz_interval.specs.Ends.{Ends, if_in_limit, is_number}
use Rattle.mz_core.specs.Types.{PlainType}
use Rattle.mz_operations.specs.declared.row.Arith.{Arith}
use Rattle.mz_operations.specs.declared.row.Row.{Row}
use Rattle.mz_operations.specs.declared.row.Row.TheVariants.{Scalar}
use Rattle.mz_operations.specs.declared.row.ScalarRow.{ScalarRow}
use Rattle.mz_operations.specs.declared.row.ScalarRow.TheVariants as scalar
use Rattle.mz_operations.specs.Answers.{is_failed, is_mismatched, negative}
use Rattle.mz_operations.specs.Bounds.{Bounds, arith_ends, number, one}
use Rattle.mz_operations.specs.RowBounds.{bounds_at, ends_at, row_bounds, scalar_bounds}
use Rattle.mz_base.specs.declared.kind.Kind.TheVariants as kind
use Rattle.mz_meaning.specs.Runs.{Run, ◌>>=◌, give, stop}
use Rattle.mz_meaning.specs.Cells.{Cell, Var, Mode, all_par, bounds_in, held, is_par, no_bounds, typed, value_of}
use Rattle.mz_meaning.specs.Coerced.{recast}
use Rattle.mz_meaning.specs.Exact.{exact_value}
use Rattle.mz_meaning.specs.Operations.{limited, par_row}
use Rattle.mz_symbol.specs.Readings.{Reading}
use Rattle.mz_eval_cells.specs.declared.types.Known.{Known}
use Rattle.mz_eval_cells.specs.Views.{cell_of, seen}
use Rattle.mz_eval_cells.proofs.Seeing.{par_seen}
use Rattle.mz_eval_row_symbols.specs.NodeRows.{row_node, var_value}
use Rattle.mz_eval_row_symbols.specs.Ends.{AreEnds, HasEnds, is_simple}

-- ---- arithmetic

in_limit_told : (x g : Ends) → if_in_limit x ≡ Some g → (x ≡ g) × ((is_number g.0 && is_number g.1) ≡ true)
in_limit_told x g h = by (is_number x.0 && is_number x.1) refl
  where
    by : (p : Bool) → (is_number x.0 && is_number x.1) ≡ p → (x ≡ g) × ((is_number g.0 && is_number g.1) ≡ true)
    by true e =
        let here : Some x ≡ Some g = sym (ap (λ q. if q then Some x else None) e) ∙ h in
        let same : x ≡ g = cc in
        (same, subst (λ y. (is_number y.0 && is_number y.1) ≡ true) same e)
    by false e = let none : None ≡ Some g = sym (ap (λ q. if q then Some x else None) e) ∙ h in absurd (cc)

pub arith_told : (op : Arith) (b c : Bounds) (e f g : Ends) (o : Option Ends) → b ≡ one (number e) → c ≡ one (number f) → o ≡ if_in_limit (arith_ends op e f) → o ≡ Some g → AreEnds (Scalar (scalar.Arith op)) (b ∷ c ∷ []) g
unfolding scalar_bounds ends_at bounds_at
arith_told op b c e f g o h i j k =
    let inside = in_limit_told (arith_ends op e f) g (sym j ∙ k) in
    record {
      simple = refl;
      bounds = ap (λ x. scalar_bounds (scalar.Arith op) (x ∷ c ∷ [])) h ∙ ap (λ y. scalar_bounds (scalar.Arith op) (one (number e) ∷ y ∷ [])) i ∙ ap (λ x. Some (one (number x))) inside.0;
      inside = inside.1;
    }

-- ---- the row

limited_inside : (at : Span) (e : Ends) → (is_number e.0 && is_number e.1) ≡ true → limited at (one (number e)) ≡ give (one (number e))
limited_inside at e h = by (is_number e.0) (is_number e.1) h
  where
    by : (p q : Bool) → (p && q) ≡ true → (if p then (if q then give (one (number e)) else stop kind.Bounds at e.1) else stop kind.Bounds at e.0) ≡ give (one (number e))
    by true true k = refl
    by true false k = absurd (cc)
    by false q k = absurd (cc)

abbrev node_of : Mode → Names → Row → PlainType → List Cell → Run Bounds → Run Cell
node_of m names row t cs bs = (bs >>= λ b. give (Var b (held m (option_map (recast t.base) (exact_value names row (map value_of cs)))))) >>= λ c. give (typed m false t c)

abbrev node_by : Mode → Names → Row → PlainType → Span → List Cell → Bool → Option Bounds → Run Cell
node_by m names row t at cs par o =
    (if par
    then par_row names row t.base at (map value_of cs)
    else (limited at (unwrap_or o (no_bounds t)) >>= λ b. give (Var b (held m (option_map (recast t.base) (exact_value names row (map value_of cs)))))))
    >>= λ c. give (typed m false t c)

-- it goes by its bounds alone
simple_node : (m : Mode) (names : Names) (row : Row) (t : PlainType) (at : Span) (cs : List Cell) → is_simple row ≡ true → row_node m names row t at cs ≡ node_by m names row t at cs (all_par cs) (row_bounds row (map bounds_in cs))
unfolding is_mismatched negative is_failed
simple_node m names (Scalar (scalar.Arith op)) t at cs h = refl
simple_node m names (Scalar (scalar.Logic op)) t at cs h = refl
simple_node m names (Scalar (scalar.Order op)) t at cs h = refl
simple_node m names (Scalar scalar.Equal) t at cs h = refl
simple_node m names (Scalar scalar.Unequal) t at cs h = refl
simple_node m names row t at cs h = absurd (cc)

pub ends_told : (m : Mode) (names : Names) (row : Row) (t : PlainType) (at : Span) (cs : List Cell) (e : Ends) → HasEnds row cs e → row_node m names row t at cs ≡ give (typed m false t (Var (one (number e)) (var_value m names row t cs)))
ends_told m names row t at cs e h =
    simple_node m names row t at cs h.ends.simple
    ∙ ap (λ p. node_by m names row t at cs p (row_bounds row (map bounds_in cs))) h.var
    ∙ ap (λ o. node_of m names row t cs (limited at (unwrap_or o (no_bounds t)))) h.ends.bounds
    ∙ ap (node_of m names row t cs) (limited_inside at e h.ends.inside)

-- ---- cells of which one is var

and_true : (p : Bool) → (p && true) ≡ p
and_true true = refl
and_true false = refl

pars_seen : (r : Reading) (a b : Known) → all_par (seen r a ∷ seen r b ∷ []) ≡ (is_par (cell_of a) && is_par (cell_of b))
pars_seen r a b =
    ap (λ p. p && (is_par (seen r b) && true)) (par_seen r a)
    ∙ ap (λ q. is_par (cell_of a) && q) (and_true (is_par (seen r b)) ∙ par_seen r b)

abbrev are_ends : Row → Known → Known → Option Ends → Type 0
are_ends row a b o = MatchOption o (Unit {0}) (λ e. (r : Reading) → AreEnds row (bounds_in (seen r a) ∷ bounds_in (seen r b) ∷ []) e)

abbrev have_ends : Row → Known → Known → Option Ends → Type 0
have_ends row a b o = MatchOption o (Unit {0}) (λ e. (r : Reading) → HasEnds row (seen r a ∷ seen r b ∷ []) e)

pub has_told : (row : Row) (w : ScalarRow) (a b : Known) (o : Option Ends) → row ≡ Scalar w → (is_par (cell_of a) && is_par (cell_of b)) ≡ false → are_ends (Scalar w) a b o → have_ends row a b o
has_told row w a b None i p h = h
has_told row w a b (Some e) i p h = λ r. record {
  var = pars_seen r a b ∙ p;
  ends = subst (λ x. AreEnds x (bounds_in (seen r a) ∷ bounds_in (seen r b) ∷ []) e) (sym i) (h r);
}
