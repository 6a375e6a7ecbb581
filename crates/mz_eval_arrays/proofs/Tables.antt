-- Tables, by what is known of their cells.
use Rattle.std.proofs.Common.{◌≡◌, List, map, true, false, refl, subst}
use Rattle.std.specs.Prelude.{pos, Some, None}
use Rattle.mz_base.specs.declared.fault.Span.{Span}
use Rattle.mz_base.specs.declared.kind.Kind.TheVariants as kind
use Rattle.mz_value.specs.Contents.{Content, contents}
use Rattle.mz_value.specs.Contents as values
use Rattle.mz_operations.specs.Bounds as bounds
use Rattle.mz_meaning.specs.Runs.{State, Out, Stopped, fault}
use Rattle.mz_meaning.specs.Cells.{Cell, Var, Bare, undefined, par_value, value_of, all_par, scalar_bound, bounds_in}
use Rattle.mz_meaning.specs.Arrays.{all_there, joined, are_level, par_undefined, table_ranges, table_cell}

undefined_if : (cs : List Cell) → all_par cs ≡ true → all_there (map value_of cs) ≡ None → par_undefined cs ≡ true
undefined_if cs p n = rw (p, n) refl

defined_if : (cs : List Cell) (xs : List Content) → all_par cs ≡ true → all_there (map value_of cs) ≡ Some xs → par_undefined cs ≡ false
defined_if cs xs p n = rw (p, n) refl

open_if : (cs : List Cell) → all_par cs ≡ false → par_undefined cs ≡ false
open_if cs p = rw p refl

pub table_undefined : (at : Span) (rs : List (List Cell)) (cs : List Cell) (s : State) → cs ≡ joined rs → all_par cs ≡ true → all_there (map value_of cs) ≡ None → table_cell Bare at rs s ≡ Out undefined s
table_undefined at rs cs s e p n =
    let t : par_undefined (joined rs) ≡ true = subst (λ c. par_undefined c ≡ true) e (undefined_if cs p n) in
    rw t refl

pub par_table_uneven : (at : Span) (rs : List (List Cell)) (cs : List Cell) (xs : List Content) (s : State) → cs ≡ joined rs → all_par cs ≡ true → all_there (map value_of cs) ≡ Some xs → are_level rs ≡ false → table_cell Bare at rs s ≡ Stopped (fault kind.IndexMismatch at (pos 0))
par_table_uneven at rs cs xs s e p n l =
    let t : par_undefined (joined rs) ≡ false = subst (λ c. par_undefined c ≡ false) e (defined_if cs xs p n) in
    rw (t, l) refl

pub par_table_is : (at : Span) (rs : List (List Cell)) (cs : List Cell) (xs : List Content) (s : State) → cs ≡ joined rs → all_par cs ≡ true → all_there (map value_of cs) ≡ Some xs → are_level rs ≡ true → table_cell Bare at rs s ≡ Out (par_value (values.array (table_ranges rs) (contents xs))) s
par_table_is at rs cs xs s e p n l =
    let t : par_undefined (joined rs) ≡ false = subst (λ c. par_undefined c ≡ false) e (defined_if cs xs p n) in
    let q : all_par (joined rs) ≡ true = subst (λ c. all_par c ≡ true) e p in
    let m : all_there (map value_of (joined rs)) ≡ Some xs = subst (λ c. all_there (map value_of c) ≡ Some xs) e n in
    rw (t, l, q, m) refl

pub var_table_uneven : (at : Span) (rs : List (List Cell)) (cs : List Cell) (s : State) → cs ≡ joined rs → all_par cs ≡ false → are_level rs ≡ false → table_cell Bare at rs s ≡ Stopped (fault kind.IndexMismatch at (pos 0))
var_table_uneven at rs cs s e p l =
    let t : par_undefined (joined rs) ≡ false = subst (λ c. par_undefined c ≡ false) e (open_if cs p) in
    rw (t, l) refl

pub var_table_is : (at : Span) (rs : List (List Cell)) (cs : List Cell) (s : State) → cs ≡ joined rs → all_par cs ≡ false → are_level rs ≡ true → table_cell Bare at rs s ≡ Out (Var (bounds.many (table_ranges rs) (map (λ c. scalar_bound (bounds_in c)) cs)) None) s
var_table_is at rs cs s e p l =
    let t : par_undefined (joined rs) ≡ false = subst (λ c. par_undefined c ≡ false) e (open_if cs p) in
    let q : all_par (joined rs) ≡ false = subst (λ c. all_par c ≡ false) e p in
    rw (t, l, q, e) refl
