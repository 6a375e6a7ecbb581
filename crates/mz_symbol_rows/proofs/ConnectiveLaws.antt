-- Connectives: their nodes mean what the rows give.
use Rattle.std.proofs.Common.{◌≡◌, ◌∙◌, ℕ, Bool, not, ◌||◌, [], ◌∷◌, Some, refl, sym, ap}
use Rattle.mz_value.specs.Contents as values
use Rattle.mz_core.specs.declared.types.Base.TheVariants as base
use Rattle.mz_operations.specs.declared.row.Connective.{Connective}
use Rattle.mz_operations.specs.declared.row.Connective.TheVariants.{Iff, Implies, IsImplied, Or, Xor, And}
use Rattle.mz_operations.specs.declared.row.ScalarRow.TheVariants as row
use Rattle.mz_operations.specs.Views.{as_bool}
use Rattle.mz_operations.specs.Arguments.{at, bool_at}
use Rattle.mz_operations.specs.Numbers.{same, connected}
use Rattle.mz_operations.specs.Values.{scalar_value}
use Rattle.mz_arena.specs.Values.{Term, bit, is_true, and_term, or_term, not_term, iff_term}
use Rattle.mz_meaning.specs.Cells.{held}
use Rattle.mz_symbol.specs.declared.types.Symbol.{Symbol}
use Rattle.mz_symbol.specs.Symbols.{value_by}
use Rattle.mz_symbol.specs.Readings.{Reading, symbol_seen}
use Rattle.mz_symbol.specs.Arguments.{truth_of}
use Rattle.mz_symbol_rows.specs.RowValues.{row_value}
use Rattle.mz_symbol_rows.specs.StepsNodes.{IsOf, symbol_of, made_logic}
use Rattle.mz_symbol_rows.proofs.RowLaws.{argument_by, row_of_one, row_of_two, truth_by, bit_true, truth_is}

logic_made : (op : Connective) (x y : Term) → made_logic op x y ≡ bit (connected op (is_true x) (is_true y))
unfolding and_term or_term not_term iff_term connected
logic_made Iff x y = refl
logic_made Implies x y = ap (λ p. bit (p || is_true y)) (bit_true (not (is_true x)))
logic_made IsImplied x y = ap (λ p. bit (is_true x || p)) (bit_true (not (is_true y)))
logic_made Or x y = refl
logic_made Xor x y = ap (λ p. bit (not p)) (bit_true (same (is_true x) (is_true y)))
logic_made And x y = refl

logic_on : (op : Connective) (p q : Bool) → truth_of (scalar_value (row.Logic op) (Some (values.bool p) ∷ Some (values.bool q) ∷ [])) ≡ Some (values.bool (connected op p q))
unfolding scalar_value bool_at at as_bool
logic_on op p q = refl

logic_same : (op : Connective) (x y : Term) → truth_of (scalar_value (row.Logic op) (argument_by base.Bool x ∷ argument_by base.Bool y ∷ [])) ≡ value_by base.Bool (made_logic op x y)
logic_same op x y =
    ap (λ p. truth_of (scalar_value (row.Logic op) (Some (values.bool p) ∷ argument_by base.Bool y ∷ []))) (truth_is x)
    ∙ ap (λ q. truth_of (scalar_value (row.Logic op) (Some (values.bool (is_true x)) ∷ Some (values.bool q) ∷ []))) (truth_is y)
    ∙ logic_on op (is_true x) (is_true y)
    ∙ sym (truth_by (connected op (is_true x) (is_true y)))
    ∙ ap (value_by base.Bool) (sym (logic_made op x y))

pub logic_held : (r : Reading) (op : Connective) (a b : Symbol) (x y id : ℕ) → IsOf base.Bool x a → IsOf base.Bool y b → made_logic op (r.term x) (r.term y) ≡ r.term id → held r.mode (truth_of (row_value r (row.Logic op) (a ∷ b ∷ []))) ≡ symbol_seen r (symbol_of base.Bool id)
logic_held r op a b x y id p q e = row_of_two r truth_of (row.Logic op) a b base.Bool x y (value_by base.Bool (r.term id)) p q (logic_same op (r.term x) (r.term y) ∙ ap (value_by base.Bool) e)

not_on : (p : Bool) → truth_of (scalar_value row.Not (Some (values.bool p) ∷ [])) ≡ Some (values.bool (not p))
unfolding scalar_value bool_at at as_bool
not_on p = refl

not_made : (x : Term) → not_term x ≡ bit (not (is_true x))
unfolding not_term
not_made x = refl

not_same : (x : Term) → truth_of (scalar_value row.Not (argument_by base.Bool x ∷ [])) ≡ value_by base.Bool (not_term x)
not_same x =
    ap (λ p. truth_of (scalar_value row.Not (Some (values.bool p) ∷ []))) (truth_is x)
    ∙ not_on (is_true x)
    ∙ sym (truth_by (not (is_true x)))
    ∙ ap (value_by base.Bool) (sym (not_made x))

pub not_held : (r : Reading) (a : Symbol) (x id : ℕ) → IsOf base.Bool x a → not_term (r.term x) ≡ r.term id → held r.mode (truth_of (row_value r row.Not (a ∷ []))) ≡ symbol_seen r (symbol_of base.Bool id)
not_held r a x id p e = row_of_one r truth_of row.Not a base.Bool x (value_by base.Bool (r.term id)) p (not_same (r.term x) ∙ ap (value_by base.Bool) e)
