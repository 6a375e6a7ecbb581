-- A row over symbols, as one over what their nodes stand for.
use Rattle.std.proofs.Common.{◌≡◌, ◌∙◌, ℕ, ℤ, Bool, true, false, [], ◌∷◌, Option, Some, None, refl, ap}
use Rattle.std.specs.Option.{option_map}
use Rattle.mz_value.specs.Contents.{Content}
use Rattle.mz_value.specs.Contents as values
use Rattle.mz_core.specs.declared.types.Base.{Base}
use Rattle.mz_core.specs.declared.types.Base.TheVariants as base
use Rattle.mz_operations.specs.declared.row.ScalarRow.{ScalarRow}
use Rattle.mz_operations.specs.Values.{scalar_value}
use Rattle.mz_arena.specs.Values.{Term, as_number, bit}
use Rattle.mz_arena.specs.Values as terms
use Rattle.mz_symbol.specs.Symbols.{content_by, value_by, value_at, symbol_value}
use Rattle.mz_meaning.specs.Runs.{State, Out}
use Rattle.mz_meaning.specs.Cells.{Mode, Blank, Given, held, is_true}
use Rattle.mz_symbol.specs.declared.types.Symbol.{Symbol}
use Rattle.mz_symbol.specs.Readings.{Reading, symbol_seen}
use Rattle.mz_symbol.specs.Arguments.{as_argument}
use Rattle.mz_symbol_rows.specs.RowValues.{argument, row_value}
use Rattle.mz_symbol_rows.specs.StepsNodes.{IsOf}

pub out_both : {A : Type 0} {x y : A} {s u : State} → x ≡ y → s ≡ u → Out x s ≡ Out y u
out_both p q = cc

-- what a symbol that is no option is as an argument
abbrev pub argument_by : Base → Term → Option Content
argument_by b t = as_argument b None (value_by b t)

pub argument_is : (r : Reading) (s : Symbol) (b : Base) (id : ℕ) → IsOf b id s → argument r s ≡ held r.mode (argument_by b (r.term id))
argument_is r s b id u =
    ap (λ c. held r.mode (as_argument c s.occurs (value_at r.term c s.occurs s.term))) u.base
    ∙ ap (λ o. held r.mode (as_argument b o (value_at r.term b o s.term))) u.occurs
    ∙ ap (λ i. held r.mode (argument_by b (r.term i))) u.term

one_held : (m : Mode) (f : Option Content → Option Content) (w : ScalarRow) (p v : Option Content) → f (scalar_value w (p ∷ [])) ≡ v → held m (f (scalar_value w (held m p ∷ []))) ≡ held m v
one_held (Blank n) f w p v e = refl
one_held (Given c) f w p v e = e

two_held : (m : Mode) (f : Option Content → Option Content) (w : ScalarRow) (p q v : Option Content) → f (scalar_value w (p ∷ q ∷ [])) ≡ v → held m (f (scalar_value w (held m p ∷ held m q ∷ []))) ≡ held m v
two_held (Blank n) f w p q v e = refl
two_held (Given c) f w p q v e = e

pub row_of_one : (r : Reading) (f : Option Content → Option Content) (w : ScalarRow) (a : Symbol) (b : Base) (x : ℕ) (v : Option Content) → IsOf b x a → f (scalar_value w (argument_by b (r.term x) ∷ [])) ≡ v → held r.mode (f (row_value r w (a ∷ []))) ≡ held r.mode v
row_of_one r f w a b x v p e =
    ap (λ c. held r.mode (f (scalar_value w (c ∷ [])))) (argument_is r a b x p)
    ∙ one_held r.mode f w (argument_by b (r.term x)) v e

pub row_of_two : (r : Reading) (f : Option Content → Option Content) (w : ScalarRow) (a d : Symbol) (b : Base) (x y : ℕ) (v : Option Content) → IsOf b x a → IsOf b y d → f (scalar_value w (argument_by b (r.term x) ∷ argument_by b (r.term y) ∷ [])) ≡ v → held r.mode (f (row_value r w (a ∷ d ∷ []))) ≡ held r.mode v
row_of_two r f w a d b x y v p q e =
    ap (λ c. held r.mode (f (scalar_value w (c ∷ argument r d ∷ [])))) (argument_is r a b x p)
    ∙ ap (λ c. held r.mode (f (scalar_value w (held r.mode (argument_by b (r.term x)) ∷ c ∷ [])))) (argument_is r d b y q)
    ∙ two_held r.mode f w (argument_by b (r.term x)) (argument_by b (r.term y)) v e

-- ---- truth values

pub truth_by : (p : Bool) → value_by base.Bool (bit p) ≡ Some (values.bool p)
truth_by true = refl
truth_by false = refl

pub bit_true : (p : Bool) → terms.is_true (bit p) ≡ p
bit_true true = refl
bit_true false = refl

-- a node's truth value is its symbol's
pub truth_is : (t : Term) → is_true (value_by base.Bool t) ≡ terms.is_true t
truth_is t = by (as_number t)
  where
    by : (o : Option ℤ) → is_true (option_map (λ n. content_by base.Bool n []) o) ≡ terms.is_one o
    by None = refl
    by (Some n) = refl

-- ---- an argument that has a value

truth_kept : (o : Option ℤ) (x : Content) → option_map (λ n. content_by base.Bool n []) o ≡ Some x → Some (values.bool (is_true (option_map (λ n. content_by base.Bool n []) o))) ≡ option_map (λ n. content_by base.Bool n []) o
truth_kept None x h = absurd (cc)
truth_kept (Some n) x h = refl

value_kept : (t : ℕ → Term) (b : Base) (o : Option ℕ) (id : ℕ) (x : Content) → value_at t b o id ≡ Some x → as_argument b o (value_at t b o id) ≡ value_at t b o id
value_kept t base.Bool None id x h = truth_kept (as_number (t id)) x h
value_kept t b o id x h = refl

pub argument_kept : (r : Reading) (s : Symbol) (x : Content) → symbol_value r.term s ≡ Some x → argument r s ≡ symbol_seen r s
argument_kept r s x h = ap (held r.mode) (value_kept r.term s.base s.occurs s.term x h)
