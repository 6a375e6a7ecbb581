-- What the nodes of constants stand for.
use Rattle.std.proofs.Common.{◌≡◌, ◌∙◌, ℕ, ℤ, Bool, true, false, List, Option, Some, None, refl, sym, ap}
use Rattle.mz_value.specs.Ranges.{Range}
use Rattle.mz_value.specs.Contents as values
use Rattle.mz_arena.specs.declared.node.NodeKind.{NodeKind}
use Rattle.mz_arena.specs.declared.node.NodeKind.TheVariants.{SetConst}
use Rattle.mz_arena.specs.Entries.{Entry, children, is_free, is_set_const}
use Rattle.mz_arena.specs.Values.{Values, Term, number, set, bit}
use Rattle.mz_arena.specs.Terms.{kind_term}
use Rattle.mz_arena.specs.Arenas.{IsConst}
use Rattle.mz_core.specs.declared.types.Base.{Base}
use Rattle.mz_core.specs.declared.types.Base.TheVariants as base
use Rattle.mz_meaning.specs.Runs.{State, Out}
use Rattle.mz_meaning.specs.Cells.{Mode, held}
use Rattle.mz_symbol.specs.Symbols.{value_by}
use Rattle.mz_symbol.specs.Runs.{Run}
use Rattle.mz_symbol.specs.Readings.{Reading, Reads, no_values}
use Rattle.mz_symbol.specs.StepsConstants.{set_base}

pub out_value : {A : Type 0} {x y : A} {s u : State} → Out x s ≡ Out y u → x ≡ y
out_value h = cc

pub out_state : {A : Type 0} {x y : A} {s u : State} → Out x s ≡ Out y u → s ≡ u
out_state h = cc

-- another value in the same state
pub out_other : {A B : Type 0} {x y : A} {p q : B} {s u : State} → Out x s ≡ Out y u → p ≡ q → Out p s ≡ Out q u
out_other h e = cc

truth_by : (b : Bool) → value_by base.Bool (bit b) ≡ Some (values.bool b)
truth_by true = refl
truth_by false = refl

pub truth_held : (m : Mode) (b : Bool) (t : Term) → bit b ≡ t → held m (Some (values.bool b)) ≡ held m (value_by base.Bool t)
truth_held m b t h = ap (held m) (sym (truth_by b) ∙ ap (value_by base.Bool) h)

pub number_held : (m : Mode) (n : ℤ) (t : Term) → Some (number n) ≡ t → held m (Some (values.int n)) ≡ held m (value_by base.Int t)
number_held m n t h = ap (λ t. held m (value_by base.Int t)) h

pub case_held : (m : Mode) (e : ℕ) (n : ℤ) (t : Term) → Some (number n) ≡ t → held m (Some (values.case e n)) ≡ held m (value_by (base.Enum e) t)
case_held m e n t h = ap (λ t. held m (value_by (base.Enum e) t)) h

set_by : (o : Option ℕ) (u : List Range) → value_by (set_base o) (Some (set u)) ≡ Some (values.set o u)
set_by None u = refl
set_by (Some e) u = refl

pub set_held : (m : Mode) (b : Base) (o : Option ℕ) (u : List Range) (t : Term) → b ≡ set_base o → Some (set u) ≡ t → held m (Some (values.set o u)) ≡ held m (value_by b t)
set_held m b o u t e h = ap (held m) (sym (set_by o u) ∙ ap (value_by (set_base o)) h ∙ ap (λ b. value_by b t) (sym e))

bound_const : (k : NodeKind) → is_set_const k ≡ true → is_free k ≡ false
bound_const SetConst h = refl
bound_const k h = absurd (cc)

const_term : (v : Values) (e : Entry) (k : NodeKind) (xs : List Term) → is_set_const k ≡ true → kind_term v e k xs ≡ Some (set e.set)
const_term v e SetConst xs h = refl
const_term v e k xs h = absurd (cc)

pub set_means : (r : Reading) (new : Run) (u : List Range) (id : ℕ) → IsConst new.arena u id → Reads r new → Some (set u) ≡ r.term id
set_means r new u id c h =
    let e : Entry = record { node = c.node; set = u } in
    sym (h.nodes.kinds id e c.made.stands (bound_const c.node.kind c.const) no_values ∙ const_term no_values e c.node.kind _ c.const)
