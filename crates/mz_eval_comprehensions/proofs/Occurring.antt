-- What nodes say of whether an element occurs.
use Rattle.std.proofs.Common.{◌≡◌, ◌∙◌, ◌&&◌, ℕ, ℤ, Bool, true, false, List, Option, Some, None, refl, sym, ap, if◌then◌else◌}
use Rattle.std.specs.Option.{option_map}
use Rattle.mz_value.specs.Ranges.{Range}
use Rattle.mz_value.specs.Contents.{Content, absent}
use Rattle.mz_value.specs.Contents as values
use Rattle.mz_core.specs.declared.types.Base.{Base}
use Rattle.mz_core.specs.declared.types.Base.TheVariants as base
use Rattle.mz_arena.specs.Values as terms
use Rattle.mz_arena.specs.Values.{Term, and_term, as_set, bit, is_member, member_term, number}
use Rattle.mz_operations.specs.Bounds as bounds
use Rattle.mz_operations.specs.Views.{as_set as content_set}
use Rattle.mz_meaning.specs.Runs.{State, Answer, Out}
use Rattle.mz_meaning.specs.Cells.{Cell, Var, Mode, Blank, Given, held, is_true, value_of, bounds_in}
use Rattle.mz_meaning.specs.Comprehensions.{both_occur, if_given, absent_unless, present, set_has}
use Rattle.mz_symbol.specs.declared.types.Symbol.{Symbol}
use Rattle.mz_symbol.specs.Symbols.{value_by, value_at, symbol_value}
use Rattle.mz_symbol.specs.Readings.{Reading}
use Rattle.mz_symbol.specs.Arguments.{as_argument}
use Rattle.mz_symbol_rows.specs.RowValues.{argument}
use Rattle.mz_symbol_rows.proofs.RowLaws.{bit_true, truth_is}
use Rattle.mz_eval_cells.specs.declared.types.Known.{Known}
use Rattle.mz_eval_cells.specs.declared.types.Known.TheVariants as known
use Rattle.mz_eval_cells.specs.Views.{cell_of, seen}
use Rattle.mz_eval_comprehensions.specs.Presences.{where_true, is_set_base, IsPlainSet, IsPlainTruth}

-- ---- both

both_given : (m : Mode) (a b : Bool) → if_given m (a && b) ≡ if_given m a && if_given m b
both_given (Blank n) a b = refl
both_given (Given f) a b = refl

pub both_are : (r : Reading) (x y id : ℕ) → and_term (r.term x) (r.term y) ≡ r.term id → both_occur (where_true r x) (where_true r y) ≡ where_true r id
unfolding and_term
both_are r x y id h =
    ap (λ b. Some b) (sym (both_given r.mode (terms.is_true (r.term x)) (terms.is_true (r.term y)))
    ∙ ap (if_given r.mode) (sym (bit_true (terms.is_true (r.term x) && terms.is_true (r.term y))) ∙ ap (λ t. terms.is_true t) h))

-- ---- conditions

given_true : (m : Mode) (p : Bool) (u v : Option Content) → is_true u ≡ p → held m u ≡ held m v → if_given m (is_true v) ≡ if_given m p
given_true (Blank n) p u v e h = refl
given_true (Given f) p u v e h = ap is_true (sym h) ∙ e

plain_truth : (t : ℕ → Term) (b : Base) (o : Option ℕ) (id : ℕ) → b ≡ base.Bool → o ≡ None → is_true (as_argument b o (value_at t b o id)) ≡ terms.is_true (t id)
plain_truth t b o id e f = rw (e, f) (truth_is (t id))

pub truth_told : (r : Reading) (s : Symbol) (v : Option Content) → IsPlainTruth s → held r.mode v ≡ argument r s → Some (if_given r.mode (is_true v)) ≡ where_true r s.term
truth_told r s v p h = ap (λ b. Some b) (given_true r.mode (terms.is_true (r.term s.term)) (as_argument s.base s.occurs (symbol_value r.term s)) v (plain_truth r.term s.base s.occurs s.term p.base p.occurs) (sym h))

-- ---- sets

set_by : (b : Base) (o : Option ℕ) (u : Term) (n : ℤ) → is_set_base b ≡ true → o ≡ None → set_has (as_argument b o (value_by b u)) n ≡ is_member (Some n) (as_set u)
unfolding content_set
set_by base.SetInt o u n h e = has (as_set u)
  where
    has : (s : Option (List Range)) → set_has (option_map (λ s. values.set None s) s) n ≡ is_member (Some n) s
    has None = refl
    has (Some s) = refl
set_by (base.SetEnum k) o u n h e = has (as_set u)
  where
    has : (s : Option (List Range)) → set_has (option_map (λ s. values.set (Some k) s) s) n ≡ is_member (Some n) s
    has None = refl
    has (Some s) = refl
set_by b o u n h e = absurd (cc)

plain_at : (t : ℕ → Term) (b : Base) (o : Option ℕ) (id : ℕ) → o ≡ None → value_at t b o id ≡ value_by b (t id)
plain_at t b o id e = rw (e) refl

has_given : (m : Mode) (v : Option Content) (n : ℤ) → if_given m (set_has (held m v) n) ≡ if_given m (set_has v n)
has_given (Blank k) v n = refl
has_given (Given f) v n = refl

pub set_told : (r : Reading) (s : Symbol) (n : ℤ) (id : ℕ) → IsPlainSet s → member_term (Some (number n)) (r.term s.term) ≡ r.term id → Some (if_given r.mode (set_has (argument r s) n)) ≡ where_true r id
unfolding member_term
set_told r s n id p h =
    let q = is_member (Some n) (as_set (r.term s.term)) in
    ap (λ b. Some b)
    (has_given r.mode (as_argument s.base s.occurs (symbol_value r.term s)) n
    ∙ ap (if_given r.mode)
    (ap (λ v. set_has (as_argument s.base s.occurs v) n) (plain_at r.term s.base s.occurs s.term p.occurs)
    ∙ set_by s.base s.occurs (r.term s.term) n p.base p.occurs
    ∙ sym (bit_true q)
    ∙ ap (λ t. terms.is_true t) h))

-- ---- elements

option_at : (b : Base) (o : ℕ) (v : Option Content) → as_argument b (Some o) v ≡ v
option_at base.Bool o v = refl
option_at b o v = refl

abbrev option_value : Base → Term → Bool → Option Content
option_value b u p = if p then value_by b u else Some absent

both_absent : (b : Base) (u : Term) (p q : Bool) → absent_unless p (option_value b u q) ≡ option_value b u (p && q)
both_absent b u true q = refl
both_absent b u false q = refl

held_again : (m : Mode) (p : Bool) (v : Option Content) → held m (absent_unless p (held m v)) ≡ held m (absent_unless p v)
held_again (Blank n) p v = refl
held_again (Given f) p v = refl

pub absent_else : (r : Reading) (b : Base) (o d w id : ℕ) → and_term (r.term d) (r.term o) ≡ r.term w → held r.mode (absent_unless (terms.is_true (r.term d)) (held r.mode (as_argument b (Some o) (value_at r.term b (Some o) id)))) ≡ held r.mode (as_argument b (Some w) (value_at r.term b (Some w) id))
unfolding and_term
absent_else r b o d w id h =
    let p = terms.is_true (r.term d) in
    let q = terms.is_true (r.term o) in
    let both : p && q ≡ terms.is_true (r.term w) = sym (bit_true (p && q)) ∙ ap (λ t. terms.is_true t) h in
    held_again r.mode p (as_argument b (Some o) (value_at r.term b (Some o) id))
    ∙ ap (held r.mode)
    (ap (absent_unless p) (option_at b o (value_at r.term b (Some o) id))
    ∙ both_absent b (r.term id) p q
    ∙ ap (option_value b (r.term id)) both
    ∙ sym (option_at b w (value_at r.term b (Some w) id)))

bounds_seen : (r : Reading) (k : Known) → bounds_in (cell_of k) ≡ bounds_in (seen r k)
bounds_seen r known.Undefined = refl
bounds_seen r (known.One i) = refl
bounds_seen r (known.Array ix xs) = refl
bounds_seen r (known.Var v) = refl
bounds_seen r (known.Row ix xs) = refl
bounds_seen r (known.Unshaped d) = refl

given_absent : (m : Mode) (p : Bool) (v : Option Content) → held m (absent_unless p (held m v)) ≡ held m (absent_unless (if_given m p) v)
given_absent (Blank n) p v = refl
given_absent (Given f) p v = refl

pub present_is : (r : Reading) (k : Known) (d : ℕ) (b : bounds.Bound) (x : Option Content) → bounds.one b ≡ bounds_in (cell_of k) → held r.mode (absent_unless (terms.is_true (r.term d)) (held r.mode (value_of (seen r k)))) ≡ x → present r.mode (where_true r d) (seen r k) ≡ Var (bounds.one b) x
present_is r k d b x e h =
    ap (λ bs. Var bs (held r.mode (absent_unless (if_given r.mode (terms.is_true (r.term d))) (value_of (seen r k))))) (sym (e ∙ bounds_seen r k))
    ∙ ap (Var (bounds.one b)) (sym (given_absent r.mode (terms.is_true (r.term d)) (value_of (seen r k))) ∙ h)
