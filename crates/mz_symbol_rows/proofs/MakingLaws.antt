-- Symbols that become options, and symbols under a condition: their nodes stand for what is asked.
use Rattle.std.proofs.Common.{◌≡◌, ◌∙◌, ℕ, ℤ, Bool, true, false, not, ◌&&◌, ◌||◌, [], Option, Some, None, refl, sym, ap, if◌then◌else◌}
use Rattle.std.specs.Option.{option_map}
use Rattle.mz_value.specs.Contents.{Content}
use Rattle.mz_value.specs.Contents as values
use Rattle.mz_core.specs.declared.types.Base.{Base}
use Rattle.mz_core.specs.declared.types.Base.TheVariants as base
use Rattle.mz_arena.specs.Values.{Term, as_number, bit, is_true, and_term, or_term, not_term, to_int_term, guard_term}
use Rattle.mz_symbol.specs.Symbols.{content_by, value_by, value_at}
use Rattle.mz_meaning.specs.Cells.{Mode, Blank, Given, held}
use Rattle.mz_meaning.specs.Cells as cells
use Rattle.mz_meaning.specs.Lets.{choice_at}
use Rattle.mz_symbol.specs.declared.types.Symbol.{Symbol}
use Rattle.mz_symbol.specs.Readings.{Reading, symbol_seen}
use Rattle.mz_symbol_rows.specs.RowValues as rows
use Rattle.mz_symbol.specs.Arguments.{as_argument}
use Rattle.mz_symbol_rows.specs.RowValues.{argument}
use Rattle.mz_symbol_rows.proofs.RowLaws.{truth_is}
use Rattle.mz_symbol_rows.specs.OptionValues.{guarded_value}
use Rattle.mz_symbol_rows.specs.StepsOptions.{IsPlain, symbol_of, whole_term, kept_term}
use Rattle.mz_symbol_rows.proofs.OptionLaws.{option_by, truth_by}

-- ---- what is no option

truth_whole : (x : Term) → Some (values.bool (cells.is_true (value_by base.Bool x))) ≡ value_by base.Bool (bit (is_true x))
truth_whole x = ap (λ p. Some (values.bool p)) (truth_is x) ∙ sym (truth_by (is_true x))

whole_is : (b : Base) (x : Term) → rows.is_single b ≡ true → as_argument b None (value_by b x) ≡ value_by b (whole_term b x)
unfolding to_int_term
whole_is base.Bool x h = truth_whole x
whole_is base.Int x h = refl
whole_is (base.Enum e) x h = refl
whole_is b x h = absurd (cc)

pub optional_held : (r : Reading) (term there : ℕ) (a : Symbol) → IsPlain a → whole_term a.base (r.term a.term) ≡ r.term term → bit true ≡ r.term there → argument r a ≡ symbol_seen r (symbol_of a.base (Some there) term)
optional_held r term there a p e f =
    ap (λ o. held r.mode (as_argument a.base o (value_at r.term a.base o a.term))) p.occurs
    ∙ ap (held r.mode) (whole_is a.base (r.term a.term) p.single ∙ ap (value_by a.base) e)
    ∙ ap (λ t. held r.mode (if is_true t then value_by a.base (r.term term) else Some values.absent)) f

pub nothing_held : (r : Reading) (b : Base) (other gone : ℕ) → bit false ≡ r.term gone → held r.mode (Some values.absent) ≡ symbol_seen r (symbol_of b (Some gone) other)
nothing_held r b other gone f = ap (λ t. held r.mode (if is_true t then value_by b (r.term other) else Some values.absent)) f

-- ---- under a condition

none_by : (b : Base) → value_by b None ≡ None
none_by base.SetInt = refl
none_by (base.SetEnum e) = refl
none_by b = refl

guard_if : (b : Base) (p : Bool) (x : Term) → (if p then value_by b x else None) ≡ value_by b (if p then x else None)
guard_if b true x = refl
guard_if b false x = sym (none_by b)

truth_if : (p : Bool) (x : Term) → Some (values.bool (cells.is_true (if p then value_by base.Bool x else None))) ≡ value_by base.Bool (bit (p && is_true x))
truth_if true x = truth_whole x
truth_if false x = refl

kept_is : (b : Base) (d x : Term) → as_argument b None (if is_true d then value_by b x else None) ≡ value_by b (kept_term b d x)
unfolding and_term guard_term
kept_is base.Bool d x = truth_if (is_true d) x
kept_is b d x = guard_if b (is_true d) x

pub guarded_plain : (r : Reading) (d term : ℕ) (a : Symbol) → a.occurs ≡ None → kept_term a.base (r.term d) (r.term a.term) ≡ r.term term → held r.mode (as_argument a.base a.occurs (guarded_value r d a)) ≡ symbol_seen r (symbol_of a.base None term)
guarded_plain r d term a p e =
    ap (λ o. held r.mode (as_argument a.base o (if is_true (r.term d) then value_at r.term a.base o a.term else None))) p
    ∙ ap (held r.mode) (kept_is a.base (r.term d) (r.term a.term) ∙ ap (value_by a.base) e)

option_kept : (b : Base) (o : ℕ) (v : Option Content) → as_argument b (Some o) v ≡ v
option_kept base.Bool o v = refl
option_kept b o v = refl

option_if : (b : Base) (p q : Bool) (x : Term) → (if p then (if q then value_by b x else Some values.absent) else None) ≡ (if is_true (bit (is_true (bit (not p)) || q)) then value_by b (if p then x else None) else Some values.absent)
option_if b true true x = refl
option_if b true false x = refl
option_if b false q x = sym (none_by b)

option_guard : (b : Base) (d o x : Term) → (if is_true d then option_by b o x else None) ≡ option_by b (or_term (not_term d) o) (guard_term d x)
unfolding or_term not_term guard_term
option_guard b d o x = option_if b (is_true d) (is_true o) x

pub guarded_option : (r : Reading) (d o term there : ℕ) (a : Symbol) → a.occurs ≡ Some o → guard_term (r.term d) (r.term a.term) ≡ r.term term → or_term (not_term (r.term d)) (r.term o) ≡ r.term there → held r.mode (as_argument a.base a.occurs (guarded_value r d a)) ≡ symbol_seen r (symbol_of a.base (Some there) term)
guarded_option r d o term there a p e f =
    ap (λ q. held r.mode (as_argument a.base q (if is_true (r.term d) then value_at r.term a.base q a.term else None))) p
    ∙ ap (held r.mode) (option_kept a.base o (if is_true (r.term d) then option_by a.base (r.term o) (r.term a.term) else None) ∙ option_guard a.base (r.term d) (r.term o) (r.term a.term))
    ∙ ap (λ t. held r.mode (option_by a.base t (guard_term (r.term d) (r.term a.term)))) f
    ∙ ap (λ t. held r.mode (option_by a.base (r.term there) t)) e

-- ---- choices

pub whole_kept : (b : Base) (x : Term) (c : Content) → value_by b x ≡ Some c → value_by b x ≡ value_by b (whole_term b x)
unfolding to_int_term
whole_kept base.Bool x c h = by (as_number x) h ∙ truth_whole x
  where
    by : (i : Option ℤ) → option_map (λ n. content_by base.Bool n []) i ≡ Some c → option_map (λ n. content_by base.Bool n []) i ≡ Some (values.bool (cells.is_true (option_map (λ n. content_by base.Bool n []) i)))
    by None q = absurd (cc)
    by (Some n) q = refl
whole_kept b x c h = refl

option_whole : (b : Base) (p : Bool) (x : Term) (c : Content) → (if p then value_by b x else Some values.absent) ≡ Some c → (if p then value_by b x else Some values.absent) ≡ (if p then value_by b (whole_term b x) else Some values.absent)
option_whole b true x c h = whole_kept b x c h
option_whole b false x c h = refl

chosen : (m : Mode) (k : ℕ) (v w : Option Content) → ((c : Content) → v ≡ Some c → v ≡ w) → held m (choice_at m k) ≡ held m v → held m (choice_at m k) ≡ held m w
chosen (Blank n) k v w all h = refl
chosen (Given f) k v w all h = h ∙ all (f k) (sym h)

pub choice_held : (r : Reading) (k o term : ℕ) (a : Symbol) → a.occurs ≡ Some o → whole_term a.base (r.term a.term) ≡ r.term term → held r.mode (choice_at r.mode k) ≡ symbol_seen r a → held r.mode (choice_at r.mode k) ≡ symbol_seen r (symbol_of a.base (Some o) term)
choice_held r k o term a p e h =
    chosen r.mode k (option_by a.base (r.term o) (r.term a.term)) (option_by a.base (r.term o) (r.term term))
    (λ c q. option_whole a.base (is_true (r.term o)) (r.term a.term) c q ∙ ap (option_by a.base (r.term o)) e)
    (h ∙ ap (λ q. held r.mode (value_at r.term a.base q a.term)) p)
