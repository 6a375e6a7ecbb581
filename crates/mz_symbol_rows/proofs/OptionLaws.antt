-- Options as arguments of rows, by the terms of their nodes.
use Rattle.std.proofs.Common.{◌≡◌, ◌∙◌, ℕ, ℤ, Bool, true, false, [], Option, Some, refl, ap, if◌then◌else◌}
use Rattle.std.specs.Option.{option_map}
use Rattle.mz_value.specs.Contents.{Content}
use Rattle.mz_value.specs.Contents as values
use Rattle.mz_core.specs.declared.types.Base.{Base}
use Rattle.mz_core.specs.declared.types.Base.TheVariants as base
use Rattle.mz_arena.specs.Values.{Term, as_number, bit, is_true}
use Rattle.mz_symbol.specs.Symbols.{content_by, value_by, value_at}
use Rattle.mz_meaning.specs.Cells.{Mode, Blank, Given, held}
use Rattle.mz_symbol.specs.declared.types.Symbol.{Symbol}
use Rattle.mz_symbol.specs.Readings.{Reading}
use Rattle.mz_symbol_rows.specs.RowValues as rows
use Rattle.mz_symbol.specs.Arguments.{as_argument}
use Rattle.mz_symbol_rows.specs.RowValues.{argument}
use Rattle.mz_symbol_rows.specs.StepsOptions.{IsOption, AreOptions}

-- an option's value, by its occurrence and its number
abbrev pub option_of : Base → Bool → Option ℤ → Option Content
option_of b o i = if o then option_map (λ n. content_by b n []) i else Some values.absent

abbrev pub option_by : Base → Term → Term → Option Content
option_by b o x = if is_true o then value_by b x else Some values.absent

pub by_number : (b : Base) (x : Term) → rows.is_single b ≡ true → value_by b x ≡ option_map (λ n. content_by b n []) (as_number x)
by_number base.Bool x h = refl
by_number base.Int x h = refl
by_number (base.Enum e) x h = refl
by_number b x h = absurd (cc)

pub option_is : (b : Base) (o x : Term) → rows.is_single b ≡ true → option_by b o x ≡ option_of b (is_true o) (as_number x)
option_is b o x h = ap (λ v. if is_true o then v else Some values.absent) (by_number b x h)

option_kept : (b : Base) (o : ℕ) (v : Option Content) → as_argument b (Some o) v ≡ v
option_kept base.Bool o v = refl
option_kept b o v = refl

pub argument_is : (r : Reading) (o : ℕ) (s : Symbol) → IsOption o s → argument r s ≡ held r.mode (option_of s.base (is_true (r.term o)) (as_number (r.term s.term)))
argument_is r o s p =
    ap (λ q. held r.mode (as_argument s.base q (value_at r.term s.base q s.term))) p.occurs
    ∙ ap (held r.mode) (option_kept s.base o (option_by s.base (r.term o) (r.term s.term)))
    ∙ ap (held r.mode) (option_is s.base (r.term o) (r.term s.term) p.single)

pub second_of : (o p : ℕ) (a b : Symbol) → AreOptions o p a b → IsOption p b
second_of o p a b q = record { single = ap rows.is_single q.same ∙ q.first.single; occurs = q.second }

-- ---- rows of one and of two options

one_held : (m : Mode) (f : Option Content → Option Content) (p v : Option Content) → f p ≡ v → held m (f (held m p)) ≡ held m v
one_held (Blank n) f p v e = refl
one_held (Given c) f p v e = e

two_held : (m : Mode) (f : Option Content → Option Content → Option Content) (p q v : Option Content) → f p q ≡ v → held m (f (held m p) (held m q)) ≡ held m v
two_held (Blank n) f p q v e = refl
two_held (Given c) f p q v e = e

-- what is made of one option
pub of_option : (r : Reading) (f : Option Content → Option Content) (o : ℕ) (a : Symbol) (v : Option Content) → IsOption o a → f (option_of a.base (is_true (r.term o)) (as_number (r.term a.term))) ≡ v → held r.mode (f (argument r a)) ≡ held r.mode v
of_option r f o a v p e = ap (λ x. held r.mode (f x)) (argument_is r o a p) ∙ one_held r.mode f (option_of a.base (is_true (r.term o)) (as_number (r.term a.term))) v e

pub of_options : (r : Reading) (f : Option Content → Option Content → Option Content) (o p : ℕ) (a b : Symbol) (v : Option Content) → AreOptions o p a b → f (option_of a.base (is_true (r.term o)) (as_number (r.term a.term))) (option_of a.base (is_true (r.term p)) (as_number (r.term b.term))) ≡ v → held r.mode (f (argument r a) (argument r b)) ≡ held r.mode v
of_options r f o p a b v q e =
    ap (λ x. held r.mode (f x (argument r b))) (argument_is r o a q.first)
    ∙ ap (λ x. held r.mode (f (held r.mode (option_of a.base (is_true (r.term o)) (as_number (r.term a.term)))) x)) (argument_is r p b (second_of o p a b q))
    ∙ ap (λ c. held r.mode (f (held r.mode (option_of a.base (is_true (r.term o)) (as_number (r.term a.term)))) (held r.mode (option_of c (is_true (r.term p)) (as_number (r.term b.term)))))) q.same
    ∙ two_held r.mode f (option_of a.base (is_true (r.term o)) (as_number (r.term a.term))) (option_of a.base (is_true (r.term p)) (as_number (r.term b.term))) v e

-- ---- truth values

pub truth_by : (p : Bool) → value_by base.Bool (bit p) ≡ Some (values.bool p)
truth_by true = refl
truth_by false = refl

pub bit_true : (p : Bool) → is_true (bit p) ≡ p
bit_true true = refl
bit_true false = refl
