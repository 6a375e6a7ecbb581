-- Values for more variables, and what rows over the first of them ask of these.
use Rattle.std.proofs.Common.{◌≡◌, ℕ, ◌-◌, List, [], ◌∷◌, ◌++◌, length, map, take, true, refl, sym, ap, subst, ◌∙◌, arith, Some}
use Rattle.std.specs.Prelude.{pos}
use Rattle.std.specs.List.{AllByRecursion}
use Rattle.std.proofs.lemmas.List.{take_at, length_push}
use Rattle.fz_program.specs.Arguments.{Plain, bool, int, set, var, nested, Argument, one, array}
use Rattle.fz_program.specs.Values as values
use Rattle.fz_program.specs.Values.{Value, Values, ArgumentValue, value_in, value_at}
use Rattle.fz_program.specs.Table.{Meaning, tests, gives, line, Holds, result_of}
use Rattle.fz_program.specs.Flat.{Variable, Row, plain_value, argument_value, RowHolds, IsInDomain, AreInDomains, IsWellFormedRow}
use Rattle.fz_build.specs.Results.{is_giving}
use Rattle.fz_build.specs.Build.{IsOver, IsArgumentOver, AreOver}
use Rattle.fz_build.proofs.Lists.{at_wider, at_last, map_same}
use Rattle.fz_build.proofs.Wider.{row_over}

plain_over_values : (f ys : Values) (n : ℕ) → length f ≡ n → (p : Plain) → IsOver n p → plain_value (f ++ ys) p ≡ plain_value f p
plain_over_values f ys n l (var k) h = at_wider f ys k (values.number (pos 0)) (omega (arith, h, l))
plain_over_values f ys n l (bool b) h = refl
plain_over_values f ys n l (int i) h = refl
plain_over_values f ys n l (set s) h = refl
plain_over_values f ys n l nested h = refl

given_over : (f ys : Values) (n : ℕ) → length f ≡ n → (a : Argument) → IsArgumentOver n a → argument_value (f ++ ys) a ≡ argument_value f a
given_over f ys n l (one p) h = ap (λ v. values.one v) (plain_over_values f ys n l p h)
given_over f ys n l (array ps) h = ap (λ vs. values.many vs) (map_same (plain_value (f ++ ys)) (plain_value f) (IsOver n) ps (plain_over_values f ys n l) h)

pub all_given_over : (f ys : Values) (n : ℕ) → length f ≡ n → (args : List Argument) → AreOver n args → map (argument_value (f ++ ys)) args ≡ map (argument_value f) args
all_given_over f ys n l args h = map_same (argument_value (f ++ ys)) (argument_value f) (IsArgumentOver n) args (given_over f ys n l) h

-- rows over the first variables
pub rows_before : (vs : List Variable) (f ys : Values) → length f ≡ length vs → (rs : List Row) → AllByRecursion (IsWellFormedRow vs) rs → AllByRecursion (RowHolds (f ++ ys)) rs → AllByRecursion (RowHolds f) rs
rows_before vs f ys l [] w a = tt
rows_before vs f ys l (r ∷ rs) w a = (subst (Holds (line r.name).meaning) (all_given_over f ys (length vs) l r.args (row_over vs r w.0)) a.0, rows_before vs f ys l rs w.1 a.1)

pub rows_after : (vs : List Variable) (f ys : Values) → length f ≡ length vs → (rs : List Row) → AllByRecursion (IsWellFormedRow vs) rs → AllByRecursion (RowHolds f) rs → AllByRecursion (RowHolds (f ++ ys)) rs
rows_after vs f ys l [] w a = tt
rows_after vs f ys l (r ∷ rs) w a = (subst (Holds (line r.name).meaning) (sym (all_given_over f ys (length vs) l r.args (row_over vs r w.0))) a.0, rows_after vs f ys l rs w.1 a.1)

-- ---- domains

pub domains_length : (vs : List Variable) (f : Values) → AreInDomains vs f → length f ≡ length vs
domains_length [] [] h = refl
domains_length [] (x ∷ f) h = absurd h
domains_length (v ∷ vs) [] h = absurd h
domains_length (v ∷ vs) (x ∷ f) h = let b = domains_length vs f h.1 in omega (arith, b)

pub domains_push : (vs : List Variable) (v : Variable) (f : Values) (x : Value) → AreInDomains vs f → IsInDomain v.domain x → AreInDomains (vs ++ v ∷ []) (f ++ x ∷ [])
domains_push [] v [] x h i = (i, tt)
domains_push [] v (y ∷ f) x h i = absurd h
domains_push (w ∷ vs) v [] x h i = absurd h
domains_push (w ∷ vs) v (y ∷ f) x h i = (h.0, domains_push vs v f x h.1 i)

-- values for a variable more are values for the others, and one for it
pub record Split (vs : List Variable) (v : Variable) (f : Values) : Type 0 where
  pub prefix : Values
  pub last : Value
  pub is : prefix ++ last ∷ [] ≡ f
  pub domains : AreInDomains vs prefix
  pub inside : IsInDomain v.domain last

pub split : (vs : List Variable) (v : Variable) (f : Values) → AreInDomains (vs ++ v ∷ []) f → Split vs v f
split [] v [] h = absurd h
split [] v (x ∷ []) h = record { prefix = []; last = x; is = refl; domains = tt; inside = h.0 }
split [] v (x ∷ y ∷ f) h = absurd (h.1)
split (w ∷ vs) v [] h = absurd h
split (w ∷ vs) v (x ∷ f) h =
    let s = split vs v f h.1 in
    record { prefix = x ∷ s.prefix; last = s.last; is = ap (λ g. x ∷ g) s.is; domains = (h.0, s.domains); inside = s.inside }

-- ---- the last argument is what the others give

last_place : (xs : List ArgumentValue) (x : Value) → length (xs ++ values.one x ∷ []) - 1 ≡ length xs
last_place xs x = let l = length_push xs (values.one x) in omega (arith, l)

others : (xs : List ArgumentValue) (x : Value) → take (length (xs ++ values.one x ∷ []) - 1) (xs ++ values.one x ∷ []) ≡ xs
others xs x = ap (λ k. take k (xs ++ values.one x ∷ [])) (last_place xs x) ∙ take_at xs (values.one x ∷ []) (length xs) refl

last_value : (xs : List ArgumentValue) (x : Value) → value_at (xs ++ values.one x ∷ []) (length (xs ++ values.one x ∷ []) - 1) ≡ x
last_value xs x = ap (value_at (xs ++ values.one x ∷ [])) (last_place xs x) ∙ ap value_in (at_last xs (values.one x) (values.many []))

pub gives_last : (m : Meaning) (xs : List ArgumentValue) (x : Value) → is_giving m ≡ true → Holds m (xs ++ values.one x ∷ []) → result_of m xs ≡ Some x
gives_last (tests test) xs x g h = absurd (cc)
gives_last (gives result) xs x g h = ap result (sym (others xs x)) ∙ h ∙ ap (λ v. Some v) (last_value xs x)

pub last_given : (m : Meaning) (xs : List ArgumentValue) (x : Value) → is_giving m ≡ true → result_of m xs ≡ Some x → Holds m (xs ++ values.one x ∷ [])
last_given (tests test) xs x g h = absurd (cc)
last_given (gives result) xs x g h = ap result (others xs x) ∙ h ∙ ap (λ v. Some v) (sym (last_value xs x))
