-- A program that is made step by step: its introduced variables, their definitions, and what determines a solution.
use Rattle.std.proofs.Common.{◌≡◌, ℕ, suc, ◌+◌, ◌<◌, ◌≤◌, List, [], ◌∷◌, ◌++◌, length, Bool, true, false, Option, Some, None, cond, refl, sym, ap, ap₂, subst, ◌∙◌, arith, inl, inr, append_assoc, append-nil}
use Rattle.std.specs.Prelude.{nat_eq, not}
use Rattle.std.specs.List.{AllByRecursion, list_any}
use Rattle.std.proofs.lemmas.Bool.{or_cases}
use Rattle.std.proofs.lemmas.Bool.Decides.{nat_tests}
use Rattle.std.proofs.lemmas.List.Elements.{filter-append}
use Rattle.fz_program.specs.declared.program.Domain.{Domain}
use Rattle.fz_program.specs.declared.row_name.RowName.{RowName}
use Rattle.fz_program.specs.Arguments.{Plain, bool, int, set, var, nested, Argument, one, array}
use Rattle.fz_program.specs.Values.{Value, Values}
use Rattle.fz_program.specs.Flat.{Variable, Row, Program, FlatSolves, IsWellFormedRow, is_variable, has_variable, is_definition}
use Rattle.fz_build.specs.Naming.{introduced_name, number_after, next_from, next_number}
use Rattle.fz_build.specs.Build.{IsOver, IsArgumentOver, AreOver, constraint, defined_variable, defining, introduced_variable, with_row, with_variable, with_defined}
use Rattle.fz_build.specs.Asked.{MayDefine}
use Rattle.fz_build.specs.History.{IsOfModel, IsFront, Made, begins, adds_row, adds_defined, adds_choice, is_place, definitions_of, IsDefinedOnce, HasDefinition, HaveDefinitions, IsIntroduced, AreIntroduced, choices_in, IsMadeOf, free_values}
use Rattle.fz_build.proofs.Lists.{each_push}
use Rattle.fz_build.proofs.Wider.{row_over, rows_wider}
use Rattle.fz_build.proofs.Values.{domains_length}
use Rattle.fz_build.proofs.Declared.{IsWithLast, with_last, prefix_is, posted}
use Rattle.fz_build.proofs.Defined.{defined}

-- ---- all rows are well formed

pub rows_formed : (front : Program) → IsFront front → (p : Program) (n : ℕ) → Made front p n → AllByRecursion (IsWellFormedRow p.vars) p.rows
rows_formed front fr p n begins = subst (AllByRecursion (IsWellFormedRow front.vars)) (sym fr.rows) tt
rows_formed front fr p n (adds_row q k name args m w) = each_push (IsWellFormedRow q.vars) q.rows (constraint name args) (rows_formed front fr q k m) w
rows_formed front fr p n (adds_defined q k name inputs domain m d) =
    let v = defined_variable q domain in
    each_push (IsWellFormedRow (q.vars ++ v ∷ [])) q.rows (defining name inputs (length q.vars)) (rows_wider q.vars (v ∷ []) q.rows (rows_formed front fr q k m)) d.row
rows_formed front fr p n (adds_choice q k domain m) = rows_wider q.vars (introduced_variable q domain ∷ []) q.rows (rows_formed front fr q k m)

-- ---- the names of introduced variables

-- the variables of a model take no number
numbers_after : (vs ws : List Variable) (n : ℕ) → AllByRecursion IsOfModel vs → next_from n (vs ++ ws) ≡ next_from n ws
numbers_after [] ws n a = refl
numbers_after (v ∷ vs) ws n a = ap (λ b. next_from (number_after b n) (vs ++ ws)) a.0.introduced ∙ numbers_after vs ws n a.1

numbers_of : (n k : ℕ) (ws : List Variable) → AreIntroduced k ws → next_from n ws ≡ n + length ws
numbers_of n k [] a = omega arith
numbers_of n k (w ∷ ws) a =
    let more = numbers_of (n + 1) (suc k) ws a.1 in
    ap (λ b. next_from (number_after b n) ws) a.0.introduced ∙ omega (arith, more)

introduced_push : (k : ℕ) (vs : List Variable) (v : Variable) → AreIntroduced k vs → IsIntroduced (k + length vs) v → AreIntroduced k (vs ++ v ∷ [])
introduced_push k [] v a i = let same : k + 0 ≡ k = omega arith in (subst (λ j. IsIntroduced j v) same i, tt)
introduced_push k (w ∷ vs) v a i = let same : k + suc (length vs) ≡ suc k + length vs = omega arith in (a.0, introduced_push (suc k) vs v a.1 (subst (λ j. IsIntroduced j v) same i))

-- ---- definitions

-- a variable that stands in arguments over the first n is one of these
in_plain : (n k : ℕ) (p : Plain) → is_variable k p ≡ true → IsOver n p → k < n
in_plain n k (var j) h o = let same : j ≡ k = grind (arith, nat_tests) in omega (arith, same, o)
in_plain n k (bool b) h o = absurd (cc)
in_plain n k (int i) h o = absurd (cc)
in_plain n k (set s) h o = absurd (cc)
in_plain n k nested h o = absurd (cc)

in_array : (n k : ℕ) (ps : List Plain) → list_any (is_variable k) ps ≡ true → AllByRecursion (IsOver n) ps → k < n
in_array n k [] h o = absurd (cc)
in_array n k (p ∷ ps) h o = elim (or_cases (is_variable k p) (list_any (is_variable k) ps) h) [ inl a ↦ in_plain n k p a o.0 | inr b ↦ in_array n k ps b o.1 ]

in_argument : (n k : ℕ) (a : Argument) → has_variable k a ≡ true → IsArgumentOver n a → k < n
in_argument n k (one p) h o = in_plain n k p h o
in_argument n k (array ps) h o = in_array n k ps h o

in_arguments : (n k : ℕ) (args : List Argument) → list_any (has_variable k) args ≡ true → AreOver n args → k < n
in_arguments n k [] h o = absurd (cc)
in_arguments n k (a ∷ args) h o = elim (or_cases (has_variable k a) (list_any (has_variable k) args) h) [ inl b ↦ in_argument n k a b o.0 | inr c ↦ in_arguments n k args c o.1 ]

other_number : (j n k : ℕ) → j < n → n ≤ k → nat_eq j k ≡ false
other_number j n k h l = grind (arith, nat_tests)

other_place : (n k : ℕ) (args : List Argument) (o : Option ℕ) → is_definition args o ≡ true → AreOver n args → n ≤ k → is_place k o ≡ false
other_place n k args None h a l = refl
other_place n k args (Some j) h a l = other_number j n k (in_arguments n j args h a) l

-- no row defines a variable that isn't there
pub no_definition : (vs : List Variable) (rows : List Row) (k : ℕ) → AllByRecursion (IsWellFormedRow vs) rows → length vs ≤ k → definitions_of k rows ≡ []
no_definition vs [] k w l = refl
no_definition vs (r ∷ rows) k w l =
    ap (λ b. cond b (r ∷ definitions_of k rows) (definitions_of k rows)) (other_place (length vs) k r.args r.defines w.0.defines (row_over vs r w.0) l) ∙ no_definition vs rows k w.1 l

-- one more row defines what it defines alone
definitions_push : (k : ℕ) (rows : List Row) (r : Row) → definitions_of k (rows ++ r ∷ []) ≡ definitions_of k rows ++ cond (is_place k r.defines) (r ∷ []) []
definitions_push k rows r = filter-append (λ (q : Row). is_place k q.defines) rows (r ∷ [])

definitions_other : (k : ℕ) (rows : List Row) (r : Row) → is_place k r.defines ≡ false → definitions_of k (rows ++ r ∷ []) ≡ definitions_of k rows
definitions_other k rows r h = definitions_push k rows r ∙ ap (λ b. definitions_of k rows ++ cond b (r ∷ []) []) h ∙ append-nil (definitions_of k rows)

has_by : (b : Bool) (rows more : List Row) (k : ℕ) → definitions_of k more ≡ definitions_of k rows → HasDefinition b rows k → HasDefinition b more k
has_by true rows more k e h = record { name = h.name; inputs = h.inputs; before = h.before; only = e ∙ h.only }
has_by false rows more k e h = e ∙ h

-- one more row that defines none of the variables
have_rows : (rows : List Row) (r : Row) (n k : ℕ) (vs : List Variable) → ((j : ℕ) → j < n → is_place j r.defines ≡ false) → k + length vs ≤ n → HaveDefinitions rows k vs → HaveDefinitions (rows ++ r ∷ []) k vs
have_rows rows r n k [] other l h = tt
have_rows rows r n k (v ∷ vs) other l h = (
  has_by v.defined rows (rows ++ r ∷ []) k (definitions_other k rows r (other k (omega (arith, l)))) h.0,
  have_rows rows r n (suc k) vs other (omega (arith, l)) h.1,
)

-- one more variable
have_push : (rows : List Row) (k : ℕ) (vs : List Variable) (v : Variable) → HaveDefinitions rows k vs → HasDefinition v.defined rows (k + length vs) → HaveDefinitions rows k (vs ++ v ∷ [])
have_push rows k [] v h d = let same : k + 0 ≡ k = omega arith in (subst (HasDefinition v.defined rows) same d, tt)
have_push rows k (w ∷ vs) v h d = let same : k + suc (length vs) ≡ suc k + length vs = omega arith in (h.0, have_push rows (suc k) vs v h.1 (subst (HasDefinition v.defined rows) same d))

-- ---- the whole

length_both : {A : Type 0} (xs ys : List A) → length (xs ++ ys) ≡ length xs + length ys
length_both [] ys = omega arith
length_both (x ∷ xs) ys = let b = length_both xs ys in omega (arith, b)

choices_push : (vs : List Variable) (v : Variable) → length (choices_in (vs ++ v ∷ [])) ≡ length (choices_in vs) + length (choices_in (v ∷ []))
choices_push vs v = ap length (filter-append (λ (w : Variable). not w.defined) vs (v ∷ [])) ∙ length_both (choices_in vs) (choices_in (v ∷ []))

below_only : (j n : ℕ) → j < n → is_place j (Some n) ≡ false
below_only j n h = grind (arith, nat_tests)

own_place : (n : ℕ) → is_place n (Some n) ≡ true
own_place n = grind (arith, nat_tests)

module _ (front : Program) (fr : IsFront front) where
  -- the name of the next introduced variable
  next_is : (p : Program) (n : ℕ) (o : IsMadeOf front p n) → next_number p.vars ≡ length o.introduced
  next_is p n o =
      let m = numbers_of 0 0 o.introduced o.are in
      ap next_number o.vars ∙ numbers_after front.vars o.introduced 0 fr.variables ∙ omega (arith, m)

  place_is : (p : Program) (n : ℕ) (o : IsMadeOf front p n) → length p.vars ≡ length front.vars + length o.introduced
  place_is p n o = ap length o.vars ∙ length_both front.vars o.introduced

  made_row : (p : Program) (n : ℕ) (name : RowName) (args : List Argument) → IsMadeOf front p n → IsMadeOf front (with_row p (constraint name args)) n
  made_row p n name args o = record {
    introduced = o.introduced;
    vars = o.vars;
    are = o.are;
    arrays = o.arrays;
    choices = o.choices;
    once = have_rows p.rows (constraint name args) (length front.vars + length o.introduced) (length front.vars) o.introduced (λ j l. refl) (omega arith) o.once;
  }

  made_choice : (p : Program) (n : ℕ) (domain : Domain) → AllByRecursion (IsWellFormedRow p.vars) p.rows → IsMadeOf front p n → IsMadeOf front (with_variable p (introduced_variable p domain)) (suc n)
  made_choice p n domain w o =
      let v = introduced_variable p domain in
      let place = place_is p n o in
      let more = choices_push o.introduced v in
      let before = o.choices in
      record {
        introduced = o.introduced ++ v ∷ [];
        vars = ap (λ vs. vs ++ v ∷ []) o.vars ∙ append_assoc front.vars o.introduced (v ∷ []);
        are = introduced_push 0 o.introduced v o.are (record { label = ap introduced_name (let e = next_is p n o in omega (arith, e)); introduced = refl; output = refl });
        arrays = o.arrays;
        choices = omega (arith, more, before);
        once = have_push p.rows (length front.vars) o.introduced v o.once (no_definition p.vars p.rows (length front.vars + length o.introduced) w (omega (arith, place)));
      }

  made_defined : (p : Program) (n : ℕ) (name : RowName) (inputs : List Argument) (domain : Domain) → AllByRecursion (IsWellFormedRow p.vars) p.rows → MayDefine p name inputs domain → IsMadeOf front p n → IsMadeOf front (with_defined p name inputs domain) n
  made_defined p n name inputs domain w m o =
      let v = defined_variable p domain in
      let k = length p.vars in
      let r = defining name inputs k in
      let place = place_is p n o in
      let more = choices_push o.introduced v in
      let before = o.choices in
      let none = no_definition p.vars p.rows k w (omega arith) in
      let alone : definitions_of k (p.rows ++ r ∷ []) ≡ r ∷ [] = definitions_push k p.rows r ∙ ap₂ (λ rs b. rs ++ cond b (r ∷ []) []) none (own_place k) in
      let once : IsDefinedOnce (p.rows ++ r ∷ []) k = record { name = name; inputs = inputs; before = m.over; only = alone } in
      record {
        introduced = o.introduced ++ v ∷ [];
        vars = ap (λ vs. vs ++ v ∷ []) o.vars ∙ append_assoc front.vars o.introduced (v ∷ []);
        are = introduced_push 0 o.introduced v o.are (record { label = ap introduced_name (let e = next_is p n o in omega (arith, e)); introduced = refl; output = refl });
        arrays = o.arrays;
        choices = omega (arith, more, before);
        once = have_push (p.rows ++ r ∷ []) (length front.vars) o.introduced v
            (have_rows p.rows r k (length front.vars) o.introduced (λ j l. below_only j k l) (omega (arith, place)) o.once)
            (subst (IsDefinedOnce (p.rows ++ r ∷ [])) place once);
      }

  pub made_of : (p : Program) (n : ℕ) → Made front p n → IsMadeOf front p n
  made_of p n begins = record { introduced = []; vars = sym (append-nil front.vars); are = tt; arrays = refl; choices = refl; once = tt }
  made_of p n (adds_row q k name args m w) = made_row q k name args (made_of q k m)
  made_of p n (adds_defined q k name inputs domain m d) = made_defined q k name inputs domain (rows_formed front fr q k m) d (made_of q k m)
  made_of p n (adds_choice q k domain m) = made_choice q k domain (rows_formed front fr q k m) (made_of q k m)

-- ---- what determines a solution

take_through : (b : Bool) (x : Value) (xs ys : Values) → cond b (xs ++ ys) (x ∷ (xs ++ ys)) ≡ cond b xs (x ∷ xs) ++ ys
take_through true x xs ys = refl
take_through false x xs ys = refl

free_push : (vs : List Variable) (v : Variable) (f : Values) (x : Value) → length f ≡ length vs → free_values (vs ++ v ∷ []) (f ++ x ∷ []) ≡ free_values vs f ++ cond v.defined [] (x ∷ [])
free_push [] v [] x l = refl
free_push [] v (y ∷ f) x l = absurd (omega (arith, l))
free_push (w ∷ vs) v [] x l = absurd (omega (arith, l))
free_push (w ∷ vs) v (y ∷ f) x l =
    ap (λ g. cond w.defined g (y ∷ g)) (free_push vs v f x (omega (arith, l))) ∙ take_through w.defined y (free_values vs f) (cond v.defined [] (x ∷ []))

-- all values of a model's variables are free
free_all : (vs : List Variable) (f : Values) → AllByRecursion IsOfModel vs → length f ≡ length vs → free_values vs f ≡ f
free_all [] [] a l = refl
free_all [] (x ∷ f) a l = absurd (omega (arith, l))
free_all (v ∷ vs) [] a l = absurd (omega (arith, l))
free_all (v ∷ vs) (x ∷ f) a l = ap (λ b. cond b (free_values vs f) (x ∷ free_values vs f)) a.0.defined ∙ ap (λ g. x ∷ g) (free_all vs f a.1 (omega (arith, l)))

-- lists that end in one element each
record AreSame (xs ys : Values) (x y : Value) : Type 0 where
  pub front : xs ≡ ys
  pub last : x ≡ y

no_push : (xs : Values) (x : Value) → [] ≡ xs ++ x ∷ [] → ⊥
no_push [] x e = cc
no_push (y ∷ xs) x e = cc

head_same : (x y : Value) (xs ys : Values) → x ∷ xs ≡ y ∷ ys → x ≡ y
head_same x y xs ys e = cc

rest_same : (x y : Value) (xs ys : Values) → x ∷ xs ≡ y ∷ ys → xs ≡ ys
rest_same x y xs ys e = cc

push_same : (xs ys : Values) (x y : Value) → xs ++ x ∷ [] ≡ ys ++ y ∷ [] → AreSame xs ys x y
push_same [] [] x y e = record { front = refl; last = head_same x y [] [] e }
push_same [] (b ∷ ys) x y e = absurd (no_push ys y (rest_same x b [] (ys ++ y ∷ []) e))
push_same (a ∷ xs) [] x y e = absurd (no_push xs x (sym (rest_same a y (xs ++ x ∷ []) [] e)))
push_same (a ∷ xs) (b ∷ ys) x y e =
    let more = push_same xs ys x y (rest_same a b (xs ++ x ∷ []) (ys ++ y ∷ []) e) in
    record { front = ap₂ (λ z zs. z ∷ zs) (head_same a b (xs ++ x ∷ []) (ys ++ y ∷ []) e) more.front; last = more.last }

free_of : (p : Program) (v : Variable) (f : Values) (q : IsWithLast p v f) → free_values (p.vars ++ v ∷ []) f ≡ free_values p.vars q.prefix ++ cond v.defined [] (q.last ∷ [])
free_of p v f q = ap (free_values (p.vars ++ v ∷ [])) (sym q.is) ∙ free_push p.vars v q.prefix q.last q.as_many

pub free_determine : (front : Program) → IsFront front → (p : Program) (n : ℕ) → Made front p n → (f g : Values) → FlatSolves p f → FlatSolves p g → free_values p.vars f ≡ free_values p.vars g → f ≡ g
free_determine front fr p n begins f g s t e =
    sym (free_all front.vars f fr.variables (domains_length front.vars f s.domains)) ∙ e ∙ free_all front.vars g fr.variables (domains_length front.vars g t.domains)
free_determine front fr p n (adds_row q k name args m w) f g s t e =
    let row = posted q (constraint name args) in
    free_determine front fr q k m f g (row.down f s) (row.down g t) e
free_determine front fr p n (adds_defined q k name inputs domain m d) f g s t e =
    let w = rows_formed front fr q k m in
    let v = defined_variable q domain in
    let row = posted (with_variable q v) (defining name inputs (length q.vars)) in
    let a = with_last q v w f (row.down f s) in
    let b = with_last q v w g (row.down g t) in
    let same : free_values q.vars a.prefix ≡ free_values q.vars b.prefix =
    sym (append-nil (free_values q.vars a.prefix)) ∙ sym (free_of q v f a) ∙ e ∙ free_of q v g b ∙ append-nil (free_values q.vars b.prefix) in
    let prefix : a.prefix ≡ b.prefix = free_determine front fr q k m a.prefix b.prefix a.solves b.solves same in
    (defined q name inputs domain d w).grows.one f g s t (prefix_is q v w f a ∙ prefix ∙ sym (prefix_is q v w g b))
free_determine front fr p n (adds_choice q k domain m) f g s t e =
    let w = rows_formed front fr q k m in
    let v = introduced_variable q domain in
    let a = with_last q v w f s in
    let b = with_last q v w g t in
    let both = push_same (free_values q.vars a.prefix) (free_values q.vars b.prefix) a.last b.last (sym (free_of q v f a) ∙ e ∙ free_of q v g b) in
    let prefix : a.prefix ≡ b.prefix = free_determine front fr q k m a.prefix b.prefix a.solves b.solves both.front in
    sym a.is ∙ ap₂ (λ h x. h ++ x ∷ []) prefix both.last ∙ b.is
