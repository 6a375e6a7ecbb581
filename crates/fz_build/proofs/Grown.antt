-- What a builder promises, where an item more stands.
use Rattle.std.proofs.Common.{◌≡◌, ℕ, ◌<◌, ◌≤◌, ◌^◌, List, [], ◌∷◌, ◌++◌, length, map, true, false, refl, sym, ap, subst, ◌∙◌, arith, Some}
use Rattle.std.proofs.lemmas.List.{map_push, length-map}
use Rattle.fz_program.specs.declared.program.FzVar.{FzVar}
use Rattle.fz_program.specs.declared.program.FzArray.{FzArray}
use Rattle.fz_program.specs.declared.program.FzRow.{FzRow}
use Rattle.fz_program.specs.declared.program.FzGoal.{FzGoal}
use Rattle.fz_program.specs.declared.program.FzGoal.TheVariants.{Satisfy}
use Rattle.fz_program.specs.declared.program.Domain.{Domain}
use Rattle.fz_program.specs.declared.row_name.RowName.{RowName}
use Rattle.fz_program.specs.Names.{Name}
use Rattle.fz_program.specs.Arguments.{Argument}
use Rattle.fz_program.specs.Flat.{Variable, ArrayItem, Row, Program, WellFormed, IsWellFormedVariable, IsWellFormedArray, IsWellFormedRow, IsOfSet, IsSome, variable, array_item, row, is_goal}
use Rattle.fz_build.specs.Naming.{IsNamed, introduced_name, number_after, next_number}
use Rattle.fz_build.specs.Build.{items, with_variable, with_array, with_row, with_goal, with_defined, defined_variable, introduced_variable, defining, args_with, IsBuilt, MayDeclare, MayAdd}
use Rattle.fz_build.specs.Asked.{MayDefine}
use Rattle.fz_build.proofs.Lists.{each_push}
use Rattle.fz_build.proofs.FreshNames.{is_name, fresh, named_push, next_push, next_most, distinct_variable, distinct_array}
use Rattle.fz_build.proofs.Wider.{rows_wider, arrays_wider}

-- ---- one item more

pub built_variable : (p : Program) (v : Variable) → p.goal ≡ Satisfy → IsBuilt p → MayDeclare p v → IsBuilt (with_variable p v)
built_variable p v g b m = record {
  well_formed = record {
    distinct = distinct_variable p v b.well_formed.distinct m.new;
    parts = record {
      vars = each_push IsWellFormedVariable p.vars v b.well_formed.parts.vars m.variable;
      arrays = arrays_wider p.vars (v ∷ []) p.arrays b.well_formed.parts.arrays;
      rows = rows_wider p.vars (v ∷ []) p.rows b.well_formed.parts.rows;
      goal = ap (is_goal (p.vars ++ v ∷ [])) g;
    };
  };
  variables = named_push 0 p.vars v b.variables m.named;
  arrays = b.arrays;
}

pub built_array : (p : Program) (a : ArrayItem) → IsBuilt p → MayAdd p a → IsBuilt (with_array p a)
built_array p a b m = record {
  well_formed = record {
    distinct = distinct_array p a b.well_formed.distinct m.new;
    parts = record {
      vars = b.well_formed.parts.vars;
      arrays = each_push (IsWellFormedArray p.vars) p.arrays a b.well_formed.parts.arrays m.array;
      rows = b.well_formed.parts.rows;
      goal = b.well_formed.parts.goal;
    };
  };
  variables = b.variables;
  arrays = each_push (λ x. IsNamed false 0 x.label) p.arrays a b.arrays m.named;
}

pub built_row : (p : Program) (r : Row) → IsBuilt p → IsWellFormedRow p.vars r → IsBuilt (with_row p r)
built_row p r b w = record {
  well_formed = record {
    distinct = b.well_formed.distinct;
    parts = record {
      vars = b.well_formed.parts.vars;
      arrays = b.well_formed.parts.arrays;
      rows = each_push (IsWellFormedRow p.vars) p.rows r b.well_formed.parts.rows w;
      goal = b.well_formed.parts.goal;
    };
  };
  variables = b.variables;
  arrays = b.arrays;
}

-- a variable that is marked as introduced, with the next name
pub may_introduce : (p : Program) (domain : Domain) → IsBuilt p → next_number p.vars < 2 ^ 64 → IsOfSet domain → IsSome domain → MayDeclare p (introduced_variable p domain)
may_introduce p domain b h s some = record {
  variable = record { label = is_name (next_number p.vars) h; marks = ((λ o. cc), (λ d. cc)); some = some; of_set = s };
  new = fresh p b.variables b.arrays h;
  named = refl;
}

pub may_declare : (p : Program) (name : RowName) (inputs : List Argument) (domain : Domain) → IsBuilt p → next_number p.vars < 2 ^ 64 → IsOfSet domain → MayDefine p name inputs domain → MayDeclare p (defined_variable p domain)
may_declare p name inputs domain b h s m = record {
  variable = record { label = is_name (next_number p.vars) h; marks = ((λ o. cc), (λ d. refl)); some = m.some; of_set = s };
  new = fresh p b.variables b.arrays h;
  named = refl;
}

pub built_defined : (p : Program) (name : RowName) (inputs : List Argument) (domain : Domain) → p.goal ≡ Satisfy → IsBuilt p → next_number p.vars < 2 ^ 64 → IsOfSet domain → MayDefine p name inputs domain → IsBuilt (with_defined p name inputs domain)
built_defined p name inputs domain g b h s m =
    built_row (with_variable p (defined_variable p domain)) (defining name inputs (length p.vars)) (built_variable p (defined_variable p domain) g b (may_declare p name inputs domain b h s m)) m.row

pub finished : (p : Program) (g : FzGoal) → IsBuilt p → is_goal p.vars g ≡ true → WellFormed (with_goal p g)
finished p g b h = record {
  distinct = b.well_formed.distinct;
  parts = record {
    vars = b.well_formed.parts.vars;
    arrays = b.well_formed.parts.arrays;
    rows = b.well_formed.parts.rows;
    goal = h;
  };
}

-- ---- the same of the code's lists

abbrev make : List Variable → List ArrayItem → List Row → Program
make vs xs rs = record { vars = vs; arrays = xs; rows = rs; goal = Satisfy }

pub items_variable : (vars new : List FzVar) (arrays : List FzArray) (rows : List FzRow) (v : FzVar) → new ≡ vars ++ v ∷ [] → items new arrays rows ≡ with_variable (items vars arrays rows) (variable v)
items_variable vars new arrays rows v e = ap (λ vs. make vs (map array_item arrays) (map row rows)) (ap (map variable) e ∙ map_push variable vars v)

pub items_array : (vars : List FzVar) (arrays new : List FzArray) (rows : List FzRow) (a : FzArray) → new ≡ arrays ++ a ∷ [] → items vars new rows ≡ with_array (items vars arrays rows) (array_item a)
items_array vars arrays new rows a e = ap (λ xs. make (map variable vars) xs (map row rows)) (ap (map array_item) e ∙ map_push array_item arrays a)

pub items_row : (vars : List FzVar) (arrays : List FzArray) (rows new : List FzRow) (r : FzRow) → new ≡ rows ++ r ∷ [] → items vars arrays new ≡ with_row (items vars arrays rows) (row r)
items_row vars arrays rows new r e = ap (λ rs. make (map variable vars) (map array_item arrays) rs) (ap (map row) e ∙ map_push row rows r)

-- ---- what the builder's calls leave

abbrev pub made : Name → Domain → Variable
made x domain = record { label = x; domain = domain; introduced = true; defined = true; output = false }

abbrev pub free : Name → Domain → Variable
free x domain = record { label = x; domain = domain; introduced = true; defined = false; output = false }

abbrev pub row_made : RowName → List Argument → ℕ → Row
row_made name args k = record { name = name; args = args; defines = Some k }

next_of : (vars new : List FzVar) (v : FzVar) (n : ℕ) → new ≡ vars ++ v ∷ [] → n ≡ next_number (map variable vars) → number_after v.introduced n ≡ next_number (map variable new)
next_of vars new v n e h =
    ap (number_after v.introduced) h ∙ sym (next_push 0 (map variable vars) (variable v)) ∙ sym (ap (λ vs. next_number (map variable vs)) e ∙ ap next_number (map_push variable vars v))

-- the invariant
abbrev pub Stands : List FzVar → List FzArray → List FzRow → ℕ → Type 0
Stands vars arrays rows next = IsBuilt (items vars arrays rows) × (next ≡ next_number (map variable vars))

pub next_below : (vars : List FzVar) (next : ℕ) → next ≡ next_number (map variable vars) → next ≤ length vars
next_below vars next h = let m = next_most 0 (map variable vars) in let l = length-map vars variable in omega (arith, m, l, h)

pub stands_variable : (vars new : List FzVar) (arrays : List FzArray) (rows : List FzRow) (next : ℕ) (v : FzVar) (old : Program) → new ≡ vars ++ v ∷ [] → items vars arrays rows ≡ old → Stands vars arrays rows next → MayDeclare old (variable v) → Stands new arrays rows (number_after v.introduced next)
stands_variable vars new arrays rows next v old e view s m = (
  subst IsBuilt (sym (items_variable vars new arrays rows v e)) (built_variable (items vars arrays rows) (variable v) refl s.0 (subst (λ p. MayDeclare p (variable v)) (sym view) m)),
  next_of vars new v next e s.1,
)

pub stands_array : (vars : List FzVar) (arrays new : List FzArray) (rows : List FzRow) (next : ℕ) (a : FzArray) (old : Program) → new ≡ arrays ++ a ∷ [] → items vars arrays rows ≡ old → Stands vars arrays rows next → MayAdd old (array_item a) → Stands vars new rows next
stands_array vars arrays new rows next a old e view s m =
    (subst IsBuilt (sym (items_array vars arrays new rows a e)) (built_array (items vars arrays rows) (array_item a) s.0 (subst (λ p. MayAdd p (array_item a)) (sym view) m)), s.1)

pub stands_row : (vars : List FzVar) (arrays : List FzArray) (rows new : List FzRow) (next : ℕ) (r : FzRow) (old : Program) (q : Row) → new ≡ rows ++ r ∷ [] → row r ≡ q → items vars arrays rows ≡ old → Stands vars arrays rows next → IsWellFormedRow old.vars q → Stands vars arrays new next
stands_row vars arrays rows new next r old q e same view s w =
    (subst IsBuilt (sym (items_row vars arrays rows new r e)) (built_row (items vars arrays rows) (row r) s.0 (subst (IsWellFormedRow (map variable vars)) (sym same) (subst (λ (p : Program). IsWellFormedRow p.vars q) (sym view) w))), s.1)

-- a variable and its row
pub items_defined : (vars grown : List FzVar) (arrays : List FzArray) (rows more : List FzRow) (v : FzVar) (r : FzRow) (old : Program) (name : RowName) (inputs : List Argument) (domain : Domain) → grown ≡ vars ++ v ∷ [] → more ≡ rows ++ r ∷ [] → items vars arrays rows ≡ old → variable v ≡ defined_variable old domain → row r ≡ defining name inputs (length old.vars) → items grown arrays more ≡ with_defined old name inputs domain
items_defined vars grown arrays rows more v r old name inputs domain e h view same defines =
    items_row grown arrays rows more r h
    ∙ ap (λ p. with_row p (row r)) (items_variable vars grown arrays rows v e ∙ ap (λ p. with_variable p (variable v)) view ∙ ap (with_variable old) same)
    ∙ ap (with_row (with_variable old (defined_variable old domain))) defines

pub stands_defined : (vars grown : List FzVar) (arrays : List FzArray) (rows more : List FzRow) (next : ℕ) (v : FzVar) (r : FzRow) (old : Program) (name : RowName) (inputs : List Argument) (domain : Domain) → grown ≡ vars ++ v ∷ [] → more ≡ rows ++ r ∷ [] → items vars arrays rows ≡ old → variable v ≡ defined_variable old domain → row r ≡ defining name inputs (length old.vars) → Stands vars arrays rows next → next < 2 ^ 64 → IsOfSet domain → MayDefine old name inputs domain → Stands grown arrays more (number_after true next)
stands_defined vars grown arrays rows more next v r old name inputs domain e h view same defines s low o m =
    let number : next ≡ next_number old.vars = s.1 ∙ ap (λ (p : Program). next_number p.vars) view in
    let built = built_defined old name inputs domain (ap (λ (p : Program). p.goal) (sym view)) (subst IsBuilt view s.0) (omega (arith, number, low)) o m in
    let after : number_after v.introduced next ≡ next_number (map variable grown) = next_of vars grown v next e s.1 in
    let introduced : v.introduced ≡ true = ap (λ (w : Variable). w.introduced) same in (
      subst IsBuilt (sym (items_defined vars grown arrays rows more v r old name inputs domain e h view same defines)) built,
      ap (λ b. number_after b next) (sym introduced) ∙ after,
    )

-- a variable that is made with the next name
pub named_introduced : (p : Program) (x : Name) (domain : Domain) → x ≡ introduced_name (next_number p.vars) → free x domain ≡ introduced_variable p domain
named_introduced p x domain e = ap (λ y. free y domain) e

pub named_variable : (p : Program) (x : Name) (domain : Domain) → x ≡ introduced_name (next_number p.vars) → made x domain ≡ defined_variable p domain
named_variable p x domain e = ap (λ y. made y domain) e

pub row_of : (name : RowName) (args inputs : List Argument) (k n : ℕ) → args ≡ args_with name inputs k → k ≡ n → row_made name args k ≡ defining name inputs n
row_of name args inputs k n e h = ap (λ xs. row_made name xs k) e ∙ ap (defining name inputs) h
