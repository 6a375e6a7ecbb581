-- What the arms of matches on the code's forms and items give.
use Rattle.std.proofs.lemmas.List.{drop_all}
use Rattle.std.proofs.Common.{◌≡◌, ◌∙◌, ℕ, suc, ◌<◌, ◌≤◌, Bool, false, List, [], ◌∷◌, ◌++◌, Ok, Err, Vec, Global, map, drop, length, get_or, nat_eq, refl, ap, sym, drop-cons}
use Rattle.std.specs.Vec.{vec_len}
use Rattle.mz_base.specs.declared.fault.Span.{Span}
use Rattle.mz_base.specs.declared.fault.Fault.{Fault}
use Rattle.mz_core.specs.Tree as typed
use Rattle.mz_tree.specs.declared.expr.Expr.{Expr}
use Rattle.mz_tree.specs.declared.expr.Decl.{Decl}
use Rattle.mz_tree.specs.declared.expr.Form.{Form}
use Rattle.mz_tree.specs.declared.expr.LetItem.{LetItem}
use Rattle.mz_tree.specs.declared.expr.Form.TheVariants as forms
use Rattle.mz_tree.specs.declared.expr.LetItem.TheVariants as lets
use Rattle.mz_tree.specs.declared.expr.Form.TheViews.{out-Form, out-LetItem}
use Rattle.mz_tree.specs.Tree.{Name}
use Rattle.mz_tree.specs.Views.{tree}
use Rattle.mz_check_meaning.specs.Tests.{Test, ◌>>=◌, loop, one_more}
use Rattle.mz_check_meaning.specs.Models.{Model, Env}
use Rattle.mz_check_meaning.specs.Arrays.{tabled}
use Rattle.mz_check_meaning.specs.Calls.{applied}
use Rattle.mz_check_meaning.specs.Forms.{parts, row_parts, call_of, Declared, let_next}
use Rattle.mz_check_meaning.specs.Typing.{check}
use Rattle.mz_check_forms.proofs.Passing.{each_stops}
use Rattle.mz_check_context.specs.declared.local.TypedItem.{TypedItem}
use Rattle.mz_check_context.specs.Views.{typed_item}
use Rattle.mz_check_exprs.specs.StepsForms.{expression, form_layer, item_layer, local_next}
use Rattle.mz_check_exprs.specs.Views.{declared_in}
use Rattle.mz_check_exprs.proofs.Layers.{local_is}

some_args : (m : Model) (at : Span) (n : Name) (env : Env) (es : List Expr) → nat_eq (length es) 0 ≡ false → call_of m at n (map (expression m) es) env ≡ (parts (map (expression m) es) env >>= λ ts. applied m at n ts)
some_args m at n env [] h = absurd (cc)
some_args m at n env (e ∷ es) h = refl

-- a call with arguments
pub call_made : (m : Model) (f : Form) (n : Name) (xs : Vec Expr Global) (slice : List Expr) (b : Bool) (at : Span) (env : Env) (ts : List typed.Tree) → f ≡ forms.Call n xs → slice ≡ xs.items → length slice ≡ vec_len xs → b ≡ nat_eq (vec_len xs) 0 → b ≡ false → parts (map (expression m) slice) env ≡ Ok ts → applied m at n ts ≡ form_layer m (out-Form f) at env
call_made m f n xs slice b at env ts is same long empty some_there ok =
    let some : nat_eq (length slice) 0 ≡ false = ap (λ z. nat_eq z 0) long ∙ sym empty ∙ some_there in
    sym (ap (λ g. form_layer m g at env) (ap out-Form is ∙ forms.outs-Call n xs)
    ∙ ap (λ es. call_of m at n (map (expression m) es) env) (sym same)
    ∙ some_args m at n env slice some
    ∙ ap (λ (r : Test (List typed.Tree)). r >>= λ es. applied m at n es) ok)

rows_layer : (m : Model) (f : Form) (rows : Vec (Vec Expr Global) Global) (slice : List (Vec Expr Global)) (at : Span) (env : Env) → f ≡ forms.Rows rows → slice ≡ rows.items → form_layer m (out-Form f) at env ≡ (loop (one_more (row_parts env)) [] (map (λ r. map (expression m) r.items) slice) >>= λ ts. tabled at ts)
rows_layer m f rows slice at env is same =
    ap (λ g. form_layer m g at env) (ap out-Form is ∙ forms.outs-Rows rows)
    ∙ ap (λ rs. loop (one_more (row_parts env)) [] (map (λ r. map (expression m) r.items) rs) >>= λ ts. tabled at ts) (sym same)

-- all rows are typed
pub rows_made : (m : Model) (f : Form) (rows : Vec (Vec Expr Global) Global) (slice : List (Vec Expr Global)) (lines : List (List typed.Tree)) (i : ℕ) (at : Span) (env : Env) → f ≡ forms.Rows rows → slice ≡ rows.items → loop (one_more (row_parts env)) [] (map (λ r. map (expression m) r.items) slice) ≡ loop (one_more (row_parts env)) lines (map (λ r. map (expression m) r.items) (drop i slice)) → length slice ≤ i → tabled at lines ≡ form_layer m (out-Form f) at env
rows_made m f rows slice lines i at env is same built end =
    sym (rows_layer m f rows slice at env is same
    ∙ ap (λ (r : Test (List (List typed.Tree))). r >>= λ ts. tabled at ts) (built ∙ ap (λ rs. loop (one_more (row_parts env)) lines (map (λ r. map (expression m) r.items) rs)) (drop_all i slice end)))

-- a row is refused
pub rows_refused : (m : Model) (f : Form) (rows : Vec (Vec Expr Global) Global) (slice : List (Vec Expr Global)) (lines : List (List typed.Tree)) (i : ℕ) (row : Vec Expr Global) (part : List Expr) (at : Span) (env now : Env) (z : Fault) → f ≡ forms.Rows rows → slice ≡ rows.items → loop (one_more (row_parts env)) [] (map (λ r. map (expression m) r.items) slice) ≡ loop (one_more (row_parts env)) lines (map (λ r. map (expression m) r.items) (drop i slice)) → i < length slice → row ≡ get_or slice i row → part ≡ row.items → now ≡ env → parts (map (expression m) part) now ≡ Err z → form_layer m (out-Form f) at env ≡ Err z
rows_refused m f rows slice lines i row part at env now z is same built within at_row same_part kept refused =
    let here : parts (map (expression m) row.items) env ≡ Err z = sym (ap (λ es. parts (map (expression m) es) now) same_part ∙ ap (λ s. parts (map (expression m) row.items) s) kept) ∙ refused in
    let rest : drop i slice ≡ row ∷ drop (suc i) slice = rw (drop-cons slice i row within, ← at_row) refl in
    rows_layer m f rows slice at env is same
    ∙ ap (λ (r : Test (List (List typed.Tree))). r >>= λ ts. tabled at ts)
    (built ∙ ap (λ rs. loop (one_more (row_parts env)) lines (map (λ r. map (expression m) r.items) rs)) rest
    ∙ each_stops (row_parts env) lines (map (expression m) row.items) (map (λ r. map (expression m) r.items) (drop (suc i) slice)) z here)

-- a declaration of a let
pub decl_made : (m : Model) (start : ℕ) (acc : Declared) (l : LetItem) (d : Decl) → l ≡ lets.Decl d → local_next m start acc d ≡ let_next start acc (item_layer m (out-LetItem l))
decl_made m start acc l d is = sym (ap (λ i. let_next start acc (item_layer m i)) (ap out-LetItem is ∙ lets.outs-Decl d) ∙ local_is m start acc d)

-- a constraint of a let
pub constraint_made : (m : Model) (start : ℕ) (old new : List TypedItem) (s after : Env) (l : LetItem) (x : Expr) (e : typed.Tree) → l ≡ lets.Constraint x → check m (tree x) s ≡ Ok e → map typed_item new ≡ map typed_item old ++ typed.constrains e ∷ [] → after ≡ s → let_next start (declared_in old s) (item_layer m (out-LetItem l)) ≡ Ok (declared_in new after)
constraint_made m start old new s after l x e is ok built kept =
    ap (λ i. let_next start (declared_in old s) (item_layer m i)) (ap out-LetItem is ∙ lets.outs-Constraint x) ∙ rw (ok, built, kept) refl
