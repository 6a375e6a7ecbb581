-- The text of a solution, by its default or by its items.
use Rattle.std.proofs.Common.{◌≡◌, ◌∙◌, ℕ, ◌<◌, List, [], ◌∷◌, ◌++◌, ℤ, length, Bool, true, false, Option, Some, None, map, nat_eq, if◌then◌else◌, refl, sym, ap, arith}
use Rattle.std.proofs.lemmas.Bool.Decides.{nat_tests}
use Rattle.std.proofs.lemmas.Bool.{false≢true}
use Rattle.std.proofs.lemmas.List.{length-map, nil_from_length}
use Rattle.std.specs.List.{AllByRecursion}
use Rattle.mz_value.specs.Contents.{Content}
use Rattle.mz_core.specs.Program.{PlainProgram}
use Rattle.mz_core.specs.Tree.{Tree, Decl}
use Rattle.mz_meaning.specs.Runs.{start, then_do}
use Rattle.mz_meaning.specs.Cells.{Bare}
use Rattle.mz_meaning.specs.Walk.{Assignment}
use Rattle.mz_eval_scopes.specs.Views.{world_for}
use Rattle.mz_print.specs.Output.{OutputName, assigned, variable_slots, output_env, output_items, joined_items, default_text, text_by, output_text, is_shown}
use Rattle.mz_print_stream.specs.Printing.{says}
use Rattle.mz_print.specs.declared.lines.Line.{Line}
use Rattle.mz_print.specs.Lines.{IsNamed, line_at, line_of, lines_of, place_of}
use Rattle.mz_print.specs.Items.{text_of, items_text}
use Rattle.mz_print.specs.Printers.{limits_of, texts_of, IsDeclNamed}

pub by_default : (table : List (List ℕ)) (budget : ℕ) (n : ℤ) (p : PlainProgram) (xs : List OutputName) (values : List Content) (block : ℕ) → p.outputs ≡ [] → texts_of table budget n p xs values block ≡ says (default_text table p (assigned (variable_slots xs) values))
unfolding output_text
by_default table budget n p xs values block none = ap (λ es. text_of (text_by table (limits_of budget n) Bare p xs (assigned (variable_slots xs) values) block es start)) none

some_items : (table : List (List ℕ)) (budget : ℕ) (n : ℤ) (p : PlainProgram) (xs : List OutputName) (a : Assignment) (block : ℕ) (es : List Tree) → (es ≡ [] → ⊥) → text_of (text_by table (limits_of budget n) Bare p xs a block es start) ≡ text_of (then_do (output_items (world_for p budget n (output_env a xs)) es start) (joined_items block))
some_items table budget n p xs a block [] some = absurd (some refl)
some_items table budget n p xs a block (e ∷ es) some = refl

pub by_items : (table : List (List ℕ)) (budget : ℕ) (n : ℤ) (p : PlainProgram) (xs : List OutputName) (values : List Content) (block : ℕ) → (p.outputs ≡ [] → ⊥) → texts_of table budget n p xs values block ≡ items_text p budget n (output_env (assigned (variable_slots xs) values) xs) block
unfolding output_text
by_items table budget n p xs values block some = some_items table budget n p xs (assigned (variable_slots xs) values) block p.outputs some

-- the lines of named declarations are named

line_named : (table : List (List ℕ)) (name : ℕ) (o : Option ℕ) → name < length table → AllByRecursion (IsNamed table) (line_at name o)
line_named table name None l = tt
line_named table name (Some k) l = (l, tt)

if_named : (table : List (List ℕ)) (b : Bool) (ls : List Line) → AllByRecursion (IsNamed table) ls → AllByRecursion (IsNamed table) (if b then ls else [])
if_named table true ls h = h
if_named table false ls h = tt

both_named : (table : List (List ℕ)) (xs ys : List Line) → AllByRecursion (IsNamed table) xs → AllByRecursion (IsNamed table) ys → AllByRecursion (IsNamed table) (xs ++ ys)
both_named table [] ys h k = k
both_named table (x ∷ xs) ys h k = (h.0, both_named table xs ys h.1 k)

pub lines_named : (table : List (List ℕ)) (slots : List ℕ) (ds : List Decl) → AllByRecursion (IsDeclNamed table) ds → AllByRecursion (IsNamed table) (lines_of slots ds)
lines_named table slots [] h = tt
lines_named table slots (d ∷ ds) h = both_named table (line_of slots d) (lines_of slots ds) (if_named table (is_shown d) (line_at d.name (place_of d.slot slots)) (line_named table d.name (place_of d.slot slots) h.0)) (lines_named table slots ds h.1)

-- whether there is an item

empty_is : (n : ℕ) → nat_eq n 0 ≡ true → n ≡ 0
empty_is n h = grind (arith, nat_tests)

not_empty : (n : ℕ) → nat_eq n 0 ≡ false → n ≡ 0 → ⊥
not_empty n h z = absurd (false≢true (sym h ∙ ap (λ m. nat_eq m 0) z))

pub no_items : {X : Type 0} (f : X → Tree) (xs : List X) (n : ℕ) → n ≡ length xs → nat_eq n 0 ≡ true → map f xs ≡ []
no_items f xs n l h = ap (λ ys. map f ys) (nil_from_length xs (sym l ∙ empty_is n h))

nil_length : {X : Type 0} (f : X → Tree) (xs : List X) → map f xs ≡ [] → length xs ≡ 0
nil_length f xs e = sym (length-map xs f) ∙ ap length e

pub has_items : {X : Type 0} (f : X → Tree) (xs : List X) (n : ℕ) → n ≡ length xs → nat_eq n 0 ≡ false → map f xs ≡ [] → ⊥
has_items f xs n l h e = not_empty n h (l ∙ nil_length f xs e)
