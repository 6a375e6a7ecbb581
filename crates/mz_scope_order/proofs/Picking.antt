-- Loops that pick from a list: what one more element adds.
use Rattle.std.proofs.Common.{◌≡◌, ℕ, ◌+◌, ◌<◌, ◌≤◌, List, [], ◌∷◌, ◌++◌, refl, ap, sym, ◌∙◌, map, length, drop, get_or, append_assoc, append-nil, Option, Vec}
use Rattle.std.specs.Global.{Global}
use Rattle.std.specs.Option.{option_map}
use Rattle.std.proofs.lemmas.List.{map_push, drop_all}
use Rattle.std.specs.List.{flat_map}
use Rattle.mz_base.specs.declared.fault.Span.{Span}
use Rattle.mz_tree.specs.Tree.{Name}
use Rattle.mz_tree.specs.Items.{item}
use Rattle.mz_tree.specs.Data.{Given}
use Rattle.mz_tree.specs.declared.expr.Expr.{Expr}
use Rattle.mz_tree.specs.declared.item.Item.{Item}
use Rattle.mz_tree.specs.declared.item.Item.TheVariants as items
use Rattle.mz_tree.specs.declared.item.Function.{Function}
use Rattle.mz_scope_order.proofs.NameTables.{dropped}
use Rattle.mz_scope_order.specs.Parts.{EnumTree, function_in, constraint_in, output_in}
use Rattle.mz_scope_order.specs.StepsParts.{own_cases, cases_of_given, enum_by}
use Rattle.mz_scope_order.specs.StepsTables.{name_assigned, value_assigned}

-- the list so far, before what the rest gives, is the whole
pub one_picked : {X Y : Type 0} (f : X → List Y) (xs : List X) (i : ℕ) (x : X) (whole done now : List Y) → whole ≡ done ++ flat_map f (drop i xs) → i < length xs → x ≡ get_or xs i x → now ≡ done ++ f x → whole ≡ now ++ flat_map f (drop (i + 1) xs)
one_picked {Y = Y} f xs i x whole done now k h e g =
    let rest : List Y = flat_map f (drop (i + 1) xs) in
    k ∙ ap (λ z. done ++ flat_map f z) (dropped xs i x x h e) ∙ sym (append_assoc done (f x) rest) ∙ ap (λ z. z ++ rest) (sym g)

-- one that is picked, and seen as what it stands for
pub picked : {A Y : Type 0} (see : A → Y) (done now : List A) (a : A) (ys : List Y) → now ≡ done ++ a ∷ [] → ys ≡ see a ∷ [] → map see now ≡ map see done ++ ys
picked see done now a ys p q = ap (λ z. map see z) p ∙ map_push see done a ∙ ap (λ z. map see done ++ z) (sym q)

-- and one that isn't
pub passed : {Y : Type 0} (done now ys : List Y) → now ≡ done → ys ≡ [] → now ≡ done ++ ys
passed done now ys p q = p ∙ sym (append-nil done) ∙ ap (λ z. done ++ z) (sym q)

-- A loop that maps a list

pub one_mapped : {X Y : Type 0} (f : X → Y) (xs : List X) (i : ℕ) (x : X) (done now whole : List Y) → done ++ map f (drop i xs) ≡ whole → i < length xs → x ≡ get_or xs i x → now ≡ done ++ f x ∷ [] → now ++ map f (drop (i + 1) xs) ≡ whole
one_mapped f xs i x done now whole k h e g =
    ap (λ z. z ++ map f (drop (i + 1) xs)) g ∙ append_assoc done (f x ∷ []) (map f (drop (i + 1) xs)) ∙ sym (ap (λ z. done ++ map f z) (dropped xs i x x h e)) ∙ k

pub all_mapped : {X Y : Type 0} (f : X → Y) (xs : List X) (i : ℕ) (done whole : List Y) → done ++ map f (drop i xs) ≡ whole → length xs ≤ i → done ≡ whole
all_mapped f xs i done whole k h = sym (ap (λ z. done ++ map f z) (drop_all i xs h) ∙ append-nil done) ∙ k

-- Items of another kind give nothing

pub no_function : (i : Item) → ((f : Function) → i ≡ items.Function f → ⊥) → function_in (item i) ≡ []
no_function (items.Function f) n = absurd (n f refl)
no_function i n = refl

pub no_constraint : (i : Item) → ((e : Expr) → i ≡ items.Constraint e → ⊥) → constraint_in (item i) ≡ []
no_constraint (items.Constraint e) n = absurd (n e refl)
no_constraint i n = refl

pub no_output : (i : Item) → ((e : Expr) → i ≡ items.Output e → ⊥) → output_in (item i) ≡ []
no_output (items.Output e) n = absurd (n e refl)
no_output i n = refl

pub no_name : (i : Item) → ((n : Name) (s : Span) (e : Expr) → i ≡ items.Assign n s e → ⊥) → name_assigned (item i) ≡ []
no_name (items.Assign m s e) n = absurd (n m s e refl)
no_name i n = refl

pub no_value : (i : Item) → ((n : Name) (s : Span) (e : Expr) → i ≡ items.Assign n s e → ⊥) → value_assigned (item i) ≡ []
no_value (items.Assign m s e) n = absurd (n m s e refl)
no_value i n = refl

-- an enum, with its cases

abbrev one_enum : Name → Span → List (Name × Span) → List EnumTree
one_enum n s cs = record { name = n; span = s; cases = cs } ∷ []

pub enum_picked : (f : Name → Option Given) (i : Item) (n : Name) (s : Span) (cs : Option (Vec (Name × Span) Global)) (all : List (Name × Span)) → i ≡ items.Enum n s cs → all ≡ own_cases (option_map (λ v. v.items) cs) (cases_of_given (f n)) → enum_by f (item i) ≡ one_enum n s all
enum_picked f i n s cs all is q = ap (λ z. enum_by f (item z)) is ∙ ap (λ z. one_enum n s z) (sym q)

pub no_enum : (f : Name → Option Given) (i : Item) → ((n : Name) (s : Span) (cs : Option (Vec (Name × Span) Global)) → i ≡ items.Enum n s cs → ⊥) → enum_by f (item i) ≡ []
no_enum f (items.Enum m s cs) n = absurd (n m s cs refl)
no_enum f i n = refl
