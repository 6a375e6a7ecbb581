-- The variables of an instance are those of its model: their parts, their defaults, and what is read off by their names.
use Rattle.std.proofs.Common.{◌≡◌, ◌∙◌, ℕ, suc, ℤ, Bool, true, false, List, [], ◌∷◌, ◌++◌, length, map, Option, Some, None, is_none, is_some, append_assoc, refl, sym, ap, subst, arith}
use Rattle.std.specs.List.{flat_map}
use Rattle.std.specs.Option.{option_map}
use Rattle.mz_base.specs.Names.{text_of}
use Rattle.mz_value.specs.Ranges.{Range}
use Rattle.mz_value.specs.Contents.{Content, contents}
use Rattle.mz_value.specs.Contents as values
use Rattle.mz_value.specs.declared.value.ShapeBase.{ShapeBase}
use Rattle.mz_value.specs.declared.value.ShapeBase.TheVariants as shape
use Rattle.mz_core.specs.declared.types.Base.{Base}
use Rattle.mz_core.specs.Order.{no_dims}
use Rattle.mz_core.specs.Tree.{Decl}
use Rattle.mz_arena.specs.Instances.{VarCell, ModelVar}
use Rattle.mz_arena.specs.Values as terms
use Rattle.mz_meaning.specs.Domains.{Domain, Domains, Fixed, Scalar, Places}
use Rattle.mz_meaning.specs.Walk.{Assignment}
use Rattle.mz_meaning.specs.Solutions.{Each}
use Rattle.mz_instance.specs.Parts.{Part, sort_of, base_of, parts_of, next, value_part, var_parts, parts, after_occurrence, cell_ids, ids, after_cells}
use Rattle.mz_instance.specs.Instance.{IsModelVar, AreModelVars, AreOccurring, IsCounted, IsPart, AreParts}
use Rattle.mz_instance.specs.Solved.{IsDefault, AreDefaults, Defaults}
use Rattle.mz_instance.specs.Contents.{is_one}
use Rattle.mz_instance.specs.Laws.{AreSame}
use Rattle.mz_model_meaning.specs.Decoded.{is_shape, all_parts, after_domains, AreShaped, cell_content, cell_contents, Named, domains_in, model_domains, TellsName, Tells}
use Rattle.mz_model_meaning.specs.Modeled.{cell_domain, domains_by, domains_of, IsVarOf, var_head, var_tail, names_of, IsHead, AreVarsOf}
use Rattle.fz_program.specs.Names.{Name}
use Rattle.fz_program.specs.Values.{Values}
use Rattle.fz_program.specs.Flat.{Program}
use Rattle.flat_meaning.specs.Reading.{Layout, Alone, Rows, layout_by, layout, by_place, cell_value, layout_content, read_content}
use Rattle.flat_meaning.specs.Found.{cell_places, places_from, layout_from, AreFound}
use Rattle.mz_headline.specs.Keeping.{IsThereBy, IsThere, IsRead, ReadsBy, Reads}
use Rattle.mz_headline.proofs.Cells.{HasDefault}
use Rattle.mz_headline.proofs.Rows.{HaveDefaults, parts_both, shaped_both, defaults_both, defaults_split}

-- ---- one variable

cell_parts : (m : ModelVar) (cs : List VarCell) → flat_map (λ c. parts_of m.opt (value_part m c)) cs ≡ all_parts (map (cell_domain m) cs)
cell_parts m [] = refl
cell_parts m (c ∷ cs) = ap (λ ps. parts_of m.opt (value_part m c) ++ ps) (cell_parts m cs)

counted_domains : (m : ModelVar) (ix : Option (List Range)) (cs : List VarCell) → IsCounted ix (length cs) → domains_in (domains_by ix (map (cell_domain m) cs)) ≡ map (cell_domain m) cs
counted_domains m (Some ix) cs count = refl
counted_domains m None [] count = refl
counted_domains m None (c ∷ []) count = refl
counted_domains m None (c ∷ d ∷ cs) count = absurd (omega (arith, count))

pub var_domains : (m : ModelVar) → IsModelVar m → domains_in (domains_of m) ≡ map (cell_domain m) m.cells
var_domains m sound = counted_domains m m.index m.cells sound.count

shape_there : (b : ShapeBase) → is_shape (base_of b) ≡ true
shape_there shape.Bool = refl
shape_there shape.Int = refl
shape_there (shape.Enum e) = refl
shape_there shape.SetInt = refl
shape_there (shape.SetEnum e) = refl

first_part : (o : Bool) (p : Part) (ps : List Part) → AreParts (parts_of o p ++ ps) → IsPart p × AreParts ps
first_part true p ps suited = (suited.1.0, suited.1.1)
first_part false p ps suited = suited

cells_shaped : (m : ModelVar) (cs : List VarCell) → IsModelVar m → AreParts (flat_map (λ c. parts_of m.opt (value_part m c)) cs) → AreShaped (map (cell_domain m) cs)
cells_shaped m [] sound suited = tt
cells_shaped m (c ∷ cs) sound suited =
    let both = first_part m.opt (value_part m c) (flat_map (λ c. parts_of m.opt (value_part m c)) cs) suited in
    (record { base = shape_there m.base; part = both.0; allowed = sound.allowed }, cells_shaped m cs sound both.1)

parts_split : (ps qs : List Part) → AreParts (ps ++ qs) → AreParts ps × AreParts qs
parts_split [] qs suited = (tt, suited)
parts_split (p ∷ ps) qs suited = let rest = parts_split ps qs suited.1 in ((suited.0, rest.0), rest.1)

-- ---- the parts of all variables are those of the names, which have domains that there may be

pub record ArePartsOf (ps : List Part) (ds : List Domain) : Type 0 where
  pub same : ps ≡ all_parts ds
  pub shaped : AreShaped ds

pub parts_are : (ds : List Decl) (ms : List ModelVar) → AreVarsOf ds ms → AreModelVars ms → AreParts (parts ms) → ArePartsOf (parts ms) (model_domains (names_of ds ms))
parts_are [] [] vars sound suited = record { same = refl; shaped = tt }
parts_are [] (m ∷ ms) vars sound suited = absurd vars
parts_are (d ∷ ds) ms vars sound suited = by (λ ms vars sound suited. parts_are ds ms vars sound suited) d.ty.ty.var ms vars.0 vars.1 sound suited
  where
    by : ((ms : List ModelVar) → AreVarsOf ds ms → AreModelVars ms → AreParts (parts ms) → ArePartsOf (parts ms) (model_domains (names_of ds ms))) → (v : Bool) (ms : List ModelVar) → IsHead v d ms → AreVarsOf ds (var_tail v ms) → AreModelVars ms → AreParts (parts ms) → ArePartsOf (parts ms) (domains_in (var_head v ms) ++ model_domains (names_of ds (var_tail v ms)))
    by rest false ms head vars sound suited = rest ms vars sound suited
    by rest true [] head vars sound suited = absurd head
    by rest true (m ∷ ms) head vars sound suited =
        let both = parts_split (var_parts m) (parts ms) suited in
        let more = rest ms vars sound.1 both.1 in
        let cells = domains_in (domains_of m) in
        let own = var_domains m sound.0 in
        let first : var_parts m ≡ all_parts cells = cell_parts m m.cells ∙ ap all_parts (sym own) in
        record {
          same = ap (λ ps. ps ++ parts ms) first ∙ ap (λ ps. all_parts cells ++ ps) more.same ∙ sym (parts_both cells (model_domains (names_of ds ms)));
          shaped = shaped_both cells (model_domains (names_of ds ms)) (subst AreShaped (sym own) (cells_shaped m m.cells sound.0 both.0)) more.shaped;
        }

-- ---- defaults by ids and by numbers

record SameDefaults (A B : Type 0) (x v : terms.Values) (k : ℕ) (more : List ℕ) : Type 0 where
  to : A → B
  back : B → A
  rest : AreSame x v k more

cell_default : (c : VarCell) (opt : Bool) (o : Option ℕ) (x v : terms.Values) (k : ℕ) (is more : List ℕ) → is_some o ≡ opt → AreSame x v k ((after_occurrence o c.term ++ is) ++ more) → SameDefaults (IsDefault o c v) (HasDefault opt c.domain k x) x v (next opt k) (is ++ more)
cell_default c false None x v k is more e same = record { to = λ d. tt; back = λ d. tt; rest = same.2 }
cell_default c true None x v k is more e same = absurd (cc)
cell_default c false (Some i) x v k is more e same = absurd (cc)
cell_default c true (Some i) x v k is more e same = record {
  to = λ d other. d (ap is_one (sym same.0) ∙ other) ∙ ap (λ n. Some n) (sym same.2.0);
  back = λ d other. d (ap is_one same.0 ∙ other) ∙ ap (λ n. Some n) same.2.0;
  rest = same.2.2;
}

cell_defaults : (m : ModelVar) (cs : List VarCell) (x v : terms.Values) (k : ℕ) (more : List ℕ) → AreOccurring m.opt cs → AreSame x v k (flat_map cell_ids cs ++ more) → SameDefaults (AreDefaults cs v) (HaveDefaults (map (cell_domain m) cs) k x) x v (after_domains (map (cell_domain m) cs) k) more
cell_defaults m [] x v k more occurring same = record { to = λ d. tt; back = λ d. tt; rest = same }
cell_defaults m (c ∷ cs) x v k more occurring same =
    let first = cell_default c m.opt c.occurs x v k (flat_map cell_ids cs) more occurring.0 same in
    let rest = cell_defaults m cs x v (next m.opt k) more occurring.1 first.rest in
    record { to = λ d. (first.to d.0, rest.to d.1); back = λ d. (first.back d.0, rest.back d.1); rest = rest.rest }

pub record Both (A B : Type 0) : Type 0 where
  pub to : A → B
  pub back : B → A

pub defaults_same : (ds : List Decl) (ms : List ModelVar) (x v : terms.Values) (k : ℕ) → AreVarsOf ds ms → AreModelVars ms → AreSame x v k (ids ms) → Both (Defaults ms v) (HaveDefaults (model_domains (names_of ds ms)) k x)
defaults_same [] [] x v k vars sound same = record { to = λ d. tt; back = λ d. tt }
defaults_same [] (m ∷ ms) x v k vars sound same = absurd vars
defaults_same (d ∷ ds) ms x v k vars sound same = by (λ ms k vars sound same. defaults_same ds ms x v k vars sound same) d.ty.ty.var ms vars.0 vars.1 sound same
  where
    by : ((ms : List ModelVar) (k : ℕ) → AreVarsOf ds ms → AreModelVars ms → AreSame x v k (ids ms) → Both (Defaults ms v) (HaveDefaults (model_domains (names_of ds ms)) k x)) → (b : Bool) (ms : List ModelVar) → IsHead b d ms → AreVarsOf ds (var_tail b ms) → AreModelVars ms → AreSame x v k (ids ms) → Both (Defaults ms v) (HaveDefaults (domains_in (var_head b ms) ++ model_domains (names_of ds (var_tail b ms))) k x)
    by rest false ms head vars sound same = rest ms k vars sound same
    by rest true [] head vars sound same = absurd head
    by rest true (m ∷ ms) head vars sound same =
        let own = var_domains m sound.0 in
        let cells = map (cell_domain m) m.cells in
        let others = model_domains (names_of ds ms) in
        let first = cell_defaults m m.cells x v k (ids ms) sound.0.cells same in
        let more = rest ms (after_domains cells k) vars sound.1 first.rest in
        record {
          to = λ d. subst (λ es. HaveDefaults (es ++ others) k x) (sym own) (defaults_both cells others k x (first.to d.0) (more.to d.1));
          back = λ d. let both = defaults_split cells others k x (subst (λ es. HaveDefaults (es ++ others) k x) own d) in (first.back both.0, more.back both.1);
        }

-- ---- what is read off by names

abbrev dom : Base → Bool → VarCell → Domain
dom b o c = record { base = b; opt = o; set = c.domain }

-- of a name with these domains, whose first part has the number k
abbrev IsContent : Domains → ℕ → terms.Values → Content → Type 0
IsContent Fixed k x c = ⊥
IsContent (Scalar d) k x c = c ≡ cell_content d k x
IsContent (Places ix ds) k x c = c ≡ values.array ix (contents (cell_contents ds k x))

one_value : (b : Base) (o : Bool) (c : VarCell) (k : ℕ) (x : terms.Values) → cell_value b x (cell_places o k) ≡ cell_content (dom b o c) k x
one_value b true c k x = refl
one_value b false c k x = refl

all_values : (b : Base) (o : Bool) (cs : List VarCell) (k : ℕ) (x : terms.Values) → map (cell_value b x) (places_from o k cs) ≡ cell_contents (map (dom b o) cs) k x
all_values b o [] k x = refl
all_values b o (c ∷ cs) k x = ap (λ v. v ∷ map (cell_value b x) (places_from o (next o k) cs)) (one_value b o c k x) ∙ ap (λ vs. cell_content (dom b o c) k x ∷ vs) (all_values b o cs (next o k) x)

pub record HasLayout (o : Option Layout) (b : Base) (ds : Domains) (k : ℕ) (x : terms.Values) : Type 0 where
  pub there : Layout
  pub is : o ≡ Some there
  pub content : IsContent ds k x (layout_content b x there)

layout_there : (b : Base) (o : Bool) (ix : Option (List Range)) (cs : List VarCell) (k : ℕ) (x : terms.Values) → IsCounted ix (length cs) → HasLayout (layout_from ix o k cs) b (domains_by ix (map (dom b o) cs)) k x
layout_there b o None [] k x count = absurd (omega (arith, count))
layout_there b o None (c ∷ d ∷ cs) k x count = absurd (omega (arith, count))
layout_there b o None (c ∷ []) k x count = record { there = Alone (cell_places o k); is = refl; content = one_value b o c k x }
layout_there b o (Some ix) cs k x count = record { there = Rows ix (places_from o k cs); is = refl; content = ap (λ vs. values.array ix (contents vs)) (all_values b o cs k x) }

-- the layout that a declared variable has by its own type
pub decl_layout : (table : List Name) (flat : Program) (d : Decl) (m : ModelVar) → IsVarOf d m → layout d.ty.ty flat (text_of table d.name) ≡ layout_by (is_none m.index) m.opt (sort_of (base_of m.base)) flat (text_of table m.name)
decl_layout table flat d m var =
    ap (λ s. layout_by s d.ty.ty.opt (sort_of d.ty.ty.base) flat (text_of table d.name)) (sym var.index)
    ∙ ap (λ o. layout_by (is_none m.index) o (sort_of d.ty.ty.base) flat (text_of table d.name)) (sym var.opt)
    ∙ ap (λ b. layout_by (is_none m.index) m.opt (sort_of b) flat (text_of table d.name)) (sym var.base)
    ∙ ap (λ n. layout_by (is_none m.index) m.opt (sort_of (base_of m.base)) flat (text_of table n)) (sym var.name)

told_by : (slot : ℕ) (ds : Domains) (k : ℕ) (x : terms.Values) (a : Assignment) (c : Content) → IsContent ds k x c → Both (a slot ≡ Some c) (TellsName slot ds k x a)
told_by slot Fixed k x a c is = absurd is
told_by slot (Scalar d) k x a c is = record { to = λ e. e ∙ ap (λ c. Some c) is; back = λ e. e ∙ ap (λ c. Some c) (sym is) }
told_by slot (Places ix ds) k x a c is = record { to = λ e. e ∙ ap (λ c. Some c) is; back = λ e. e ∙ ap (λ c. Some c) (sym is) }

some_content : {o : Option Content} (b c : Content) → o ≡ Some b → o ≡ Some c → b ≡ c
some_content b c e f = cc

name_read : (table : List Name) (flat : Program) (f : Values) (a : Assignment) (d : Decl) (ds : Domains) (k : ℕ) → HasLayout (layout d.ty.ty flat (text_of table d.name)) d.ty.ty.base ds k (by_place f) → Both (ReadsBy true table flat f a d) (TellsName d.slot ds k (by_place f) a)
name_read table flat f a d ds k has =
    let c = layout_content d.ty.ty.base (by_place f) has.there in
    let read : read_content d.ty.ty flat f (text_of table d.name) ≡ Some c = ap (option_map (layout_content d.ty.ty.base (by_place f))) has.is in
    let told = told_by d.slot ds k (by_place f) a c has.content in
    record {
      to = λ r. told.to (r.assigned ∙ ap (λ c. Some c) (some_content r.content c r.read read));
      back = λ t. record { content = c; read = read; assigned = told.back t };
    }

-- the layout of a declared variable, with what it is read to
var_layout : (table : List Name) (flat : Program) (d : Decl) (m : ModelVar) (k : ℕ) (x : terms.Values) → IsVarOf d m → IsModelVar m → layout_by (is_none m.index) m.opt (sort_of (base_of m.base)) flat (text_of table m.name) ≡ layout_from m.index m.opt k m.cells → HasLayout (layout d.ty.ty flat (text_of table d.name)) d.ty.ty.base (domains_of m) k x
var_layout table flat d m k x var sound found =
    let has = layout_there (base_of m.base) m.opt m.index m.cells k x sound.count in
    record {
      there = has.there;
      is = decl_layout table flat d m var ∙ found ∙ has.is;
      content = subst (λ b. IsContent (domains_of m) k x (layout_content b x has.there)) var.base has.content;
    }

after_same : (m : ModelVar) (cs : List VarCell) (k : ℕ) → after_domains (map (cell_domain m) cs) k ≡ after_cells m.opt cs k
after_same m [] k = refl
after_same m (c ∷ cs) k = after_same m cs (next m.opt k)

pub after_var : (m : ModelVar) (k : ℕ) → IsModelVar m → after_domains (domains_in (domains_of m)) k ≡ after_cells m.opt m.cells k
after_var m k sound = ap (λ ds. after_domains ds k) (var_domains m sound) ∙ after_same m m.cells k

-- what is read off by names is what the values by place tell
pub reads_told : (table : List Name) (flat : Program) (f : Values) (a : Assignment) (ds : List Decl) (ms : List ModelVar) (k : ℕ) → AreVarsOf ds ms → AreModelVars ms → AreFound table flat k ms → Both (Each (Reads table flat f a) ds) (Tells (names_of ds ms) k (by_place f) a)
reads_told table flat f a [] ms k vars sound found = record { to = λ r. tt; back = λ r. tt }
reads_told table flat f a (d ∷ ds) ms k vars sound found = by (λ ms k vars sound found. reads_told table flat f a ds ms k vars sound found) d.ty.ty.var ms vars.0 vars.1 sound found
  where
    by : ((ms : List ModelVar) (k : ℕ) → AreVarsOf ds ms → AreModelVars ms → AreFound table flat k ms → Both (Each (Reads table flat f a) ds) (Tells (names_of ds ms) k (by_place f) a)) → (v : Bool) (ms : List ModelVar) → IsHead v d ms → AreVarsOf ds (var_tail v ms) → AreModelVars ms → AreFound table flat k ms → Both (ReadsBy v table flat f a d × Each (Reads table flat f a) ds) (TellsName d.slot (var_head v ms) k (by_place f) a × Tells (names_of ds (var_tail v ms)) (after_domains (domains_in (var_head v ms)) k) (by_place f) a)
    by rest false ms head vars sound found = let more = rest ms k vars sound found in record { to = λ r. (tt, more.to r.1); back = λ t. (tt, more.back t.1) }
    by rest true [] head vars sound found = absurd head
    by rest true (m ∷ ms) head vars sound found =
        let here = name_read table flat f a d (domains_of m) k (var_layout table flat d m k (by_place f) head sound.0 found.0.layout) in
        let more = rest ms (after_cells m.opt m.cells k) vars sound.1 found.1 in
        let after = after_var m k sound.0 in
        record {
          to = λ r. (here.to r.0, subst (λ j. Tells (names_of ds ms) j (by_place f) a) (sym after) (more.to r.1));
          back = λ t. (here.back t.0, more.back (subst (λ j. Tells (names_of ds ms) j (by_place f) a) after t.1));
        }

-- each variable is there by its name
pub names_there : (table : List Name) (flat : Program) (x : terms.Values) (ds : List Decl) (ms : List ModelVar) (k : ℕ) → AreVarsOf ds ms → AreModelVars ms → AreFound table flat k ms → Each (IsThere table flat) ds
names_there table flat x [] ms k vars sound found = tt
names_there table flat x (d ∷ ds) ms k vars sound found = by (λ ms k vars sound found. names_there table flat x ds ms k vars sound found) d.ty.ty.var ms vars.0 vars.1 sound found
  where
    by : ((ms : List ModelVar) (k : ℕ) → AreVarsOf ds ms → AreModelVars ms → AreFound table flat k ms → Each (IsThere table flat) ds) → (v : Bool) (ms : List ModelVar) → IsHead v d ms → AreVarsOf ds (var_tail v ms) → AreModelVars ms → AreFound table flat k ms → IsThereBy v table flat d × Each (IsThere table flat) ds
    by rest false ms head vars sound found = (tt, rest ms k vars sound found)
    by rest true [] head vars sound found = absurd head
    by rest true (m ∷ ms) head vars sound found =
        let has = var_layout table flat d m k x head sound.0 found.0.layout in
        (ap is_some has.is, rest ms (after_cells m.opt m.cells k) vars sound.1 found.1)
