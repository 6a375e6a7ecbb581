-- Assignments that have given values, where slots are numbered.
use Rattle.std.proofs.Common.{◌≡◌, ◌∙◌, ℕ, suc, ◌+◌, ◌<◌, ◌≤◌, Bool, true, false, List, [], ◌∷◌, length, Option, Some, None, is_some, slice_index_or, nat_eq, eq-eqb, ne_eqb, refl, sym, ap, arith, if◌then◌else◌}
use Rattle.std.specs.Option.{option_map}
use Rattle.mz_base.specs.Names.{text_of}
use Rattle.mz_value.specs.Contents.{Content, contents}
use Rattle.mz_value.specs.Contents as values
use Rattle.mz_core.specs.declared.types.Base.{Base}
use Rattle.mz_core.specs.Tree.{Decl}
use Rattle.mz_arena.specs.Instances.{ModelVar}
use Rattle.mz_arena.specs.Values as terms
use Rattle.mz_meaning.specs.Domains.{Domains, Fixed, Scalar, Places}
use Rattle.mz_meaning.specs.Walk.{Assignment}
use Rattle.mz_meaning.specs.Solutions.{Each}
use Rattle.mz_model_meaning.specs.Decoded.{after_domains, cell_content, cell_contents, Named, domains_in, TellsName, Tells}
use Rattle.mz_model_meaning.specs.Modeled.{var_tail, names_of}
use Rattle.fz_program.specs.Names.{Name}
use Rattle.fz_program.specs.Values.{Values}
use Rattle.fz_program.specs.Flat.{Program}
use Rattle.flat_meaning.specs.Reading.{Layout, layout, by_place, layout_content, read_content}
use Rattle.mz_headline.specs.Keeping.{AreNumbered, IsThereBy, IsThere, ReadsBy, Reads}

-- ---- values that are looked up by their slots

pub record Given : Type 0 where
  pub slot : ℕ
  pub value : Option Content

abbrev pub looked_up : List Given → Assignment
looked_up [] s = None
looked_up (g ∷ gs) s = if nat_eq s g.slot then g.value else looked_up gs s

abbrev pub AreFrom : ℕ → List Given → Type 0
AreFrom k [] = Unit {0}
AreFrom k (g ∷ gs) = (g.slot ≡ k) × AreFrom (suc k) gs

given_to : (a : Assignment) (gs : List Given) (k : ℕ) → AreFrom k gs → ((s : ℕ) → k ≤ s → a s ≡ looked_up gs s) → Each (λ (g : Given). a g.slot ≡ g.value) gs
given_to a [] k from same = tt
given_to a (g ∷ gs) k from same =
    let first : a g.slot ≡ g.value = same g.slot (omega (arith, from.0)) ∙ ap (λ b. if b then g.value else looked_up gs g.slot) (eq-eqb g.slot g.slot refl) in
    (first, given_to a gs (suc k) from.1 (λ s below. same s (omega (arith, below)) ∙ ap (λ b. if b then g.value else looked_up gs s) (ne_eqb s g.slot (λ e. omega (arith, e, below, from.0)))))

pub all_given : (gs : List Given) → AreFrom 0 gs → Each (λ (g : Given). looked_up gs g.slot ≡ g.value) gs
all_given gs from = given_to (looked_up gs) gs 0 from (λ s below. refl)

-- ---- slots of declarations

abbrev SlotsFrom : ℕ → List Decl → Type 0
SlotsFrom k [] = Unit {0}
SlotsFrom k (d ∷ ds) = (d.slot ≡ k) × SlotsFrom (suc k) ds

slots_from : (ds : List Decl) (k : ℕ) → ((j : ℕ) (d : Decl) → j < length ds → (slice_index_or ds j d).slot ≡ k + j) → SlotsFrom k ds
slots_from [] k numbered = tt
slots_from (d ∷ ds) k numbered =
    let first : d.slot ≡ k + 0 = numbered 0 d (omega arith) in
    (omega (arith, first), slots_from ds (suc k) (λ j e below. numbered (suc j) e (omega (arith, below)) ∙ omega arith))

slots_are : (ds : List Decl) → AreNumbered ds → SlotsFrom 0 ds
slots_are ds numbered = slots_from ds 0 (λ j d below. numbered j d below ∙ omega arith)

-- ---- an assignment that has the values of parts

abbrev content_in : Domains → ℕ → terms.Values → Option Content
content_in Fixed k x = None
content_in (Scalar d) k x = Some (cell_content d k x)
content_in (Places ix ds) k x = Some (values.array ix (contents (cell_contents ds k x)))

abbrev told : List Named → ℕ → terms.Values → List Given
told [] k x = []
told (n ∷ ns) k x = record { slot = n.slot; value = content_in n.domains k x } ∷ told ns (after_domains (domains_in n.domains) k) x

told_from : (ds : List Decl) (ms : List ModelVar) (j k : ℕ) (x : terms.Values) → SlotsFrom j ds → AreFrom j (told (names_of ds ms) k x)
told_from [] ms j k x slots = tt
told_from (d ∷ ds) ms j k x slots = (slots.0, told_from ds (var_tail d.ty.ty.var ms) (suc j) _ x slots.1)

name_told : (slot : ℕ) (ds : Domains) (k : ℕ) (x : terms.Values) (a : Assignment) → a slot ≡ content_in ds k x → TellsName slot ds k x a
name_told slot Fixed k x a e = tt
name_told slot (Scalar d) k x a e = e
name_told slot (Places ix ds) k x a e = e

names_told : (ns : List Named) (k : ℕ) (x : terms.Values) (a : Assignment) → Each (λ (g : Given). a g.slot ≡ g.value) (told ns k x) → Tells ns k x a
names_told [] k x a given = tt
names_told (n ∷ ns) k x a given = (name_told n.slot n.domains k x a given.0, names_told ns (after_domains (domains_in n.domains) k) x a given.1)

abbrev pub telling : List Named → terms.Values → Assignment
telling ns x = looked_up (told ns 0 x)

pub telling_tells : (ds : List Decl) (ms : List ModelVar) (x : terms.Values) → AreNumbered ds → Tells (names_of ds ms) 0 x (telling (names_of ds ms) x)
telling_tells ds ms x numbered = names_told (names_of ds ms) 0 x (telling (names_of ds ms) x) (all_given (told (names_of ds ms) 0 x) (told_from ds ms 0 0 x (slots_are ds numbered)))

-- ---- an assignment that is read off

abbrev read : List Name → Program → Values → List Decl → List Given
read table flat f [] = []
read table flat f (d ∷ ds) = record { slot = d.slot; value = read_content d.ty.ty flat f (text_of table d.name) } ∷ read table flat f ds

read_from : (table : List Name) (flat : Program) (f : Values) (ds : List Decl) (k : ℕ) → SlotsFrom k ds → AreFrom k (read table flat f ds)
read_from table flat f [] k slots = tt
read_from table flat f (d ∷ ds) k slots = (slots.0, read_from table flat f ds (suc k) slots.1)

nothing_read : (o : Option Layout) (b : Base) (x : terms.Values) → is_some o ≡ true → option_map (layout_content b x) o ≡ None → ⊥
nothing_read None b x there none = cc
nothing_read (Some l) b x there none = cc

decl_read : (v : Bool) (table : List Name) (flat : Program) (f : Values) (a : Assignment) (d : Decl) → IsThereBy v table flat d → a d.slot ≡ read_content d.ty.ty flat f (text_of table d.name) → ReadsBy v table flat f a d
decl_read false table flat f a d there e = tt
decl_read true table flat f a d there e = by (read_content d.ty.ty flat f (text_of table d.name)) refl
  where
    by : (o : Option Content) → read_content d.ty.ty flat f (text_of table d.name) ≡ o → ReadsBy true table flat f a d
    by None none = absurd (nothing_read (layout d.ty.ty flat (text_of table d.name)) d.ty.ty.base (by_place f) there none)
    by (Some c) some = record { content = c; read = some; assigned = e ∙ some }

decls_read : (table : List Name) (flat : Program) (f : Values) (a : Assignment) (ds : List Decl) → Each (IsThere table flat) ds → Each (λ (g : Given). a g.slot ≡ g.value) (read table flat f ds) → Each (Reads table flat f a) ds
decls_read table flat f a [] there given = tt
decls_read table flat f a (d ∷ ds) there given = (decl_read d.ty.ty.var table flat f a d there.0 given.0, decls_read table flat f a ds there.1 given.1)

abbrev pub reading : List Name → Program → Values → List Decl → Assignment
reading table flat f ds = looked_up (read table flat f ds)

pub reading_reads : (table : List Name) (flat : Program) (f : Values) (ds : List Decl) → AreNumbered ds → Each (IsThere table flat) ds → Each (Reads table flat f (reading table flat f ds)) ds
reading_reads table flat f ds numbered there = decls_read table flat f (reading table flat f ds) ds there (all_given (read table flat f ds) (read_from table flat f ds 0 (slots_are ds numbered)))
