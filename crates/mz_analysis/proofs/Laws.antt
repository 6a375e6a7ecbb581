-- The law: all nodes of a program that is typed with its data respect par.
use Rattle.std.proofs.Common.{◌≡◌, ℕ, ◌+◌, List, [], ◌∷◌, ◌++◌, Ok, map, sym, subst}
use Rattle.std.specs.List.{flat_map, AllByRecursion}
use Rattle.mz_core.specs.Tree.{Tree, Decl, DeclaredType, declares, maybe, maybes}
use Rattle.mz_core.specs.Program.{Function, Goal, satisfy, minimize, maximize, PlainProgram}
use Rattle.mz_scope_order.specs.Scoped.{ScopedTree}
use Rattle.mz_scope_order.specs.Subjects.{Subject}
use Rattle.mz_check_meaning.specs.Tests.{Test, ◌>>=◌, each}
use Rattle.mz_check_meaning.specs.Models.{Model}
use Rattle.mz_check_meaning.specs.Headings.{with_types}
use Rattle.mz_check_meaning.specs.Items.{decl, function, constraint, goal, output}
use Rattle.mz_check_meaning.specs.Checks.{numbered, untyped, Sections, sections}
use Rattle.mz_check_data.specs.WithData.{with_value, with_values, checked_given, checked_with_data, ChecksWithData}
use Rattle.mz_check_data.proofs.Parted.{parted}
use Rattle.mz_check_meaning.proofs.Giving.{AllBy, all_both, Gives, gives_then, gives_after}
use Rattle.mz_core.specs.Nodes.{nodes_in, in_maybe, in_maybes, in_decl, in_type, in_function, in_goal, nodes_of}
use Rattle.mz_analysis.specs.Par.{RespectsPar}
use Rattle.mz_check_meaning.proofs.Leaves.{IsKept, IsKeptType, IsKeptDecl, items_kept, maybe_kept, maybes_kept}
use Rattle.mz_check_data.proofs.Models.{IsKeptFunction, IsKeptGoal}
use Rattle.mz_analysis.proofs.ParNodes.{par_rules}
use Rattle.mz_analysis.proofs.Sound.{AreSoundSections, checked_sound}
use Rattle.mz_analysis.proofs.ParPrograms.{AreNumbered, decls_numbered, all_hold}

-- ---- the nodes of sections

decl_nodes : (d : Decl) → IsKeptDecl par_rules d → AllBy RespectsPar (in_decl d)
decl_nodes d h = items_kept par_rules (declares d ∷ []) (h, tt)

type_nodes : (t : DeclaredType) → IsKeptType par_rules t → AllBy RespectsPar (in_type t)
type_nodes t h = all_both RespectsPar (in_maybes (maybes t.index)) (in_maybe (maybe t.set)) (maybes_kept par_rules t.index h.0) (maybe_kept par_rules t.set h.1)

all_nodes : {A : Type 0} (Q : A → Type 0) (nodes : A → List Tree) → ((x : A) → Q x → AllBy RespectsPar (nodes x)) → (xs : List A) → AllBy Q xs → AllBy RespectsPar (flat_map nodes xs)
all_nodes Q nodes go [] h = tt
all_nodes Q nodes go (x ∷ xs) h = all_both RespectsPar (nodes x) (flat_map nodes xs) (go x h.0) (all_nodes Q nodes go xs h.1)

function_nodes : (f : Function) → IsKeptFunction par_rules f → AllBy RespectsPar (in_function f)
function_nodes f h =
    all_both RespectsPar (flat_map in_decl f.params) (in_type f.result ++ nodes_in f.body) (all_nodes (IsKeptDecl par_rules) in_decl decl_nodes f.params h.0)
    (all_both RespectsPar (in_type f.result) (nodes_in f.body) (type_nodes f.result h.1.0) h.1.1)

goal_nodes : (g : Goal) → IsKeptGoal par_rules g → AllBy RespectsPar (in_goal g)
goal_nodes satisfy h = tt
goal_nodes (minimize e) h = h
goal_nodes (maximize e) h = h

-- ---- the declarations of sections are numbered

abbrev HasNumbers : Sections → Type 0
HasNumbers all = AreNumbered 0 all.decls

sections_numbered : (s : ScopedTree) (m : Model) → Gives (sections s m) HasNumbers
unfolding sections
sections_numbered s m =
    let last : List Decl → List Function → List Tree → Goal → List Tree → Test Sections = λ ds fs cs g os. Ok (record { decls = ds; functions = fs; constraints = cs; goal = g; outputs = os }) in
    let outputs : List Decl → List Function → List Tree → Goal → Test Sections = λ ds fs cs g. each (output m) s.outputs >>= λ os. last ds fs cs g os in
    let objectives : List Decl → List Function → List Tree → Test Sections = λ ds fs cs. goal m s.goal >>= λ g. outputs ds fs cs g in
    let constraints : List Decl → List Function → Test Sections = λ ds fs. each (constraint m) s.constraints >>= λ cs. objectives ds fs cs in
    let functions : List Decl → Test Sections = λ ds. each (λ f. function m f.0 f.1) (numbered s.functions) >>= λ fs. constraints ds fs in
    gives_then (AreNumbered 0) HasNumbers (each (λ d. decl m d.0 d.1) (numbered s.decls)) functions (decls_numbered m s.decls) (λ ds a.
    gives_after HasNumbers (each (λ f. function m f.0 f.1) (numbered s.functions)) (constraints ds) (λ fs.
    gives_after HasNumbers (each (constraint m) s.constraints) (objectives ds fs) (λ cs.
    gives_after HasNumbers (goal m s.goal) (outputs ds fs cs) (λ g.
    gives_after HasNumbers (each (output m) s.outputs) (last ds fs cs g) (λ os. a)))))

-- ---- the sections with the values of data

from_ok : {A : Type 0} (Q : A → Type 0) (t : Test A) (x : A) → t ≡ Ok x → Gives t Q → Q x
from_ok Q t x e h = subst (λ r. Gives r Q) e h

-- a value changes no slot
slots_stay : (vs : List (ℕ × Tree)) (k : ℕ) (ds : List Decl) → AreNumbered k ds → AreNumbered k (map (with_value vs) ds)
slots_stay vs k [] h = tt
slots_stay vs k (d ∷ ds) h = (h.0, slots_stay vs (k + 1) ds h.1)

valued_numbered : (vs : List (ℕ × Tree)) (all : Sections) → HasNumbers all → HasNumbers (with_values vs all)
unfolding with_values
valued_numbered vs all h = slots_stay vs 0 all.decls h

given_numbered : (s : ScopedTree) (m : Model) (all : Sections) → checked_given s m ≡ Ok all → HasNumbers all
given_numbered s m all e =
    let p = parted s m all e in
    let before = from_ok HasNumbers (sections s m) p.before p.typed (sections_numbered s m) in
    subst HasNumbers (sym p.is) (valued_numbered p.values p.before before)

checked_numbered : (texts : List (List ℕ)) (s : ScopedTree) (order : List Subject) (all : Sections) → checked_with_data texts s order ≡ Ok all → HasNumbers all
unfolding checked_with_data
checked_numbered texts s order all e = given_numbered s (with_types s (untyped texts s) order) all e

-- ---- the whole

by_recursion : {A : Type 0} (Q : A → Type 0) (xs : List A) → AllBy Q xs → AllByRecursion Q xs
by_recursion Q [] h = tt
by_recursion Q (x ∷ xs) h = (h.0, by_recursion Q xs h.1)

tree_nodes : (e : Tree) → IsKept par_rules e → AllBy RespectsPar (nodes_in e)
tree_nodes e h = h

program_nodes : (all : Sections) (p : PlainProgram) → AreSoundSections all → AllBy (IsKeptDecl par_rules) p.decls → p.functions ≡ all.functions → p.constraints ≡ all.constraints → p.goal ≡ all.goal → p.outputs ≡ all.outputs → AllBy RespectsPar (nodes_of p)
unfolding nodes_of
program_nodes all p h ds fs cs g os =
    all_both RespectsPar (flat_map in_decl p.decls) _ (all_nodes (IsKeptDecl par_rules) in_decl decl_nodes p.decls ds)
    (all_both RespectsPar (flat_map in_function p.functions) _ (all_nodes (IsKeptFunction par_rules) in_function function_nodes p.functions (subst (AllBy (IsKeptFunction par_rules)) (sym fs) h.functions))
    (all_both RespectsPar (flat_map nodes_in p.constraints) _ (all_nodes (IsKept par_rules) nodes_in tree_nodes p.constraints (subst (AllBy (IsKept par_rules)) (sym cs) h.constraints))
    (all_both RespectsPar (in_goal p.goal) _ (goal_nodes p.goal (subst (IsKeptGoal par_rules) (sym g) h.goal))
    (all_nodes (IsKept par_rules) nodes_in tree_nodes p.outputs (subst (AllBy (IsKept par_rules)) (sym os) h.outputs)))))

pub nodes_respect_par : (texts : List (List ℕ)) (s : ScopedTree) (p : PlainProgram) → ChecksWithData texts s p → AllByRecursion RespectsPar (nodes_of p)
nodes_respect_par texts s p c =
    let h = from_ok AreSoundSections (checked_with_data texts s c.order) c.all c.are (checked_sound texts s c.order) in
    let numbers = checked_numbered texts s c.order c.all c.are in
    let decls = all_hold p.decls c.all.decls p.order c.program.ordered c.program.counted numbers (IsKeptDecl par_rules) h.decls in
    by_recursion RespectsPar (nodes_of p) (program_nodes c.all p h decls c.program.functions c.program.constraints c.program.goal c.program.outputs)
