-- What the walk and the flattening give together of a program.
use Rattle.std.proofs.Common.{◌≡◌, ◌∙◌, ℕ, suc, Bool, true, List, [], ◌∷◌, length, map, refl, sym, ap, subst}
use Rattle.std.specs.Prelude.{Result, Ok, Err}
use Rattle.mz_base.specs.declared.stop.Stop.{Stop}
use Rattle.mz_base.specs.declared.stop.Stop.TheVariants as stop
use Rattle.mz_value.specs.Contents.{Content}
use Rattle.mz_core.specs.Program.{PlainProgram}
use Rattle.mz_core.specs.Tree.{Decl}
use Rattle.mz_arena.specs.Entries.{Entry}
use Rattle.mz_arena.specs.Instances.{ModelVar, Instance}
use Rattle.mz_arena.specs.Numbering.{local_ids}
use Rattle.mz_instance.specs.Parts.{Part, AreNodes}
use Rattle.mz_meaning.specs.Runs.{State, Answer, Out, Stopped, start}
use Rattle.mz_meaning.specs.Cells.{Given}
use Rattle.mz_meaning.specs.Contexts.{Positive}
use Rattle.mz_meaning.specs.Walk.{Limits, Assignment, Declared, Walked, ordered, walk}
use Rattle.mz_meaning_laws.specs.Outlines.{outline_all_declared, outline_walked}
use Rattle.mz_meaning_laws.specs.Independence.{AreSameAnswers}
use Rattle.mz_meaning_laws.proofs.Consequences.{walks_are_alike}
use Rattle.mz_model_meaning.specs.Decoded.{named, all_parts}
use Rattle.mz_model_meaning.specs.Modeled.{names_in, Modeled}
use Rattle.mz_model_meaning.proofs.Ends.{stops}
use Rattle.fz_program.specs.Names.{Name}
use Rattle.fz_program.specs.declared.program.FzProgram.{FzProgram}
use Rattle.fz_program.specs.Flat.{Program, program}
use Rattle.flat_meaning.specs.Faithful.{Faithful}
use Rattle.mz_headline.specs.Keeping.{AreNumbered}
use Rattle.mz_headline.proofs.Rows.{choice_in, some_choices, with_codes}
use Rattle.mz_headline.proofs.Slots.{telling, telling_tells}
use Rattle.mz_headline.proofs.Whole.{boundaries_join}
use Rattle.mz_print_model.specs.Given.{Ends, ModelEnds}
use Rattle.mz_tool.specs.Compiled.{HasFound, Finds, IsCompiled, CompileEnds}

-- ---- what all walks find

outlines_named : (xs : List Declared) → map named (outline_all_declared xs) ≡ map named xs
outlines_named [] = refl
outlines_named (x ∷ xs) = ap (λ ns. named x ∷ ns) (outlines_named xs)

found_too : (ds : List Decl) (vars : List ModelVar) (choices : ℕ) (r q : Answer Walked) → AreSameAnswers outline_walked r q → HasFound ds vars choices r → HasFound ds vars choices q
found_too ds vars choices (Stopped g) q same found = absurd found
found_too ds vars choices (Out x s) (Stopped g) same found = absurd same
found_too ds vars choices (Out x s) (Out y t) same found = (
  sym (outlines_named y.names) ∙ ap (λ (w : Walked). map named w.names) (sym same.0) ∙ outlines_named x.names ∙ found.0,
  ap (λ (u : State). length (all_parts u.taken)) (sym same.1) ∙ found.1,
)

nodes_counted : (es : List Entry) (choice : Bool) (j : ℕ) (is : List ℕ) (ps : List Part) → AreNodes es choice j is ps → length ps ≡ length is
nodes_counted es choice j [] [] nodes = refl
nodes_counted es choice j [] (p ∷ ps) nodes = absurd nodes
nodes_counted es choice j (i ∷ is) [] nodes = absurd nodes
nodes_counted es choice j (i ∷ is) (p ∷ ps) nodes = ap suc (nodes_counted es choice (suc j) is ps nodes.1)

-- one walk finds what the instance has; and then each does
all_find : (l : Limits) (p : PlainProgram) (inst : Instance) → AreNumbered (ordered p.decls p.order) → Modeled l p inst → Finds l p inst.vars (length (local_ids inst.arena))
all_find l p inst numbered modeled =
    let ds = ordered p.decls p.order in
    let x = with_codes [] in
    let a : Assignment = telling (names_in p inst) x in
    let c : ℕ → Content = choice_in modeled.taken 0 x in
    let w = modeled.walks a c x x (telling_tells ds inst.vars x numbered) (some_choices modeled.taken x) in
    let counted : length (all_parts w.end.taken) ≡ length (local_ids inst.arena) = ap (λ ts. length (all_parts ts)) w.takes ∙ nodes_counted inst.arena true 0 (local_ids inst.arena) (all_parts modeled.taken) modeled.locals in
    let one : HasFound ds inst.vars (length (local_ids inst.arena)) (walk Positive l (Given c) a p start) = subst (HasFound ds inst.vars (length (local_ids inst.arena))) (sym w.runs) (w.names, counted) in
    record { each = λ b e. found_too ds inst.vars (length (local_ids inst.arena)) (walk Positive l (Given c) a p start) (walk Positive l (Given e) b p start) ((walks_are_alike l p a b c e).by start) one }

-- ---- the program

made : (l : Limits) (table : List Name) (p : PlainProgram) (inst : Instance) (flat : Program) → AreNumbered (ordered p.decls p.order) → Modeled l p inst → Faithful inst table flat → IsCompiled l table p flat
made l table p inst flat numbered modeled faithful = record {
  keeps = boundaries_join l table p inst flat numbered modeled faithful;
  formed = faithful.formed;
  front = record {
    vars = inst.vars;
    declared = modeled.vars;
    choices = length (local_ids inst.arena);
    found = all_find l p inst numbered modeled;
    introduced = faithful.introduced;
    variables = faithful.vars;
    numbered = faithful.are;
    arrays = faithful.arrays;
    once = faithful.once;
  };
}

-- where the walk goes through
pub flattened : (l : Limits) (table : List Name) (p : PlainProgram) (inst : Instance) (r : Result FzProgram Stop) → AreNumbered (ordered p.decls p.order) → Modeled l p inst → Ends r (λ flat. Faithful inst table (program flat)) (λ f. ⊥) → CompileEnds l table p r
flattened l table p inst (Ok flat) numbered modeled faithful = made l table p inst (program flat) numbered modeled faithful
flattened l table p inst (Err (stop.Refused f)) numbered modeled none = absurd none
flattened l table p inst (Err stop.Memory) numbered modeled none = tt

-- where it stops
pub refused : (l : Limits) (table : List Name) (p : PlainProgram) (s : Stop) → ModelEnds l p (Err s) → CompileEnds l table p (Err s)
refused l table p (stop.Refused f) once = stops l p f once
refused l table p stop.Memory once = tt
