-- What is made of what is in hand is an instance.
use Rattle.std.proofs.Common.{◌≡◌, ◌≢◌, ◌∙◌, ℕ, zero, suc, Bool, true, false, List, [], ◌∷◌, ◌++◌, map, Option, Some, slice_get, refl, sym, ap, subst, arith}
use Rattle.std.proofs.lemmas.Int.{ints}
use Rattle.mz_arena.specs.Entries.{Entry}
use Rattle.mz_arena.specs.Instances.{Instance}
use Rattle.mz_instance.specs.Instance.{IsInstance, IsPart, AreParts, CanTake, AreTruths, IsObjective}
use Rattle.mz_instance.specs.Parts.{Part, occurrence, parts_of, is_subset_sort, IsNode, AreNodes}
use Rattle.mz_meaning.specs.Domains.{Domain}
use Rattle.mz_model_meaning.specs.Decoded.{AreShaped}
use Rattle.mz_symbol.specs.Choices.{value_part, all_parts, AreChoosable}
use Rattle.mz_symbol.specs.Symbols.{domain_of, free_ids}
use Rattle.mz_symbol.specs.Runs.{Run, taken}
use Rattle.mz_model_state.specs.Hands.{HeldName, all_places}
use Rattle.mz_model_state.specs.Made.{IsMade}
use Rattle.mz_model_state.proofs.Variables.{parts_made, nodes_made}

-- ---- the parts of variables

occurrence_part : IsPart occurrence
occurrence_part = record { truth = refl; canonical = (omega (arith, ints), tt, tt); limited = ((omega (arith, ints), omega (arith, ints)), (omega (arith, ints), omega (arith, ints)), tt) }

cell_parts : (o : Bool) (p : Part) (ps : List Part) → IsPart p → AreParts ps → AreParts (parts_of o p ++ ps)
cell_parts true p ps is rest = (occurrence_part, (is, rest))
cell_parts false p ps is rest = (is, rest)

suited : (ds : List Domain) → AreShaped ds → AreParts (all_parts ds)
suited [] shaped = tt
suited (d ∷ ds) shaped = cell_parts d.opt (value_part d) (all_parts ds) shaped.0.part (suited ds shaped.1)

-- ---- a choice can be taken

-- a number may be something
abbrev IsSomePart : Part → Type 0
IsSomePart p = is_subset_sort p.sort ≡ false → p.set ≢ []

abbrev AreSomeParts : List Part → Type 0
AreSomeParts [] = Unit {0}
AreSomeParts (p ∷ ps) = IsSomePart p × AreSomeParts ps

some_cell : (o : Bool) (p : Part) (ps : List Part) → IsSomePart p → AreSomeParts ps → AreSomeParts (parts_of o p ++ ps)
some_cell true p ps is rest = (λ h e. cc, (is, rest))
some_cell false p ps is rest = (is, rest)

some_parts : (ds : List Domain) → AreChoosable ds → AreSomeParts (all_parts ds)
some_parts [] choosable = tt
some_parts (d ∷ ds) choosable = some_cell d.opt (value_part d) (all_parts ds) choosable.0.some (some_parts ds choosable.1)

same_entry : (d e : Entry) (o : Option Entry) → o ≡ Some d → o ≡ Some e → d ≡ e
same_entry d e o first second = cc

same_id : (i j : ℕ) → Some i ≡ Some j → i ≡ j
same_id i j e = cc

node_takes : (es : List Entry) (k : ℕ) (p : Part) (id : ℕ) (e : Entry) → IsSomePart p → IsNode es true k p id → slice_get es id ≡ Some e → CanTake es e
node_takes es k p id e some node at =
    let same = same_entry node.there e (slice_get es id) node.stands at in
    subst (CanTake es) same (record { over = node.over; domain = node.domain; some = λ h. subst (λ u. u ≢ []) (sym node.set) (some (sym node.sort ∙ h)) })

can_take : (es : List Entry) (k j : ℕ) (is : List ℕ) (ps : List Part) (id : ℕ) (e : Entry) → AreSomeParts ps → AreNodes es true k is ps → slice_get is j ≡ Some id → slice_get es id ≡ Some e → CanTake es e
can_take es k j [] [] id e some nodes at stands = absurd (cc)
can_take es k j [] (p ∷ ps) id e some nodes at stands = absurd nodes
can_take es k j (i ∷ is) [] id e some nodes at stands = absurd nodes
can_take es k zero (i ∷ is) (p ∷ ps) id e some nodes at stands = node_takes es k p i e some.0 nodes.0 (ap (slice_get es) (same_id i id at) ∙ stands)
can_take es k (suc j) (i ∷ is) (p ∷ ps) id e some nodes at stands = can_take es (suc k) j is ps id e some.1 nodes.1 at stands

-- ---- all of it

-- an instance over this arena
abbrev with_arena : Instance → List Entry → Instance
with_arena inst es = record { arena = es; vars = inst.vars; roots = inst.roots; goal = inst.goal; pars = inst.pars }

pub is_instance : (s : Run) (ns : List HeldName) (inst : Instance) → IsMade s ns inst → IsInstance inst
is_instance s ns inst is =
    let at = parts_made ns inst.vars is.made in
    let same : inst ≡ with_arena inst s.arena = ap (with_arena inst) is.arena in
    subst (λ (i : Instance). IsInstance i) (sym same) (record {
      arena = is.run.arena;
      vars = is.vars;
      suited = subst AreParts (sym at.parts) (suited (map domain_of (all_places ns)) is.shaped);
      nodes = nodes_made s ns inst.vars is.nodes is.made;
      no_more = λ id e stands free var. ap (λ is. slice_get is e.node.b) at.ids ∙ is.placed id e stands free var;
      chosen = λ id e stands local. can_take s.arena 0 e.node.b (free_ids s.choices) (all_parts (taken s)) id e (some_parts (taken s) is.run.domains) is.run.locals (is.noted id e stands local) stands;
      roots = subst (λ (es : List Entry). AreTruths es inst.roots) is.arena is.roots;
      goal = subst (λ (es : List Entry). IsObjective es inst.goal) is.arena is.goal;
    })
