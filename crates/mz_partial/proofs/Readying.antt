-- What the calls ask for, in the arenas between them.
use Rattle.std.proofs.Common.{◌≡◌, ℕ, ◌<◌, Bool, List, [], ◌∷◌, length, Option, refl, ◌∙◌}
use Rattle.mz_operations.specs.Bounds as bounds
use Rattle.mz_arena.specs.declared.node.Node.{Node}
use Rattle.mz_arena.specs.Entries.{Entry}
use Rattle.mz_arena.specs.Values.{Values, is_true}
use Rattle.mz_arena.specs.Terms.{term}
use Rattle.mz_arena.specs.Extents.{extent}
use Rattle.mz_arena.specs.Arenas.{IsArena, Grew}
use Rattle.mz_arena.proofs.Growing.{grew_same, grew_both}
use Rattle.mz_partial.specs.declared.part.Part.{Part}
use Rattle.mz_partial.specs.declared.group.Group.TheVariants as group
use Rattle.mz_partial.specs.Totals.{IsTruth, SaysAt, Says, IsPart}
use Rattle.mz_partial.specs.Nodes.{Remade, Takes, three}
use Rattle.mz_partial.specs.Calls.{IsFlag, Joins, Reads}
use Rattle.mz_partial.proofs.Standing.{node_some, node_bounds, node_later, total_in, truth_later, part_later, says_later}
use Rattle.mz_partial.proofs.ByKind.{test_open}
use Rattle.mz_partial.proofs.Saying.{says_flag}
use Rattle.mz_partial.proofs.Taking.{remade_as}

pub flag_later : (old new : List Entry) (f : Option ℕ) (a : Values → Bool) → Grew old new → Says old f a → IsFlag new f
flag_later old new f a g s = says_flag new f a (says_later old new f a g s)

-- a flag that was joined of two that said something before
pub joined_flag : (old mid new : List Entry) (f g h : Option ℕ) (a b : Values → Bool) → Grew old mid → Joins mid new f g h → Says old f a → Says old g b → IsFlag new h
joined_flag old mid new f g h a b e j p q =
    let w = grew_both e j.extends.grew in
    says_flag new h _ (j.says new (grew_same new) j.arena a b (says_later old new f a w p) (says_later old new g b w q))

-- a comparison is a Boolean
pub test_truth : (old mid new : List Entry) (memo : List Part) (id : ℕ) (n : Node) (s t h : ℕ) → Takes old memo id n group.Test → Remade old mid id n (three s t n.c) h → Grew mid new → IsArena new → IsTruth new h
test_truth old mid new memo id n s t h x m g a =
    let node = node_later mid new h n.kind (s ∷ t ∷ []) g (remade_as old mid id n (three s t n.c) h 2 group.Test x.kind refl refl m) in
    record { ends = bounds.truth; is = node_bounds new h n.kind (s ∷ t ∷ []) a node ∙ test_open node.there n.kind (extent new s) (extent new t) x.kind (node_some new h n.kind (s ∷ t ∷ []) a node) }

-- what reads a part, in a later arena
pub record IsRead (es : List Entry) (id c : ℕ) : Type 0 where
  pub says : SaysAt es c (λ v. is_true (term v es id))
  pub bounds : extent es c ≡ extent es id
  pub place : c < length es

pub read_later : (old mid new : List Entry) (id : ℕ) (p : Part) (c : ℕ) → Reads old mid id p c → IsArena old → id < length old → IsPart old id p → IsTruth old id → Grew mid new → IsArena new → IsRead new id c
read_later old mid new id p c r a below h t g an =
    let w = grew_both r.extends.grew g in
    let np = part_later old new id p w a below h in
    let nt = truth_later old new id w t in
    let s = r.says new g an np nt in
    record { says = s; bounds = r.bounds new g an np nt; place = total_in new c s.total }

-- a part's term, in a later arena
pub record IsKept (es : List Entry) (id t : ℕ) : Type 0 where
  pub bounds : extent es t ≡ extent es id
  pub place : t < length es

pub kept_later : (old new : List Entry) (id : ℕ) (p : Part) → Grew old new → IsArena old → id < length old → IsPart old id p → IsKept new id p.term
kept_later old new id p g a below h =
    let np = part_later old new id p g a below h in
    record { bounds = np.kept.bounds; place = total_in new p.term np.kept.total }
