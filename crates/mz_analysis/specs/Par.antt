-- WHAT IS PAR IN A TYPED TREE.
use Rattle.std.specs.Prelude.{◌≡◌, false}
use Rattle.std.specs.List.{AllByRecursion}
use Rattle.mz_core.specs.Tree.{Tree, Layer, let_form, layer, shape_of, type_of}
use Rattle.mz_check_meaning.specs.Lets.{HasValue}
use Rattle.mz_meaning_laws.specs.Independence.{IsParTree}

-- so have all of a let
abbrev pub HaveValues : Layer → Type 0
HaveValues (let_form is e) = AllByRecursion HasValue is
HaveValues l = Unit {0}

-- where a tree is typed par, it is a par node without a coercion to var
pub record RespectsPar (e : Tree) : Type 0 where
  pub tree : (type_of e).var ≡ false → IsParTree e
  pub locals : HaveValues (layer (shape_of e))
