-- Instances without where they lie in memory: what is left of a model when it has been walked.
use Rattle.std.specs.Prelude.{ℕ, List, map, Bool, Option}
use Rattle.std.specs.Option.{option_map}
use Rattle.mz_value.specs.Ranges.{Range}
use Rattle.mz_value.specs.Contents.{Content, content}
use Rattle.mz_value.specs.declared.value.ShapeBase.{ShapeBase}
use Rattle.mz_arena.specs.declared.instance.VarCell.{VarCell as CodeCell}
use Rattle.mz_arena.specs.declared.instance.ModelVar.{ModelVar as CodeVar}
use Rattle.mz_arena.specs.declared.instance.ParValue.{ParValue as CodePar}
use Rattle.mz_arena.specs.declared.instance.InstanceGoal.{InstanceGoal}
use Rattle.mz_arena.specs.declared.instance.Instance.{Instance as CodeInstance}
use Rattle.mz_arena.specs.Entries.{Entry}

-- one element of a variable: of an option the node that tells whether it is there, the node of its value, and the values that it may have
pub record VarCell : Type 0 where
  pub occurs : Option ℕ
  pub term : ℕ
  pub domain : List Range

-- a variable of the model, with index ranges where it is an array
pub record ModelVar : Type 0 where
  pub name : ℕ
  pub index : Option (List Range)
  pub opt : Bool
  pub base : ShapeBase
  pub cells : List VarCell

-- the value of a par declaration
pub record ParValue : Type 0 where
  pub slot : ℕ
  pub value : Content

pub record Instance : Type 0 where
  pub arena : List Entry
  pub vars : List ModelVar
  pub roots : List ℕ
  pub goal : InstanceGoal
  pub pars : List ParValue

-- ---- what the code's instances stand for

abbrev pub var_cell : CodeCell → VarCell
var_cell c = record { occurs = c.occurs; term = c.term; domain = c.domain }

abbrev pub model_var : CodeVar → ModelVar
model_var m = record { name = m.name; index = option_map (λ ix. ix.items) m.index; opt = m.opt; base = m.base; cells = map var_cell m.cells.items }

abbrev pub par_value : CodePar → ParValue
par_value p = record { slot = p.slot; value = content p.value }

abbrev pub instance : CodeInstance → Instance
instance i = record { arena = i.arena; vars = map model_var i.vars.items; roots = i.roots.items; goal = i.goal; pars = map par_value i.pars.items }
