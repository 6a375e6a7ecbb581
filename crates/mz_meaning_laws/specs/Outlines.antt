-- OUTLINES: what is left of a cell, and of what is made of cells, where the values of var cells are erased.
use Rattle.std.specs.Prelude.{◌≡◌, ℕ, Bool, true, false, ◌&&◌, List, [], map, Option, Some, None}
use Rattle.mz_base.specs.declared.fault.Span.{Span}
use Rattle.mz_core.specs.Tree.{Tree, Decl}
use Rattle.mz_meaning.specs.Runs.{State}
use Rattle.mz_meaning.specs.Cells.{Cell, Par, Var, Unshaped, Blank, Sure, Env}
use Rattle.mz_meaning.specs.Chains.{Operator}
use Rattle.mz_meaning.specs.Forms.{World, Appended}
use Rattle.mz_meaning.specs.Comprehensions.{Presence, Element, Made}
use Rattle.mz_meaning.specs.Lets.{Names}
use Rattle.mz_meaning.specs.Walk.{Declared, Walked}

-- ---- cells

-- a par cell keeps its value; a var cell keeps its bounds alone
abbrev pub outline : Cell → Cell
outline (Par v) = Par v
outline (Var b v) = Var b None
outline (Unshaped d) = Unshaped d

abbrev pub outlines : List Cell → List Cell
outlines cs = map outline cs

abbrev pub outline_rows : List (List Cell) → List (List Cell)
outline_rows rs = map outlines rs

-- a condition with its branch
abbrev pub outline_branch : Cell × Cell → Cell × Cell
outline_branch p = (outline p.0, outline p.1)

-- that something holds is kept where par cells tell it
abbrev pub outline_sure : Sure → Sure
outline_sure s = record { par = s.par; is = s.par && s.is }

abbrev pub outline_kept : Cell × Sure → Cell × Sure
outline_kept x = (outline x.0, outline_sure x.1)

-- ---- what the forms make of cells

abbrev pub outline_names : Names → Names
outline_names b = record { slots = b.slots; cells = outlines b.cells; holds = outline_sure b.holds }

abbrev pub outline_argument : Decl × Tree × Cell → Decl × Tree × Cell
outline_argument p = (p.0, p.1, outline p.2)

-- an operand with its place, and an operator with its left operand
abbrev pub outline_placed : Span × Cell → Span × Cell
outline_placed p = (p.0, outline p.1)

abbrev pub outline_left : Operator × Cell → Operator × Cell
outline_left p = (p.0, outline p.1)

abbrev pub outline_appended : Appended → Appended
outline_appended x = record { lefts = map outline_left x.lefts; place = x.place; last = outline x.last }

-- of an element that may be absent only this is kept
abbrev pub outline_presence : Presence → Presence
outline_presence None = None
outline_presence (Some b) = Some false

abbrev pub outline_element : Element → Element
outline_element x = (outline x.0, outline_presence x.1)

abbrev pub outline_made : Made → Made
outline_made a = record { cells = outlines a.cells; whole = outline_sure a.whole }

-- ---- what a walk makes

abbrev pub outline_if : Option Cell → Option Cell
outline_if None = None
outline_if (Some c) = Some (outline c)

abbrev pub outline_declared : Declared → Declared
outline_declared x = record { slot = x.slot; domains = x.domains; cell = outline x.cell; value = outline_if x.value }

abbrev pub outline_all_declared : List Declared → List Declared
outline_all_declared xs = map outline_declared xs

abbrev pub outline_walked : Walked → Walked
outline_walked w = record { names = outline_all_declared w.names; constraints = outlines w.constraints; objective = outline_if w.objective }

-- ---- states, environments and worlds

-- a state with its notes, or with its work alone
abbrev pub outline_state : Bool → State → State
outline_state true s = s
outline_state false s = record { work = s.work; taken = []; weight = 0 }

-- each slot has the outline of its cell
pub record HasOutlines (env blank : Env) : Type 0 where
  pub at : (k : ℕ) → blank k ≡ outline (env k)

-- the same world in a blank run, over these cells of top-level names
abbrev pub blank_world : Bool → World → Env → World
blank_world n w top = record { functions = w.functions; cases = w.cases; texts = w.texts; budget = w.budget; int_range = w.int_range; top = top; mode = Blank n }
