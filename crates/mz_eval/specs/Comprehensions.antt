-- What a comprehension makes from a step of it on.
use Rattle.std.specs.Prelude.{ℕ, List, Option, map}
use Rattle.std.specs.Option.{option_map}
use Rattle.mz_core.specs.Tree.{Tree, Gen}
use Rattle.mz_core.specs.TreeViews.{tree, gen}
use Rattle.mz_base.specs.declared.fault.Span.{Span}
use Rattle.mz_meaning.specs.Runs.{Run, ◌>>◌, spend}
use Rattle.mz_meaning.specs.Cells.{Env, bind}
use Rattle.mz_meaning.specs.Forms.{World}
use Rattle.mz_meaning.specs.Comprehensions.{Rest, Made, Presence, Element, added, both_occur, where_, names, generators}
use Rattle.mz_eval_comprehensions.specs.Views.{elements_of}
use Rattle.mz_symbol.specs.Readings.{Reading}
use Rattle.mz_eval_scopes.specs.Seen.{ctx_of}
use Rattle.mz_eval.specs.declared.types.Level.{Level}
use Rattle.mz_eval.specs.declared.types.Comprehension.{Comprehension}
use Rattle.mz_eval.specs.declared.types.Generator.{Generator}
use Rattle.mz_eval.specs.declared.types.Slots.{Slots}
use Rattle.mz_eval.specs.Levels.{world_in, go_of}

-- one value of a generator's name
abbrev pub turn : World → Span → List Element → ℕ → List ℕ → Rest → Env → Presence → Made → Element → Run Made
turn w at es s ss rest env occurs made x = spend w.budget at 1 >> names w at es ss rest (bind s x.0 env) (both_occur occurs x.1) made

-- its head
abbrev pub from_head : Reading → Level → Comprehension → Rest
from_head r l c = added r.mode (go_of r l) (ctx_of l.ctx) (tree c.head.now)

-- generators, and then the head
abbrev pub from_generators : Reading → Level → Comprehension → List Gen → Rest
from_generators r l c gs = generators (world_in r l) (go_of r l) (ctx_of l.ctx) c.at gs (from_head r l c)

-- a condition, and then the generators after that generator
abbrev pub from_condition : Reading → Level → Generator → Option Tree → Rest
from_condition r l g e = where_ r.mode (go_of r l) (ctx_of l.ctx) e (from_generators r l g.whole.now (map gen g.others.now))

abbrev pub from_own_condition : Reading → Level → Generator → Rest
from_own_condition r l g = from_condition r l g (option_map tree g.cond.now)

-- names of a generator, and then its condition
abbrev pub from_names : Reading → Level → Generator → List ℕ → Rest
from_names r l g ss = names (world_in r l) g.whole.now.at (elements_of r g.elements.now) ss (from_own_condition r l g)

-- a value of one name, and then the names after it
abbrev pub from_value : Reading → Level → Generator → Slots → Env → Presence → Made → Element → Run Made
from_value r l g s = turn (world_in r l) g.whole.now.at (elements_of r g.elements.now) s.first s.others.now (from_own_condition r l g)
