use Rattle.std.proofs.Common.{◌+◌, map, subst, sym}
use Rattle.mz_arena.specs.Instances.{model_var, var_cell}
use Rattle.flat.proofs.Stepping.{vars_from}
use Rattle.flat.specs.Absent.{AreOptions, AddsCellRoots, all_cells}
use Rattle.flat.proofs.Absenting.{VarsFixed, vars_begin, vars_first, vars_next, vars_done, vars_here, vars_end}
use Rattle.flat.proofs.absent.fix_absent.Goals as goal

pub vars-init : goal.vars-init
vars-init c = vars_begin c.args.arena.now (map model_var c.args.vars.now) c.args.roots.now.items c.requires.arena c.requires.options

pub fix_cells-requires-clause-arena : goal.fix_cells-requires-clause-arena
fix_cells-requires-clause-arena c = c.vars.invariant.adds.arena

pub fix_cells-requires-clause-options : goal.fix_cells-requires-clause-options
fix_cells-requires-clause-options c = subst (λ cs. AreOptions c.vars.arena (model_var c.m-item.result) (map var_cell cs)) (sym c.as_slice.ensures.value) (vars_first c.args.arena.now c.vars.arena (all_cells (map model_var c.args.vars.now)) (model_var c.m-item.result) (vars_from (c.vars.m-index + 1) c.args.vars.now) c.args.roots.now.items c.vars.roots.items (subst (λ ms. VarsFixed c.args.arena.now c.vars.arena (all_cells (map model_var c.args.vars.now)) ms c.args.roots.now.items c.vars.roots.items) (vars_here c.args.vars.now c.vars.m-index c.m-item.result _ c.vars-test.true c.m-item.is) c.vars.invariant))

pub vars-preserved : goal.vars-preserved
vars-preserved c = vars_next c.args.arena.now c.vars.arena c.fix_cells.new.arena (all_cells (map model_var c.args.vars.now)) (model_var c.m-item.result) (vars_from (c.vars.m-index + 1) c.args.vars.now) c.args.roots.now.items c.vars.roots.items c.fix_cells.new.roots.items (subst (λ ms. VarsFixed c.args.arena.now c.vars.arena (all_cells (map model_var c.args.vars.now)) ms c.args.roots.now.items c.vars.roots.items) (vars_here c.args.vars.now c.vars.m-index c.m-item.result _ c.vars-test.true c.m-item.is) c.vars.invariant) (subst (λ cs. AddsCellRoots c.vars.arena c.fix_cells.new.arena (map var_cell cs) c.vars.roots.items c.fix_cells.new.roots.items) c.as_slice.ensures.value c.in-Ok.ensures)

pub returns : goal.returns
returns c = vars_done c.args.arena.now c.vars.arena (all_cells (map model_var c.args.vars.now)) c.args.roots.now.items c.vars.roots.items (subst (λ ms. VarsFixed c.args.arena.now c.vars.arena (all_cells (map model_var c.args.vars.now)) ms c.args.roots.now.items c.vars.roots.items) (vars_end c.args.vars.now c.vars.m-index c.vars-test.false) c.vars.invariant)
