use Rattle.std.proofs.Common.{map, ap, subst, sym, refl}
use Rattle.mz_arena.specs.Instances.{instance, model_var}
use Rattle.fz_program.specs.Flat.{program}
use Rattle.flat_reif.specs.States.{state}
use Rattle.flat_root.specs.Keeps.{Leads, AllTrue}
use Rattle.flat_root.specs.Totals.{AreRoots}
use Rattle.flat.proofs.Composing.{listed_options, listed_front, listed_ready, listed_bound, listed_defaults, listed_roots, listed_goal, listed_is_goal, listed_faithful, no_parts}
use Rattle.flat.proofs.top_call.flatten.Goals as goal

pub fix_absent-requires-clause-arena : goal.fix_absent-requires-clause-arena
fix_absent-requires-clause-arena c = c.requires.instance.arena

pub fix_absent-requires-clause-options : goal.fix_absent-requires-clause-options
fix_absent-requires-clause-options c = listed_options (instance c.args.inst) c.args.names.now c.requires.instance c.requires.named (map model_var c.as_slice-list.result.now) (ap (map model_var) c.as_slice-list.ensures.value)

pub declare_front-requires : goal.declare_front-requires
declare_front-requires c = listed_front (instance c.args.inst) c.args.names.now c.requires.instance c.requires.named (map model_var c.as_slice-list.result.now) (ap (map model_var) c.as_slice-list.ensures.value) c.fix_absent.new.arena c.new-defaults.result.items c.fix_absent.new.roots.items c.new-defaults.ensures.items c.in-Ok.ensures (state c.begin-flat.result) c.begin-flat.ensures.begun c.begin-flat.ensures.state

pub clear_vars-requires-clause-ready : goal.clear_vars-requires-clause-ready
clear_vars-requires-clause-ready c = listed_ready (instance c.args.inst) c.args.names.now c.requires.instance c.requires.named (map model_var c.as_slice-list.result.now) (ap (map model_var) c.as_slice-list.ensures.value) c.fix_absent.new.arena c.new-defaults.result.items c.fix_absent.new.roots.items c.new-defaults.ensures.items c.in-Ok.ensures (state c.begin-flat.result) c.begin-flat.ensures.begun c.begin-flat.ensures.state (state c.declare_front.new.flat) c.in-Ok-declare_front.ensures

pub clear_vars-requires-clause-bound : goal.clear_vars-requires-clause-bound
clear_vars-requires-clause-bound c = listed_bound (instance c.args.inst) c.args.names.now c.requires.instance c.requires.named (map model_var c.as_slice-list.result.now) (ap (map model_var) c.as_slice-list.ensures.value) c.fix_absent.new.arena c.new-defaults.result.items c.fix_absent.new.roots.items c.new-defaults.ensures.items c.in-Ok.ensures (state c.begin-flat.result) c.begin-flat.ensures.begun c.begin-flat.ensures.state (state c.declare_front.new.flat) c.in-Ok-declare_front.ensures

pub post_roots-requires-clause-ready : goal.post_roots-requires-clause-ready
post_roots-requires-clause-ready c = c.in-Ok-clear_vars.ensures.leads.ready

pub post_roots-requires-clause-memo : goal.post_roots-requires-clause-memo
post_roots-requires-clause-memo c = no_parts (state c.clear_vars.new.flat).es c.new-memo.result c.new-memo.ensures

pub post_roots-requires-clause-roots : goal.post_roots-requires-clause-roots
post_roots-requires-clause-roots c = subst (AreRoots (state c.clear_vars.new.flat).es) (sym c.as_slice.ensures.value) (listed_defaults (instance c.args.inst) c.args.names.now c.requires.instance c.requires.named (map model_var c.as_slice-list.result.now) (ap (map model_var) c.as_slice-list.ensures.value) c.fix_absent.new.arena c.new-defaults.result.items c.fix_absent.new.roots.items c.new-defaults.ensures.items c.in-Ok.ensures (state c.begin-flat.result) c.begin-flat.ensures.begun c.begin-flat.ensures.state (state c.declare_front.new.flat) c.in-Ok-declare_front.ensures (state c.clear_vars.new.flat) c.in-Ok-clear_vars.ensures)

pub post_roots-requires-2-clause-ready : goal.post_roots-requires-2-clause-ready
post_roots-requires-2-clause-ready c = c.in-Ok-post_roots.ensures.posted.ready

pub post_roots-requires-2-clause-memo : goal.post_roots-requires-2-clause-memo
post_roots-requires-2-clause-memo c = c.in-Ok-post_roots.ensures.memo

pub post_roots-requires-2-clause-roots : goal.post_roots-requires-2-clause-roots
post_roots-requires-2-clause-roots c = subst (AreRoots (state c.post_roots.new.flat).es) (sym c.as_slice-2.ensures.value) (listed_roots (instance c.args.inst) c.args.names.now c.requires.instance c.requires.named (map model_var c.as_slice-list.result.now) (ap (map model_var) c.as_slice-list.ensures.value) c.fix_absent.new.arena c.new-defaults.result.items c.fix_absent.new.roots.items c.new-defaults.ensures.items c.in-Ok.ensures (state c.begin-flat.result) c.begin-flat.ensures.begun c.begin-flat.ensures.state (state c.declare_front.new.flat) c.in-Ok-declare_front.ensures (state c.clear_vars.new.flat) c.in-Ok-clear_vars.ensures (state c.post_roots.new.flat) (subst (λ ds. Leads (state c.clear_vars.new.flat) (state c.post_roots.new.flat) (AllTrue (state c.clear_vars.new.flat).es ds)) c.as_slice.ensures.value c.in-Ok-post_roots.ensures.posted))

pub post_goal-requires-clause-ready : goal.post_goal-requires-clause-ready
post_goal-requires-clause-ready c = c.in-Ok-post_roots-2.ensures.posted.ready

pub post_goal-requires-clause-choices : goal.post_goal-requires-clause-choices
post_goal-requires-clause-choices c = c.in-Ok-post_roots-2.ensures.choices

pub post_goal-requires-clause-memo : goal.post_goal-requires-clause-memo
post_goal-requires-clause-memo c = c.in-Ok-post_roots-2.ensures.memo

pub post_goal-requires-clause-goal : goal.post_goal-requires-clause-goal
post_goal-requires-clause-goal c = listed_goal (instance c.args.inst) c.args.names.now c.requires.instance c.requires.named (map model_var c.as_slice-list.result.now) (ap (map model_var) c.as_slice-list.ensures.value) c.fix_absent.new.arena c.new-defaults.result.items c.fix_absent.new.roots.items c.new-defaults.ensures.items c.in-Ok.ensures (state c.begin-flat.result) c.begin-flat.ensures.begun c.begin-flat.ensures.state (state c.declare_front.new.flat) c.in-Ok-declare_front.ensures (state c.clear_vars.new.flat) c.in-Ok-clear_vars.ensures (state c.post_roots.new.flat) (subst (λ ds. Leads (state c.clear_vars.new.flat) (state c.post_roots.new.flat) (AllTrue (state c.clear_vars.new.flat).es ds)) c.as_slice.ensures.value c.in-Ok-post_roots.ensures.posted) (state c.post_roots-2.new.flat) (subst (λ ds. Leads (state c.post_roots.new.flat) (state c.post_roots-2.new.flat) (AllTrue (state c.post_roots.new.flat).es ds)) c.as_slice-2.ensures.value c.in-Ok-post_roots-2.ensures.posted)

pub finish-requires : goal.finish-requires
finish-requires c = listed_is_goal (instance c.args.inst) c.args.names.now c.requires.instance c.requires.named (map model_var c.as_slice-list.result.now) (ap (map model_var) c.as_slice-list.ensures.value) c.fix_absent.new.arena c.new-defaults.result.items c.fix_absent.new.roots.items c.new-defaults.ensures.items c.in-Ok.ensures (state c.begin-flat.result) c.begin-flat.ensures.begun c.begin-flat.ensures.state (state c.declare_front.new.flat) c.in-Ok-declare_front.ensures (state c.clear_vars.new.flat) c.in-Ok-clear_vars.ensures (state c.post_roots.new.flat) (subst (λ ds. Leads (state c.clear_vars.new.flat) (state c.post_roots.new.flat) (AllTrue (state c.clear_vars.new.flat).es ds)) c.as_slice.ensures.value c.in-Ok-post_roots.ensures.posted) (state c.post_roots-2.new.flat) (subst (λ ds. Leads (state c.post_roots.new.flat) (state c.post_roots-2.new.flat) (AllTrue (state c.post_roots.new.flat).es ds)) c.as_slice-2.ensures.value c.in-Ok-post_roots-2.ensures.posted) (state c.post_goal.new.flat) c.in-Ok-post_goal.x c.in-Ok-post_goal.ensures

pub returns : goal.returns
returns c = listed_faithful (instance c.args.inst) c.args.names.now c.requires.instance c.requires.named (map model_var c.as_slice-list.result.now) (ap (map model_var) c.as_slice-list.ensures.value) c.fix_absent.new.arena c.new-defaults.result.items c.fix_absent.new.roots.items c.new-defaults.ensures.items c.in-Ok.ensures (state c.begin-flat.result) c.begin-flat.ensures.begun c.begin-flat.ensures.state (state c.declare_front.new.flat) c.in-Ok-declare_front.ensures (state c.clear_vars.new.flat) c.in-Ok-clear_vars.ensures (state c.post_roots.new.flat) (subst (λ ds. Leads (state c.clear_vars.new.flat) (state c.post_roots.new.flat) (AllTrue (state c.clear_vars.new.flat).es ds)) c.as_slice.ensures.value c.in-Ok-post_roots.ensures.posted) (state c.post_roots-2.new.flat) (subst (λ ds. Leads (state c.post_roots.new.flat) (state c.post_roots-2.new.flat) (AllTrue (state c.post_roots.new.flat).es ds)) c.as_slice-2.ensures.value c.in-Ok-post_roots-2.ensures.posted) (state c.post_goal.new.flat) c.in-Ok-post_goal.x c.in-Ok-post_goal.ensures (program c.finish.result) c.finish.ensures.items c.finish.ensures.well_formed
