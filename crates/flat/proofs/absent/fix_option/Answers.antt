use Rattle.std.proofs.Common.{◌≡◌, ◌∙◌, ap, rules, subst, sym, true, w64, Some}
use Rattle.std.proofs.lemmas.Int.{to_z-of_z}
use Rattle.mz_interval.specs.Ends.{is_number}
use Rattle.mz_arena.specs.Instances.{model_var, var_cell}
use Rattle.flat.proofs.Absenting.{least_in_limit, no_value}
use Rattle.flat.proofs.absent.fix_option.Goals as goal

pub fix_value-requires-clause-least : goal.fix_value-requires-clause-least
fix_value-requires-clause-least c = sym c.in-Some.ensures ∙ ap Some (sym (to_z-of_z w64 c.in-Some.least (search rules)))

pub fix_value-requires-clause-limit : goal.fix_value-requires-clause-limit
fix_value-requires-clause-limit c = subst (λ n. is_number n ≡ true) (sym (to_z-of_z w64 c.in-Some.least (search rules))) (least_in_limit c.args.c.now.domain c.in-Some.least c.ranges-ranges.ensures.limits (sym c.in-Some.ensures))

pub returns-in-None : goal.returns-in-None
returns-in-None c = no_value c.args.arena.now (model_var c.args.m.now) c.args.o (var_cell c.args.c.now) c.args.roots.now.items c.requires.arena c.requires.occurs c.requires.option (sym c.in-None.ensures)
