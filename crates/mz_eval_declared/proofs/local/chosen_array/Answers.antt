use Rattle.std.proofs.Common.{sym, ◌∙◌}
use Rattle.std.specs.Option.{option_map}
use Rattle.mz_core.specs.Types.{plain_type}
use Rattle.mz_meaning.specs.Domains.{domain_over}
use Rattle.mz_eval_declared.specs.Wants.{wanted, wants_of}
use Rattle.mz_eval_declared.proofs.Locals.{with_all, without_all}
use Rattle.mz_eval_declared.proofs.local.chosen_array.Goals as goal

pub returns-then-all_declared : goal.returns-then-all_declared
returns-then-all_declared c =
    let t = plain_type c.args.t.now in
    with_all t (wants_of c.args.ws.now) (wanted c.args.w.now) (option_map (domain_over t) c.args.set) c.in_ok-ranges.ranges.items c.free_array.result (sym c.all_declared.ensures ∙ c.if-all_declared.true) c.in_ok-ranges.ensures c.free_array.ensures

pub returns-else-all_declared : goal.returns-else-all_declared
returns-else-all_declared c =
    let t = plain_type c.args.t.now in
    without_all t (wants_of c.args.ws.now) (wanted c.args.w.now) (option_map (domain_over t) c.args.set) c.in_ok-ranges.ranges.items c.no_choices.result (sym c.all_declared.ensures ∙ c.if-all_declared.false) c.in_ok-ranges.ensures c.no_choices.ensures
