use Rattle.std.specs.Option.{option_map}
use Rattle.mz_core.specs.Types.{plain_type}
use Rattle.mz_meaning.specs.Domains.{domain_over}
use Rattle.mz_eval_declared.specs.Wants.{wanted}
use Rattle.mz_eval_declared.proofs.Locals.{chosen_one, chosen_many}
use Rattle.mz_eval_declared.proofs.local.chosen.Goals as goal

pub returns-in-empty : goal.returns-in-empty
returns-in-empty c =
    let t = plain_type c.args.t.now in
    chosen_one c.args.int_range.now t c.args.ws.now (wanted c.args.w.now) (option_map (domain_over t) c.in_ok-set.set) c.choose.result c.in-empty.len_below c.in_ok-set.ensures c.choose.ensures

pub returns-in-len1-up : goal.returns-in-len1-up
returns-in-len1-up c =
    let t = plain_type c.args.t.now in
    chosen_many c.args.int_range.now t c.args.ws.now (wanted c.args.w.now) (option_map (domain_over t) c.in_ok-set.set) c.chosen_array.result c.in-len1-up.len_at_least c.in_ok-set.ensures c.chosen_array.ensures
