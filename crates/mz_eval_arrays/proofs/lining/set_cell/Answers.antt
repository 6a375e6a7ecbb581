use Rattle.std.proofs.Common.{◌∙◌, [], sym, ap}
use Rattle.std.specs.Option.{option_map}
use Rattle.mz_value.specs.Contents as values
use Rattle.mz_core.specs.Types.{plain_type}
use Rattle.mz_meaning.specs.Cells.{Par}
use Rattle.mz_meaning.specs.Coerced.{enum_in}
use Rattle.mz_eval_arrays.specs.Gathered.{gathered}
use Rattle.mz_eval_arrays.specs.StepsJoining.{unions}
use Rattle.mz_eval_arrays.proofs.Numbered.{by_numbers}
use Rattle.mz_eval_arrays.proofs.lining.set_cell.Goals as goal

pub returns : goal.returns
returns c =
    let t = plain_type c.args.t.now in
    c.in_ok-k.ensures ∙ ap (λ o. Par (option_map (values.set (enum_in t.base)) (option_map (unions []) o))) c.in_ok-ns.ensures ∙ sym (by_numbers t (gathered c.args.g.now))
