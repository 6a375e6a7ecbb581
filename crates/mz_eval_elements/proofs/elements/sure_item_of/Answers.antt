use Rattle.std.proofs.Common.{◌∙◌, sym, ap}
use Rattle.std.specs.Option.{option_map}
use Rattle.mz_eval_symbols.specs.Steps.{item_cast}
use Rattle.mz_eval_elements.specs.StepsElements.{at_kind, origins_item}
use Rattle.mz_eval_elements.proofs.elements.sure_item_of.Goals as goal

pub returns-in_ok-s-in-Line : goal.returns-in_ok-s-in-Line
returns-in_ok-s-in-Line c r h b o =
    let xs = c.args.xs.now in
    ap (λ og. origins_item r b o xs.cast og c.args.n) c.in-Line.is ∙ ap (λ v. at_kind r b o (option_map (item_cast xs.cast) v)) (sym (c.in_ok-s-in-Line.ensures r h))
