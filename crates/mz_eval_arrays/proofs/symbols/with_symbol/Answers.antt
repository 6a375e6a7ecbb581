use Rattle.std.proofs.Common.{◌∙◌, ap, length, sym}
use Rattle.std.specs.Prelude.{◌∷◌, ◌++◌, [], map}
use Rattle.std.proofs.lemmas.List.{length_push, map_push}
use Rattle.mz_symbol.proofs.ConstantLaws.{out_value, out_state}
use Rattle.mz_symbol_rows.specs.RowValues.{argument}
use Rattle.mz_eval_arrays.proofs.symbols.with_symbol.Goals as goal

pub returns-clause-more : goal.returns-clause-more
returns-clause-more c r h =
    let e = c.in_ok-s.ensures.means r h in
    record {
      same = out_state e;
      values = ap (map (argument r)) c.in_ok-push.ensures.items ∙ map_push (argument r) c.args.made.items c.in_ok-s.s ∙ ap (λ v. map (argument r) c.args.made.items ++ v ∷ []) (sym (out_value e));
    }

pub returns-clause-count : goal.returns-clause-count
returns-clause-count c = ap length c.in_ok-push.ensures.items ∙ length_push c.args.made.items c.in_ok-s.s
