use Rattle.std.proofs.Common.{◌≡◌, ◌++◌, Some, take, drop, sym, ap, arith}
use Rattle.std.proofs.lemmas.List.{take-append-drop}
use Rattle.std.proofs.lemmas.Grind.{common_steps}
use Rattle.cases_runs.proofs.torn.TornSinkSink.put.Goals as goal

pub returns-clause-told : goal.returns-clause-told
returns-clause-told c =
    let bytes = c.args.bytes.now in
    let most = c.min-most.result in
    let kept : c.extend_from_slice.new.self.items ≡ c.args.self.now.bytes.items ++ take most bytes = grind (arith, common_steps) in
    record { prefix = take most bytes; back = drop most bytes; whole = sym (take-append-drop most bytes); adds = ap Some kept }
