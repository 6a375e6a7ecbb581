use Rattle.std.proofs.Common.{◌≡◌, false, rules, arith}
use Rattle.std.proofs.lemmas.Int.{ints}
use Rattle.mz_interval.specs.Ends.{is_number}
use Rattle.mz_builtin_values.proofs.Outside.{none_beside}
use Rattle.mz_builtin_values.proofs.option.beside_in.Goals as goal

pub returns-then-not-is_number : goal.returns-then-not-is_number
returns-then-not-is_number c =
    let out : is_number c.beside-n.result ≡ false = search rules in
    none_beside c.args.s.now c.args.side c.args.k _ c.beside-n.result c.ranges-ranges.ensures.limits out c.beside-n.ensures (omega (arith, ints))
