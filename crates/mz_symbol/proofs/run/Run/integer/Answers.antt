use Rattle.std.proofs.Common.{rules, ◌∙◌, Some, ap, sym}
use mir.Syntax.{w64}
use Rattle.std.proofs.lemmas.Int.{to_z-of_z}
use Rattle.mz_arena.specs.Values.{number}
use Rattle.mz_symbol.proofs.ConstantLaws.{out_value, out_other, number_held}
use Rattle.mz_symbol.proofs.run.Run.integer.Goals as goal

pub returns-clause-means : goal.returns-clause-means
returns-clause-means c r h =
    let e = c.in_ok-term.ensures.means r h in
    out_other e (number_held r.mode c.args.n (r.term c.in_ok-term.term) (ap (λ n. Some (number n)) (sym (to_z-of_z w64 c.args.n (search rules))) ∙ out_value e))
