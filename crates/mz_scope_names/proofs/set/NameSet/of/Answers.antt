use Rattle.std.proofs.Common.{take, [], ◌∷◌, ◌++◌, ap, sym, ◌∙◌}
use Rattle.std.proofs.lemmas.List.{take_more}
use Rattle.mz_scope_names.specs.Sets.{holds}
use Rattle.mz_scope_names.proofs.Holding.{set_grows}
use Rattle.mz_scope_names.proofs.set.NameSet.of.Goals as goal

pub loop-name-preserved : goal.loop-name-preserved
loop-name-preserved c = λ n.
    set_grows c.loop-name.set c.add.new.self (take c.loop-name.name-index c.args.names.now) c.name-item.result c.loop-name.invariant c.in_ok-add.ensures n
    ∙ ap (λ z. holds n z) (sym (take_more c.args.names.now c.loop-name.name-index c.name-item.result c.loop-name-test.true ∙ ap (λ z. take c.loop-name.name-index c.args.names.now ++ z ∷ []) (sym c.name-item.is)))
