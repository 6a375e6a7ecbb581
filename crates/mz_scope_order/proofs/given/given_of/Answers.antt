use Rattle.std.proofs.Common.{◌∙◌, ap, map}
use Rattle.mz_scope_names.specs.Sets.{holds}
use Rattle.mz_scope_order.proofs.GatheringItems.{same_unless}
use Rattle.mz_scope_order.proofs.given.given_of.Goals as goal

pub returns : goal.returns
returns c =
    c.in_ok-out.ensures
    ∙ same_unless _ (map (λ e. e.name) c.args.enums.now) (λ n. c.in_ok-set.ensures n ∙ ap (λ z. holds n z) (c.as_slice.ensures.value ∙ c.in_ok-names.ensures)) c.args.items.now
