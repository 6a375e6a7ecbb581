use Rattle.std.proofs.Common.{sym, ap, ◌∙◌}
use Rattle.mz_include.specs.Views.{with_code_mention}
use Rattle.mz_include.proofs.Queues.{stays, goes_last}
use Rattle.mz_include.proofs.queue.Queue.add.Goals as goal

pub returns-then-contains_key-clause-added : goal.returns-then-contains_key-clause-added
returns-then-contains_key-clause-added c =
    sym c.self.view_is ∙ stays c.self.inside.places.entries c.args.mention (sym c.contains_key.ensures ∙ c.if-contains_key.true) ∙ ap (λ q. with_code_mention q c.args.mention) c.self.view_is

pub returns-clause-added : goal.returns-clause-added
returns-clause-added c =
    rw c.in_ok-insert.ensures.entries (goes_last c.self.inside.places.entries c.args.mention (sym c.contains_key.ensures ∙ c.if-contains_key.false)) ∙ ap (λ q. with_code_mention q c.args.mention) c.self.view_is
