use Rattle.std.proofs.Common.{length}
use Rattle.mz_symbol.specs.Symbols.{free_ids}
use Rattle.mz_symbol.specs.StepsChoices.{choice_domain}
use Rattle.mz_symbol.proofs.ChoiceLaws.{take_means}
use Rattle.mz_symbol.proofs.run.Run.take.Goals as goal

pub returns-clause-means : goal.returns-clause-means
returns-clause-means c r h = take_means r 8 (length (free_ids c.args.self.now.choices)) c.args.self.now c.made.new.self c.note.new.self (choice_domain c.args.base c.args.opt c.args.set.now) c.in_ok-symbol.symbol c.in_ok-symbol.ensures.adds c.in_ok-symbol.ensures.made c.in_ok-note.ensures.ok h
