use Rattle.std.proofs.Common.{sym, subst}
use Rattle.mz_symbol.specs.declared.types.Listing.TheVariants as listing
use Rattle.mz_symbol.specs.Symbols.{AreLists}
use Rattle.mz_symbol.proofs.ConsLaws.{line_below, begun_below, items_kept, begun_goes, made_goes, made_state, made_here}
use Rattle.mz_symbol.proofs.run.Run.make_lists.Goals as goal

pub mark-requires-clause-there : goal.mark-requires-clause-there
mark-requires-clause-there c = line_below c.args.self.now c.args.line listing.Wanted c.requires

pub mark-requires-2-clause-there : goal.mark-requires-2-clause-there
mark-requires-2-clause-there c = begun_below c.args.self.now c.mark.new.self c.both_lists.new.self c.args.line c.requires c.mark.ensures c.in_ok-lists.ensures.adds.lines

pub mark-requires-2-clause-listed : goal.mark-requires-2-clause-listed
mark-requires-2-clause-listed c t h = subst (λ ss. AreLists t ss c.in_ok-lists.lists) (sym (items_kept c.mark.new.self c.both_lists.new.self c.args.line c.in_ok-lists.ensures.adds.lines)) (c.in_ok-lists.ensures.lists t h)

pub returns-in_err-lists-clause-goes : goal.returns-in_err-lists-clause-goes
returns-in_err-lists-clause-goes c = begun_goes c.args.self.now c.mark.new.self c.both_lists.new.self c.args.line c.requires c.mark.ensures c.both_lists.ensures.adds

pub returns-clause-goes : goal.returns-clause-goes
returns-clause-goes c = made_goes c.args.self.now c.mark.new.self c.both_lists.new.self c.mark-2.new.self c.args.line c.in_ok-lists.lists (record { wanted = c.requires; begun = c.mark.ensures; adds = c.in_ok-lists.ensures.adds; lists = c.in_ok-lists.ensures.lists; made = c.mark-2.ensures })

pub returns-clause-same : goal.returns-clause-same
returns-clause-same c r = made_state c.args.self.now c.mark.new.self c.both_lists.new.self c.mark-2.new.self c.args.line c.in_ok-lists.lists r (record { wanted = c.requires; begun = c.mark.ensures; adds = c.in_ok-lists.ensures.adds; lists = c.in_ok-lists.ensures.lists; made = c.mark-2.ensures })

pub returns-clause-lists : goal.returns-clause-lists
returns-clause-lists c = made_here c.args.self.now c.mark.new.self c.both_lists.new.self c.mark-2.new.self c.args.line c.in_ok-lists.lists (record { wanted = c.requires; begun = c.mark.ensures; adds = c.in_ok-lists.ensures.adds; lists = c.in_ok-lists.ensures.lists; made = c.mark-2.ensures })
