use Rattle.cases_check.proofs.Known.{both_within}
use Rattle.cases_check.proofs.given.both.Goals as goal

pub returns-clause-named : goal.returns-clause-named
returns-clause-named c = both_within c.data_of.new.names c.data_of-2.new.names c.in_ok-data.data.items.items c.in_ok-more.more.items.items _ c.data_of-2.ensures.grows c.in_ok-data.ensures.named c.in_ok-more.ensures.named c.in_ok-append.ensures.items
