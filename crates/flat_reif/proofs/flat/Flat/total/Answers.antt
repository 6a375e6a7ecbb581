use Rattle.flat_reif.specs.States.{state}
use Rattle.flat_reif.proofs.Posting.{more_terms}
use Rattle.flat_reif.proofs.flat.Flat.total.Goals as goal

pub returns-clause-totaled : goal.returns-clause-totaled
returns-clause-totaled c = record {
  grown = more_terms (state c.args.self.now) c.total.new.arena c.requires.state c.in-Ok.ensures.totaled.extends c.len-count.ensures.arena;
  pair = c.in-Ok.ensures.totaled.pair;
}
