use Rattle.std.proofs.Common.{◌∙◌}
use Rattle.mz_partial.proofs.Saying.{reads, says_flag}
use Rattle.mz_partial.proofs.flag.strict.Goals as goal

pub conjoin-requires : goal.conjoin-requires
conjoin-requires c = record {
  arena = c.requires.arena;
  flag = says_flag c.args.arena.now c.args.p.flag c.requires.part.holds c.requires.part.flag;
  truth = record { ends = c.requires.truth.ends; is = c.requires.part.kept.bounds ∙ c.requires.truth.is };
}

pub returns : goal.returns
returns c = reads c.args.arena.now c.conjoin.new.arena c.args.id c.args.p c.in_ok-t.t c.in_ok-t.ensures
