use Rattle.fz_program.specs.Arguments.{plain}
use Rattle.flat_reif_rows.proofs.Folded.{and_given, or_given, iff_given}
use Rattle.flat_reif_rows.proofs.fold.fold_of_two.Goals as goal

pub returns-in-And : goal.returns-in-And
returns-in-And c = and_given c.args.build.now.vars (plain c.args.a.now) (plain c.args.b.now) c.args.kind c.requires c.truth_in.result c.truth_in-in-And.result c.truth_in.ensures c.truth_in-in-And.ensures c.conjoined.result c.in-And.is c.conjoined.ensures

pub returns-in-Or : goal.returns-in-Or
returns-in-Or c = or_given c.args.build.now.vars (plain c.args.a.now) (plain c.args.b.now) c.args.kind c.requires c.truth_in-in-Or.result c.truth_in-in-Or-2.result c.truth_in-in-Or.ensures c.truth_in-in-Or-2.ensures c.disjoined.result c.in-Or.is c.disjoined.ensures

pub returns-in-Iff : goal.returns-in-Iff
returns-in-Iff c = iff_given c.args.build.now.vars (plain c.args.a.now) (plain c.args.b.now) c.args.kind c.requires c.truth_in-in-Iff.result c.truth_in-in-Iff-2.result c.truth_in-in-Iff.ensures c.truth_in-in-Iff-2.ensures c.equated.result c.in-Iff.is c.equated.ensures
