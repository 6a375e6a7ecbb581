use Rattle.fz_program.specs.Flat.{program}
use Rattle.fz_program.proofs.TestAnswers.{denied}
use Rattle.fz_text.proofs.ProgramAgain.{is_spelled, other_spelled}
use Rattle.fz_text.proofs.reader.confirmed.Goals as goal

pub returns-then-branch-clause-spelled : goal.returns-then-branch-clause-spelled
returns-then-branch-clause-spelled c =
    let parts = c.in_ok-is_spelled.ensures.0 c.if-branch.true in
    is_spelled c.args.bytes.now (program c.args.p) c.requires parts.0 parts.1

pub returns-else-branch-clause-refused : goal.returns-else-branch-clause-refused
returns-else-branch-clause-refused c =
    (c.unspelled.ensures, other_spelled c.args.bytes.now (program c.args.p) c.requires (denied c.in_ok-is_spelled.field-0 c.in_ok-is_spelled.ensures.1 c.if-branch.false))
