use Rattle.std.proofs.Common.{◌∙◌, length, ap}
use Rattle.fz_program.specs.Flat.{program}
use Rattle.mz_io.specs.SureSink.{SureHeld}
use Rattle.mz_tool.proofs.Summaries.{all_written}
use Rattle.mz_tool.proofs.make.written_bytes.Goals as goal

pub returns-in-Done : goal.returns-in-Done
returns-in-Done c =
    ap length c.bytes-in-Done.ensures
    ∙ all_written (program c.args.flat.now) c.new-bytes.result.held c.write_program.new.out.held (ap (λ (h : SureHeld). h.held) c.new-bytes.ensures) c.in-Done.ensures.left
