use Rattle.mzc.proofs.ended.Goals as goal

pub returns-clause-promises : goal.returns-clause-promises
returns-clause-promises g c =
    let run = c.run-status.ensures in
    record {
      answer = c.run-status.result;
      number = c.code_of.ensures;
      holds = record {
        headline = run.headline;
        printed = run.printed;
        usage = run.usage;
        refused = run.refused;
        read_fault = run.read_fault;
        write_fault = run.write_fault;
        failed_fetch = run.failed_fetch;
        failed_take = run.failed_take;
        failed_put = run.failed_put;
        counted = run.counted;
        counted_out = run.counted_out;
        complete = run.complete;
        cut_short = run.cut_short;
        untouched = run.untouched;
        noted = run.notes;
      };
    }
