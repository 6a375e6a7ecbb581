use Rattle.mz_scope_names.proofs.Gathered.{gathered_by}
use Rattle.mz_scope_names.proofs.given.occurrences.Goals as goal

pub returns : goal.returns
returns c = gathered_by c.args.sources.now.files.items c.args.given_data.now.items.items c.new-out.result.items c.in_files.new.out.items c.in_data.new.out.items c.in_ok-enums.enums c.as_slice-2.result.now c.in_ok-enum_names.field-0.items c.as_slice.result.now c.as_slice-3.result.now c.as_slice-4.result.now
    c.as_slice.ensures.value c.as_slice-2.ensures.value c.as_slice-3.ensures.value c.as_slice-4.ensures.value
    c.new-out.ensures.items c.in_ok-in_files.ensures c.in_ok-in_data.ensures c.in_ok-enums.ensures c.in_ok-enum_names.ensures
