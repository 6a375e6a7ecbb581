use Rattle.mz_scope.proofs.Whole.{named_here, whole}
use Rattle.mz_scope.proofs.testing.first_refusal.Goals as goal

pub refusal-requires : goal.refusal-requires
refusal-requires c = named_here c.args.names.now c.args.sources.now.files.items c.args.given_data.now.items.items c.in_ok-os.os.items c.as_slice-4.result.now c.requires c.in_ok-os.ensures c.as_slice-4.ensures.value

pub returns : goal.returns
returns c = whole c.args.names.now c.args.sources.now.files.items c.as_slice.result.now c.as_slice-2.result.now c.args.given_data.now.items.items c.end_of-end.result c.in_ok-solves.solves.items c.as_slice-3.result.now c.in_ok-os.os.items c.as_slice-4.result.now c.in_ok-found.found
    c.in_ok-found.ensures c.as_slice.ensures.value c.as_slice-2.ensures.value c.end_of-end.ensures c.in_ok-solves.ensures c.as_slice-3.ensures.value c.in_ok-os.ensures c.as_slice-4.ensures.value
