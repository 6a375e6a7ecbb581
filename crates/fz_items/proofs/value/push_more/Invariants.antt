use Rattle.std.proofs.Common.{◌≡◌, drop}
use Rattle.fz_items.specs.Items.{more_at}
use Rattle.fz_items.specs.Contents.{contents_of}
use Rattle.fz_items.proofs.value.push_more.Given as goal

abbrev pub invariant-loop-domain : goal.invariant-loop-domain
invariant-loop-domain l =
    more_at l.part l.base (contents_of l.items.items) (drop l.domain-index l.domains) l.rest ≡ more_at l.part l.base (contents_of l.initial.items.items) l.domains l.bytes
