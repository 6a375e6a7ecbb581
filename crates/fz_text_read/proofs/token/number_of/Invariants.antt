use Rattle.std.proofs.Common.{◌≡◌, ◌≤◌, drop}
use Rattle.fz_items.specs.Items.{number_from, past}
use Rattle.fz_text_read.proofs.token.number_of.Given as goal

abbrev pub invariant-loop-d : goal.invariant-loop-d
invariant-loop-d l = record {
  reads : number_from l.n (drop l.d-index l.digits) ≡ number_from 0 l.digits;
  most : l.n ≤ past;
}
