use Rattle.cases.proofs.Written.{written-marked, written-plain}
use Rattle.cases.proofs.bytes.front_of.Goals as goal
use Rattle.cases.proofs.bytes.front_of.Goals.{in_default, in-len3-up+in_default-byte_of}
use Rattle.std.proofs.Common.{◌∙◌, sym, inl, inr, arith}

pub returns-in-Some-clause-writes : goal.returns-in-Some-clause-writes
returns-in-Some-clause-writes c =
    written-marked c.args.text.now c.in-Some.byte c.in-len3-up.len_at_least (sym c.byte_of.ensures ∙ c.in-Some.is)

pub returns-clause-writes : goal.returns-clause-writes
returns-clause-writes c =
    written-plain c.args.text.now c.in_ok-first.first.now c.in_ok-first.rest.now c.in_ok-first.ensures.cases.0
    (elim c.if-text-lt3.branch [
      | in_default w ↦ inl (grind arith)
      | in-len3-up+in_default-byte_of w ↦ inr (sym w.byte_of.ensures ∙ w.in_default-byte_of.is)
    ])
