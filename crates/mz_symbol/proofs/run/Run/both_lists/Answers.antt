use Rattle.std.proofs.Common.{◌*◌, length, subst}
use Rattle.mz_symbol.specs.declared.cons.ListOf.TheVariants.{Occurrences}
use Rattle.mz_symbol.specs.Symbols.{ArePlain}
use Rattle.mz_symbol.specs.StepsCons.{items_at, IsListOf}
use Rattle.mz_symbol.proofs.ConsLaws.{plain_lists, both_lists, items_kept}
use Rattle.mz_symbol.proofs.run.Run.both_lists.Goals as goal

pub returns-then-is_plain-clause-lists : goal.returns-then-is_plain-clause-lists
returns-then-is_plain-clause-lists c = plain_lists c.list_of.new.self.arena c.in_ok-base.base (items_at c.args.self.now c.args.line) c.in_ok-terms.terms c.in_ok-base.ensures c.in_ok-terms.ensures.listed (subst ArePlain (items_kept c.args.self.now c.list_of.new.self c.args.line c.in_ok-terms.ensures.adds.lines) (c.is_plain.ensures c.if-is_plain.true))

pub returns-clause-lists : goal.returns-clause-lists
returns-clause-lists c =
    let m = c.list_of.new.self in
    let n = c.list_of-2.new.self in
    let a = c.in_ok-there.ensures in
    both_lists c.args.self.now m n c.in_ok-base.base (items_at c.args.self.now c.args.line) c.in_ok-terms.terms c.in_ok-there.there (8 * length (items_at m c.args.line)) c.in_ok-base.ensures c.in_ok-terms.ensures.listed a.adds
    (subst (λ ss. IsListOf n.arena Occurrences ss c.in_ok-there.there) (items_kept c.args.self.now m c.args.line c.in_ok-terms.ensures.adds.lines) a.listed)
