use Rattle.std.proofs.Common.{◌∙◌, ap, List, ℕ, drop, ◌++◌, arith}
use Rattle.std.proofs.lemmas.List.{drop-append-le}
use Rattle.soln_reader.proofs.reader.append.Goals as goal

pub returns-clause-ok : goal.returns-clause-ok
returns-clause-ok c =
    ap (λ (bs : List ℕ). drop c.compact.new.start bs) c.in_ok-extend_from_slice.ensures.items
    ∙ drop-append-le c.compact.new.start c.compact.new.bytes.items c.args.piece.now (omega (arith, c.compact.ensures.within, c.compact.new.bytes.ok.0))
    ∙ ap (λ (bs : List ℕ). bs ++ c.args.piece.now) c.compact.ensures.same
