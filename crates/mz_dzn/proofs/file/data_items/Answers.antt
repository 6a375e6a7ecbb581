use Rattle.std.proofs.Common.{map, [], arith, refl, List}
use Rattle.std.specs.Prelude.{Ok, Err}
use Rattle.std.proofs.lemmas.Result.{err_from_is_err_and}
use Rattle.mz_base.specs.declared.limit.TheConstants.{OPEN_LIMIT}
use Rattle.mz_tree.specs.declared.data.Data.{Data}
use Rattle.mz_tree.specs.declared.data.DataItem.{DataItem}
use Rattle.mz_tree.specs.Data.{given}
use Rattle.mz_grammar.specs.Data.{dimensions_of, file}
use Rattle.mz_grammar.proofs.DataViable.{answers}
use Rattle.mz_grammar_ebnf.proofs.DataMeans.{data_items_derived}
use Rattle.mz_dzn.proofs.Answer.{tells_syntax, no_data_file}
use Rattle.mz_dzn.proofs.Naming.{whole_within, whole_placed}
use Rattle.mz_dzn.proofs.file.data_items.Goals as goal

pub returns-clause-answers : goal.returns-clause-answers
returns-clause-answers c =
    let start = c.new-cur.ensures in
    answers {X = List DataItem} (file (dimensions_of c.args.names.now)) (map given) OPEN_LIMIT c.args.end c.args.tokens.now [] (Ok c.in_ok-items.items.items) refl (rw (start.rest, start.room, c.in_ok-items.ensures.whole) at c.in_ok-items.ensures.reads)

pub returns-clause-derived : goal.returns-clause-derived
returns-clause-derived c = data_items_derived c.args.names.now OPEN_LIMIT c.args.tokens.now (map given c.in_ok-items.items.items) (returns-clause-answers c)

pub returns-clause-named : goal.returns-clause-named
returns-clause-named c = whole_within c.args.names.now (returns-clause-derived c)

pub returns-clause-placed : goal.returns-clause-placed
returns-clause-placed c = λ number. whole_placed number (returns-clause-derived c)

pub returns-in_err-items-clause-answers : goal.returns-in_err-items-clause-answers
returns-in_err-items-clause-answers c =
    let start = c.new-cur.ensures in
    let from = c.from_residual in
    let p = err_from_is_err_and from.result from.ensures.1 in
    rw (p.1, p.2) (answers {X = Data} (file (dimensions_of c.args.names.now)) (λ d. map given d.items.items) OPEN_LIMIT c.args.end c.args.tokens.now c.file.new.cur.rest.now (Err c.in_err-items.field-0.0) refl (rw (start.rest, start.room, c.file.ensures.end, start.end) at c.in_err-items.ensures.reads))

pub returns-in_err-items-clause-not_derived : goal.returns-in_err-items-clause-not_derived
returns-in_err-items-clause-not_derived c = no_data_file c.args.names.now c.args.end c.args.tokens.now c.from_residual.result (returns-in_err-items-clause-answers c)

pub returns-in_err-items-clause-syntax : goal.returns-in_err-items-clause-syntax
returns-in_err-items-clause-syntax c =
    let start = c.new-cur.ensures in
    let from = c.from_residual in
    let p = err_from_is_err_and from.result from.ensures.1 in
    rw (p.1, p.2) (tells_syntax (file (dimensions_of c.args.names.now)) OPEN_LIMIT c.args.end c.args.tokens.now c.file.new.cur.rest.now _ (omega arith) (rw (start.rest, start.room, c.file.ensures.end, start.end) at c.in_err-items.ensures.reads))
