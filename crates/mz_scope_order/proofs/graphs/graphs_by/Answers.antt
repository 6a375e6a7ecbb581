use Rattle.std.proofs.Common.{refl, true, false, length, ◌+◌, arith}
use Rattle.mz_graph.specs.Graph.{graph_of}
use Rattle.mz_scope_order.proofs.Making.{names_short, numbered, graphs_made}
use Rattle.mz_scope_order.proofs.graphs.graphs_by.Goals as goal

pub overflow_add-base : goal.overflow_add-base
overflow_add-base c =
    let a = names_short false c.args.tables.now.bare c.args.functions.now c.requires.bare_are in
    let b = names_short true c.args.tables.now.applied c.args.functions.now c.requires.applied_are in
    omega (arith, a, b, c.count-count.ensures)

pub calls_of-requires-clause-room : goal.calls_of-requires-clause-room
calls_of-requires-clause-room c =
    let a = names_short false c.args.tables.now.bare c.args.functions.now c.requires.bare_are in
    let b = names_short true c.args.tables.now.applied c.args.functions.now c.requires.applied_are in
    omega (arith, a, b)

pub calls_of-requires-clause-numbers : goal.calls_of-requires-clause-numbers
calls_of-requires-clause-numbers c = numbered c.args.tables.now.bare c.args.tables.now.applied c.args.numbers.now.items c.count-count.result c.args.functions.now c.requires.bare_are c.requires.applied_are c.requires.numbers_are c.count-count.ensures

pub types_of-requires-clause-first : goal.types_of-requires-clause-first
types_of-requires-clause-first c =
    let a = names_short false c.args.tables.now.bare c.args.functions.now c.requires.bare_are in
    let b = names_short true c.args.tables.now.applied c.args.functions.now c.requires.applied_are in
    omega (arith, a, b)

pub types_of-requires-clause-base : goal.types_of-requires-clause-base
types_of-requires-clause-base c =
    let a = names_short false c.args.tables.now.bare c.args.functions.now c.requires.bare_are in
    let b = names_short true c.args.tables.now.applied c.args.functions.now c.requires.applied_are in
    let d = names_short false c.args.tables.now.decls c.args.decls.now c.requires.named_are in
    omega (arith, a, b, d, c.count-count.ensures)

pub types_of-requires-clause-numbers : goal.types_of-requires-clause-numbers
types_of-requires-clause-numbers c = numbered c.args.tables.now.bare c.args.tables.now.applied c.args.numbers.now.items c.count-count.result c.args.functions.now c.requires.bare_are c.requires.applied_are c.requires.numbers_are c.count-count.ensures

pub call_rows-requires : goal.call_rows-requires
call_rows-requires c =
    let a = names_short false c.args.tables.now.bare c.args.functions.now c.requires.bare_are in
    let b = names_short true c.args.tables.now.applied c.args.functions.now c.requires.applied_are in
    omega (arith, a, b)

pub returns : goal.returns
returns c = graphs_made c.args.decls.now c.args.functions.now c.args.tables.now.bare c.args.tables.now.applied c.args.tables.now.decls c.args.numbers.now.items (length c.args.functions.now) c.count-count.result (length c.args.functions.now + c.count-count.result)
    c.requires.bare_are c.requires.applied_are c.requires.named_are c.requires.numbers_are refl c.count-count.ensures refl
    (graph_of c.in_ok-calls.calls.items) (graph_of c.in_ok-mentions.mentions.items) (graph_of c.in_ok-decl_calls.decl_calls.items) (graph_of c.in_ok-decl_mentions.decl_mentions.items) (graph_of c.in_ok-types.types.items)
    c.in_ok-calls.ensures c.in_ok-mentions.ensures c.in_ok-types.ensures c.in_ok-decl_calls.ensures c.in_ok-decl_mentions.ensures
