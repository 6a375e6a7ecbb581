use Rattle.mz_scope_order.proofs.graphs.graphs_of.Goals as goal

pub graphs_by-requires : goal.graphs_by-requires
graphs_by-requires c = record { bare_are = c.in_ok-tables.ensures.bare; applied_are = c.in_ok-tables.ensures.applied; named_are = c.in_ok-tables.ensures.decls; numbers_are = c.in_ok-numbers.ensures }
