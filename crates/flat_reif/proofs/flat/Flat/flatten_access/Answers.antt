use Rattle.std.proofs.Common.{Some, ap, subst, sym, ◌∙◌}
use Rattle.fz_program.specs.Arguments.{plain, plains}
use Rattle.fz_build.specs.Bounds.{ends_of}
use Rattle.flat_reif_rows.specs.Elements.{Reaches, ReachesNone}
use Rattle.flat_reif.specs.States.{state}
use Rattle.flat_reif.proofs.Lacking.{lacking_place, access_index, access_listed, access_lacks, access_row, access_unmet, same_count}
use Rattle.flat_reif.proofs.flat.Flat.flatten_access.Goals as goal

pub argument-requires : goal.argument-requires
argument-requires c = access_index (state c.args.self.now) c.args.id c.args.n.now c.requires.state c.requires.ready c.requires.kind

pub gather-requires-clause-listed : goal.gather-requires-clause-listed
gather-requires-clause-listed c = access_listed (state c.args.self.now) c.args.id c.args.n.now c.requires.state c.requires.ready c.requires.kind

pub sort-requires : goal.sort-requires
sort-requires c = lacking_place (state c.args.self.now) c.args.id c.args.n.now c.requires.state c.requires.ready

pub give_access-requires-clause-reaches : goal.give_access-requires-clause-reaches
give_access-requires-clause-reaches c = subst (Reaches (ends_of c.args.self.now.build.vars (plain c.in-Ok.x))) (same_count c.len.result c.in-Ok-gather.x.items (c.len.ensures ∙ c.in-Ok-gather.x.ok.0)) (c.may_reach.ensures.yes c.if-may_reach.true)

pub give_access-requires-clause-row : goal.give_access-requires-clause-row
give_access-requires-clause-row c = access_row (state c.args.self.now) c.args.id c.args.n.now c.requires.state c.requires.ready c.requires.kind c.sort.result (plains c.in-Ok-gather.x.items) (ends_of c.args.self.now.build.vars (plain c.in-Ok.x)) c.sort.ensures c.in-Ok-gather.ensures (give_access-requires-clause-reaches c) ∙ ap (λ n. Some n) (sym c.row_of_element-name.ensures)

pub give_any-requires-clause-kind : goal.give_any-requires-clause-kind
give_any-requires-clause-kind c = access_lacks (state c.args.self.now) c.args.id c.args.n.now c.requires.state c.requires.ready c.requires.kind

pub give_any-requires-clause-unmet : goal.give_any-requires-clause-unmet
give_any-requires-clause-unmet c = access_unmet (state c.args.self.now) c.args.id c.args.n.now c.requires.state c.requires.ready c.requires.kind (plain c.in-Ok.x) (plains c.in-Ok-gather.x.items) c.in-Ok.ensures c.in-Ok-gather.ensures (subst (ReachesNone (ends_of c.args.self.now.build.vars (plain c.in-Ok.x))) (same_count c.len.result c.in-Ok-gather.x.items (c.len.ensures ∙ c.in-Ok-gather.x.ok.0)) (c.may_reach.ensures.no c.if-may_reach.false)) c.may_reach.ensures.encloses
