use Rattle.std.proofs.Common.{◌≡◌, ◌∙◌, [], subst, sym}
use Rattle.std.specs.Prelude.{OnOk}
use Rattle.std.proofs.lemmas.List.{nil_from_length}
use Rattle.fz_program.specs.Arguments.{plains}
use Rattle.flat_reif.specs.States.{state, plain_args, put_at}
use Rattle.flat_reif.proofs.Given.{on_ok}
use Rattle.flat_reif.proofs.Extremes.{extreme_listed, empty_given, no_plains, no_length}
use Rattle.flat_reif.proofs.flat.Flat.flatten_extreme.Goals as goal

pub gather-requires-clause-listed : goal.gather-requires-clause-listed
gather-requires-clause-listed c = extreme_listed (state c.args.self.now) c.args.id c.args.n.now c.requires.state c.requires.ready c.args.side c.requires.kind

pub returns-then-is_empty : goal.returns-then-is_empty
returns-then-is_empty c =
    let none : c.in-Ok.x.items ≡ [] = nil_from_length c.in-Ok.x.items (sym c.in-Ok.x.ok.0 ∙ no_length _ (sym c.is_empty.ensures ∙ c.if-is_empty.true)) in
    on_ok c.put.result _ _ (empty_given (state c.args.self.now) c.args.id c.args.n.now c.requires.state c.requires.ready c.args.side c.requires.kind (plains c.in-Ok.x.items) (plain_args c.put.new.args.items) c.in-Ok.ensures (no_plains c.in-Ok.x.items none)) (subst (λ p. OnOk c.put.result (plain_args c.put.new.args.items ≡ put_at (state c.args.self.now).args c.args.id p)) c.zero.ensures c.put.ensures)
