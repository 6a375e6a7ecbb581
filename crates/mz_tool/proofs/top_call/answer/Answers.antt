use Rattle.std.proofs.Common.{◌≡◌, subst, refl, Some}
use Rattle.mz_base.specs.Names.{AreDistinct}
use Rattle.mz_words.specs.Requests.{request_of}
use Rattle.mz_tool.specs.Status.{Completes}
use Rattle.mz_tool.proofs.Completion.{completes}
use Rattle.mz_tool.proofs.Endings.{cut_short, done_writes, is_usage, owner, printed, refused, refused_so, same_asked, unless, untouched}
use Rattle.mz_tool.proofs.top_call.answer.Goals as goal

pub returns-clause-headline : goal.returns-clause-headline
returns-clause-headline g c =
    let a = request_of c.args.request.now in
    let known = c.done-end.new.names in
    let distinct = subst AreDistinct c.names.view_is c.names.invariant in
    let texts = g.F.Files.texts c.args.files.now in
    let old = g.S.Sink.held c.args.out.now in
    let new = g.S.Sink.held c.done-end.new.out in
    rw c.status-status.ensures (unless a (done_writes known distinct texts a old new c.done-end.result) c.done-end.ensures.ended)

pub returns-clause-cut_short : goal.returns-clause-cut_short
returns-clause-cut_short g c =
    let a = request_of c.args.request.now in
    let known = c.done-end.new.names in
    let distinct = subst AreDistinct c.names.view_is c.names.invariant in
    let texts = g.F.Files.texts c.args.files.now in
    let old = g.S.Sink.held c.args.out.now in
    let new = g.S.Sink.held c.done-end.new.out in
    rw c.status-status.ensures (unless a (cut_short known distinct texts a old new c.done-end.result) c.done-end.ensures.ended)

pub returns-clause-untouched : goal.returns-clause-untouched
returns-clause-untouched g c =
    let a = request_of c.args.request.now in
    let known = c.done-end.new.names in
    let distinct = subst AreDistinct c.names.view_is c.names.invariant in
    let texts = g.F.Files.texts c.args.files.now in
    let old = g.S.Sink.held c.args.out.now in
    let new = g.S.Sink.held c.done-end.new.out in
    rw c.status-status.ensures (unless a (untouched known distinct texts a old new c.done-end.result) c.done-end.ensures.ended)

pub returns-clause-printed : goal.returns-clause-printed
returns-clause-printed g c =
    let a = request_of c.args.request.now in
    let known = c.done-end.new.names in
    let distinct = subst AreDistinct c.names.view_is c.names.invariant in
    let texts = g.F.Files.texts c.args.files.now in
    let old = g.S.Sink.held c.args.out.now in
    let new = g.S.Sink.held c.done-end.new.out in
    let source = g.I.Source.left c.args.input.now in
    let rest = g.I.Source.left c.done-end.new.input in
    rw c.status-status.ensures (printed known distinct texts a source rest old new c.done-end.result c.done-end.ensures.printed)

pub returns-clause-usage : goal.returns-clause-usage
returns-clause-usage g c = rw c.status-status.ensures (is_usage (Some (request_of c.args.request.now)) (request_of c.args.request.now) c.done-end.result refl)

pub returns-clause-refused : goal.returns-clause-refused
returns-clause-refused g c =
    let a = request_of c.args.request.now in
    let known = c.done-end.new.names in
    let distinct = subst AreDistinct c.names.view_is c.names.invariant in
    let texts = g.F.Files.texts c.args.files.now in
    let old = g.S.Sink.held c.args.out.now in
    let new = g.S.Sink.held c.done-end.new.out in
    rw c.status-status.ensures (refused known distinct texts a c.done-end.result (refused_so known distinct texts a old new c.done-end.result c.done-end.ensures.ended c.done-end.ensures.refused))

pub returns-clause-complete : goal.returns-clause-complete
returns-clause-complete g c = λ b is read taken write.
    let a = request_of c.args.request.now in
    let known = c.done-end.new.names in
    let distinct = subst AreDistinct c.names.view_is c.names.invariant in
    let texts = g.F.Files.texts c.args.files.now in
    let old = g.S.Sink.held c.args.out.now in
    let new = g.S.Sink.held c.done-end.new.out in
    let source = g.I.Source.left c.args.input.now in
    let rest = g.I.Source.left c.done-end.new.input in
    let same : a ≡ b = same_asked a b is in (
      known,
      subst (λ k. Completes known texts k source c.status-status.result) same
          (rw c.status-status.ensures
          (completes known distinct texts a source rest old new _ _ _ _ _ _ c.done-end.result read taken write (refused_so known distinct texts a old new c.done-end.result c.done-end.ensures.ended c.done-end.ensures.refused) c.done-end.ensures.printed
          c.done-end.ensures.counted c.done-end.ensures.output)),
    )

pub returns-clause-notes : goal.returns-clause-notes
returns-clause-notes g c =
    let a = request_of c.args.request.now in
    let known = c.done-end.new.names in
    let distinct = subst AreDistinct c.names.view_is c.names.invariant in
    let texts = g.F.Files.texts c.args.files.now in
    let old = g.S.Sink.held c.args.out.now in
    let new = g.S.Sink.held c.done-end.new.out in
    record {
      file = c.file_of.result.now;
      owner = rw (c.status-status.ensures, c.file_of.ensures)
          (owner known distinct texts a c.done-end.result (refused_so known distinct texts a old new c.done-end.result c.done-end.ensures.ended c.done-end.ensures.refused));
      line = c.note.ensures;
    }
