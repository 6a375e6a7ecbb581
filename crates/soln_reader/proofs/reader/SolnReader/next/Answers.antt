use Rattle.std.proofs.Common.{◌+◌, ap, sym, subst, arith, List, ℕ, drop, Option}
use Rattle.std.proofs.lemmas.List.{length-drop}
use Rattle.mz_value.specs.declared.value.Shape.{Shape}
use Rattle.fz_items.specs.Forms.{forms}
use Rattle.soln_reader.specs.Views.{block_of, state}
use Rattle.soln_reader.specs.Reader.{State, Answers}
use Rattle.soln_reader.specs.StepsReader.{FitsShapes}
use Rattle.soln_reader.proofs.ReaderLemmas.{settled, seen_fits, slice_is, walks_slice}
use Rattle.soln_reader.proofs.Soundness.{next_sound}
use Rattle.soln_reader.proofs.reader.SolnReader.next.Goals as goal

pub returns-in_default-table-clause-answers : goal.returns-in_default-table-clause-answers
returns-in_default-table-clause-answers c = ap state c.self.view_is

pub invariant_of-self-2 : goal.invariant_of-self-2
invariant_of-self-2 c =
    let h = c.self.inside in
    let bytes = h.bytes.items in
    let found = c.walk_lines-found.result in
    let F : List Shape → Type 0 = λ ss. FitsShapes ss c.prepare.new.table in
    let walks = walks_slice h.shapes.items c.deref-2.result.now c.args.ended h.lines (block_of h.block) bytes c.deref-3.result.now h.start (block_of c.walk_lines-found.new.block) found.stop found.lines found.taken _ c.deref-2.ensures.value c.deref-3.ensures.value c.walk_lines-found.ensures.walks in
    next_sound h.shapes.items h.table c.prepare.new.table bytes _ h.start found.taken h.seen c.seen-self-inside.result h.lines found.lines c.self.invariant
    (subst F c.deref.ensures.value c.prepare.ensures) (slice_is bytes c.deref-3.result.now h.start c.deref-3.ensures.value) c.walk_lines-found.ensures.within c.walk_lines-found.ensures.few
    (seen_fits c.args.ended (forms h.shapes.items) bytes h.start found.taken h.lines found.lines (block_of h.block) (block_of c.walk_lines-found.new.block) found.stop _ c.seen-self-inside.result walks (omega (arith, length-drop (h.start + found.taken) bytes, c.len.ensures)) c.seen-self-inside.ensures)

pub returns-clause-answers : goal.returns-clause-answers
returns-clause-answers c =
    let h = c.self.inside in
    let bytes = h.bytes.items in
    let found = c.walk_lines-found.result in
    let walks = walks_slice h.shapes.items c.deref-2.result.now c.args.ended h.lines (block_of h.block) bytes c.deref-3.result.now h.start (block_of c.walk_lines-found.new.block) found.stop found.lines found.taken _ c.deref-2.ensures.value c.deref-3.ensures.value c.walk_lines-found.ensures.walks in
    let S : State → Type 0 = λ s. Answers c.args.ended s c.settle.result (record { forms = forms h.shapes.items; bytes = drop (h.start + found.taken) bytes; lines = found.lines; block = block_of c.settle.new.block; bad = c.settle.new.bad }) in
    let N : Option ℕ → Type 0 = λ b. Answers c.args.ended (record { forms = forms h.shapes.items; bytes = drop h.start bytes; lines = h.lines; block = block_of h.block; bad = b }) c.settle.result (record { forms = forms h.shapes.items; bytes = drop (h.start + found.taken) bytes; lines = found.lines; block = block_of c.settle.new.block; bad = c.settle.new.bad }) in
    subst S (ap state c.self.view_is) (subst N (sym c.in_default.is)
    (settled c.args.ended (forms h.shapes.items) bytes h.start found.taken h.lines found.lines (block_of h.block) (block_of c.walk_lines-found.new.block) found.stop c.settle.result (block_of c.settle.new.block) c.settle.new.bad walks c.settle.ensures))
