use Rattle.std.proofs.Common.{◌≡◌, ◌+◌, ◌∙◌, sym, List, ℕ, true, drop, subst, arith}
use Rattle.std.proofs.lemmas.List.{drop-drop, length-drop}
use Rattle.fz_items.specs.Forms.{forms}
use Rattle.soln_reader.specs.Views.{block_of}
use Rattle.soln_reader.specs.Stream.{Passes, no_line, has_line, line_outcome, leaves}
use Rattle.fz_items.specs.declared.outputs.Slot.{Slot}
use Rattle.soln_reader.specs.Blocks.{Block}
use Rattle.soln_reader.specs.StepsLines.{StepsOver}
use Rattle.soln_reader.specs.StepsUndo.{Undo, Restores}
use Rattle.soln_reader.proofs.UndoLemmas.{restores_none}
use Rattle.soln_reader.specs.StepsWalk.{place_at}
use Rattle.soln_reader.proofs.LineLemmas.{rest_slice}
use Rattle.soln_reader.proofs.ReaderLemmas.{passes_more}
use Rattle.soln_reader.proofs.walk.pass_lines.Goals as goal

pub lines-init : goal.lines-init
lines-init c =
    let R : List Slot → Type 0 = λ ss. Restores ss (block_of c.args.block.now) (block_of c.args.block.now) in
    record { passed = no_line; within = omega arith; few = omega arith; known = c.requires.seen; restores = subst R (sym c.new-slots.ensures.items) (restores_none (block_of c.args.block.now)) }

pub lines-preserved : goal.lines-preserved
lines-preserved c =
    let i = c.lines.invariant in
    let bytes = c.args.bytes.now in
    let fs = forms c.args.shapes.now in
    let first = block_of c.args.block.now in
    let S : List ℕ → Type 0 = λ cs. (has_line c.args.ended cs ≡ true) × (line_outcome fs (block_of c.lines.block) cs ≡ leaves (block_of c.first_step.new.block)) × Undo c.in-Passed.filled (block_of c.lines.block) (block_of c.first_step.new.block) × StepsOver cs c.in-Passed.n in
    let s = subst S (rest_slice bytes c.lines.at) c.in-Passed.ensures in
    let P : List ℕ → Type 0 = λ cs. Passes fs c.args.ended (place_at c.args.lines first) bytes (place_at (c.lines.passed + 1) (block_of c.first_step.new.block)) cs in
    let Q : Block → Type 0 = λ b. Passes fs c.args.ended (place_at c.args.lines first) bytes (place_at (c.lines.passed + 1) b) (drop (c.lines.at + c.in-Passed.n) bytes) in
    record {
      passed = subst Q (sym (c.note.ensures.same c.if-not-note.false)) (subst P (sym s.3.rest ∙ drop-drop c.in-Passed.n c.lines.at bytes) (passes_more fs c.args.ended (place_at c.args.lines first) bytes (place_at c.lines.passed (block_of c.lines.block)) (drop c.lines.at bytes) (block_of c.first_step.new.block) i.passed s.0 s.1));
      within = omega (arith, i.within, s.3.within, length-drop c.lines.at bytes);
      few = omega (arith, i.within, i.few, s.3.some, s.3.within, length-drop c.lines.at bytes);
      known = omega arith;
      restores = c.note.ensures.restores first (block_of c.lines.block) i.restores s.2;
    }

pub returns-then-not-note-clause-walks : goal.returns-then-not-note-clause-walks
returns-then-not-note-clause-walks c = c.note.ensures.restores (block_of c.args.block.now) (block_of c.lines.block) c.lines.invariant.restores c.in-Passed.ensures.2

pub returns-in-Memory-clause-walks : goal.returns-in-Memory-clause-walks
returns-in-Memory-clause-walks c =
    let R : Block → Type 0 = λ b. Restores c.lines.slots.items (block_of c.args.block.now) b in
    subst R (sym c.in-Memory.ensures) c.lines.invariant.restores
