-- How what holds of each run is kept by nodes, and what nodes mean.
use Rattle.std.proofs.Common.{◌≡◌, ◌∙◌, ℕ, suc, ◌+◌, ◌*◌, ◌≤◌, Bool, true, false, List, [], ◌∷◌, map, slice_get, Option, Some, None, IfSome, Result, Ok, Err, IfOk, refl, sym, ap, subst, arith}
use Rattle.mz_base.specs.declared.stop.Memory.{Memory}
use Rattle.mz_arena.specs.declared.node.Node.{Node}
use Rattle.mz_arena.specs.Entries.{Entry, entry, is_free}
use Rattle.mz_arena.specs.Values.{Term}
use Rattle.mz_arena.specs.Charges.{charges}
use Rattle.mz_arena.specs.Arenas.{IsArena, Grew, Made, IsChecked}
use Rattle.mz_arena.proofs.Folds.{get-below}
use Rattle.mz_arena.proofs.Growing.{arena_empty}
use Rattle.mz_symbol.specs.declared.types.Free.{Free}
use Rattle.mz_symbol.specs.declared.types.Line.{Line}
use Rattle.mz_instance.specs.Parts.{Part, IsNode, AreNodes}
use Rattle.mz_symbol.specs.Choices.{all_parts}
use Rattle.mz_symbol.specs.Symbols.{domain_of, free_ids, waiting}
use Rattle.mz_symbol.specs.Runs.{Run, ReadsNodes, AreLines, IsSound, IsCounted}
use Rattle.mz_symbol.specs.Readings.{Reading, Reads, IsNodeOf, no_values, node_meaning}
use Rattle.mz_symbol.specs.Makes.{GoesOnBy, GoesOn, owed, earned}
use Rattle.mz_symbol.specs.StepsNodes.{AddsNodes}

-- ---- an arena that goes on

pub reads_back : (t : ℕ → Term) (es fs : List Entry) → Grew es fs → ReadsNodes t fs → ReadsNodes t es
reads_back t es fs g h = record {
  kinds = λ id e s f v. h.kinds id e (g.same id (get-below es id e s) ∙ s) f v;
  frees = λ id e s f. h.frees id e (g.same id (get-below es id e s) ∙ s) f;
}

node_later : (es fs : List Entry) (choice : Bool) (k : ℕ) (p : Part) (id : ℕ) → Grew es fs → IsNode es choice k p id → IsNode fs choice k p id
node_later es fs choice k p id g n = record {
  there = n.there;
  stands = g.same id (get-below es id n.there n.stands) ∙ n.stands;
  free = n.free;
  local = n.local;
  sort = n.sort;
  mark = n.mark;
  own = n.own;
  number = n.number;
  over = n.over;
  domain = g.same n.there.node.a (get-below es n.there.node.a n.over n.domain) ∙ n.domain;
  set = n.set;
}

pub nodes_later : (es fs : List Entry) (choice : Bool) (k : ℕ) (is : List ℕ) (ps : List Part) → Grew es fs → AreNodes es choice k is ps → AreNodes fs choice k is ps
nodes_later es fs choice k [] [] g h = tt
nodes_later es fs choice k [] (p ∷ ps) g h = absurd h
nodes_later es fs choice k (i ∷ is) [] g h = absurd h
nodes_later es fs choice k (i ∷ is) (p ∷ ps) g h = (node_later es fs choice k p i g h.0, nodes_later es fs choice (suc k) is ps g h.1)

pub lines_later : (es fs : List Entry) (ls : List Line) → Grew es fs → AreLines es ls → AreLines fs ls
lines_later es fs ls g w = λ t h k l e. w t (reads_back t es fs g h) k l e

pub sound_later : (es fs : List Entry) (cs : List Free) (ls : List Line) → Grew es fs → IsArena fs → IsSound es cs ls → IsSound fs cs ls
sound_later es fs cs ls g a s = record {
  arena = a;
  locals = nodes_later es fs true 0 (free_ids cs) (all_parts (map domain_of cs)) g s.locals;
  domains = s.domains;
  lines = lines_later es fs ls g s.lines;
}

pub counted_later : (es fs : List Entry) (cs : List Free) (ls : List Line) (parts : ℕ) → Grew es fs → IsArena fs → IsCounted es cs ls parts → IsCounted fs cs ls parts
counted_later es fs cs ls parts g a c = record { sound = sound_later es fs cs ls g a c.sound; count = c.count }

pub nothing_counted : (es : List Entry) (cs : List Free) (ls : List Line) → es ≡ [] → cs ≡ [] → ls ≡ [] → IsCounted es cs ls 0
nothing_counted es cs ls e c l = subst (λ es. IsCounted es cs ls 0) (sym e) (subst (λ cs. IsCounted [] cs ls 0) (sym c) (subst (λ ls. IsCounted [] [] ls 0) (sym l) (record { sound = record { arena = arena_empty; locals = tt; domains = tt; lines = λ t h k l e. cc }; count = refl })))

-- ---- what reads a run reads one with fewer nodes

pub nodes_back : (n : ℕ) (old new : Run) (r : Reading) → AddsNodes n old new → Reads r new → Reads r old
nodes_back n old new r a h = record {
  nodes = reads_back r.term old.arena new.arena a.grew h.nodes;
  choices = rw (sym a.choices) h.choices;
  lines = λ k l e. h.lines k l (ap (λ ls. slice_get ls k) a.lines ∙ e);
}

pub nodes_go : (n : ℕ) (old new : Run) → AddsNodes n old new → GoesOnBy n old new
nodes_go n old new a = record {
  back = λ r h. nodes_back n old new r a h;
  paid = paid_for (charges old.arena) (charges new.arena) (waiting old.lines) (waiting new.lines) old.work new.work old.weight new.weight old.saved new.saved n a.work a.weight a.saved (ap waiting a.lines) a.charged;
}
  where
    paid_for : (c d w v x y a b e f n : ℕ) → y ≡ x → b ≡ a → f ≡ e → v ≡ w → d ≤ c + n → d + 16 * v + f + 64 * (x + a) ≤ c + 16 * w + e + 64 * (y + b) + n
    paid_for c d w v x y a b e f n p q k s h = omega (arith, p, q, k, s, h)

pub node_means : (r : Reading) (new : Run) (n : Node) (id : ℕ) → Made new.arena (entry n) id → is_free n.kind ≡ false → Reads r new → node_meaning r n ≡ r.term id
node_means r new n id m f h = sym (h.nodes.kinds id (entry n) m.stands f no_values)

pub node_tried : (old : List Entry) (new : Run) (n : Node) (o : Option ℕ) → is_free n.kind ≡ false → IsChecked old new.arena n o → IfSome o (IsNodeOf new n)
node_tried old new n None f h = tt
node_tried old new n (Some id) f h = λ r q. sym (node_means r new n id h.made f q)

pub tried_by : (old : List Entry) (new : Run) (n : Node) (x : Result (Option ℕ) Memory) → is_free n.kind ≡ false → IfOk x (IsChecked old new.arena n) → IfOk x (λ o. IfSome o (IsNodeOf new n))
tried_by old new n (Ok o) f h = node_tried old new n o f h
tried_by old new n (Err e) f h = tt

-- ---- runs that go on, one after the other

pub goes_on : (old mid new : Run) → GoesOn old mid → GoesOn mid new → GoesOn old new
goes_on old mid new f g = record {
  back = λ r h. f.back r (g.back r h);
  paid = sums (owed old) (owed mid) (owed new) (earned old) (earned mid) (earned new) f.paid g.paid;
}
  where
    sums : (a b c x y z : ℕ) → b + x ≤ a + y + 0 → c + y ≤ b + z + 0 → c + x ≤ a + z + 0
    sums a b c x y z p q = omega (arith, p, q)
