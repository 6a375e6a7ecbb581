use Rattle.std.proofs.Common.{refl, ◌∙◌}
use Rattle.mz_arena.proofs.Kept.{is_kept, is_put}
use Rattle.mz_arena.proofs.table.Table.keep.Goals as goal

pub returns : goal.returns
returns c = record {
  kept = is_kept c.args.self.now (record { stored = c.args.self.now.stored; sets = c.push.new.self; wholes = c.args.self.now.wholes; subsets = c.args.self.now.subsets }) c.args.set refl refl refl c.in_ok-push.ensures.items c.requires.sound c.requires.set;
  put = is_put (record { stored = c.args.self.now.stored; sets = c.push.new.self; wholes = c.args.self.now.wholes; subsets = c.args.self.now.subsets }) c.args.self.now.sets.items c.args.set c.len-k.result c.in_ok-push.ensures.items (c.len-k.ensures ∙ c.args.self.now.sets.ok.0);
}
