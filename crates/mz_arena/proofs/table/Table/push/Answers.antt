use Rattle.std.proofs.Common.{refl, ◌∙◌}
use Rattle.mz_arena.proofs.Pushed.{is_pushed, sound_pushed}
use Rattle.mz_arena.proofs.Placing.{pushed_listed, same_listed}
use Rattle.mz_arena.proofs.table.Table.push.Goals as goal

pub returns-clause-sound : goal.returns-clause-sound
returns-clause-sound c = sound_pushed c.args.self.now (record { stored = c.push.new.self; sets = c.args.self.now.sets; wholes = c.args.self.now.wholes; subsets = c.args.self.now.subsets }) c.args.stored.now refl c.in_ok-push.ensures.items c.requires.sound c.requires.ready

pub returns-clause-pushed : goal.returns-clause-pushed
returns-clause-pushed c = is_pushed c.args.self.now (record { stored = c.push.new.self; sets = c.args.self.now.sets; wholes = c.args.self.now.wholes; subsets = c.args.self.now.subsets }) c.args.stored.now c.len-id.result refl c.in_ok-push.ensures.items (c.len-id.ensures ∙ c.args.self.now.stored.ok.0)

pub returns-clause-listed : goal.returns-clause-listed
returns-clause-listed c =
    pushed_listed c.args.self.now (record { stored = c.push.new.self; sets = c.args.self.now.sets; wholes = c.args.self.now.wholes; subsets = c.args.self.now.subsets }) c.args.stored.now refl refl refl c.in_ok-push.ensures.items c.requires.listed c.requires.ready c.requires.places

pub returns-in_err-push-clause-listed : goal.returns-in_err-push-clause-listed
returns-in_err-push-clause-listed c =
    same_listed c.args.self.now (record { stored = c.push.new.self; sets = c.args.self.now.sets; wholes = c.args.self.now.wholes; subsets = c.args.self.now.subsets }) refl refl refl c.in_err-push.ensures.items c.requires.listed
