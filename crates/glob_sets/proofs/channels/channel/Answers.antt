use Rattle.std.proofs.Common.{arith}
use Rattle.glob_nodes.proofs.Saying.{ok_so}
use Rattle.glob_nodes.proofs.Telling.{goes_less, goes_more}
use Rattle.glob_sets.proofs.Belonging.{channel_cost, channel_row}
use Rattle.glob_sets.proofs.channels.channel.Goals as goal

pub returns-in_err-body-clause-goes : goal.returns-in_err-body-clause-goes
returns-in_err-body-clause-goes c =
    let most = channel_cost c.args.xs.now.items.items c.args.ys.now.items.items in
    goes_less _ _ c.args.run.now c.are_channel.new.run (omega (arith, most)) c.are_channel.ensures.goes

pub returns-clause-goes : goal.returns-clause-goes
returns-clause-goes c = goes_more _ 12 _ c.args.run.now c.are_channel.new.run c.where_arrays.new.run (channel_cost c.args.xs.now.items.items c.args.ys.now.items.items) c.in_ok-body.ensures.goes c.where_arrays.ensures.goes

pub returns-clause-row : goal.returns-clause-row
returns-clause-row c = ok_so c.where_arrays.result c.where_arrays.ensures.says (λ id s. channel_row c.args.run.now c.are_channel.new.run c.where_arrays.new.run c.args.xs.now c.args.ys.now c.in_ok-body.body id _ 12 c.requires.xs c.requires.ys c.in_ok-body.ensures.goes c.in_ok-body.ensures.tells c.where_arrays.ensures.goes s)
