use Rattle.mz_model_names.proofs.Declared.{some_places}
use Rattle.mz_model_names.proofs.index_ranges.place_count.Goals as goal

pub returns-in-len1-up : goal.returns-in-len1-up
returns-in-len1-up c = some_places c.args.ws.now c.counted.result c.in-len1-up.len_at_least c.counted.ensures
