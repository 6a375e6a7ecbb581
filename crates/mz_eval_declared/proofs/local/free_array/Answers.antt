use Rattle.mz_eval_declared.proofs.local.free_array.Goals as goal

pub returns-in-Missing : goal.returns-in-Missing
returns-in-Missing c = rw c.in-Missing.is c.no_choices.ensures

pub returns-in-Anything : goal.returns-in-Anything
returns-in-Anything c = rw c.in-Anything.is c.choose_places.ensures

pub returns-in-Within : goal.returns-in-Within
returns-in-Within c = rw c.in-Within.is c.choose_places-in-Within.ensures
