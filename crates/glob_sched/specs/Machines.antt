-- What the code's automaton stands for.
use Rattle.mz_globals.specs.Graphs.{Automaton}
use Rattle.glob_sched.specs.declared.of_values.tables.Machine.{Machine}

abbrev pub machine : Machine → Automaton
machine m = record { states = m.states; letters = m.letters; steps = m.steps.now; final = m.last.now }
