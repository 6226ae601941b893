-- What contracts see of a run's fields.
use Rattle.c_tree.specs.Runs.{State}
use Rattle.c_tree.specs.declared.run.Run.TheInside.{Inside}

abbrev pub state_of : Inside → State
state_of r = record { store = r.store.items; input = r.rest.now; left = r.left }
