use Rattle.std.proofs.Common.{◌≡◌, Option, List, ℕ, length}
use Rattle.std.specs.Prelude.{Result}
use Rattle.base_io.specs.Pieces.{AddsTold}
use Rattle.base_io.specs.declared.sink.SinkFault.{SinkFault}
use Rattle.job_files.proofs.ending.put_text.Given as goal

-- what comes of the lines that are left comes of the whole text, and none has failed so far
abbrev pub invariant-loop-left : goal.invariant-loop-left
invariant-loop-left g l = record {
  told : (r : Result (Unit {0}) SinkFault) (new : Option (List ℕ)) → AddsTold {T = Unit {0}} {E = SinkFault} l.left r (g.K.Sink.taken l.sink) new
      → AddsTold {T = Unit {0}} {E = SinkFault} l.text r (g.K.Sink.taken l.fn.sink) new;
  faults : g.K.Sink.faults l.sink ≡ g.K.Sink.faults l.fn.sink;
}

abbrev pub decreases-loop-left : goal.decreases-loop-left
decreases-loop-left g l = length l.left
