use Rattle.std.proofs.Common.{◌∙◌, List, ℕ, sym, subst}
use Rattle.base_io.specs.Pieces.{AddsTold}
use Rattle.base_io.specs.declared.sink.SinkFault.{SinkFault}
use Rattle.job_files.proofs.Lines.{told_then}
use Rattle.job_files.proofs.ending.put_text.Goals as goal

pub loop-left-preserved : goal.loop-left-preserved
loop-left-preserved g c = record {
  told = λ r new h.
      c.loop-left.invariant.told r new (subst (λ (t : List ℕ). AddsTold {T = Unit {0}} {E = SinkFault} t r (g.K.Sink.taken c.loop-left.sink) new) (sym c.first_line.ensures.whole)
      (told_then c.first_line.result.first.now c.first_line.result.rest.now c.in-Ok.field-0 r (g.K.Sink.taken c.loop-left.sink) (g.K.Sink.taken c.put.new.self) new c.in-Ok.ensures.told h));
  faults = c.in-Ok.ensures.cause ∙ c.loop-left.invariant.faults;
}
