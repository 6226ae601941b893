use Rattle.std.proofs.Common.{refl, sym, subst}
use Rattle.std.specs.Prelude.{IsOk}
use Rattle.base_io.proofs.PieceLemmas.{told_more}
use Rattle.supplied_run.specs.Lines.{count_line, end_line}
use Rattle.supplied_run.proofs.running.finish.Goals as goal

pub returns-clause-told : goal.returns-clause-told
returns-clause-told g c =
    told_more (end_line c.args.end) (count_line c.args.core.now.counts) c.put_end.result c.put_counts.result (g.K.Sink.taken c.args.sink.now) (g.K.Sink.taken c.put_end.new.sink) (g.K.Sink.taken c.put_counts.new.sink)
    (subst (λ r. IsOk r) (sym c.in_ok-put_end.was) refl) c.put_end.ensures.told c.put_counts.ensures.told
