use Rattle.std.specs.Prelude.{string_bytes}
use Rattle.generated_programs.proofs.Statements.{step}
use Rattle.generated_programs.proofs.text.put_statements.Goals as goal

pub loop-left-preserved : goal.loop-left-preserved
loop-left-preserved c =
    step (string_bytes c.loop-left.text) (string_bytes c.put_statement.new.text) _ c.loop-left.left c.loop-left.x c.next-p.result c.next-q.result c.next-r.result
    c.next-p.ensures c.next-q.ensures c.next-r.ensures c.loop-left-test.true c.in_ok-put_statement.ensures c.loop-left.invariant
