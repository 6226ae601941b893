use Rattle.std.proofs.Common.{map}
use Rattle.run_job.proofs.Spelling.{spelled_names}
use Rattle.run_job.proofs.run_contents.rows_each.Goals as goal

pub returns : goal.returns
returns c =
    spelled_names (λ n. n.now) (λ v. v.items) (λ v. v.items) (map (λ n. n.now) c.args.names.now) (map (λ v. v.items) c.args.texts.now) c.loop-names_left.names_left.now c.loop-names_left.texts_left.now c.loop-names_left.all.items
    c.in_default.len_below c.loop-names_left.invariant
