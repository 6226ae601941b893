use Rattle.std.proofs.Common.{◌≡◌, ◌∙◌, List, ℕ, subst}
use Rattle.base_io.specs.Pieces.{AddsTold}
use Rattle.supplied_run.proofs.Telling.{joined}
use Rattle.supplied_run.proofs.line.put_fault.Goals as goal

pub returns-clause-told : goal.returns-clause-told
returns-clause-told g c =
    let e : c.as_bytes.result.now ≡ c.push_str-4.new.self.bytes = cc in
    subst (λ (bytes : List ℕ). AddsTold bytes c.put.result (g.K.Sink.taken c.args.sink.now) (g.K.Sink.taken c.put.new.self))
    (e ∙ joined _ _ _ _ _ _ _ _ _ _ _ _ c.new-text.ensures c.push_str.ensures.bytes c.push_hex.ensures c.push_str-2.ensures.bytes c.push_str-3.ensures.bytes c.why_name.ensures.name c.push_str-4.ensures.bytes)
    c.put.ensures.told
