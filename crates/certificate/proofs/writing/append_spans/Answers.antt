use Rattle.certificate.specs.Spelling.{span_text}
use Rattle.certificate.proofs.Appends.{parts_in_two}
use Rattle.certificate.proofs.writing.append_spans.Goals as goal

pub returns-in_ok-append_span-in-len1-up : goal.returns-in_ok-append_span-in-len1-up
returns-in_ok-append_span-in-len1-up c =
    parts_in_two span_text c.args.spans.now _ c.append_more_spans.result _ _ _ c.in-len1-up.len_at_least c.in_ok-append_span-in-len1-up.ensures c.append_more_spans.ensures
