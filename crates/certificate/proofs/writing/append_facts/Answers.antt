use Rattle.certificate.specs.Spelling.{fact_text}
use Rattle.certificate.proofs.Appends.{parts_in_two}
use Rattle.certificate.proofs.writing.append_facts.Goals as goal

pub returns-in_ok-append_fact-in-len1-up : goal.returns-in_ok-append_fact-in-len1-up
returns-in_ok-append_fact-in-len1-up c =
    parts_in_two fact_text c.args.facts.now _ c.append_more_facts.result _ _ _ c.in-len1-up.len_at_least c.in_ok-append_fact-in-len1-up.ensures c.append_more_facts.ensures
