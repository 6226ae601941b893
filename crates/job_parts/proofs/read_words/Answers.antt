use Rattle.std.proofs.Common.{◌∙◌, ap, sym, map, List, inl, inr, subst, true≢false}
use denote.Enum.Bare.{sameb}
use Rattle.std.proofs.lemmas.Result.{IfOk-weaker}
use Rattle.clap.specs.Words.{App, fault_of, is_simple, is_simple_and_free, matches_of}
use Rattle.clap.specs.Kinds.{IsAmong}
use Rattle.clap.specs.contracts.error.kind.ErrorKind.{the_type}
use Rattle.clap.specs.declared.error.kind.ErrorKind.{ErrorKind}
use Rattle.clap.specs.declared.error.kind.ErrorKind.TheVariants.{OutOfMemory}
use Rattle.job_parts.specs.Words.{Word}
use Rattle.job_parts.proofs.Read.{read_found, read_refused}
use Rattle.job_parts.proofs.read_words.Goals as goal

pub returns-in-Ok-try_get_matches_from-clause-reads : goal.returns-in-Ok-try_get_matches_from-clause-reads
returns-in-Ok-try_get_matches_from-clause-reads c =
    let words : List Word = map (λ s. s.now) c.args.words.now in
    let parsed = c.in-Ok-try_get_matches_from.ensures in
    let free = ap (λ (a : App). fault_of a words) (sym c.in-Ok.ensures) ∙ parsed.kinds (ap is_simple_and_free c.in-Ok.ensures) in
    let same = (parsed.matches (ap is_simple c.in-Ok.ensures)).0 ∙ ap (λ (a : App). matches_of a words) c.in-Ok.ensures in
    IfOk-weaker c.asked_of.result _ _ (λ r h. h ∙ read_found words c.read_texts.ensures free _ same) c.asked_of.ensures.asks

pub returns-clause-reads : goal.returns-clause-reads
returns-clause-reads c =
    let words : List Word = map (λ s. s.now) c.args.words.now in
    let refused = c.in-Err-try_get_matches_from.ensures.kinds (ap is_simple_and_free c.in-Ok.ensures) in
    let kind = c.in-Err-try_get_matches_from.e.kind in
    elim refused [
      | inl memory ↦
          let same = ap (λ (k : ErrorKind). sameb the_type k OutOfMemory) (c.kind.ensures ∙ memory) in
          absurd (true≢false (sym (c.if-eq.ensures ∙ same)))
      | inr among ↦
          let fault = λ (a : App). IsAmong kind (fault_of a words) in
          read_refused words c.read_texts.ensures kind (subst fault c.in-Ok.ensures among)
    ]
