-- From what `clap` answers to what the words ask for.
use Rattle.std.proofs.Common.{◌≡◌, ◌∙◌, ap, sym, refl, List, [], ◌∷◌, Option, Some, None}
use Rattle.std.specs.Prelude.{option_and_then, IsUtf8}
use Rattle.std.specs.List.{AllByRecursion}
use Rattle.clap.specs.Walk.{Row}
use Rattle.clap.specs.Simple.{matches_of}
use Rattle.clap.specs.Faults.{fault_of}
use Rattle.clap.specs.Kinds.{IsAmong, Kinds}
use Rattle.clap.specs.declared.error.kind.ErrorKind.{ErrorKind}
use Rattle.job_parts.specs.Words.{Word}
use Rattle.job_parts.specs.Asked.{Request, asked, request_of}
use Rattle.job_parts.specs.Command.{command_app}
use Rattle.job_parts.specs.Found.{Texts, numbers, texts_of}
use Rattle.job_parts.proofs.Walked.{clap_reads, unless}
use Rattle.job_parts.proofs.Numbers.{numbers_agree}

abbrev request_from : Option Texts → Option Request
request_from o = option_and_then request_of (option_and_then numbers o)

by_clap : (words : List Word) → AllByRecursion IsUtf8 words → request_from (unless (fault_of command_app words) (Some (texts_of (matches_of command_app words)))) ≡ asked words
unfolding asked
by_clap words text = ap request_from (clap_reads words text) ∙ ap (option_and_then request_of) (numbers_agree words)

-- the words are taken
pub read_found : (words : List Word) → AllByRecursion IsUtf8 words → fault_of command_app words ≡ [] → (rows : List Row) → rows ≡ matches_of command_app words
    → option_and_then request_of (numbers (texts_of rows)) ≡ asked words
read_found words text free rows same =
    (λ i. request_from (unless (sym free i) (Some (texts_of (same i))))) ∙ by_clap words text

none_unless : (k : ErrorKind) (ks : Kinds) (o : Option Texts) → IsAmong k ks → None ≡ unless ks o
none_unless k [] o h = absurd h
none_unless k (x ∷ xs) o h = refl

-- the words are refused
pub read_refused : (words : List Word) → AllByRecursion IsUtf8 words → (k : ErrorKind) → IsAmong k (fault_of command_app words) → None ≡ asked words
read_refused words text k h = ap request_from (none_unless k (fault_of command_app words) _ h) ∙ by_clap words text
