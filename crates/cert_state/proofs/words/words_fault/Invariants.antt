use Rattle.std.proofs.Common.{◌≡◌, ◌+◌, ◌*◌, ◌≤◌, length}
use Rattle.cert_rules.specs.Tables.{words_fault}
use Rattle.cert_state.specs.Shown.{blocks_in}
use Rattle.cert_state.proofs.words.words_fault.Given as goal

-- the words so far stand there
abbrev pub invariant-loop-rest : goal.invariant-loop-rest
invariant-loop-rest l =
    (words_fault (blocks_in l.segments) l.rule l.at l.rest ≡ words_fault (blocks_in l.segments) l.rule l.fn.address l.words) × (l.at + 2 * length l.rest ≤ 65535)

abbrev pub decreases-loop-rest : goal.decreases-loop-rest
decreases-loop-rest l = length l.rest
