use Rattle.std.proofs.Common.{ap, ◌∙◌}
use Rattle.c_lex.specs.Scan.{scan, scan_behind}
use Rattle.c_lex.proofs.Advancing.{advances}
use Rattle.c_lex.proofs.scanning.scan.Goals as goal

pub returns-in-Some-clause-piece : goal.returns-in-Some-clause-piece
unfolding scan
returns-in-Some-clause-piece c = ap (λ o. scan_behind o c.args.text.now) c.in-Some.ensures

pub returns-in-None-clause-piece : goal.returns-in-None-clause-piece
unfolding scan
returns-in-None-clause-piece c = c.scan_token.ensures ∙ ap (λ o. scan_behind o c.args.text.now) c.in-None.ensures

pub returns-in-Some-clause-within : goal.returns-in-Some-clause-within
returns-in-Some-clause-within c =
    let is = returns-in-Some-clause-piece c in rw is (advances c.args.before c.args.text.now c.requires)

pub returns-in-None-clause-within : goal.returns-in-None-clause-within
returns-in-None-clause-within c =
    let is = returns-in-None-clause-piece c in rw is (advances c.args.before c.args.text.now c.requires)
