use Rattle.std.proofs.Common.{◌≡◌, true, false}
use Rattle.std.specs.Option.{option_map}
use Rattle.cert_rules.specs.Sheet.{is_head}
use Rattle.cert_state.specs.Views.{known_of}
use Rattle.cert_sweep.specs.Views.{sheet_of}
use Rattle.cert_sweep.proofs.Advancing.{by_head, by_step}
use Rattle.cert_sweep.proofs.sweeping.go_on.Goals as goal

pub returns-then-is_head : goal.returns-then-is_head
returns-then-is_head c =
    let is : is_head (sheet_of c.args.t.now) c.args.a ≡ true = cc in
    by_head (sheet_of c.args.t.now) c.args.a (option_map known_of c.args.incoming) c.in_ok-passed.passed c.requires.inside is c.in_ok-passed.ensures

pub returns : goal.returns
returns c =
    let off : is_head (sheet_of c.args.t.now) c.args.a ≡ false = cc in
    by_step (sheet_of c.args.t.now) c.args.a (option_map known_of c.args.incoming) c.in_ok-passed-2.passed c.requires.inside off c.in_ok-passed-2.ensures
